-- What holds of the agent of a switch, and of its ports at power-up.
use Rattle.std.specs.Prelude.{ℕ, ◌≡◌, ◌≢◌, ◌↔◌, ◌<◌, Bool, true, false, not, List, ◌∷◌, length, slice_get, option_map, Some, Ok, IfOk}
use Rattle.mad_layout.specs.Bits.{put_field}
use Rattle.attr_tables.specs.Attribute.{IsAttribute}
use Rattle.attr_tables.specs.declared.smp_attribute.SmpAttribute.{SmpAttribute}
use Rattle.agent_rules.specs.declared.link.PortLink.{PortLink}
use Rattle.agent_rules.specs.declared.link.PortLink.TheVariants.{Internal}
use Rattle.agent_rules.specs.Agent.{answer}
use Rattle.agent_rules.specs.PortSetting.{is_down}
use Rattle.agent_rules.specs.Laws.{IsSettled, IsUnseenPut, ReadsAlike}
use Rattle.data_packet.specs.declared.packet.Packet.{Packet}
use Rattle.fabric_parts.specs.Lid.{is_multicast}
use Rattle.switch_model.specs.Agent.{agent_after, agent_reply, get, set}
use Rattle.switch_model.specs.Changes.{ChangesAtMost}
use Rattle.switch_model.specs.Fate.{fate, way_out}
use Rattle.switch_model.specs.Forwarding.{IsSentOut, out_port}
use Rattle.switch_model.specs.Good.{IsGoodSwitch}
use Rattle.switch_model.specs.Links.{linked, port_linked, with_link}
use Rattle.switch_model.specs.Multicast.{IsCopiedOut}
use Rattle.switch_model.specs.Sending.{sends_out}
use Rattle.switch_model.specs.SwitchState.{SwitchState, at_power_up, port_at_power_up, ports_from}
use Rattle.switch_model.specs.declared.switch_port.SwitchPort.{SwitchPort}

-- an SMP changes at most what it names
abbrev pub SmpsChangeWhatTheyName : Type 0
SmpsChangeWhatTheyName = (held : SwitchState) (smp : List ℕ) → ChangesAtMost held (agent_after held smp) smp

-- a switch at power-up is good, with no more links than a port number can name
abbrev pub NewSwitchesAreGood : Type 0
NewSwitchesAreGood =
    (node_guid : ℕ) (description : List ℕ) (links : List PortLink) (lids multicast_lids : ℕ) → IsAttribute description
    → length links < 255 → lids < 65536 → multicast_lids < 65536
    → IsGoodSwitch lids multicast_lids (at_power_up node_guid description links lids multicast_lids)

-- whatever SMP comes, a good switch stays good
abbrev pub SmpsKeepGood : Type 0
SmpsKeepGood =
    (lids multicast_lids : ℕ) (held : SwitchState) (smp : List ℕ) → IsGoodSwitch lids multicast_lids held
    → IsGoodSwitch lids multicast_lids (agent_after held smp)

-- and whatever cables go and come
abbrev pub LinksKeepGood : Type 0
LinksKeepGood =
    (lids multicast_lids number : ℕ) (up : Bool) (held : SwitchState) → IsGoodSwitch lids multicast_lids held
    → IsGoodSwitch lids multicast_lids (with_link number up held)

-- the port there shows its link then, Down if no cable is, and the other ports are what they were
pub record ShowsLink (number : ℕ) (up : Bool) (held : SwitchState) (port : SwitchPort) : Type 0 where
  pub there : slice_get (with_link number up held).ports number ≡ Some (port_linked up port)
  pub down : is_down (linked up port.info) ≡ not up
  pub others : (other : ℕ) → other ≢ number → slice_get (with_link number up held).ports other ≡ slice_get held.ports other

abbrev pub LinksShow : Type 0
LinksShow =
    (number : ℕ) (up : Bool) (held : SwitchState) (port : SwitchPort) → slice_get held.ports number ≡ Some port
    → ShowsLink number up held port

-- what a good switch gives fills an attribute
abbrev pub GoodSwitchesGiveAttributes : Type 0
GoodSwitchesGiveAttributes =
    (lids multicast_lids in_port : ℕ) (held : SwitchState) (attribute : SmpAttribute) (modifier : ℕ) (bytes : List ℕ)
    → IsGoodSwitch lids multicast_lids held → get in_port held attribute modifier ≡ Ok bytes → IsAttribute bytes

-- what sets nothing changes nothing, and what is set is there, as it is shown at the same port
abbrev pub SmpsSettle : Type 0
SmpsSettle = (in_port : ℕ) → IsSettled (get in_port) set

-- the answer depends on nothing of an SMP but what it asks, and the port by which it came
abbrev pub SmpsAreReadAlike : Type 0
SmpsAreReadAlike = (in_port : ℕ) → ReadsAlike (get in_port) set

-- what is put into a field that the agent does not see, as the path, comes back in its reply, if there is
-- one; what answers the SMP fills an attribute, as `agent` says of whatever it answers
abbrev pub UnseenComesBack : Type 0
UnseenComesBack =
    (held : SwitchState) (in_port : ℕ) (smp : List ℕ) (off len value : ℕ) → IsUnseenPut smp off len value
    → IfOk (answer (get in_port) set held smp) IsAttribute
    → agent_reply held in_port (put_field smp off len value) ≡ option_map (λ reply. put_field reply off len value)
    (agent_reply held in_port smp)

-- each port of a new switch has what its link gives it, port 0 that of the inside
abbrev pub PortsHaveTheirLinks : Type 0
PortsHaveTheirLinks =
    (links : List PortLink) (number : ℕ)
    → slice_get (ports_from 0 (Internal ∷ links)) number ≡ option_map (port_at_power_up number) (slice_get (Internal ∷ links) number)

-- a unicast packet leaves by the entry of its LID, wherever it came in and whatever the states of ports, unless the
-- enforcement of one of the two ports is against it
abbrev pub UnicastGoesByEntries : Type 0
UnicastGoesByEntries =
    (held : SwitchState) (in_port : ℕ) (packet : Packet) (out : ℕ) → is_multicast packet.dlid ≡ false
    → (sends_out held in_port packet out ≡ true) ↔ IsSentOut held in_port packet out

-- a packet to a group leaves by each port whose bit is set in the masks of its LID, except the one where it came in, unless
-- the enforcement of one of the two ports is against it
abbrev pub MulticastGoesByMasks : Type 0
MulticastGoesByMasks =
    (held : SwitchState) (in_port : ℕ) (packet : Packet) (out : ℕ) → is_multicast packet.dlid ≡ true
    → (sends_out held in_port packet out ≡ true) ↔ IsCopiedOut held in_port packet out

-- a packet leaves by the port that its fate reports, and else not
abbrev pub FatesReportWaysOut : Type 0
FatesReportWaysOut =
    (held : SwitchState) (in_port : ℕ) (packet : Packet) → out_port held in_port packet ≡ way_out (fate held in_port packet)
