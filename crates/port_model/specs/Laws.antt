-- What holds of the agent of a port of a channel adapter.
use Rattle.std.specs.Prelude.{◌≡◌, ◌≢◌, ◌⊎◌, ◌<◌, List, ℕ, Ok, Err, IfOk, option_map}
use Rattle.mad_layout.specs.Bits.{put_field}
use Rattle.mad_layout.specs.declared.status.MadStatus.TheVariants.{InvalidField}
use Rattle.attr_tables.specs.Attribute.{IsAttribute}
use Rattle.attr_tables.specs.PortInfo.{port_info_bytes}
use Rattle.attr_tables.specs.declared.smp_attribute.SmpAttribute.{SmpAttribute}
use Rattle.attr_tables.specs.declared.smp_attribute.SmpAttribute.TheVariants.{PortInfo}
use Rattle.agent_rules.specs.declared.link.PortLink.{PortLink}
use Rattle.agent_rules.specs.Agent.{answer, shown_at}
use Rattle.agent_rules.specs.Laws.{IsSettled, IsUnseenPut, ReadsAlike}
use Rattle.port_model.specs.AdapterState.{AdapterState, at_power_up}
use Rattle.port_model.specs.Agent.{agent_after, agent_reply, get, set}
use Rattle.port_model.specs.Changes.{ChangesAtMost}
use Rattle.port_model.specs.Good.{IsGoodPort}

-- an SMP changes at most what it names
abbrev pub SmpsChangeWhatTheyName : Type 0
SmpsChangeWhatTheyName = (held : AdapterState) (smp : List ℕ) → ChangesAtMost held (agent_after held smp) smp

-- a port at power-up is good
abbrev pub NewPortsAreGood : Type 0
NewPortsAreGood =
    (node_guid num_ports number port_guid : ℕ) (description : List ℕ) (link : PortLink) → number < 256 → IsAttribute description
    → IsGoodPort (at_power_up node_guid num_ports number port_guid description link)

-- whatever SMP comes, a good port stays good
abbrev pub SmpsKeepGood : Type 0
SmpsKeepGood = (held : AdapterState) (smp : List ℕ) → IsGoodPort held → IsGoodPort (agent_after held smp)

-- what a good port gives fills an attribute
abbrev pub GoodPortsGiveAttributes : Type 0
GoodPortsGiveAttributes =
    (held : AdapterState) (attribute : SmpAttribute) (modifier : ℕ) (bytes : List ℕ) → IsGoodPort held
    → get held attribute modifier ≡ Ok bytes → IsAttribute bytes

-- what sets nothing changes nothing, and what is set is there
abbrev pub SmpsSettle : Type 0
SmpsSettle = IsSettled get set

-- the answer depends on nothing of an SMP but what it asks
abbrev pub SmpsAreReadAlike : Type 0
SmpsAreReadAlike = ReadsAlike get set

-- what is put into a field that the agent does not see, as the path, comes back in its reply, if there is
-- one; what answers the SMP fills an attribute, as `agent` says of whatever it answers
abbrev pub UnseenComesBack : Type 0
UnseenComesBack =
    (held : AdapterState) (smp : List ℕ) (off len value : ℕ) → IsUnseenPut smp off len value
    → IfOk (answer get set held smp) IsAttribute
    → agent_reply held (put_field smp off len value) ≡ option_map (λ reply. put_field reply off len value) (agent_reply held smp)

-- of PortInfo it gives its own, asked for by 0 or by its own number (14.2.5.6); by any other number, and be it that of another
-- port of its adapter, nothing is given and nothing set
pub record AnswersForItself (held : AdapterState) (modifier : ℕ) : Type 0 where
  pub own : (modifier ≡ 0) ⊎ (modifier ≡ held.number) → get held PortInfo modifier ≡ Ok (port_info_bytes (shown_at held.number held.info))
  pub gives : modifier ≢ 0 → modifier ≢ held.number → get held PortInfo modifier ≡ Err InvalidField
  pub sets : modifier ≢ 0 → modifier ≢ held.number → (wanted : List ℕ) → set held PortInfo modifier wanted ≡ Err InvalidField

abbrev pub PortsAnswerForThemselves : Type 0
PortsAnswerForThemselves = (held : AdapterState) (modifier : ℕ) → AnswersForItself held modifier
