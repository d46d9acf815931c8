-- How a port of a channel adapter answers SMPs (IBA volume 1, chapter 14): which attributes it
-- has, and which of them can be set. The rest is what all agents share.
use Rattle.std.specs.Prelude.{ℕ, ◌==◌, Bool, false, ◌||◌, if◌then◌else◌, List, Option, Result, Ok, Err}
use Rattle.mad_layout.specs.declared.status.MadStatus.{MadStatus}
use Rattle.mad_layout.specs.declared.status.MadStatus.TheVariants.{AttributeNotSupported, InvalidField}
use Rattle.fabric_parts.specs.declared.node_type.NodeType.TheVariants.{ChannelAdapter}
use Rattle.attr_tables.specs.declared.smp_attribute.SmpAttribute.{SmpAttribute}
use Rattle.attr_tables.specs.declared.smp_attribute.SmpAttribute.TheVariants.{NodeDescription, NodeInfo, SwitchInfo, PortInfo, PKeyTable}
use Rattle.attr_tables.specs.declared.smp_attribute.SmpAttribute.TheVariants.{LinearForwardingTable, MulticastForwardingTable}
use Rattle.step_results.specs.Steps.{◌>>=◌}
use Rattle.agent_rules.specs.Agent.{after, reply_of, shown_at, whole, word_block, set_word_block}
use Rattle.attr_tables.specs.NodeInfo.{node_info_bytes}
use Rattle.attr_tables.specs.PortInfo.{port_info_bytes}
use Rattle.agent_rules.specs.PortSetting.{port_setting, port_info_after}
use Rattle.agent_rules.specs.PowerUp.{node_info_of}
use Rattle.port_model.specs.AdapterState.{AdapterState}

-- PortInfo's modifier names this port: 0, or its number
abbrev pub is_own : AdapterState → ℕ → Bool
is_own held modifier = (modifier == 0) || (modifier == held.number)

-- an attribute's 64 bytes
unfoldable pub get : AdapterState → SmpAttribute → ℕ → Result (List ℕ) MadStatus
get held NodeDescription modifier = whole modifier held.description
get held NodeInfo modifier =
    whole modifier (node_info_bytes (node_info_of ChannelAdapter held.num_ports held.node_guid held.port_guid held.number))
get held PortInfo modifier =
    if is_own held modifier then Ok (port_info_bytes (shown_at held.number held.info)) else Err InvalidField
get held PKeyTable modifier = word_block modifier held.keys
get held SwitchInfo modifier = Err AttributeNotSupported
get held LinearForwardingTable modifier = Err AttributeNotSupported
get held MulticastForwardingTable modifier = Err AttributeNotSupported

-- what the port holds after a Set of an attribute to these 64 bytes
abbrev pub set_port_info : AdapterState → List ℕ → Result AdapterState MadStatus
set_port_info held wanted = do
  info ← port_info_after false held.info (port_setting wanted)
  Ok (record held { info = info })

abbrev pub set_keys : AdapterState → ℕ → List ℕ → Result AdapterState MadStatus
set_keys held block wanted = do
  keys ← set_word_block block wanted held.keys
  Ok (record held { keys = keys })

unfoldable pub set : AdapterState → SmpAttribute → ℕ → List ℕ → Result AdapterState MadStatus
set held PortInfo modifier wanted = if is_own held modifier then set_port_info held wanted else Err InvalidField
set held PKeyTable modifier wanted = set_keys held modifier wanted
set held NodeDescription modifier wanted = Err AttributeNotSupported
set held NodeInfo modifier wanted = Err AttributeNotSupported
set held SwitchInfo modifier wanted = Err AttributeNotSupported
set held LinearForwardingTable modifier wanted = Err AttributeNotSupported
set held MulticastForwardingTable modifier wanted = Err AttributeNotSupported

-- the reply to an SMP, if it is a request
unfoldable pub agent_reply : AdapterState → List ℕ → Option (List ℕ)
agent_reply held smp = reply_of get set held smp

-- what the port holds after an SMP
unfoldable pub agent_after : AdapterState → List ℕ → AdapterState
agent_after held smp = after set held smp
