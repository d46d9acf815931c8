-- How a switch answers SMPs (IBA volume 1, chapter 14): it has every attribute, and all can be set
-- but NodeInfo and NodeDescription. The rest is what all agents share.
use Rattle.std.specs.Prelude.{ℕ, ◌/◌, ◌%◌, ◌^◌, ◌==◌, Bool, ◌&&◌, nat_lt, if◌then◌else◌, List, slice_get, slice_set, length, Option, Result, Ok, Err}
use Rattle.std.specs.Option.{ok_or}
use Rattle.mad_layout.specs.declared.status.MadStatus.{MadStatus}
use Rattle.mad_layout.specs.declared.status.MadStatus.TheVariants.{AttributeNotSupported, InvalidField}
use Rattle.fabric_parts.specs.declared.node_type.NodeType.TheVariants.{Switch}
use Rattle.attr_tables.specs.declared.smp_attribute.SmpAttribute.{SmpAttribute}
use Rattle.attr_tables.specs.declared.smp_attribute.SmpAttribute.TheVariants.{NodeDescription, NodeInfo, SwitchInfo, PortInfo, PKeyTable}
use Rattle.attr_tables.specs.declared.smp_attribute.SmpAttribute.TheVariants.{LinearForwardingTable, MulticastForwardingTable}
use Rattle.step_results.specs.Steps.{◌>>=◌}
use Rattle.agent_rules.specs.Agent.{after, reply_of, shown_at, whole, word_block, set_word_block}
use Rattle.attr_tables.specs.Blocks.{block_of, has_block, with_block}
use Rattle.attr_tables.specs.NodeInfo.{node_info_bytes}
use Rattle.attr_tables.specs.PortInfo.{port_info_bytes}
use Rattle.agent_rules.specs.PortSetting.{port_setting, port_info_after}
use Rattle.agent_rules.specs.PowerUp.{node_info_of}
use Rattle.agent_rules.specs.Carried.{linear_fdb_top_in, ports_in}
use Rattle.attr_tables.specs.SwitchInfo.{switch_info_bytes}
use Rattle.attr_tables.specs.declared.switch_info.SwitchInfo.{SwitchInfo as Info}
use Rattle.switch_model.specs.declared.switch_port.SwitchPort.{SwitchPort}
use Rattle.switch_model.specs.SwitchState.{SwitchState, num_ports}

-- the part of that number, if there is one: a port, or a position of the multicast forwarding table
abbrev pub part_at : {X : Type 0} → ℕ → List X → Result X MadStatus
part_at number parts = ok_or (slice_get parts number) InvalidField

-- the modifier of a P_Key table: the port in its high half, the block in its low half
abbrev pub key_port : ℕ → ℕ
key_port modifier = modifier / 2 ^ 16

abbrev pub key_block : ℕ → ℕ
key_block modifier = modifier % 2 ^ 16

-- the modifier of a multicast forwarding table: the position in its first 4 bits, the block in its last 9
abbrev pub mask_position : ℕ → ℕ
mask_position modifier = modifier / 2 ^ 28

abbrev pub mask_block : ℕ → ℕ
mask_block modifier = modifier % 2 ^ 9

-- the bits between the two are 0
abbrev pub is_mask_modifier : ℕ → Bool
is_mask_modifier modifier = modifier / 2 ^ 9 % 2 ^ 19 == 0

-- the masks of the position that it names
abbrev pub masks_at : ℕ → List (List ℕ) → Result (List ℕ) MadStatus
masks_at modifier masks =
    if is_mask_modifier modifier then part_at (mask_position modifier) masks else Err InvalidField

-- ---- what is given for a Get that came in at this port
abbrev pub get_port_info : ℕ → ℕ → List SwitchPort → Result (List ℕ) MadStatus
get_port_info in_port number ports = do
  port ← part_at number ports
  Ok (port_info_bytes (shown_at in_port port.info))

abbrev pub get_keys : ℕ → List SwitchPort → Result (List ℕ) MadStatus
get_keys modifier ports = do
  port ← part_at (key_port modifier) ports
  word_block (key_block modifier) port.keys

abbrev pub get_linear : ℕ → List ℕ → Result (List ℕ) MadStatus
get_linear block linear = if has_block 64 block linear then Ok (block_of 64 block linear) else Err InvalidField

abbrev pub get_masks : ℕ → List (List ℕ) → Result (List ℕ) MadStatus
get_masks modifier masks = do
  words ← masks_at modifier masks
  word_block (mask_block modifier) words

unfoldable pub get : ℕ → SwitchState → SmpAttribute → ℕ → Result (List ℕ) MadStatus
get in_port held NodeDescription modifier = whole modifier held.description
get in_port held NodeInfo modifier =
    whole modifier (node_info_bytes (node_info_of Switch (num_ports held) held.node_guid held.node_guid in_port))
get in_port held SwitchInfo modifier = whole modifier (switch_info_bytes held.info)
get in_port held PortInfo modifier = get_port_info in_port modifier held.ports
get in_port held PKeyTable modifier = get_keys modifier held.ports
get in_port held LinearForwardingTable modifier = get_linear modifier held.linear
get in_port held MulticastForwardingTable modifier = get_masks modifier held.masks

-- ---- what is held after a Set of an attribute to these 64 bytes
-- only ports from 1 on can enforce partitions
abbrev pub set_port_info : ℕ → List ℕ → List SwitchPort → Result (List SwitchPort) MadStatus
set_port_info number wanted ports = do
  port ← part_at number ports
  info ← port_info_after (nat_lt 0 number) port.info (port_setting wanted)
  Ok (slice_set ports number (record port { info = info }))

abbrev pub set_keys : ℕ → List ℕ → List SwitchPort → Result (List SwitchPort) MadStatus
set_keys modifier wanted ports = do
  port ← part_at (key_port modifier) ports
  keys ← set_word_block (key_block modifier) wanted port.keys
  Ok (slice_set ports (key_port modifier) (record port { keys = keys }))

-- LinearFDBTop, which is one of the LIDs that the table has
abbrev pub set_linear_top : ℕ → List ℕ → ℕ → Info → Result Info MadStatus
set_linear_top modifier wanted lids info =
    if (modifier == 0) && nat_lt (linear_fdb_top_in wanted) lids
    then Ok (record info { linear_fdb_top = linear_fdb_top_in wanted })
    else Err InvalidField

abbrev pub set_linear : ℕ → List ℕ → List ℕ → Result (List ℕ) MadStatus
set_linear block wanted linear =
    if has_block 64 block linear then Ok (with_block 64 block (ports_in wanted) linear) else Err InvalidField

abbrev pub set_masks : ℕ → List ℕ → List (List ℕ) → Result (List (List ℕ)) MadStatus
set_masks modifier wanted masks = do
  words ← masks_at modifier masks
  next ← set_word_block (mask_block modifier) wanted words
  Ok (slice_set masks (mask_position modifier) next)

unfoldable pub set : SwitchState → SmpAttribute → ℕ → List ℕ → Result SwitchState MadStatus
set held SwitchInfo modifier wanted =
    set_linear_top modifier wanted (length held.linear) held.info >>= λ info. Ok (record held { info = info })
set held PortInfo modifier wanted = set_port_info modifier wanted held.ports >>= λ ports. Ok (record held { ports = ports })
set held PKeyTable modifier wanted = set_keys modifier wanted held.ports >>= λ ports. Ok (record held { ports = ports })
set held LinearForwardingTable modifier wanted =
    set_linear modifier wanted held.linear >>= λ linear. Ok (record held { linear = linear })
set held MulticastForwardingTable modifier wanted =
    set_masks modifier wanted held.masks >>= λ masks. Ok (record held { masks = masks })
set held NodeDescription modifier wanted = Err AttributeNotSupported
set held NodeInfo modifier wanted = Err AttributeNotSupported

-- the reply to an SMP that came in at this port, if it is a request
unfoldable pub agent_reply : SwitchState → ℕ → List ℕ → Option (List ℕ)
agent_reply held in_port smp = reply_of (get in_port) set held smp

-- what the switch holds after an SMP, by whatever port it came in
unfoldable pub agent_after : SwitchState → List ℕ → SwitchState
agent_after held smp = after set held smp
