-- What an SMP changes of a switch: at most what it names.
use Rattle.std.specs.Prelude.{ℕ, ◌≡◌, ◌≢◌, ◌⊎◌, nat_lt, List, [], length, get_or, Ok}
use Rattle.attr_tables.specs.declared.smp_attribute.SmpAttribute.TheVariants.{SwitchInfo, PortInfo, PKeyTable, LinearForwardingTable, MulticastForwardingTable}
use Rattle.attr_tables.specs.declared.switch_info.SwitchInfo.{SwitchInfo as Info}
use Rattle.agent_rules.specs.Laws.{DiffersInBlock, unsettable}
use Rattle.agent_rules.specs.PortSetting.{is_down}
use Rattle.agent_rules.specs.Request.{attribute_asked, modifier_of}
use Rattle.switch_model.specs.declared.switch_port.SwitchPort.{SwitchPort}
use Rattle.switch_model.specs.Agent.{key_block, key_port, mask_block, mask_position}
use Rattle.switch_model.specs.SwitchState.{SwitchState}

-- the port of that number before and after
pub record PortChangesAtMost (smp : List ℕ) (number : ℕ) (old new : SwitchPort) : Type 0 where
  -- PortInfo only if it asks for this port's, and never a field that cannot be set
  pub info : (attribute_asked smp ≢ Ok PortInfo) ⊎ (number ≢ modifier_of smp) → new.info ≡ old.info
  pub unsettable : unsettable (nat_lt 0 number) new.info ≡ unsettable (nat_lt 0 number) old.info
  -- a port is Down if it was Down
  pub down : is_down new.info ≡ is_down old.info
  -- the P_Key table only if it asks for this port's, and then in the block that it names
  pub keys : (attribute_asked smp ≢ Ok PKeyTable) ⊎ (number ≢ key_port (modifier_of smp)) → new.keys ≡ old.keys
  pub key_block : DiffersInBlock 32 (key_block (modifier_of smp)) old.keys new.keys

-- the masks of that position before and after
pub record MasksChangeAtMost (smp : List ℕ) (position : ℕ) (old new : List ℕ) : Type 0 where
  pub masks : (attribute_asked smp ≢ Ok MulticastForwardingTable) ⊎ (position ≢ mask_position (modifier_of smp)) → new ≡ old
  pub block : DiffersInBlock 32 (mask_block (modifier_of smp)) old new

-- SwitchInfo without what a Set of it may change
abbrev pub without_top : Info → Info
without_top info = record info { linear_fdb_top = 0 }

pub record ChangesAtMost (held next : SwitchState) (smp : List ℕ) : Type 0 where
  -- never what the switch is
  pub node_guid : next.node_guid ≡ held.node_guid
  pub description : next.description ≡ held.description
  pub num_ports : length next.ports ≡ length held.ports
  -- SwitchInfo only if it asks for SwitchInfo, and then LinearFDBTop alone
  pub info : attribute_asked smp ≢ Ok SwitchInfo → next.info ≡ held.info
  pub top : without_top next.info ≡ without_top held.info
  pub ports : (number : ℕ) (none : SwitchPort)
      → PortChangesAtMost smp number (get_or held.ports number none) (get_or next.ports number none)
  -- the linear forwarding table only if it asks for that, and then in the block that it names
  pub linear : attribute_asked smp ≢ Ok LinearForwardingTable → next.linear ≡ held.linear
  pub linear_block : DiffersInBlock 64 (modifier_of smp) held.linear next.linear
  pub positions : length next.masks ≡ length held.masks
  pub masks : (position : ℕ) → MasksChangeAtMost smp position (get_or held.masks position []) (get_or next.masks position [])
