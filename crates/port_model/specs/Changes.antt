-- What an SMP changes of a port of a channel adapter: at most what it names.
use Rattle.std.specs.Prelude.{◌≡◌, ◌≢◌, false, List, ℕ, Ok}
use Rattle.attr_tables.specs.declared.smp_attribute.SmpAttribute.TheVariants.{PortInfo, PKeyTable}
use Rattle.agent_rules.specs.Laws.{DiffersInBlock, unsettable}
use Rattle.agent_rules.specs.PortSetting.{is_down}
use Rattle.agent_rules.specs.Request.{attribute_asked, modifier_of}
use Rattle.port_model.specs.AdapterState.{AdapterState}

pub record ChangesAtMost (held next : AdapterState) (smp : List ℕ) : Type 0 where
  -- never what the port is
  pub node_guid : next.node_guid ≡ held.node_guid
  pub num_ports : next.num_ports ≡ held.num_ports
  pub number : next.number ≡ held.number
  pub port_guid : next.port_guid ≡ held.port_guid
  pub description : next.description ≡ held.description
  -- PortInfo only if it asks for PortInfo, and never a field that cannot be set
  pub info : attribute_asked smp ≢ Ok PortInfo → next.info ≡ held.info
  pub unsettable : unsettable false next.info ≡ unsettable false held.info
  -- a port is Down if it was Down
  pub down : is_down next.info ≡ is_down held.info
  -- the P_Key table only if it asks for a P_Key table, and then in the block that it names
  pub keys : attribute_asked smp ≢ Ok PKeyTable → next.keys ≡ held.keys
  pub key_block : DiffersInBlock 32 (modifier_of smp) held.keys next.keys
