-- The fabric that a subnet's list of ports stands for.
use Rattle.std.specs.Prelude.{ℕ, ◌≡◌, Bool, true, false, List}
use Rattle.std.specs.List.{All, Contains}
use Rattle.std.specs.List.Sorted.{IsStrictlySortedBy}
use Rattle.std.specs.Ordering.{nat_cmp, on}
use Rattle.fabric_parts.specs.Lid.{is_multicast}
use Rattle.fabric_parts.specs.NodeType.{is_switch_type}
use Rattle.fabric_parts.specs.declared.cable.PortRef.{PortRef}
use Rattle.smp_wire.specs.Forwards.{ForwardsByLid, IsCabledPort}
use Rattle.smp_wire.specs.Groups.{ForwardsByMlid}
use Rattle.smp_wire.specs.Deliveries.{IsOwn}
use Rattle.pkey_rules.specs.StoredKeys.{stored_keys}
use Rattle.port_model.specs.AdapterState.{AdapterState}
use Rattle.port_model.specs.Packets.{is_active}
use Rattle.smp_wire.specs.FabricState.{FabricState}
use Rattle.subnet_model.specs.declared.subnet_port.SubnetPort.{SubnetPort}

-- a listed port is this port of a channel adapter, which is set up as it is listed
pub record IsSetUpAsListed (fabric : FabricState) (port : SubnetPort) (at : PortRef) (one : AdapterState) : Type 0 where
  pub adapter : is_switch_type port.node_type ≡ false
  pub cabled : IsCabledPort fabric at one
  pub active : is_active one.info ≡ true
  pub guid : one.port_guid ≡ port.guid
  pub lid : one.info.lid ≡ port.lid
  pub keys : stored_keys one.keys ≡ port.keys

-- some port of the fabric is set up so
pub record IsThere (fabric : FabricState) (port : SubnetPort) : Type 0 where
  pub at : PortRef
  pub one : AdapterState
  pub is : IsSetUpAsListed fabric port at one

-- some listed port is this one
pub record IsListed (ports : List SubnetPort) (fabric : FabricState) (at : PortRef) (one : AdapterState) : Type 0 where
  pub port : SubnetPort
  pub among : Contains ports port
  pub is : IsSetUpAsListed fabric port at one

-- no port receives what is sent to groups
abbrev pub nobody : ℕ → ℕ → Bool
nobody mlid guid = false

-- its ports of channel adapters are those that are listed; it forwards by LID, and what is sent to a multicast LID goes to
-- the ports that receive it there, by their GUIDs
pub record IsFabricOf (ports : List SubnetPort) (receives : ℕ → ℕ → Bool) (fabric : FabricState) : Type 0 where
  pub forwards : ForwardsByLid fabric
  pub spreads : ForwardsByMlid fabric receives
  pub groups : (mlid guid : ℕ) → receives mlid guid ≡ true → is_multicast mlid ≡ true
  pub own_guids : (guid : ℕ) → IsOwn fabric.nodes guid
  -- the list is in order of LID, and none is a multicast LID
  pub order : IsStrictlySortedBy (on (λ port. port.lid) nat_cmp) ports
  pub unicast : All (λ port. is_multicast port.lid ≡ false) ports
  pub there : All (λ port. is_switch_type port.node_type ≡ false → IsThere fabric port) ports
  pub listed : (at : PortRef) (one : AdapterState) → IsCabledPort fabric at one → IsListed ports fabric at one
