-- What no exchange changes of a fabric: which nodes stand where, with which GUIDs and ports, and the cables; and so
-- every walk.
use Rattle.std.specs.Prelude.{ℕ, ◌≡◌, Bool, List, map}
use Rattle.fabric_parts.specs.declared.cable.PortRef.{PortRef}
use Rattle.smp_wire.specs.FabricState.{FabricState, is_switch, port_count}
use Rattle.smp_wire.specs.Good.{end_port_guids, node_guid}
use Rattle.smp_wire.specs.Walk.{walk}

pub record IsSameShape (old new : FabricState) : Type 0 where
  pub cables : new.cables ≡ old.cables
  pub cut : new.cut ≡ old.cut
  pub manager : new.manager ≡ old.manager
  pub switches : map is_switch new.nodes ≡ map is_switch old.nodes
  pub node_guids : map node_guid new.nodes ≡ map node_guid old.nodes
  pub end_port_guids : map end_port_guids new.nodes ≡ map end_port_guids old.nodes
  pub port_counts : map port_count new.nodes ≡ map port_count old.nodes
  pub walks : (starts : Bool) (here : PortRef) (numbers : List ℕ)
      → walk new.nodes new.cables starts here numbers ≡ walk old.nodes old.cables starts here numbers
