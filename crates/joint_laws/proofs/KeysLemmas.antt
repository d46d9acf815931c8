-- What `keys` prints has the line of each end port, and of each port that faces an adapter.
use Rattle.std.proofs.Common.{◌≡◌, ◌≤◌, arith, sym, subst, ℕ, true, List, [], Option, Some, refl, false, slice_get}
use Rattle.std.specs.List.{Contains, range_with_len}
use Rattle.std.specs.Option.{option_map_or}
use Rattle.std.specs.Str.Iter.{HasSubslice}
use Rattle.audit_plan.proofs.SubsliceLemmas.{stands_behind, stands_itself, stands_longer}
use Rattle.fabric_parts.specs.Cable.{far_end}
use Rattle.fabric_parts.specs.declared.cable.PortRef.{PortRef}
use Rattle.fabric_tables.specs.Keys.{faces_adapter, facing_line, keys_line, keys_text, lines_of, port_lines, words_in}
use Rattle.fabric_tables.specs.Nodes.{node_of}
use Rattle.joint_laws.proofs.StandingLemmas.{if_so, in_range, stands_if_there}
use Rattle.joint_laws.specs.LineLaws.{AllKeysArePrinted}
use Rattle.smp_wire.specs.FabricState.{FabricState, is_switch_at}
use Rattle.smp_wire.specs.declared.node.Node.{Node}
use Rattle.smp_wire.specs.declared.node.Node.TheVariants.{Switch}
use Rattle.subnet_model.specs.declared.subnet_port.SubnetPort.{SubnetPort}
use Rattle.switch_model.specs.SwitchState.{SwitchState, num_ports}
use Rattle.topo_file.specs.Node.{place_of}
use Rattle.topo_file.specs.declared.node.Node.{Node as PlannedNode}

module _ (nodes : List PlannedNode) (ports : List SubnetPort) (fabric : FabricState) (port : SubnetPort) (place : ℕ) where
  of_port : (node : Node) (line : List ℕ) → Contains ports port → node_of nodes fabric port ≡ Some (place, node)
      → HasSubslice (lines_of fabric port place node) line → HasSubslice (keys_text nodes ports fabric) line
  of_port node line there found stands =
      stands_if_there (port_lines nodes fabric) line ports port there
      (subst (λ (o : Option (ℕ × Node)). HasSubslice (option_map_or (λ (one : ℕ × Node). lines_of fabric port one.0 one.1) o []) line) (sym found) stands)

  own_printed : (node : Node) → Contains ports port → place_of port.node_name nodes ≡ Some place → slice_get fabric.nodes place ≡ Some node
      → HasSubslice (keys_text nodes ports fabric) (keys_line port.node_name port.number (words_in node port.number))
  own_printed node there at held =
      let line = keys_line port.node_name port.number (words_in node port.number) in
      of_port node line there (rw (at, held) refl) (stands_longer line _ (stands_itself line))

  facing_printed : (held : SwitchState) (number : ℕ) (end : PortRef) → Contains ports port → place_of port.node_name nodes ≡ Some place
      → slice_get fabric.nodes place ≡ Some (Switch held) → 1 ≤ number → number ≤ num_ports held
      → far_end fabric.cables (record { node = place; port = number }) ≡ Some end → is_switch_at fabric.nodes end.node ≡ false
      → HasSubslice (keys_text nodes ports fabric) (keys_line port.node_name number (words_in (Switch held) number))
  facing_printed held number end there at stands above below leads adapter =
      let line = keys_line port.node_name number (words_in (Switch held) number) in
      let faces : faces_adapter fabric (record { node = place; port = number }) ≡ true = rw (leads, adapter) refl in
      of_port (Switch held) line there (rw (at, stands) refl)
      (stands_behind line (keys_line port.node_name port.number (words_in (Switch held) port.number))
      (stands_if_there (facing_line fabric held port.node_name place) line (range_with_len 1 (num_ports held)) number
      (in_range 1 (num_ports held) number above (omega (arith, below)))
      (if_so (faces_adapter fabric (record { node = place; port = number })) line [] line faces (stands_itself line))))

pub all_keys_are_printed : AllKeysArePrinted
all_keys_are_printed = record {
  own = λ nodes ports fabric port place node there at held. own_printed nodes ports fabric port place node there at held;
  facing = λ nodes ports fabric port place held number end there at stands above below leads adapter.
      facing_printed nodes ports fabric port place held number end there at stands above below leads adapter;
}
