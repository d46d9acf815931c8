-- What `tables` prints has the row of each entry, and of each MLID of which a bit is set.
use Rattle.std.proofs.Common.{◌≡◌, ◌≤◌, ◌<◌, ◌+◌, ◌==◌, arith, refl, sym, subst, ℕ, true, false, List, [], length, slice_get, Option, Some}
use Rattle.std.specs.List.{Contains, range_with_len}
use Rattle.std.specs.Option.{option_map_or}
use Rattle.std.specs.Str.Iter.{HasSubslice}
use Rattle.std.proofs.lemmas.Bool.{le-leb, ne_eqb}
use Rattle.agent_rules.specs.declared.power_up.TheConstants.{MULTICAST_TABLE}
use Rattle.audit_plan.proofs.SubsliceLemmas.{stands_behind, stands_itself, stands_longer}
use Rattle.fabric_parts.specs.declared.lid.TheConstants.{FIRST_MULTICAST_LID}
use Rattle.fabric_tables.specs.Multicast.{columns, is_used, mlid_line, multicast_tables, tables_text, used}
use Rattle.fabric_tables.specs.Multicast.{port_table as multicast_table, table_of as multicast_table_of, table_text as multicast_text}
use Rattle.fabric_tables.specs.Nodes.{node_of}
use Rattle.fabric_tables.specs.Tables.{entry_line, line_towards, linear_tables, path_to, port_table, table_of, table_text}
use Rattle.joint_laws.proofs.StandingLemmas.{if_not, in_filter, in_range, stands_if_there}
use Rattle.joint_laws.specs.LineLaws.{AllTablesArePrinted}
use Rattle.smp_wire.specs.FabricState.{FabricState}
use Rattle.smp_wire.specs.declared.node.Node.{Node}
use Rattle.smp_wire.specs.declared.node.Node.TheVariants.{Switch}
use Rattle.subnet_model.specs.declared.subnet_port.SubnetPort.{SubnetPort}
use Rattle.sweep.proofs.LayoutLemmas.{any_there}
use Rattle.sweep.specs.declared.graph.GraphSwitch.{GraphSwitch}
use Rattle.switch_model.specs.Forwarding.{linear_entry_of}
use Rattle.switch_model.specs.Multicast.{is_in_masks}
use Rattle.switch_model.specs.SwitchState.{SwitchState, num_ports}
use Rattle.topo_file.specs.Node.{place_of}
use Rattle.topo_file.specs.declared.node.Node.{Node as PlannedNode}

-- ---- of one switch
-- an entry that is a port of the switch
row_towards : (held : SwitchState) (port : SubnetPort) (entry : ℕ) → linear_entry_of held port.lid ≡ Some entry → entry ≤ num_ports held
    → line_towards held port ≡ entry_line port entry
row_towards held port entry leads within = rw (leads, le-leb entry (num_ports held) within) refl

in_columns : (held : SwitchState) (number : ℕ) → number ≤ num_ports held → Contains (columns held) number
unfolding columns
in_columns held number within = in_range 0 (num_ports held + 1) number (omega arith) (omega (arith, within))

in_used : (held : SwitchState) (mlid number : ℕ) → FIRST_MULTICAST_LID ≤ mlid → mlid < FIRST_MULTICAST_LID + MULTICAST_TABLE → number ≤ num_ports held
    → is_in_masks held.masks mlid number ≡ true → Contains (used held) mlid
unfolding used
in_used held mlid number from to within set =
    in_filter (is_used held) (range_with_len FIRST_MULTICAST_LID MULTICAST_TABLE) mlid (in_range FIRST_MULTICAST_LID MULTICAST_TABLE mlid from to)
    (any_there (is_in_masks held.masks mlid) (columns held) number (in_columns held number within) set)

some_used : (held : SwitchState) (mlid : ℕ) → Contains (used held) mlid → (length (used held) == 0) ≡ false
some_used held mlid there = let less = there.1 in ne_eqb (length (used held)) 0 (λ none. omega (arith, less, none))

row_of_mlid : (path : List ℕ) (switch : SubnetPort) (held : SwitchState) (mlid : ℕ) → Contains (used held) mlid
    → HasSubslice (multicast_text path switch held) (mlid_line held mlid)
row_of_mlid path switch held mlid there =
    let line = mlid_line held mlid in
    if_not (length (used held) == 0) [] _ line (some_used held mlid there)
    (stands_longer line _ (stands_behind line _ (stands_if_there (mlid_line held) line (used held) mlid there (stands_itself line))))

-- ---- of all
module _ (nodes : List PlannedNode) (ports : List SubnetPort) (switches : List GraphSwitch) (fabric : FabricState) (switch : SubnetPort) (place : ℕ)
    (held : SwitchState) (there : Contains ports switch) (at : place_of switch.node_name nodes ≡ Some place)
    (stands : slice_get fabric.nodes place ≡ Some (Switch held)) where
  found : node_of nodes fabric switch ≡ Some (place, Switch held)
  found = rw (at, stands) refl

  entry_printed : (port : SubnetPort) (entry : ℕ) → Contains ports port → linear_entry_of held port.lid ≡ Some entry → entry ≤ num_ports held
      → HasSubslice (tables_text nodes ports switches fabric) (entry_line port entry)
  entry_printed port entry listed leads within =
      let line = entry_line port entry in
      let own : HasSubslice (line_towards held port) line = subst (λ (t : List ℕ). HasSubslice t line) (sym (row_towards held port entry leads within)) (stands_itself line) in
      let table : HasSubslice (table_text switches ports switch held) line =
      stands_longer line _ (stands_behind line _ (stands_if_there (line_towards held) line ports port listed own)) in
      stands_longer line (multicast_tables nodes ports switches fabric)
      (stands_if_there (port_table nodes fabric switches ports) line ports switch there
      (subst (λ (o : Option (ℕ × Node)). HasSubslice (option_map_or (λ (one : ℕ × Node). table_of switches ports switch one.1) o []) line) (sym found) table))

  mask_printed : (mlid number : ℕ) → FIRST_MULTICAST_LID ≤ mlid → mlid < FIRST_MULTICAST_LID + MULTICAST_TABLE → number ≤ num_ports held
      → is_in_masks held.masks mlid number ≡ true → HasSubslice (tables_text nodes ports switches fabric) (mlid_line held mlid)
  mask_printed mlid number from to within set =
      let line = mlid_line held mlid in
      let table = row_of_mlid (path_to switches switch.guid) switch held mlid (in_used held mlid number from to within set) in
      stands_behind line (linear_tables nodes ports switches fabric)
      (stands_if_there (multicast_table nodes fabric switches) line ports switch there
      (subst (λ (o : Option (ℕ × Node)). HasSubslice (option_map_or (λ (one : ℕ × Node). multicast_table_of switches switch one.1) o []) line) (sym found) table))

pub all_tables_are_printed : AllTablesArePrinted
all_tables_are_printed = record {
  entries = λ nodes ports switches fabric switch place held port entry there at stands listed leads within.
      entry_printed nodes ports switches fabric switch place held there at stands port entry listed leads within;
  masks = λ nodes ports switches fabric switch place held mlid number there at stands from to within set.
      mask_printed nodes ports switches fabric switch place held there at stands mlid number from to within set;
}
