-- The dump of what the switches of a fabric hold agrees with itself.
use Rattle.std.proofs.Common.{ℕ, suc, ◌≡◌, ◌+◌, ◌==◌, ◌∙◌, ◌≤◌, ap, refl, sym, subst, Bool, true, false, if◌then◌else◌, nat_le, List, [], ◌∷◌, ◌++◌, flat_map, length, map, Option, Some, None, arith}
use Rattle.std.specs.List.{AllByRecursion, IsDistinct, list_all, list_any}
use Rattle.std.specs.Option.{option_map_or, option_or}
use Rattle.std.proofs.lemmas.Bool.{and_from, eq-eqb, or_parts}
use Rattle.std.proofs.lemmas.Bool.Decides.{nat_tests}
use Rattle.std.proofs.lemmas.List.{append_assoc}
use Rattle.std.proofs.lemmas.Map.Keys.{IsDistinct-tail}
use Rattle.std.proofs.lemmas.Option.{same_Some}
use Rattle.dump_file.specs.Destination.{guid_said}
use Rattle.dump_file.specs.Row.{end_of, said_of}
use Rattle.dump_file.specs.Sound.{has_its_end, is_end, is_rising, rise, shares_switch}
use Rattle.dump_file.specs.Table.{rows_of}
use Rattle.dump_file.specs.declared.row.Row.{Row}
use Rattle.step_results.proofs.DistinctLemmas.{none_shares}
use Rattle.smp_wire.specs.Good.{node_guid}
use Rattle.smp_wire.specs.declared.node.Node.{Node}
use Rattle.smp_wire.specs.declared.node.Node.TheVariants.{Switch, Adapter}
use Rattle.switch_model.specs.SwitchState.{SwitchState}
use Rattle.topo_file.specs.declared.node.Node.{Node as PlannedNode}
use Rattle.fabric_loads.proofs.EndLemmas.{all_ends}
use Rattle.fabric_loads.proofs.RowLemmas.{rising_from}
use Rattle.joint_laws.specs.RouteLaws.{ItIsSound}
use Rattle.joint_laws.specs.OwnTables.{table_for, tables_for}
use Rattle.joint_laws.proofs.DumpLemmas.{good_up}
use Rattle.joint_laws.proofs.ShownLemmas.{all_reported}

module _ (planned : List PlannedNode) (lids : List ℕ) where
  -- ---- LIDs rise
  all_rising : (nodes : List Node) → list_all is_rising (flat_map (tables_for planned lids) nodes) ≡ true
  all_rising [] = refl
  all_rising (Adapter ports ∷ nodes) = all_rising nodes
  all_rising (Switch held ∷ nodes) =
      and_from (is_rising (table_for planned lids held)) _ (rising_from planned held (length lids) lids 1 0 (omega arith) (omega arith)) (all_rising nodes)

  -- ---- no switch has two tables
  apart : (held : SwitchState) (nodes : List Node) → list_any (λ guid. held.node_guid == guid) (map node_guid nodes) ≡ false
      → AllByRecursion (λ other. shares_switch (table_for planned lids held) other ≡ false) (flat_map (tables_for planned lids) nodes)
  apart held [] none = tt
  apart held (Adapter ports ∷ nodes) none = apart held nodes (or_parts (held.node_guid == node_guid (Adapter ports)) _ none).1
  apart held (Switch other ∷ nodes) none =
      let parts = or_parts (held.node_guid == other.node_guid) _ none in (parts.0, apart held nodes parts.1)

  own_tables : (nodes : List Node) → IsDistinct (λ a b. a == b) (map node_guid nodes) → IsDistinct shares_switch (flat_map (tables_for planned lids) nodes)
  unfolding IsDistinct
  own_tables [] own = tt
  own_tables (Adapter ports ∷ nodes) own = own_tables nodes (IsDistinct-tail (λ a b. a == b) (node_guid (Adapter ports)) (map node_guid nodes) own)
  own_tables (Switch held ∷ nodes) own = (
    apart held nodes (none_shares (λ a b. a == b) held.node_guid (map node_guid nodes) own),
    own_tables nodes (IsDistinct-tail (λ a b. a == b) held.node_guid (map node_guid nodes) own),
  )

pub it_is_sound : ItIsSound
it_is_sound plan keys routes fabric sound up =
    let reported = all_reported plan.nodes routes.lids fabric.nodes in
    record {
      tables = record {
        own_switches = own_tables plan.nodes routes.lids fabric.nodes (good_up plan sound keys routes fabric up).node_guids.own;
        rising = all_rising plan.nodes routes.lids fabric.nodes;
      };
      one_end = all_ends plan.nodes routes.lids [] (rows_of (flat_map (tables_for plan.nodes routes.lids) fabric.nodes)) reported reported;
    }
