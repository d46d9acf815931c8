-- The dump of what the switches of a fabric hold agrees with itself.
use Rattle.std.proofs.Common.{ℕ, suc, ◌≡◌, ◌+◌, ◌==◌, ◌∙◌, ◌≤◌, ap, refl, sym, subst, inl, inr, true, false, nat_le, List, [], ◌∷◌, ◌++◌, flat_map, length, slice_get, Option, Some, None, arith}
use Rattle.std.specs.List.{AllByRecursion, IsDistinct, list_all, list_any, range_with_len}
use Rattle.std.specs.Option.{option_map_or}
use Rattle.std.proofs.lemmas.Bool.{and_from, cases_Bool, eqb-true, false≢true, le-leb, or_parts}
use Rattle.std.proofs.lemmas.Map.Keys.{IsDistinct-cons, IsDistinct-tail}
use Rattle.dump_file.specs.Sound.{IsSound, is_rising, shares_switch}
use Rattle.dump_file.specs.Table.{rows_of}
use Rattle.dump_file.specs.declared.table.Table.{Table}
use Rattle.smp_wire.specs.FabricState.{FabricState}
use Rattle.smp_wire.specs.declared.node.Node.{Node}
use Rattle.smp_wire.specs.declared.node.Node.TheVariants.{Switch, Adapter}
use Rattle.step_results.proofs.DistinctLemmas.{none_shares}
use Rattle.step_results.proofs.ElementLemmas.{each_joined}
use Rattle.step_results.proofs.ListLemmas.{list_any_weaker}
use Rattle.topo_file.specs.Node.{last_guid, shares_guid}
use Rattle.topo_file.specs.Topology.{TopologyState}
use Rattle.topo_file.specs.declared.node.Node.{Node as PlannedNode}
use Rattle.fabric_loads.specs.HeldRows.{table_by}
use Rattle.fabric_loads.specs.OwnDump.{own_dump, own_table, own_table_at}
use Rattle.fabric_loads.proofs.EndLemmas.{all_ends}
use Rattle.fabric_loads.proofs.RowLemmas.{IsReported, held_reported, rising_from}

-- ---- nodes of one GUID share it
at_least : (node : PlannedNode) → node.guid ≤ last_guid node
at_least node = omega arith

one_guid : (node other : PlannedNode) → (node.guid == other.guid) ≡ true → shares_guid node other ≡ true
one_guid node other same =
    let is = eqb-true node.guid other.guid same in
    let low = at_least other in
    let high = at_least node in
    and_from (nat_le node.guid (last_guid other)) _ (le-leb node.guid (last_guid other) (omega (arith, is, low))) (le-leb other.guid (last_guid node) (omega (arith, is, high)))

own_guid : (node : PlannedNode) (rest : List PlannedNode) → IsDistinct shares_guid (node ∷ rest) → list_any (λ other. node.guid == other.guid) rest ≡ false
own_guid node rest own = elim (cases_Bool (list_any (λ other. node.guid == other.guid) rest)) [
  | inr none ↦ none
  | inl some ↦
      absurd (false≢true (sym (none_shares shares_guid node rest own)
      ∙ list_any_weaker (λ other. node.guid == other.guid) (shares_guid node) (one_guid node) rest some))
]

module _ (nodes : List PlannedNode) (lids : List ℕ) (held : List Node) where
  abbrev tables_at : ℕ → List Table
  tables_at place = own_table_at nodes lids held place

  -- these are the nodes from that place on
  abbrev StandFrom : ℕ → List PlannedNode → Type 0
  StandFrom first some = (j : ℕ) → slice_get nodes (first + j) ≡ slice_get some j

  stand_on : (first : ℕ) (node : PlannedNode) (rest : List PlannedNode) → StandFrom first (node ∷ rest) → StandFrom (first + 1) rest
  stand_on first node rest stand j = let moved : first + 1 + j ≡ first + suc j = omega arith in ap (slice_get nodes) moved ∙ stand (suc j)

  first_is : (first : ℕ) (node : PlannedNode) (rest : List PlannedNode) → StandFrom first (node ∷ rest)
      → tables_at first ≡ option_map_or (own_table nodes lids node.guid) (slice_get held first) []
  first_is first node rest stand =
      let none_more : first ≡ first + 0 = omega arith in
      ap (λ (o : Option PlannedNode). option_map_or (λ one. option_map_or (own_table nodes lids one.guid) (slice_get held first) []) o [])
      (ap (slice_get nodes) none_more ∙ stand 0)

  -- ---- no switch has two tables
  apart : (table : Table) (some : List PlannedNode) (first : ℕ) → StandFrom first some → list_any (λ other. table.guid == other.guid) some ≡ false
      → AllByRecursion (λ other. shares_switch table other ≡ false) (flat_map tables_at (range_with_len first (length some)))
  apart table [] first stand none = tt
  apart table (node ∷ rest) first stand none =
      let parts = or_parts (table.guid == node.guid) _ none in
      each_joined (λ other. shares_switch table other ≡ false) (tables_at first) (flat_map tables_at (range_with_len (first + 1) (length rest)))
      (subst (AllByRecursion (λ other. shares_switch table other ≡ false)) (sym (first_is first node rest stand)) (by parts.0 (slice_get held first)))
      (apart table rest (first + 1) (stand_on first node rest stand) parts.1)
    where
      by : (table.guid == node.guid) ≡ false → (o : Option Node)
          → AllByRecursion (λ other. shares_switch table other ≡ false) (option_map_or (own_table nodes lids node.guid) o [])
      by other None = tt
      by other (Some (Switch one)) = (other, tt)
      by other (Some (Adapter ports)) = tt

  own_tables : (some : List PlannedNode) (first : ℕ) → StandFrom first some → IsDistinct shares_guid some
      → IsDistinct shares_switch (flat_map tables_at (range_with_len first (length some)))
  unfolding IsDistinct
  own_tables [] first stand own = tt
  own_tables (node ∷ rest) first stand own =
      let later = flat_map tables_at (range_with_len (first + 1) (length rest)) in
      subst (λ (tables : List Table). IsDistinct shares_switch (tables ++ later)) (sym (first_is first node rest stand))
      (by (slice_get held first) (own_tables rest (first + 1) (stand_on first node rest stand) (IsDistinct-tail shares_guid node rest own)))
    where
      by : (o : Option Node) → IsDistinct shares_switch (flat_map tables_at (range_with_len (first + 1) (length rest)))
          → IsDistinct shares_switch (option_map_or (own_table nodes lids node.guid) o [] ++ flat_map tables_at (range_with_len (first + 1) (length rest)))
      by None behind = behind
      by (Some (Adapter ports)) behind = behind
      by (Some (Switch one)) behind =
          IsDistinct-cons shares_switch (table_by nodes lids node.guid one) (flat_map tables_at (range_with_len (first + 1) (length rest)))
          (apart (table_by nodes lids node.guid one) rest (first + 1) (stand_on first node rest stand) (own_guid node rest own)) behind

  -- ---- what is so of each table
  of_node : (P : Table → Type 0) → ((guid : ℕ) (one : Node) → AllByRecursion P (own_table nodes lids guid one)) → (place : ℕ) → AllByRecursion P (tables_at place)
  of_node P each place = by (slice_get nodes place) (slice_get held place)
    where
      by : (o : Option PlannedNode) (h : Option Node) → AllByRecursion P (option_map_or (λ node. option_map_or (own_table nodes lids node.guid) h []) o [])
      by None h = tt
      by (Some node) None = tt
      by (Some node) (Some one) = each node.guid one

  each_table : (P : Table → Type 0) → ((guid : ℕ) (one : Node) → AllByRecursion P (own_table nodes lids guid one)) → (places : List ℕ)
      → AllByRecursion P (flat_map tables_at places)
  each_table P each [] = tt
  each_table P each (place ∷ places) =
      each_joined P (tables_at place) (flat_map tables_at places) (of_node P each place) (each_table P each places)

  rises : (guid : ℕ) (one : Node) → AllByRecursion (λ table. is_rising table ≡ true) (own_table nodes lids guid one)
  rises guid (Switch one) = (rising_from nodes one (length lids) lids 1 0 (omega arith) (omega arith), tt)
  rises guid (Adapter ports) = tt

  reported : (guid : ℕ) (one : Node) → AllByRecursion (λ table. AllByRecursion (IsReported lids) table.rows) (own_table nodes lids guid one)
  reported guid (Switch one) = (held_reported nodes lids one, tt)
  reported guid (Adapter ports) = tt

all_rise : (tables : List Table) → AllByRecursion (λ table. is_rising table ≡ true) tables → list_all is_rising tables ≡ true
all_rise [] each = refl
all_rise (table ∷ tables) each = and_from (is_rising table) _ each.0 (all_rise tables each.1)

all_rows : (lids : List ℕ) (tables : List Table) → AllByRecursion (λ table. AllByRecursion (IsReported lids) table.rows) tables
    → AllByRecursion (IsReported lids) (rows_of tables)
all_rows lids [] each = tt
all_rows lids (table ∷ tables) each = each_joined (IsReported lids) table.rows (rows_of tables) each.0 (all_rows lids tables each.1)

pub own_dump_is_sound : (plan : TopologyState) (lids : List ℕ) (fabric : FabricState) → IsDistinct shares_guid plan.nodes → IsSound (own_dump plan lids fabric)
own_dump_is_sound plan lids fabric own =
    let tables = flat_map (own_table_at plan.nodes lids fabric.nodes) (range_with_len 0 (length plan.nodes)) in
    let rows = all_rows lids tables
    (each_table plan.nodes lids fabric.nodes (λ table. AllByRecursion (IsReported lids) table.rows) (reported plan.nodes lids fabric.nodes) (range_with_len 0 (length plan.nodes))) in
    record {
      tables = record {
        own_switches = own_tables plan.nodes lids fabric.nodes plan.nodes 0 (λ j. let none : 0 + j ≡ j = omega arith in ap (slice_get plan.nodes) none) own;
        rising = all_rise tables (each_table plan.nodes lids fabric.nodes (λ table. is_rising table ≡ true) (rises plan.nodes lids fabric.nodes) (range_with_len 0 (length plan.nodes)));
      };
      one_end = all_ends plan.nodes lids [] (rows_of tables) rows rows;
    }
