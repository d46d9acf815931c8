-- The dump of what the switches of a fabric hold shows it.
use Rattle.std.proofs.Common.{ℕ, zero, suc, ◌≡◌, ◌+◌, ◌-◌, ◌==◌, ◌∙◌, ap, refl, sym, subst, Bool, true, false, if◌then◌else◌, List, [], ◌∷◌, ◌++◌, find, flat_map, map, position, slice_get, Option, Some, None, option_map, arith}
use Rattle.std.specs.List.{AllByRecursion, IsDistinct, list_any}
use Rattle.std.specs.Option.{option_and_then}
use Rattle.std.proofs.lemmas.Bool.{eq-eqb, false≢true, ne_eqb}
use Rattle.std.proofs.lemmas.Map.Keys.{IsDistinct-tail}
use Rattle.std.proofs.lemmas.Option.{none-some, same_Some, slice_get-map}
use Rattle.dump_file.specs.Table.{rows_of}
use Rattle.dump_file.specs.declared.table.Table.{Table}
use Rattle.step_results.proofs.DistinctLemmas.{none_shares}
use Rattle.step_results.proofs.ElementLemmas.{each_joined}
use Rattle.audit_net.specs.Net.{table_of}
use Rattle.smp_wire.specs.Good.{node_guid}
use Rattle.smp_wire.specs.declared.node.Node.{Node}
use Rattle.smp_wire.specs.declared.node.Node.TheVariants.{Switch, Adapter}
use Rattle.sweep.proofs.FoundLemmas.{any_by}
use Rattle.sweep.proofs.PlaceLemmas.{found_at_place, found_nowhere}
use Rattle.switch_model.specs.SwitchState.{SwitchState}
use Rattle.topo_file.specs.declared.node.Node.{Node as PlannedNode}
use Rattle.fabric_loads.specs.HeldRows.{held_entry, row_for, rows_from}
use Rattle.fabric_loads.proofs.RowLemmas.{IsReported, held_reported}
use Rattle.joint_laws.specs.OwnTables.{table_for, tables_for}

-- ---- the first that passes
found_next : {X : Type 0} (p : X → Bool) (x : X) (xs : List X) → p x ≡ false → find p (x ∷ xs) ≡ find p xs
found_next p x xs fails = rw fails refl

found_here : {X : Type 0} (p : X → Bool) (x : X) (xs : List X) → p x ≡ true → find p (x ∷ xs) ≡ Some x
found_here p x xs passes = rw passes refl

-- ---- the table of a GUID
pub table_is : (guid : ℕ) (tables : List Table) → table_of guid tables ≡ find (λ table. guid == table.guid) tables
table_is guid tables = by (position (λ table. guid == table.guid) tables) refl
  where
    by : (o : Option ℕ) → position (λ table. guid == table.guid) tables ≡ o
        → option_and_then (λ place. slice_get tables place) (position (λ table. guid == table.guid) tables) ≡ find (λ table. guid == table.guid) tables
    by None at = ap (option_and_then (λ place. slice_get tables place)) at ∙ sym (found_nowhere (λ table. guid == table.guid) tables at)
    by (Some place) at = ap (option_and_then (λ place. slice_get tables place)) at ∙ sym (found_at_place (λ table. guid == table.guid) tables place at)

module _ (planned : List PlannedNode) (lids : List ℕ) where
  -- of switches no two have one GUID
  pub table_found : (nodes : List Node) (k : ℕ) (held : SwitchState) → IsDistinct (λ a b. a == b) (map node_guid nodes) → slice_get nodes k ≡ Some (Switch held)
      → find (λ table. held.node_guid == table.guid) (flat_map (tables_for planned lids) nodes) ≡ Some (table_for planned lids held)
  table_found [] k held own there = absurd (none-some (Switch held) there)
  table_found (Switch other ∷ nodes) zero held own there =
      let node : Switch other ≡ Switch held = same_Some (Switch other) (Switch held) there in
      let same : other ≡ held = cc in
      found_here (λ table. held.node_guid == table.guid) (table_for planned lids other) (flat_map (tables_for planned lids) nodes)
      (eq-eqb held.node_guid other.node_guid (ap (λ (one : SwitchState). one.node_guid) (sym same)))
      ∙ ap (λ (one : SwitchState). Some (table_for planned lids one)) same
  table_found (Adapter ports ∷ nodes) zero held own there = let node : Adapter ports ≡ Switch held = same_Some (Adapter ports) (Switch held) there in absurd (cc)
  table_found (Adapter ports ∷ nodes) (suc k) held own there =
      table_found nodes k held (IsDistinct-tail (λ a b. a == b) (node_guid (Adapter ports)) (map node_guid nodes) own) there
  table_found (Switch other ∷ nodes) (suc k) held own there =
      found_next (λ table. held.node_guid == table.guid) (table_for planned lids other) (flat_map (tables_for planned lids) nodes)
      (ne_eqb held.node_guid other.node_guid
      (λ same. false≢true (sym (none_shares (λ a b. a == b) other.node_guid (map node_guid nodes) own) ∙ shared nodes k (sym same) there)))
      ∙ table_found nodes k held (IsDistinct-tail (λ a b. a == b) other.node_guid (map node_guid nodes) own) there
    where
      shared : (some : List Node) (k : ℕ) → other.node_guid ≡ held.node_guid → slice_get some k ≡ Some (Switch held)
          → list_any (λ guid. other.node_guid == guid) (map node_guid some) ≡ true
      shared some k same there =
          any_by (λ guid. other.node_guid == guid) (map node_guid some) k held.node_guid (guid_there some k there) (eq-eqb other.node_guid held.node_guid same)
        where
          guid_there : (some : List Node) (k : ℕ) → slice_get some k ≡ Some (Switch held) → slice_get (map node_guid some) k ≡ Some held.node_guid
          guid_there some k there = slice_get-map node_guid some k ∙ ap (option_map node_guid) there

  -- ---- the row of a LID
  pub row_found : (held : SwitchState) (guids : List ℕ) (first j lid guid : ℕ) → slice_get guids j ≡ Some guid → lid ≡ first + j
      → (held_entry held lid == 255) ≡ false
      → find (λ row. row.lid == lid) (rows_from planned held first guids) ≡ Some (row_for planned lid guid (held_entry held lid))
  row_found held [] first j lid guid there is some = absurd (none-some guid there)
  row_found held (one ∷ guids) first zero lid guid there is some =
      let here : lid ≡ first = omega (arith, is) in
      let same : one ≡ guid = same_Some one guid there in
      subst (λ (n : ℕ). find (λ row. row.lid == lid) (rows_from planned held n (one ∷ guids)) ≡ Some (row_for planned lid guid (held_entry held lid))) here
      (ap (λ (b : Bool). find (λ row. row.lid == lid) ((if b then [] else row_for planned lid one (held_entry held lid) ∷ []) ++ rows_from planned held (lid + 1) guids)) some
      ∙ found_here (λ row. row.lid == lid) (row_for planned lid one (held_entry held lid)) (rows_from planned held (lid + 1) guids) (eq-eqb lid lid refl)
      ∙ ap (λ (g : ℕ). Some (row_for planned lid g (held_entry held lid))) same)
  row_found held (one ∷ guids) first (suc j) lid guid there is some =
      by (held_entry held first == 255) (row_found held guids (first + 1) j lid guid there (omega (arith, is)) some)
    where
      apart : (first == lid) ≡ false
      apart = ne_eqb first lid (λ same. omega (arith, is, same))

      by : (b : Bool) → find (λ row. row.lid == lid) (rows_from planned held (first + 1) guids) ≡ Some (row_for planned lid guid (held_entry held lid))
          → find (λ row. row.lid == lid) ((if b then [] else row_for planned first one (held_entry held first) ∷ []) ++ rows_from planned held (first + 1) guids)
          ≡ Some (row_for planned lid guid (held_entry held lid))
      by true rest = rest
      by false rest =
          found_next (λ row. row.lid == lid) (row_for planned first one (held_entry held first)) (rows_from planned held (first + 1) guids) apart ∙ rest

  pub no_row : (held : SwitchState) (guids : List ℕ) (first lid : ℕ) → held_entry held lid ≡ 255
      → find (λ row. row.lid == lid) (rows_from planned held first guids) ≡ None
  no_row held [] first lid none = refl
  no_row held (one ∷ guids) first lid none = by (held_entry held first == 255) refl (no_row held guids (first + 1) lid none)
    where
      apart : (held_entry held first == 255) ≡ false → first ≡ lid → ⊥
      apart some same = false≢true (sym some ∙ eq-eqb (held_entry held first) 255 (ap (held_entry held) same ∙ none))

      by : (b : Bool) → (held_entry held first == 255) ≡ b → find (λ row. row.lid == lid) (rows_from planned held (first + 1) guids) ≡ None
          → find (λ row. row.lid == lid) ((if b then [] else row_for planned first one (held_entry held first) ∷ []) ++ rows_from planned held (first + 1) guids) ≡ None
      by true is rest = rest
      by false is rest =
          found_next (λ row. row.lid == lid) (row_for planned first one (held_entry held first)) (rows_from planned held (first + 1) guids)
          (ne_eqb first lid (apart is)) ∙ rest

  -- ---- whose a LID is
  pub all_reported : (nodes : List Node) → AllByRecursion (IsReported lids) (rows_of (flat_map (tables_for planned lids) nodes))
  all_reported [] = tt
  all_reported (Adapter ports ∷ nodes) = all_reported nodes
  all_reported (Switch held ∷ nodes) =
      each_joined (IsReported lids) (rows_from planned held 1 lids) (rows_of (flat_map (tables_for planned lids) nodes)) (held_reported planned lids held) (all_reported nodes)
