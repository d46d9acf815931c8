-- Rows each of which says whose its LID is agree with one another.
use Rattle.std.proofs.Common.{ℕ, ◌≡◌, ◌∙◌, ap, refl, sym, subst, Bool, true, if◌then◌else◌, List, [], ◌∷◌, ◌++◌, Option, Some, None}
use Rattle.std.specs.List.{AllByRecursion, list_all}
use Rattle.std.specs.Option.{option_map_or, option_or}
use Rattle.std.proofs.lemmas.Bool.{and_from, eq-eqb}
use Rattle.std.proofs.lemmas.List.{append_assoc}
use Rattle.std.proofs.lemmas.Option.{same_Some}
use Rattle.dump_file.specs.Destination.{guid_said}
use Rattle.dump_file.specs.Row.{end_of, said_of}
use Rattle.dump_file.specs.Sound.{has_its_end, is_end}
use Rattle.dump_file.specs.declared.row.Row.{Row}
use Rattle.topo_file.specs.declared.node.Node.{Node}
use Rattle.fabric_loads.proofs.RowLemmas.{IsReported, reported_of}

said_there : (row : Row) (guid : ℕ) → guid_said row.destination ≡ Some guid → said_of row.lid row ≡ Some guid
said_there row guid said = ap (λ (b : Bool). if b then guid_said row.destination else None) (eq-eqb row.lid row.lid refl) ∙ said

some_end : (before rest : List Row) (row : Row) (guid : ℕ) → guid_said row.destination ≡ Some guid
    → (other : ℕ) × (end_of row.lid (before ++ row ∷ rest) ≡ Some other)
some_end [] rest row guid said = (guid, ap (λ (o : Option ℕ). option_or o (end_of row.lid rest)) (said_there row guid said))
some_end (first ∷ before) rest row guid said = by (said_of row.lid first) (some_end before rest row guid said)
  where
    by : (o : Option ℕ) → (other : ℕ) × (end_of row.lid (before ++ row ∷ rest) ≡ Some other)
        → (other : ℕ) × (option_or o (end_of row.lid (before ++ row ∷ rest)) ≡ Some other)
    by (Some one) later = (one, refl)
    by None later = later

module _ (planned : List Node) (lids : List ℕ) where
  ends_alike : (all : List Row) (row : Row) → AllByRecursion (IsReported lids) all → IsReported lids row
      → ((guid : ℕ) → guid_said row.destination ≡ Some guid → (other : ℕ) × (end_of row.lid all ≡ Some other)) → has_its_end all row ≡ true
  ends_alike all row reported is_reported has = by (guid_said row.destination) refl
    where
      by : (o : Option ℕ) → guid_said row.destination ≡ o → option_map_or (λ guid. is_end guid (end_of row.lid all)) o true ≡ true
      by None said = refl
      by (Some guid) said =
          let found = has guid said in
          let same : Some guid ≡ Some found.0 = sym (is_reported guid said) ∙ reported_of planned lids row.lid all found.0 reported found.1 in
          let alike : guid ≡ found.0 = same_Some guid found.0 same in
          ap (is_end guid) found.1 ∙ eq-eqb guid found.0 alike

  pub all_ends : (before some : List Row) → AllByRecursion (IsReported lids) (before ++ some) → AllByRecursion (IsReported lids) some
      → list_all (has_its_end (before ++ some)) some ≡ true
  all_ends before [] reported these = refl
  all_ends before (row ∷ some) reported these =
      let moved : (before ++ row ∷ []) ++ some ≡ before ++ row ∷ some = append_assoc before (row ∷ []) some in
      and_from (has_its_end (before ++ row ∷ some) row) _ (ends_alike (before ++ row ∷ some) row reported these.0 (some_end before some row))
      (subst (λ (all : List Row). list_all (has_its_end all) some ≡ true) moved
      (all_ends (before ++ row ∷ []) some (subst (AllByRecursion (IsReported lids)) (sym moved) reported) these.1))
