-- Marks of the LIDs that rows name.
use Rattle.std.proofs.Common.{◌≡◌, ◌∙◌, inl, inr, ap, refl, sym, ℕ, suc, ◌+◌, ◌<◌, ◌≤◌, Bool, true, ◌==◌, ◌||◌, List, [], ◌∷◌, ◌++◌, length, drop, map, filter, flat_map, get_or, arith, add-one, drop-cons}
use Rattle.std.specs.List.{range_with_len, list_any}
use Rattle.std.proofs.lemmas.Bool.{cases_Bool}
use Rattle.std.proofs.lemmas.List.{drop_all}
use Rattle.step_results.proofs.RangeLemmas.{flat_more}
use Rattle.step_results.proofs.BoolLemmas.{or_assoc, or_false}
use Rattle.dump_file.specs.declared.row.Row.{Row}
use Rattle.dump_file.specs.declared.table.Table.{Table}
use Rattle.dump_file.specs.Table.{rows_of}
use Rattle.topo_file.specs.Rounds.{is_marked}
use Rattle.audit_net.specs.Lids.{aim_if, aim_of, aims, aims_below, all_lids, is_known_lid, is_named}
use Rattle.audit_net.specs.Net.{NetState}
use Rattle.audit_plan.proofs.PlaceLemmas.{in_range}

-- ---- marks of rows
pub record AreMarked (before : List Bool) (rows : List Row) (index : ℕ) (marks : List Bool) : Type 0 where
  pub long : length marks ≡ length before
  pub marked : (lid : ℕ) → (is_marked marks lid || is_named (drop index rows) lid) ≡ (is_marked before lid || is_named rows lid)

pub record AreMarkedBy (count : ℕ) (tables : List Table) (index : ℕ) (marks : List Bool) : Type 0 where
  pub long : length marks ≡ count
  pub marked : (lid : ℕ) → (is_marked marks lid || is_named (rows_of (drop index tables)) lid) ≡ is_named (rows_of tables) lid

pub first_row : (rows : List Row) (index : ℕ) (none : Row) → index < length rows → drop index rows ≡ get_or rows index none ∷ drop (index + 1) rows
first_row rows index none within = rw (add-one, drop-cons rows index none) refl

pub marked_row : (before : List Bool) (rows : List Row) (index : ℕ) (marks after : List Bool) (none : Row) → index < length rows → AreMarked before rows index marks
    → length after ≡ length marks → ((lid : ℕ) → is_marked after lid ≡ (is_marked marks lid || ((get_or rows index none).lid == lid))) → AreMarked before rows (index + 1) after
marked_row before rows index marks after none within so_far long marked = record {
  long = long ∙ so_far.long;
  marked = λ lid.
      ap (λ (b : Bool). b || is_named (drop (index + 1) rows) lid) (marked lid)
      ∙ or_assoc (is_marked marks lid) ((get_or rows index none).lid == lid) (is_named (drop (index + 1) rows) lid)
      ∙ ap (λ (rest : List Row). is_marked marks lid || is_named rest lid) (sym (first_row rows index none within)) ∙ so_far.marked lid;
}

pub all_marked : (before : List Bool) (rows : List Row) (index : ℕ) (marks : List Bool) → length rows ≤ index → AreMarked before rows index marks
    → (lid : ℕ) → is_marked marks lid ≡ (is_marked before lid || is_named rows lid)
all_marked before rows index marks ended so_far lid =
    sym (or_false (is_marked marks lid)) ∙ ap (λ (rest : List Row). is_marked marks lid || is_named rest lid) (sym (drop_all index rows ended)) ∙ so_far.marked lid

pub tables_marked : (count : ℕ) (tables : List Table) (index : ℕ) (marks : List Bool) → length tables ≤ index → AreMarkedBy count tables index marks
    → (lid : ℕ) → is_marked marks lid ≡ is_named (rows_of tables) lid
tables_marked count tables index marks ended so_far lid =
    sym (or_false (is_marked marks lid)) ∙ ap (λ (rest : List Table). is_marked marks lid || is_named (rows_of rest) lid) (sym (drop_all index tables ended)) ∙ so_far.marked lid

-- ---- what is known of those that are marked
aims_by : (net : NetState) (test : ℕ → Bool) (lids : List ℕ) → flat_map (aim_if net test) lids ≡ map (aim_of net) (filter test lids)
aims_by net test [] = refl
aims_by net test (lid ∷ lids) = elim (cases_Bool (test lid)) [
  | inl here ↦ rw (here, aims_by net test lids) refl
  | inr other ↦ rw (other, aims_by net test lids) refl
]

pub aims_are : (net : NetState) → aims_below net (is_known_lid net) 65536 ≡ aims net
unfolding all_lids
aims_are net = aims_by net (is_known_lid net) (range_with_len 0 65536)

pub aims_more : (net : NetState) (test : ℕ → Bool) (lid : ℕ) (so_far after : List _) → so_far ≡ aims_below net test lid → after ≡ so_far ++ aim_if net test lid → after ≡ aims_below net test (lid + 1)
aims_more net test lid so_far after is more =
    let next : lid + 1 ≡ suc lid = omega arith in
    more ∙ ap (λ (xs : List _). xs ++ aim_if net test lid) is ∙ sym (ap (aims_below net test) next ∙ flat_more (aim_if net test) 0 lid lid (omega arith))

pub in_lids : (lid : ℕ) → lid < 65536 → list_any (λ n. n == lid) all_lids ≡ true
unfolding all_lids
in_lids lid below = in_range lid 0 65536 (omega arith) (omega (arith, below))
