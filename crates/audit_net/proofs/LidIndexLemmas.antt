-- LIDs that end ports report, found by number.
use Rattle.std.proofs.Common.{ℕ, zero, suc, ◌≡◌, ◌∙◌, ◌+◌, ◌-◌, ◌<◌, ◌≤◌, ◌==◌, ◌&&◌, ◌||◌, ap, inl, inr, refl, sym, Bool, cond, nat_eq, not, List, ◌∷◌, drop, get_or, length, Some, arith}
use Rattle.std.specs.List.{list_any, range_with_len}
use Rattle.std.proofs.lemmas.Bool.{cases_Bool}
use Rattle.step_results.proofs.BoolLemmas.{or_assoc, or_false}
use Rattle.indexmap.specs.IndexMap.{IndexMap, get}
use Rattle.indexmap.specs.IndexSet.{IndexSet, contains}
use Rattle.dump_file.specs.declared.row.Row.{Row}
use Rattle.audit_plan.specs.declared.ends.LidGuid.{LidGuid}
use Rattle.audit_net.specs.LidIndex.{KnowsReported, KnowsRows}
use Rattle.audit_net.specs.Lids.{all_lids, counts_for, gives_lid, has_row, reported_by}
use Rattle.audit_plan.proofs.RangeLemmas.{cut_before}

-- ---- the end ports to which rows give LIDs, LID by LID
one_more : (f : ℕ → Bool) (low many : ℕ) → list_any f (range_with_len low (many + 1)) ≡ (list_any f (range_with_len low many) || f (low + many))
one_more f low zero = let here : low + 0 ≡ low = omega arith in rw here (or_false (f low))
one_more f low (suc many) =
    let next : low + 1 + many ≡ low + suc many = omega arith in
    let count : suc many + 1 ≡ suc (many + 1) = omega arith in
    rw count (ap (λ (b : Bool). f low || b) (one_more f (low + 1) many ∙ ap (λ (n : ℕ). list_any f (range_with_len (low + 1) many) || f n) next)
    ∙ sym (or_assoc (f low) (list_any f (range_with_len (low + 1) many)) (f (low + suc many))))

abbrev pub HasRowsBelow : {S : Type 0} → IndexSet ℕ S → List Row → ℕ → Type 0
HasRowsBelow some rows count = (guid : ℕ) → contains nat_eq some guid ≡ list_any (gives_lid rows guid) (range_with_len 0 count)

pub rows_more : {S : Type 0} (before after : IndexSet ℕ S) (rows : List Row) (lid : ℕ) → HasRowsBelow before rows lid
    → ((guid : ℕ) → contains nat_eq after guid ≡ (contains nat_eq before guid || gives_lid rows guid lid)) → HasRowsBelow after rows (lid + 1)
rows_more before after rows lid knows more guid =
    let from_0 : 0 + lid ≡ lid = omega arith in
    more guid ∙ ap (λ (b : Bool). b || gives_lid rows guid lid) (knows guid)
    ∙ sym (one_more (gives_lid rows guid) 0 lid ∙ ap (λ (n : ℕ). list_any (gives_lid rows guid) (range_with_len 0 lid) || gives_lid rows guid n) from_0)

pub all_rows : {S : Type 0} (some : IndexSet ℕ S) (rows : List Row) (count : ℕ) → count ≡ 65536 → HasRowsBelow some rows count → KnowsRows some rows
unfolding all_lids
all_rows some rows count all knows guid = knows guid ∙ ap (λ (n : ℕ). list_any (gives_lid rows guid) (range_with_len 0 n)) all

-- ---- the end port that reports a LID, from the last one on
first_of : (rows : List Row) (one : LidGuid) (rest : List LidGuid) (lid : ℕ)
    → reported_by rows (one ∷ rest) lid ≡ cond ((one.lid == lid) && not (has_row rows one.guid)) (Some one.guid) (reported_by rows rest lid)
first_of rows one rest lid = elim (cases_Bool (counts_for rows lid one)) [
  | inl here ↦ rw here refl
  | inr other ↦ rw other refl
]

pub reported_more : {S T : Type 0} (before after : IndexMap ℕ ℕ S) (some : IndexSet ℕ T) (rows : List Row) (lids : List LidGuid) (index : ℕ) (none : LidGuid)
    → 0 < index → index ≤ length lids → KnowsRows some rows → KnowsReported before rows (drop index lids)
    → ((lid : ℕ) → get nat_eq after lid
    ≡ cond (((get_or lids (index - 1) none).lid == lid) && not (contains nat_eq some (get_or lids (index - 1) none).guid)) (Some (get_or lids (index - 1) none).guid) (get nat_eq before lid))
    → KnowsReported after rows (drop (index - 1) lids)
reported_more before after some rows lids index none low within has knows more lid =
    let one = get_or lids (index - 1) none in
    more lid ∙ ap (λ (b : Bool). cond ((one.lid == lid) && not b) (Some one.guid) (get nat_eq before lid)) (has one.guid)
    ∙ ap (cond ((one.lid == lid) && not (has_row rows one.guid)) (Some one.guid)) (knows lid)
    ∙ sym (first_of rows one (drop index lids) lid) ∙ ap (λ (rest : List LidGuid). reported_by rows rest lid) (sym (cut_before lids index none low within))
