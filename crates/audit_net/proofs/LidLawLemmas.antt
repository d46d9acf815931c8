-- LIDs of a discovery, and whose they are.
use Rattle.std.proofs.Common.{◌≡◌, ◌∙◌, ap, refl, sym, inl, inr, ℕ, zero, suc, ◌+◌, ◌≤◌, ◌<◌, ◌==◌, ◌⊎◌, true, false, not, List, [], ◌∷◌, is_some, Option, Some, None, arith}
use Rattle.std.specs.List.{list_any, range_with_len}
use Rattle.std.specs.Option.{option_or}
use Rattle.std.proofs.lemmas.Bool.{and_from, and_parts, cases_Bool, eq-eqb, eqb-true, false≢true, not-true, or_left, or_right}
use Rattle.std.proofs.lemmas.Option.{none-some, same_Some}
use Rattle.step_results.proofs.ListLemmas.{list_any_weaker}
use Rattle.dump_file.specs.declared.row.Row.{Row}
use Rattle.dump_file.specs.Row.{end_of}
use Rattle.dump_file.specs.Sound.{is_end}
use Rattle.dump_file.specs.Table.{rows_of}
use Rattle.audit_plan.specs.declared.ends.LidGuid.{LidGuid}
use Rattle.audit_net.specs.OwnerLaws.{IsFree, OwnersAreFound}
use Rattle.audit_plan.specs.Laws.{is_of_port}
use Rattle.audit_net.specs.Lids.{all_lids, counts_for, gives_lid, has_row, reported_by, reported_end}
use Rattle.audit_net.specs.Net.{NetState}
use Rattle.audit_net.proofs.LidLemmas.{in_lids}

-- ---- whose a LID is
gives : (guid : ℕ) (o : Option ℕ) → o ≡ Some guid → is_end guid o ≡ true
gives guid o is = ap (is_end guid) is ∙ eq-eqb guid guid refl

given : (guid : ℕ) (o : Option ℕ) → is_end guid o ≡ true → o ≡ Some guid
given guid (Some other) is = ap (λ (n : ℕ). Some n) (sym (eqb-true guid other is))
given guid None is = absurd (false≢true is)

-- a port to which no row gives a LID has none by any row
no_row : (rows : List Row) (guid other : ℕ) → other < 65536 → has_row rows guid ≡ false → end_of other rows ≡ Some guid → ⊥
no_row rows guid other below none is =
    let some : has_row rows guid ≡ true =
    list_any_weaker (λ n. n == other) (gives_lid rows guid) (λ n same. ap (gives_lid rows guid) (eqb-true n other same) ∙ gives guid (end_of other rows) is) all_lids
    (in_lids other below) in
    false≢true (sym none ∙ some)

none_gives : (rows : List Row) (guid low many : ℕ) → low + many ≤ 65536 → ((other : ℕ) → other < 65536 → end_of other rows ≡ Some guid → ⊥)
    → list_any (gives_lid rows guid) (range_with_len low many) ≡ false
none_gives rows guid low zero most none = refl
none_gives rows guid low (suc many) most none = elim (cases_Bool (gives_lid rows guid low)) [
  | inl some ↦ absurd (none low (omega (arith, most)) (given guid (end_of low rows) some))
  | inr other ↦ rw other (none_gives rows guid (low + 1) many (omega (arith, most)) none)
]

has_none : (rows : List Row) (guid : ℕ) → ((other : ℕ) → other < 65536 → end_of other rows ≡ Some guid → ⊥) → has_row rows guid ≡ false
unfolding all_lids
has_none rows guid none = none_gives rows guid 0 65536 (omega arith) none

-- the first that reports it
reporting : (rows : List Row) (lid guid : ℕ) (lids : List LidGuid) → reported_by rows lids lid ≡ Some guid
    → (list_any (is_of_port lid guid) lids ≡ true) × (has_row rows guid ≡ false)
reporting rows lid guid [] is = absurd (none-some guid is)
reporting rows lid guid (one ∷ lids) is = elim (cases_Bool (counts_for rows lid one)) [
  | inl here ↦
      let parts = and_parts (one.lid == lid) _ here in
      let same : one.guid ≡ guid = same_Some one.guid guid (rw here at is) in
      let named : is_of_port lid guid one ≡ true = and_from (one.lid == lid) _ parts.0 (eq-eqb one.guid guid same) in (
        or_left (is_of_port lid guid one) _ named,
        ap (has_row rows) (sym same) ∙ not-true (has_row rows one.guid) parts.1,
      )
  | inr other ↦ let later = reporting rows lid guid lids (rw other at is) in (or_right (is_of_port lid guid one) _ later.0, later.1)
]

some_reports : (rows : List Row) (lid : ℕ) (lids : List LidGuid) → list_any (counts_for rows lid) lids ≡ true → is_some (reported_by rows lids lid) ≡ true
some_reports rows lid [] is = absurd (false≢true is)
some_reports rows lid (one ∷ lids) is = elim (cases_Bool (counts_for rows lid one)) [
  | inl here ↦ rw here refl
  | inr other ↦ rw other (some_reports rows lid lids (rw other at is))
]

counted : (rows : List Row) (lid guid : ℕ) → has_row rows guid ≡ false → (one : LidGuid) → is_of_port lid guid one ≡ true → counts_for rows lid one ≡ true
counted rows lid guid none one is =
    let parts = and_parts (one.lid == lid) _ is in
    and_from (one.lid == lid) _ parts.0 (ap (λ (n : ℕ). not (has_row rows n)) (eqb-true one.guid guid parts.1) ∙ ap not none)

is_free : (net : NetState) (lid guid : ℕ) (o : Option ℕ) → end_of lid (rows_of net.dump.tables) ≡ o → option_or o (reported_end net lid) ≡ Some guid
    → (end_of lid (rows_of net.dump.tables) ≡ Some guid) ⊎ IsFree net lid guid
is_free net lid guid (Some other) said is = inl (said ∙ is)
is_free net lid guid None said is =
    let one = reporting (rows_of net.dump.tables) lid guid net.plan.lids is in
    inr (one.0, said, λ other below named. no_row (rows_of net.dump.tables) guid other below one.1 named)

pub owners_are_found : OwnersAreFound
owners_are_found = record {
  said = λ net lid guid said. ap (λ (o : Option ℕ). option_or o (reported_end net lid)) said;
  free = λ net lid guid is. is_free net lid guid (end_of lid (rows_of net.dump.tables)) refl is;
  some = λ net lid guid free.
      ap (λ (o : Option ℕ). is_some (option_or o (reported_end net lid))) free.1
      ∙ some_reports (rows_of net.dump.tables) lid net.plan.lids
      (list_any_weaker (is_of_port lid guid) (counts_for (rows_of net.dump.tables) lid)
      (counted (rows_of net.dump.tables) lid guid (has_none (rows_of net.dump.tables) guid free.2)) net.plan.lids free.0);
}
