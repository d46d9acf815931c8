-- What is noted in sets and maps, one after the other.
use Rattle.std.proofs.Common.{◌≡◌, ◌∙◌, ap, ap₂, refl, sym, inl, inr, ℕ, zero, suc, ◌+◌, ◌-◌, ◌<◌, ◌≤◌, Bool, true, false, cond, nat_eq, ◌==◌, ◌&&◌, ◌||◌, List, [], ◌∷◌, ◌++◌, drop, find, get_or, length, slice_get, Option, Some, None, arith}
use Rattle.std.specs.List.{list_any, range_with_len}
use Rattle.std.specs.Option.{option_map_or}
use Rattle.std.proofs.lemmas.Bool.{cases_Bool}
use Rattle.std.proofs.lemmas.List.Folds.{list_any-append}
use Rattle.indexmap.specs.IndexMap.{IndexMap, get}
use Rattle.fabric_parts.specs.Cable.{is_same_port}
use Rattle.fabric_parts.specs.declared.cable.PortRef.{PortRef}
use Rattle.step_results.proofs.RangeLemmas.{range_more}
use Rattle.step_results.proofs.TestLemmas.{same_either_way}
use Rattle.step_results.proofs.BoolLemmas.{or_assoc, or_false}
use Rattle.sl2vl_file.specs.declared.row.LaneRow.{LaneRow}
use Rattle.audit_plan.proofs.RangeLemmas.{cut_before}
use Rattle.audit_net.specs.declared.lids.Aim.{Aim}
use Rattle.audit_lanes.specs.declared.hop.Crossing.{Crossing}
use Rattle.audit_lanes.specs.declared.hop.DroppedAt.{DroppedAt}
use Rattle.audit_lanes.specs.declared.lane.ChannelPair.{ChannelPair}
use Rattle.audit_lanes.specs.declared.lane.Lane.{Lane}
use Rattle.audit_lanes.specs.declared.lane.LanePair.{LanePair}
use Rattle.audit_lanes.specs.declared.owned.LidPair.{LidPair}
use Rattle.audit_lanes.specs.Keys.{KnowsAims, KnowsRows, aim_of, is_same_channels, is_same_dropped, noted, row_at}
use Rattle.audit_lanes.specs.Lanes.{is_same_lane, is_same_pair}
use Rattle.audit_lanes.specs.Records.{is_same_lids}
use Rattle.audit_lanes.specs.Tables.{crossing_of, is_row_of, is_same_crossing}

pub crossing_turned : (a b : Crossing) → is_same_crossing a b ≡ is_same_crossing b a
crossing_turned a b =
    ap₂ (λ (x y : Bool). x && y) (same_either_way a.place b.place)
    (ap₂ (λ (x y : Bool). x && y) (same_either_way a.input b.input) (same_either_way a.output b.output))

any_more : (f : ℕ → Bool) (n : ℕ) → list_any f (range_with_len 0 (n + 1)) ≡ (list_any f (range_with_len 0 n) || f n)
any_more f n =
    let next : n + 1 ≡ suc n = omega arith in
    let last : 0 + n ≡ n = omega arith in
    ap (λ (k : ℕ). list_any f (range_with_len 0 k)) next ∙ ap (list_any f) (range_more 0 n ∙ ap (λ (k : ℕ). range_with_len 0 n ++ k ∷ []) last)
    ∙ list_any-append f (range_with_len 0 n) (n ∷ []) ∙ ap (λ (b : Bool). list_any f (range_with_len 0 n) || b) (or_false (f n))

pub noted_next : (f : ℕ → Bool) (n : ℕ) (first before after : Bool) → before ≡ (first || list_any f (range_with_len 0 n)) → after ≡ (before || f n)
    → after ≡ (first || list_any f (range_with_len 0 (n + 1)))
noted_next f n first before after is more =
    more ∙ ap (λ (b : Bool). b || f n) is ∙ or_assoc first (list_any f (range_with_len 0 n)) (f n) ∙ ap (λ (b : Bool). first || b) (sym (any_more f n))

-- ---- the aim of each LID, from the last on
first_aim : (one : Aim) (rest : List Aim) (lid : ℕ) → aim_of (one ∷ rest) lid ≡ cond (one.lid == lid) (Some one) (aim_of rest lid)
first_aim one rest lid = elim (cases_Bool (one.lid == lid)) [
  | inl here ↦ rw here refl
  | inr other ↦ rw other refl
]

pub aims_more : {S : Type 0} (before after : IndexMap ℕ Aim S) (aims : List Aim) (index : ℕ) (none : Aim) → 0 < index → index ≤ length aims
    → KnowsAims before (drop index aims)
    → ((lid : ℕ) → get nat_eq after lid ≡ cond ((get_or aims (index - 1) none).lid == lid) (Some (get_or aims (index - 1) none)) (get nat_eq before lid))
    → KnowsAims after (drop (index - 1) aims)
aims_more before after aims index none some within knows more lid =
    let one = get_or aims (index - 1) none in
    more lid ∙ ap (cond (one.lid == lid) (Some one)) (knows lid) ∙ sym (first_aim one (drop index aims) lid)
    ∙ ap (λ (rest : List Aim). aim_of rest lid) (sym (cut_before aims index none some within))

-- ---- the place of the first row of two ports, from the last on
there : {X : Type 0} (xs : List X) (i : ℕ) (d : X) → i < length xs → slice_get xs i ≡ Some (get_or xs i d)
there [] i d within = absurd (omega (arith, within))
there (x ∷ xs) zero d within = refl
there (x ∷ xs) (suc i) d within = there xs i d (omega (arith, within))

row_noted : (all rest : List LaneRow) (row : LaneRow) (aims : List Aim) (here : Crossing) (place : ℕ) (before : Option ℕ) (one : Option Crossing) → crossing_of aims row ≡ one
    → slice_get all place ≡ Some row → row_at all before ≡ find (is_row_of aims here) rest → row_at all (noted one place here before) ≡ find (is_row_of aims here) (row ∷ rest)
row_noted all rest row aims here place before None is stands knows =
    let other : is_row_of aims here row ≡ false = ap (λ (o : Option Crossing). option_map_or (is_same_crossing here) o false) is in
    rw other knows
row_noted all rest row aims here place before (Some one) is stands knows =
    let test : is_row_of aims here row ≡ is_same_crossing one here = ap (λ (o : Option Crossing). option_map_or (is_same_crossing here) o false) is ∙ crossing_turned here one in
    elim (cases_Bool (is_same_crossing one here)) [
      | inl same ↦ let passes : is_row_of aims here row ≡ true = test ∙ same in rw (same, passes) stands
      | inr other ↦ let fails : is_row_of aims here row ≡ false = test ∙ other in rw (other, fails) knows
    ]

pub rows_more : {S : Type 0} (before after : IndexMap Crossing ℕ S) (aims : List Aim) (rows : List LaneRow) (index : ℕ) (none : LaneRow) → 0 < index → index ≤ length rows
    → KnowsRows before aims rows (drop index rows)
    → ((here : Crossing) → get is_same_crossing after here ≡ noted (crossing_of aims (get_or rows (index - 1) none)) (index - 1) here (get is_same_crossing before here))
    → KnowsRows after aims rows (drop (index - 1) rows)
rows_more before after aims rows index none some within knows more here =
    let row = get_or rows (index - 1) none in
    ap (row_at rows) (more here)
    ∙ row_noted rows (drop index rows) row aims here (index - 1) (get is_same_crossing before here) (crossing_of aims row) refl
    (there rows (index - 1) none (omega (arith, some, within))) (knows here)
    ∙ ap (find (is_row_of aims here)) (sym (cut_before rows index none some within))
