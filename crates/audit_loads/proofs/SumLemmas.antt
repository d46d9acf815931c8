-- Sums of ports, and how they grow.
use Rattle.std.proofs.Common.{◌≡◌, ◌∙◌, inl, inr, ap, refl, subst, sym, ℕ, ◌+◌, ◌*◌, ◌<◌, ◌≤◌, Bool, true, false, cond, not, ◌==◌, ◌||◌, ◌&&◌, List, [], ◌∷◌, length, arith}
use Rattle.std.proofs.lemmas.Bool.{cases_Bool, cases_lt, false≢true}
use Rattle.std.proofs.lemmas.Bool.Decides.{nat_tests}
use Rattle.std.proofs.lemmas.List.{get_or_past}
use Rattle.std.proofs.lemmas.List.Folds.{list_any-append}
use Rattle.step_results.proofs.BoolLemmas.{or_false}
use Rattle.fabric_parts.specs.Cable.{port}
use Rattle.audit_net.specs.declared.entry.Entry.{Entry}
use Rattle.audit_net.specs.declared.entry.Entry.TheVariants.{Out, Missing, Unreported}
use Rattle.audit_loops.specs.Channels.{is_out, leaves_by}
use Rattle.audit_net.specs.declared.following.Turn.TheVariants as turns
use Rattle.audit_net.specs.Following.{switch_total, turn_by}
use Rattle.audit_net.specs.Laws.{GoesTo}
use Rattle.audit_net.specs.Net.{NetState, entry}
use Rattle.audit_loads.specs.Walk.{at_port, is_stamped, on_way, sum_at, GrowBy}
use Rattle.audit_net.specs.Ways.{way_within}
use Rattle.audit_plan.specs.Plan.{is_on}
use Rattle.audit_net.proofs.WayLemmas.{ComesTo, Stays, comes_back, comes_on, way_ends, way_more}

-- ---- growing
pub grow_same : (one other : ℕ → ℕ → ℕ) (before after : List ℕ)
    → ((place number : ℕ) → place * 256 + number < length before → number < 256 → one place number ≡ other place number)
    → GrowBy one before after → GrowBy other before after
grow_same one other before after same grown = record {
  long = grown.long;
  each = λ place number within low. grown.each place number within low ∙ ap (λ (n : ℕ). sum_at before place number + n) (same place number within low);
}

pub grow_on : (one other whole : ℕ → ℕ → ℕ) (before mid after : List ℕ)
    → ((place number : ℕ) → place * 256 + number < length before → number < 256 → one place number + other place number ≡ whole place number)
    → GrowBy one before mid → GrowBy other mid after → GrowBy whole before after
grow_on one other whole before mid after parts first second = record {
  long = second.long ∙ first.long;
  each = λ place number within low.
      let there : place * 256 + number < length mid = subst (λ (n : ℕ). place * 256 + number < n) (sym first.long) within in
      let a = first.each place number within low in
      let b = second.each place number there low in
      let c = parts place number within low in
      omega (arith, a, b, c);
}

-- ---- what a walk has added so far
abbrev pub so_far : NetState → (lid start weight count : ℕ) → (place number : ℕ) → ℕ
so_far net lid start weight count place number = cond (is_on place (way_within net lid count start) && leaves_by net (port place number) lid) weight 0

pub record IsWalked (net : NetState) (lid start weight stamp : ℕ) (marks sums : List ℕ) (count at : ℕ) (marks' sums' : List ℕ) : Type 0 where
  pub comes : ComesTo net lid start count at
  pub long : length marks' ≡ length marks
  pub stamped : (place : ℕ) → place < length marks → is_stamped marks' stamp place ≡ is_on place (way_within net lid count start)
  pub grown : GrowBy (so_far net lid start weight count) sums sums'

-- one switch more on the way
on_more : (net : NetState) (lid start count at place : ℕ) → ComesTo net lid start count at
    → is_on place (way_within net lid (count + 1) start) ≡ (is_on place (way_within net lid count start) || (at == place))
on_more net lid start count at place comes =
    ap (is_on place) (way_more net lid start count at comes)
    ∙ list_any-append (λ one. one == place) (way_within net lid count start) (at ∷ [])
    ∙ ap (λ (b : Bool). is_on place (way_within net lid count start) || b) (or_false (at == place))

low_place : (place number many long : ℕ) → place * 256 + number < long → long ≡ many * 256 → place < many
low_place place number many long within is = omega (arith, within, is)

stamp_within : (marks : List ℕ) (stamp at : ℕ) → 0 < stamp → is_stamped marks stamp at ≡ true → at < length marks
stamp_within marks stamp at some is = elim (cases_lt at (length marks)) [
  | inl less ↦ less
  | inr past ↦ let none : (0 == stamp) ≡ true = sym (ap (λ (n : ℕ). n == stamp) (get_or_past marks at 0 past)) ∙ is in
      let same : 0 ≡ stamp = grind (arith, nat_tests, none) in absurd (omega (arith, some, same))
]

-- ---- it comes back
pub ends_back : (net : NetState) (lid start weight stamp : ℕ) (marks sums : List ℕ) (count at : ℕ) (marks' sums' : List ℕ) → 0 < stamp → count ≤ switch_total net
    → IsWalked net lid start weight stamp marks sums count at marks' sums' → is_stamped marks' stamp at ≡ true
    → GrowBy (on_way net lid start weight) sums sums'
ends_back net lid start weight stamp marks sums count at marks' sums' some less is back =
    let within : at < length marks = subst (λ (n : ℕ). at < n) is.long (stamp_within marks' stamp at some back) in
    let on : is_on at (way_within net lid count start) ≡ true = sym (is.stamped at within) ∙ back in
    grow_same (so_far net lid start weight count) (on_way net lid start weight) sums sums'
    (λ place number _ _. ap (λ (b : Bool). cond (b && leaves_by net (port place number) lid) weight 0) (sym (comes_back net lid start count (switch_total net) at place less is.comes on)))
    is.grown

-- ---- it ends at a switch without a port for it
closed_same : (on here leaves : Bool) (weight : ℕ) → (here ≡ true → leaves ≡ false) → cond (on && leaves) weight 0 ≡ cond ((on || here) && leaves) weight 0
closed_same true here leaves weight closed = refl
closed_same false false leaves weight closed = refl
closed_same false true true weight closed = absurd (false≢true (sym (closed refl)))
closed_same false true false weight closed = refl

pub ends_closed : (net : NetState) (lid start weight stamp : ℕ) (marks sums : List ℕ) (count at : ℕ) (marks' sums' : List ℕ) → count < switch_total net
    → IsWalked net lid start weight stamp marks sums count at marks' sums' → ((number : ℕ) → is_out number (entry net lid at) ≡ false) → Stays net lid at
    → GrowBy (on_way net lid start weight) sums sums'
ends_closed net lid start weight stamp marks sums count at marks' sums' less is closed stays =
    grow_same (so_far net lid start weight count) (on_way net lid start weight) sums sums'
    (λ place number _ _.
    closed_same (is_on place (way_within net lid count start)) (at == place) (leaves_by net (port place number) lid) weight
    (λ here. let same : at ≡ place = grind (arith, nat_tests, here) in ap (λ (n : ℕ). is_out number (entry net lid n)) (sym same) ∙ closed number)
    ∙ ap (λ (b : Bool). cond (b && leaves_by net (port place number) lid) weight 0)
    (sym (ap (is_on place) (way_ends net lid start count (switch_total net) at less is.comes stays) ∙ on_more net lid start count at place is.comes)))
    is.grown

-- ---- one switch more is added
more_added : (on here leaves : Bool) (weight : ℕ) → (here ≡ true → on ≡ false) → cond (on && leaves) weight 0 + cond (here && leaves) weight 0 ≡ cond ((on || here) && leaves) weight 0
more_added true true leaves weight fresh = absurd (false≢true (sym (fresh refl)))
more_added true false leaves weight fresh = let none : cond leaves weight 0 + 0 ≡ cond leaves weight 0 = omega arith in none
more_added false true leaves weight fresh = let none : 0 + cond leaves weight 0 ≡ cond leaves weight 0 = omega arith in none
more_added false false leaves weight fresh = refl

out_there : (net : NetState) (lid at by place number : ℕ) → entry net lid at ≡ Out by → ((at == place) && (by == number)) ≡ ((at == place) && leaves_by net (port place number) lid)
out_there net lid at by place number out = elim (cases_Bool (at == place)) [
  | inl here ↦ let same : at ≡ place = grind (arith, nat_tests, here) in
      let leaves : (by == number) ≡ leaves_by net (port place number) lid = sym (ap (is_out number) out) ∙ ap (λ (n : ℕ). is_out number (entry net lid n)) same in
      ap (λ (b : Bool). (at == place) && b) leaves
  | inr other ↦ rw other refl
]

pub is_added : (net : NetState) (lid start weight stamp : ℕ) (marks sums : List ℕ) (count at by : ℕ) (marks' sums' after : List ℕ) → length sums ≡ length marks * 256
    → IsWalked net lid start weight stamp marks sums count at marks' sums' → is_stamped marks' stamp at ≡ false → entry net lid at ≡ Out by
    → GrowBy (at_port at by weight) sums' after → GrowBy (so_far net lid start weight (count + 1)) sums after
is_added net lid start weight stamp marks sums count at by marks' sums' after long is fresh out more =
    grow_on (so_far net lid start weight count) (at_port at by weight) (so_far net lid start weight (count + 1)) sums sums' after
    (λ place number within _.
    let below : place < length marks = low_place place number (length marks) (length sums) within long in
    ap (λ (b : Bool). so_far net lid start weight count place number + cond b weight 0) (out_there net lid at by place number out)
    ∙ more_added (is_on place (way_within net lid count start)) (at == place) (leaves_by net (port place number) lid) weight
    (λ here. let same : at ≡ place = grind (arith, nat_tests, here) in
    sym (is.stamped place below) ∙ ap (is_stamped marks' stamp) (sym same) ∙ fresh)
    ∙ ap (λ (b : Bool). cond (b && leaves_by net (port place number) lid) weight 0) (sym (on_more net lid start count at place is.comes)))
    is.grown more

pub ends_added : (net : NetState) (lid start weight count at : ℕ) (sums after : List ℕ) → count < switch_total net → ComesTo net lid start count at → Stays net lid at
    → GrowBy (so_far net lid start weight (count + 1)) sums after → GrowBy (on_way net lid start weight) sums after
ends_added net lid start weight count at sums after less comes stays grown =
    grow_same (so_far net lid start weight (count + 1)) (on_way net lid start weight) sums after
    (λ place number _ _. ap (λ (b : Bool). cond (b && leaves_by net (port place number) lid) weight 0)
    (sym (ap (is_on place) (way_ends net lid start count (switch_total net) at less comes stays))))
    grown

pub walks_on : (net : NetState) (lid start weight stamp : ℕ) (marks sums : List ℕ) (count at next : ℕ) (marks' sums' marked after : List ℕ)
    → IsWalked net lid start weight stamp marks sums count at marks' sums' → GoesTo net lid at next
    → length marked ≡ length marks' → ((other : ℕ) → other < length marks' → is_stamped marked stamp other ≡ (is_stamped marks' stamp other || (at == other)))
    → GrowBy (so_far net lid start weight (count + 1)) sums after
    → IsWalked net lid start weight stamp marks sums (count + 1) next marked after
walks_on net lid start weight stamp marks sums count at next marks' sums' marked after is goes long stamped grown = record {
  comes = comes_on net lid start count at next is.comes goes;
  long = long ∙ is.long;
  stamped = λ place within.
      stamped place (subst (λ (n : ℕ). place < n) (sym is.long) within) ∙ ap (λ (b : Bool). b || (at == place)) (is.stamped place within)
      ∙ sym (on_more net lid start count at place is.comes);
  grown = grown;
}

-- ---- what an entry says
pub is_free : (result stamped : Bool) → result ≡ not stamped → result ≡ true → stamped ≡ false
is_free result true is free = absurd (false≢true (sym is ∙ free))
is_free result false is free = refl

pub is_taken : (result stamped : Bool) → result ≡ not stamped → result ≡ false → stamped ≡ true
is_taken result true is taken = refl
is_taken result false is taken = absurd (false≢true (sym taken ∙ is))

pub no_out : (e : Entry) → ((number : ℕ) → e ≡ Out number → ⊥) → (number : ℕ) → is_out number e ≡ false
no_out (Out by) none number = absurd (none by refl)
no_out Missing none number = refl
no_out Unreported none number = refl

pub no_out_stays : (net : NetState) (place : ℕ) (e : Entry) → ((number : ℕ) → e ≡ Out number → ⊥) → (next : ℕ) → turn_by net place e ≡ turns.Goes next → ⊥
no_out_stays net place (Out by) none next goes = none by refl
no_out_stays net place Missing none next goes = cc
no_out_stays net place Unreported none next goes = cc
