-- The top switches are those that are farthest from hosts.
use Rattle.std.proofs.Common.{ℕ, ◌≡◌, ◌∙◌, ◌+◌, ◌<◌, ◌≤◌, ◌==◌, ◌&&◌, ap, inl, inr, refl, sym, Bool, true, false, not, List, [], ◌∷◌, filter, length, nat_lt, if◌then◌else◌, arith}
use Rattle.std.specs.List.{fold, range_with_len}
use Rattle.std.proofs.lemmas.Bool.{and_from, and_parts, cases_Bool, eq-eqb, eqb-true, false≢true, lt-ltb}
use Rattle.std.proofs.lemmas.Bool.Decides.{nat_tests}
use Rattle.std.proofs.lemmas.Map.Views.{any-filter_same}
use Rattle.topo_file.specs.Connectivity.{switches}
use Rattle.topo_file.specs.Node.{is_switch_at}
use Rattle.topo_file.specs.declared.node.Node.{Node}
use Rattle.audit_plan.specs.Attached.{carries_host}
use Rattle.audit_plan.specs.Laws.{IsFarthest, TopsAreFarthest}
use Rattle.audit_plan.specs.Levels.{level_at, level_of, levels_of}
use Rattle.audit_plan.specs.Plan.{PlanState, is_on}
use Rattle.audit_plan.specs.Tops.{higher, is_top, top_of, top_switches, tops_by}
use Rattle.audit_plan.proofs.LevelLemmas.{at_most_by, levels_say, near_at}
use Rattle.audit_plan.proofs.PlaceLemmas.{filter_alike, is_listed}

-- ---- the same levels have the same tops
top_alike : (f g : ℕ → ℕ) → ((place : ℕ) → f place ≡ g place) → (most : ℕ) (places : List ℕ) → fold (higher f) most places ≡ fold (higher g) most places
top_alike f g same most [] = refl
top_alike f g same most (place ∷ places) =
    ap (λ (level : ℕ). fold (higher f) (if nat_lt most level && nat_lt level 16 then level else most) places) (same place)
    ∙ top_alike f g same (higher g most place) places

tops_alike : (f g : ℕ → ℕ) → ((place : ℕ) → f place ≡ g place) → (places : List ℕ) → tops_by f places ≡ tops_by g places
tops_alike f g same places =
    ap (λ (top : ℕ). filter (is_top f top) places) (top_alike f g same 0 places)
    ∙ filter_alike (is_top f (top_of g places)) (is_top g (top_of g places))
    (λ place. ap (λ (level : ℕ). (level == top_of g places) && not (top_of g places == 0)) (same place)) places

pub tops_are : (plan : PlanState) (levels tops : List ℕ) → levels ≡ levels_of plan → tops ≡ tops_by (level_at levels) (switches plan.nodes)
    → tops ≡ top_switches plan
tops_are plan levels tops is tops_is =
    tops_is ∙ ap (λ (l : List ℕ). tops_by (level_at l) (switches plan.nodes)) is
    ∙ tops_alike (level_at (levels_of plan)) (level_of plan) (levels_say plan) (switches plan.nodes)

-- ---- the greatest level
higher_both : (level : ℕ → ℕ) (most place : ℕ) → (most ≤ higher level most place) × (level place < 16 → level place ≤ higher level most place)
higher_both level most place = elim (cases_Bool (nat_lt most (level place) && nat_lt (level place) 16)) [
  | inl up ↦
      let both = and_parts (nat_lt most (level place)) (nat_lt (level place) 16) up in
      let more : most < level place = grind (arith, nat_tests, both.0) in
      rw up (omega (arith, more), λ low. omega arith)
  | inr off ↦ rw off (omega arith, λ low. not_more low off)
]
  where
    not_more : level place < 16 → (nat_lt most (level place) && nat_lt (level place) 16) ≡ false → level place ≤ most
    not_more low off = elim (cases_Bool (nat_lt most (level place))) [
      | inl more ↦ absurd (false≢true (sym off ∙ and_from (nat_lt most (level place)) (nat_lt (level place) 16) more (lt-ltb (level place) 16 low)))
      | inr less ↦ grind (arith, nat_tests, less)
    ]

higher_low : (level : ℕ → ℕ) (bound most place : ℕ) → most < bound → (level place < 16 → level place < bound) → higher level most place < bound
higher_low level bound most place low each = elim (cases_Bool (nat_lt most (level place) && nat_lt (level place) 16)) [
  | inl up ↦
      let both = and_parts (nat_lt most (level place)) (nat_lt (level place) 16) up in
      let has : level place < 16 = grind (arith, nat_tests, both.1) in
      rw up (each has)
  | inr off ↦ rw off low
]

grows : (level : ℕ → ℕ) (most : ℕ) (places : List ℕ) → most ≤ fold (higher level) most places
grows level most [] = omega arith
grows level most (place ∷ places) =
    let here = (higher_both level most place).0 in
    let rest = grows level (higher level most place) places in
    omega (arith, here, rest)

-- no switch is above it
none_above : (level : ℕ → ℕ) (most place : ℕ) (places : List ℕ) → is_on place places ≡ true → level place < 16 → level place ≤ fold (higher level) most places
none_above level most place [] there low = absurd (false≢true there)
none_above level most place (first ∷ places) there low = elim (cases_Bool (first == place)) [
  | inl here ↦
      let same : place ≡ first = sym (eqb-true first place here) in
      let up = (higher_both level most first).1 (rw same at low) in
      let rest = grows level (higher level most first) places in
      rw same (omega (arith, up, rest))
  | inr other ↦ none_above level (higher level most first) place places (rw other at there) low
]

-- it is below what is above all of them
below : (level : ℕ → ℕ) (bound most : ℕ) (places : List ℕ) → most < bound
    → ((place : ℕ) → is_on place places ≡ true → level place < 16 → level place < bound) → fold (higher level) most places < bound
below level bound most [] low each = low
below level bound most (first ∷ places) low each =
    below level bound (higher level most first) places (higher_low level bound most first low (each first (first_on first places)))
    (λ place there. each place (later place there))
  where
    first_on : (n : ℕ) (rest : List ℕ) → is_on n (n ∷ rest) ≡ true
    first_on n rest = let same : (n == n) ≡ true = eq-eqb n n refl in rw same refl

    later : (place : ℕ) → is_on place places ≡ true → is_on place (first ∷ places) ≡ true
    later place there = elim (cases_Bool (first == place)) [
      | inl here ↦ rw here refl
      | inr other ↦ rw other there
    ]

-- ---- what is on the list
on_switches : (nodes : List Node) (place : ℕ) → is_on place (switches nodes) ≡ true → is_switch_at nodes place ≡ true
on_switches nodes place there =
    (and_parts (is_switch_at nodes place) (is_on place (range_with_len 0 (length nodes)))
    (sym (any-filter_same (λ n. n == place) (is_switch_at nodes) (is_switch_at nodes place) (λ n same. ap (is_switch_at nodes) (eqb-true n place same))
    (range_with_len 0 (length nodes))) ∙ there)).0

on_tops : (plan : PlanState) (place : ℕ)
    → is_on place (top_switches plan) ≡ (is_top (level_of plan) (top_of (level_of plan) (switches plan.nodes)) place && is_on place (switches plan.nodes))
on_tops plan place =
    let test = is_top (level_of plan) (top_of (level_of plan) (switches plan.nodes)) in
    any-filter_same (λ n. n == place) test (test place) (λ n same. ap test (eqb-true n place same)) (switches plan.nodes)

-- ---- the law
is_farthest : (plan : PlanState) (place : ℕ) → is_on place (top_switches plan) ≡ true → IsFarthest plan place
is_farthest plan place there =
    let all = switches plan.nodes in
    let top = top_of (level_of plan) all in
    let parts = and_parts (is_top (level_of plan) top place) (is_on place all) (sym (on_tops plan place) ∙ there) in
    let tests = and_parts (level_of plan place == top) (not (top == 0)) parts.0 in
    let is : level_of plan place ≡ top = eqb-true (level_of plan place) top tests.0 in
    let low : top < 16 = below (level_of plan) 16 0 all (omega arith) (λ other on has. has) in
    record {
      switch = on_switches plan.nodes place parts.1;
      hostless = elim (cases_Bool (carries_host plan place)) [
        | inl near ↦
            let least = at_most_by plan place 0 near in
            let none : top ≡ 0 = omega (arith, least, is) in
            absurd (false≢true (sym (ap (λ (b : Bool). not b) (eq-eqb top 0 none)) ∙ tests.1))
        | inr far ↦ far
      ];
      has_level = omega (arith, is, low);
      farthest = λ other switch has.
          let most = none_above (level_of plan) 0 other all (is_listed plan.nodes other switch) has in omega (arith, most, is);
    }

is_found : (plan : PlanState) (place : ℕ) → IsFarthest plan place → is_on place (top_switches plan) ≡ true
is_found plan place farthest =
    let all = switches plan.nodes in
    let top = top_of (level_of plan) all in
    let on = is_listed plan.nodes place farthest.switch in
    let most = none_above (level_of plan) 0 place all on farthest.has_level in
    let least : top < level_of plan place + 1 =
    below (level_of plan) (level_of plan place + 1) 0 all (omega arith)
    (λ other there has. let up = farthest.farthest other (on_switches plan.nodes other there) has in omega (arith, up)) in
    let same : level_of plan place ≡ top = omega (arith, most, least) in
    on_tops plan place
    ∙ and_from (is_top (level_of plan) top place) (is_on place all)
    (and_from (level_of plan place == top) (not (top == 0)) (eq-eqb (level_of plan place) top same) (above_0 same)) on
  where
    above_0 : level_of plan place ≡ top_of (level_of plan) (switches plan.nodes) → not (top_of (level_of plan) (switches plan.nodes) == 0) ≡ true
    above_0 same = elim (cases_Bool (top_of (level_of plan) (switches plan.nodes) == 0)) [
      | inr up ↦ rw up refl
      | inl none ↦
          let is : level_of plan place ≡ 0 = same ∙ eqb-true (top_of (level_of plan) (switches plan.nodes)) 0 none in
          let near = near_at plan place farthest.has_level in
          absurd (false≢true (sym farthest.hostless ∙ rw is at near))
    ]

pub tops_are_farthest : TopsAreFarthest
tops_are_farthest = record { only = is_farthest; all = is_found }
