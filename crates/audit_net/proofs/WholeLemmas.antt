-- A way has all switches that packets come to, over however many.
use Rattle.std.proofs.Common.{◌≡◌, ◌∙◌, inl, inr, ap, refl, subst, sym, ℕ, zero, suc, Bool, true, ◌==◌, ◌⊎◌, List, [], ◌∷◌, length, map, arith}
use Rattle.std.proofs.lemmas.Bool.{cases_Bool, eq-eqb, false≢true, or_right}
use Rattle.std.proofs.lemmas.Bool.Decides.{nat_tests}
use Rattle.std.proofs.lemmas.List.{length-map}
use Rattle.std.specs.Cmp.{both_ways}
use Rattle.topo_file.specs.Connectivity.{switches}
use Rattle.topo_file.specs.Node.{is_switch_at}
use Rattle.audit_net.specs.declared.following.Turn.{Turn}
use Rattle.audit_net.specs.declared.following.Turn.TheVariants as turns
use Rattle.audit_net.specs.Following.{switch_total, turn}
use Rattle.audit_net.specs.Laws.{ComesBy, GoesTo}
use Rattle.audit_net.specs.Net.{NetState}
use Rattle.audit_net.proofs.EndlessLemmas.{below_at, below_map, map_alike, same_at, turn_goes}
use Rattle.audit_plan.proofs.PlaceLemmas.{is_listed}
use Rattle.audit_net.proofs.RoundLemmas.{AreGrowing, settled}
use Rattle.audit_net.specs.Laws.{WaysAreWhole}
use Rattle.audit_plan.specs.Plan.{is_on}
use Rattle.audit_net.specs.Ways.{then_on, way_within}
use Rattle.audit_net.proofs.WayLemmas.{next_on, stays_in, then_next}

abbrev on_way : NetState → (lid start count : ℕ) → ℕ → Bool
on_way net lid start count place = is_on place (way_within net lid count start)

-- ---- a way over some switches is as long
start_on : (net : NetState) (lid start count : ℕ) → on_way net lid start (suc count) start ≡ true
start_on net lid start count = rw (eq-eqb start start refl) refl

comes_within : (net : NetState) (lid start there : ℕ) (over : List ℕ) → ComesBy net lid start over there → on_way net lid start (suc (length over)) there ≡ true
comes_within net lid start there [] comes = subst (λ (n : ℕ). on_way net lid start 1 n ≡ true) comes (start_on net lid start 0)
comes_within net lid start there (next ∷ over) comes =
    ap (λ (turned : Turn). is_on there (start ∷ then_on (λ n. way_within net lid (suc (length over)) n) turned)) comes.0
    ∙ or_right (start == there) _ (comes_within net lid next there over comes.1)

-- ---- and what is on it is come to
then_comes : (net : NetState) (lid start there count : ℕ) (turned : Turn) → turn net lid start ≡ turned
    → ((next : ℕ) → on_way net lid next count there ≡ true → (over : List ℕ) × ComesBy net lid next over there)
    → is_on there (then_on (λ n. way_within net lid count n) turned) ≡ true → (over : List ℕ) × ComesBy net lid start over there
then_comes net lid start there count (turns.Goes next) is rest on = let found = rest next on in (next ∷ found.0, (is, found.1))
then_comes net lid start there count (turns.Arrives at) is rest on = absurd (false≢true on)
then_comes net lid start there count turns.Hole is rest on = absurd (false≢true on)
then_comes net lid start there count (turns.Nowhere number) is rest on = absurd (false≢true on)
then_comes net lid start there count turns.Unknown is rest on = absurd (false≢true on)

is_come_to : (net : NetState) (lid count start there : ℕ) → on_way net lid start count there ≡ true → (over : List ℕ) × ComesBy net lid start over there
is_come_to net lid zero start there on = absurd (false≢true on)
is_come_to net lid (suc count) start there on = elim (cases_Bool (start == there)) [
  | inl here ↦ let same : start ≡ there = grind (arith, nat_tests, here) in ([], same)
  | inr other ↦ then_comes net lid start there count (turn net lid start) refl (λ next more. is_come_to net lid count next there more) (rw other at on)
]

-- ---- more switches are on a longer way
grows : (net : NetState) (lid count start there : ℕ) → on_way net lid start count there ≡ true → on_way net lid start (suc count) there ≡ true
grows net lid zero start there on = absurd (false≢true on)
grows net lid (suc count) start there on = elim (cases_Bool (start == there)) [
  | inl here ↦ rw here refl
  | inr other ↦
      or_right (start == there) _
      (then_next (λ n. way_within net lid count n) (λ n. way_within net lid (suc count) n) there there (turn net lid start) (λ n more. grows net lid count n there more) (rw other at on))
]

-- ---- those on a way that is one longer: the first, and those to which one on it sends
abbrev IsBehind : NetState → (lid start count there : ℕ) → Type 0
IsBehind net lid start count there = (before : ℕ) × (on_way net lid start count before ≡ true) × GoesTo net lid before there

then_behind : (net : NetState) (lid start there count : ℕ) (turned : Turn) → turn net lid start ≡ turned
    → ((next : ℕ) → on_way net lid next (suc count) there ≡ true → (next ≡ there) ⊎ IsBehind net lid next count there)
    → is_on there (then_on (λ n. way_within net lid (suc count) n) turned) ≡ true → IsBehind net lid start (suc count) there
then_behind net lid start there count (turns.Goes next) is rest on = elim (rest next on) [
  | inl same ↦ (start, start_on net lid start count, subst (λ (n : ℕ). GoesTo net lid start n) same is)
  | inr behind ↦ (
    behind.0,
    ap (λ (turned : Turn). is_on behind.0 (start ∷ then_on (λ n. way_within net lid count n) turned)) is ∙ or_right (start == behind.0) _ behind.1,
    behind.2,
  )
]
then_behind net lid start there count (turns.Arrives at) is rest on = absurd (false≢true on)
then_behind net lid start there count turns.Hole is rest on = absurd (false≢true on)
then_behind net lid start there count (turns.Nowhere number) is rest on = absurd (false≢true on)
then_behind net lid start there count turns.Unknown is rest on = absurd (false≢true on)

nothing_behind : (rest : ℕ → List ℕ) (there : ℕ) (turned : Turn) → ((next : ℕ) → rest next ≡ []) → is_on there (then_on rest turned) ≡ true → ⊥
nothing_behind rest there (turns.Goes next) none on = false≢true (sym (ap (is_on there) (none next)) ∙ on)
nothing_behind rest there (turns.Arrives at) none on = false≢true on
nothing_behind rest there turns.Hole none on = false≢true on
nothing_behind rest there (turns.Nowhere number) none on = false≢true on
nothing_behind rest there turns.Unknown none on = false≢true on

came_from : (net : NetState) (lid count start there : ℕ) → on_way net lid start (suc count) there ≡ true → (start ≡ there) ⊎ IsBehind net lid start count there
came_from net lid zero start there on = elim (cases_Bool (start == there)) [
  | inl here ↦ let same : start ≡ there = grind (arith, nat_tests, here) in inl same
  | inr other ↦ absurd (nothing_behind (λ n. way_within net lid zero n) there (turn net lid start) (λ next. refl) (rw other at on))
]
came_from net lid (suc count) start there on = elim (cases_Bool (start == there)) [
  | inl here ↦ let same : start ≡ there = grind (arith, nat_tests, here) in inl same
  | inr other ↦ inr (then_behind net lid start there count (turn net lid start) refl (λ next more. came_from net lid count next there more) (rw other at on))
]

-- ---- all on a way from a switch are switches
pub are_switches : (net : NetState) (lid start count there : ℕ) → is_switch_at net.plan.nodes start ≡ true → on_way net lid start count there ≡ true
    → is_switch_at net.plan.nodes there ≡ true
are_switches net lid start count there from on =
    stays_in net lid (is_switch_at net.plan.nodes) (λ p n is goes. turn_goes net lid p n goes) count start there from on

-- ---- marks of the switches on it
abbrev marks : NetState → (lid start : ℕ) → ℕ → List Bool
marks net lid start count = map (on_way net lid start count) (switches net.plan.nodes)

goes_along : (net : NetState) (lid start n m there : ℕ) → is_switch_at net.plan.nodes start ≡ true → marks net lid start n ≡ marks net lid start m
    → on_way net lid start (suc n) there ≡ true → on_way net lid start (suc m) there ≡ true
goes_along net lid start n m there from same on = elim (came_from net lid n start there on) [
  | inl first ↦ subst (λ (k : ℕ). on_way net lid start (suc m) k ≡ true) first (start_on net lid start m)
  | inr behind ↦
      let listed = is_listed net.plan.nodes behind.0 (are_switches net lid start n behind.0 from behind.1) in
      let also = same_at (on_way net lid start n) (on_way net lid start m) behind.0 (switches net.plan.nodes) same listed in
      next_on net lid m start behind.0 there (sym also ∙ behind.1) behind.2
]

growing : (net : NetState) (lid start : ℕ) → is_switch_at net.plan.nodes start ≡ true → AreGrowing (marks net lid start) (switch_total net)
growing net lid start from = record {
  grows = λ n. below_map (on_way net lid start n) (on_way net lid start (suc n)) (switches net.plan.nodes) (λ place is. grows net lid n start place is);
  long = λ n. let same = length-map (switches net.plan.nodes) (on_way net lid start n) in omega (arith, same);
  follows = λ n m same.
      map_alike (on_way net lid start (suc n)) (on_way net lid start (suc m)) (switches net.plan.nodes)
      (λ place. both_ways _ _ (goes_along net lid start n m place from same) (goes_along net lid start m n place from (sym same)));
}

pub ways_are_whole : WaysAreWhole
ways_are_whole = record {
  comes = λ net lid place there over from comes.
      let on = comes_within net lid place there over comes in
      let listed = is_listed net.plan.nodes there (are_switches net lid place (suc (length over)) there from on) in
      below_at (on_way net lid place (suc (length over))) (on_way net lid place (switch_total net)) there (switches net.plan.nodes)
      (settled (marks net lid place) (switch_total net) (growing net lid place from) (suc (length over))) listed on;
  there = λ net lid place there on. is_come_to net lid (switch_total net) place there on;
}
