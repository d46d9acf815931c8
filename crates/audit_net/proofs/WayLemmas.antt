-- Ways: what comes behind, and where they come back.
use Rattle.std.proofs.Common.{◌≡◌, ◌∙◌, inl, inr, ap, refl, subst, sym, ℕ, zero, suc, ◌+◌, ◌-◌, ◌<◌, ◌≤◌, Bool, true, false, ◌==◌, ◌||◌, List, [], ◌∷◌, ◌++◌, arith}
use Rattle.std.proofs.lemmas.Bool.{cases_Bool, eq-eqb, false≢true, or_right}
use Rattle.std.proofs.lemmas.Bool.Decides.{nat_tests}
use Rattle.std.proofs.lemmas.List.{append_assoc}
use Rattle.std.proofs.lemmas.List.Folds.{list_any-append}
use Rattle.audit_net.specs.declared.following.Turn.{Turn}
use Rattle.audit_net.specs.declared.following.Turn.TheVariants as turns
use Rattle.audit_net.specs.Following.{turn}
use Rattle.audit_net.specs.Laws.{GoesTo}
use Rattle.audit_net.specs.Net.{NetState}
use Rattle.audit_plan.specs.Plan.{is_on}
use Rattle.audit_net.specs.Ways.{then_on, way_within}

-- ---- the switch that packets come to behind so many
abbrev pub ComesTo : NetState → (lid start count at : ℕ) → Type 0
ComesTo net lid start count at = (more : ℕ) → way_within net lid (count + more) start ≡ way_within net lid count start ++ way_within net lid more at

abbrev pub Stays : NetState → (lid at : ℕ) → Type 0
Stays net lid at = (next : ℕ) → GoesTo net lid at next → ⊥

nothing_on : (turned : Turn) → then_on (λ next. []) turned ≡ []
nothing_on (turns.Goes next) = refl
nothing_on (turns.Arrives there) = refl
nothing_on turns.Hole = refl
nothing_on (turns.Nowhere number) = refl
nothing_on turns.Unknown = refl

one_alone : (net : NetState) (lid at : ℕ) → way_within net lid 1 at ≡ at ∷ []
one_alone net lid at = ap (λ (rest : List ℕ). at ∷ rest) (nothing_on (turn net lid at))

-- one more
pub way_more : (net : NetState) (lid start count at : ℕ) → ComesTo net lid start count at → way_within net lid (count + 1) start ≡ way_within net lid count start ++ at ∷ []
way_more net lid start count at comes = comes 1 ∙ ap (λ (rest : List ℕ). way_within net lid count start ++ rest) (one_alone net lid at)

pub goes_step : (net : NetState) (lid at next more : ℕ) → GoesTo net lid at next → way_within net lid (suc more) at ≡ at ∷ way_within net lid more next
goes_step net lid at next more goes = ap (λ (turned : Turn). at ∷ then_on (λ n. way_within net lid more n) turned) goes

pub comes_on : (net : NetState) (lid start count at next : ℕ) → ComesTo net lid start count at → GoesTo net lid at next → ComesTo net lid start (count + 1) next
comes_on net lid start count at next comes goes more =
    let same : count + 1 + more ≡ count + suc more = omega arith in
    ap (λ (n : ℕ). way_within net lid n start) same ∙ comes (suc more)
    ∙ ap (λ (rest : List ℕ). way_within net lid count start ++ rest) (goes_step net lid at next more goes)
    ∙ sym (append_assoc (way_within net lid count start) (at ∷ []) (way_within net lid more next))
    ∙ ap (λ (front : List ℕ). front ++ way_within net lid more next) (sym (way_more net lid start count at comes))

pub stays_alone : (rest : ℕ → List ℕ) (turned : Turn) → ((next : ℕ) → turned ≡ turns.Goes next → ⊥) → then_on rest turned ≡ []
stays_alone rest (turns.Goes next) stays = absurd (stays next refl)
stays_alone rest (turns.Arrives there) stays = refl
stays_alone rest turns.Hole stays = refl
stays_alone rest (turns.Nowhere number) stays = refl
stays_alone rest turns.Unknown stays = refl

-- where it ends there is nothing behind
pub way_ends : (net : NetState) (lid start count total at : ℕ) → count < total → ComesTo net lid start count at → Stays net lid at
    → way_within net lid total start ≡ way_within net lid (count + 1) start
way_ends net lid start count total at less comes stays =
    let all : total ≡ count + suc (total - (count + 1)) = omega (arith, less) in
    ap (λ (n : ℕ). way_within net lid n start) all ∙ comes (suc (total - (count + 1)))
    ∙ ap (λ (rest : List ℕ). way_within net lid count start ++ at ∷ rest) (stays_alone (λ n. way_within net lid (total - (count + 1)) n) (turn net lid at) stays)
    ∙ sym (way_more net lid start count at comes)

-- ---- each switch of a way goes on to one of it, or to the next
pub then_next : (one more : ℕ → List ℕ) (there next : ℕ) (turned : Turn) → ((n : ℕ) → is_on there (one n) ≡ true → is_on next (more n) ≡ true)
    → is_on there (then_on one turned) ≡ true → is_on next (then_on more turned) ≡ true
then_next one more there next (turns.Goes n) on is = on n is
then_next one more there next (turns.Arrives at) on is = absurd (false≢true is)
then_next one more there next turns.Hole on is = absurd (false≢true is)
then_next one more there next (turns.Nowhere number) on is = absurd (false≢true is)
then_next one more there next turns.Unknown on is = absurd (false≢true is)

pub next_on : (net : NetState) (lid count start there next : ℕ) → is_on there (way_within net lid count start) ≡ true → GoesTo net lid there next
    → is_on next (way_within net lid (suc count) start) ≡ true
next_on net lid zero start there next is goes = absurd (false≢true is)
next_on net lid (suc count) start there next is goes = elim (cases_Bool (start == there)) [
  | inl here ↦ let same : there ≡ start = grind (arith, nat_tests, here) in
      let goes_here : GoesTo net lid start next = subst (λ (n : ℕ). GoesTo net lid n next) same goes in
      let first : is_on next (next ∷ then_on (λ n. way_within net lid count n) (turn net lid next)) ≡ true = rw (eq-eqb next next refl) refl in
      ap (is_on next) (goes_step net lid start next (suc count) goes_here) ∙ or_right (start == next) _ first
  | inr other ↦ or_right (start == next) _
      (then_next (λ n. way_within net lid count n) (λ n. way_within net lid (suc count) n) there next (turn net lid start)
      (λ n on. next_on net lid count n there next on goes) (rw other at is))
]

-- ---- what goes on among some switches stays among them
then_in : (inside : ℕ → Bool) (rest : ℕ → List ℕ) (there : ℕ) (turned : Turn) → ((n : ℕ) → turned ≡ turns.Goes n → is_on there (rest n) ≡ true → inside there ≡ true)
    → is_on there (then_on rest turned) ≡ true → inside there ≡ true
then_in inside rest there (turns.Goes n) on is = on n refl is
then_in inside rest there (turns.Arrives at) on is = absurd (false≢true is)
then_in inside rest there turns.Hole on is = absurd (false≢true is)
then_in inside rest there (turns.Nowhere number) on is = absurd (false≢true is)
then_in inside rest there turns.Unknown on is = absurd (false≢true is)

pub stays_in : (net : NetState) (lid : ℕ) (inside : ℕ → Bool) → ((p n : ℕ) → inside p ≡ true → GoesTo net lid p n → inside n ≡ true)
    → (more at there : ℕ) → inside at ≡ true → is_on there (way_within net lid more at) ≡ true → inside there ≡ true
stays_in net lid inside closed zero at there from is = absurd (false≢true is)
stays_in net lid inside closed (suc more) at there from is = elim (cases_Bool (at == there)) [
  | inl here ↦ let same : at ≡ there = grind (arith, nat_tests, here) in subst (λ (n : ℕ). inside n ≡ true) same from
  | inr other ↦ then_in inside (λ n. way_within net lid more n) there (turn net lid at)
      (λ n goes on. stays_in net lid inside closed more n there (closed at n from goes) on) (rw other at is)
]

or_false : (b c : Bool) → (c ≡ true → b ≡ true) → (b || c) ≡ b
or_false true c same = refl
or_false false true same = sym (same refl)
or_false false false same = refl

-- where it comes back nothing new is behind
pub comes_back : (net : NetState) (lid start count total at there : ℕ) → count ≤ total → ComesTo net lid start count at
    → is_on at (way_within net lid count start) ≡ true
    → is_on there (way_within net lid total start) ≡ is_on there (way_within net lid count start)
comes_back net lid start count total at there less comes back =
    let front = way_within net lid count start in
    let rest = way_within net lid (total - count) at in
    let all : total ≡ count + (total - count) = omega (arith, less) in
    let whole : way_within net lid total start ≡ front ++ rest = ap (λ (n : ℕ). way_within net lid n start) all ∙ comes (total - count) in
    let next : suc count ≡ count + 1 = omega arith in
    let grown : way_within net lid (suc count) start ≡ front ++ at ∷ [] = ap (λ (n : ℕ). way_within net lid n start) next ∙ way_more net lid start count at comes in
    let closed : (p n : ℕ) → is_on p front ≡ true → GoesTo net lid p n → is_on n front ≡ true = (λ p n on goes.
    let one : is_on n (front ++ at ∷ []) ≡ true = ap (is_on n) (sym grown) ∙ next_on net lid count start p n on goes in
    let parts : (is_on n front || is_on n (at ∷ [])) ≡ true = sym (list_any-append (λ place. place == n) front (at ∷ [])) ∙ one in
    sym (or_false (is_on n front) (is_on n (at ∷ [])) (λ last. at_back front at n back last)) ∙ parts) in
    ap (is_on there) whole ∙ list_any-append (λ place. place == there) front rest
    ∙ or_false (is_on there front) (is_on there rest) (λ on. stays_in net lid (λ p. is_on p front) closed (total - count) at there back on)
  where
    at_back : (front : List ℕ) (at n : ℕ) → is_on at front ≡ true → is_on n (at ∷ []) ≡ true → is_on n front ≡ true
    at_back front at n back last = elim (cases_Bool (at == n)) [
      | inl here ↦ let same : at ≡ n = grind (arith, nat_tests, here) in subst (λ (k : ℕ). is_on k front ≡ true) same back
      | inr other ↦ absurd (false≢true (rw other at last))
    ]
