-- Cycles, as rounds of marks find them.
use Rattle.std.proofs.Common.{◌≡◌, ◌≢◌, ◌∙◌, ap, ap₂, refl, sym, ℕ, zero, suc, ◌+◌, ◌-◌, ◌<◌, ◌≤◌, ◌⊎◌, inl, inr, Bool, true, false, ◌==◌, ◌&&◌, ◌||◌, List, [], ◌∷◌, ◌++◌, length, map, get_or, find, arith, Option, Some, None, is_some, option_map}
use Rattle.std.specs.List.{enumerate_from, list_any, range_with_len}
use Rattle.std.proofs.lemmas.Bool.{and_from, and_parts, cases_Bool, eq-eqb, cases_lt, false_from_ne_true, false≢true, or_right}
use Rattle.std.proofs.lemmas.Bool.Decides.{nat_tests}
use Rattle.std.specs.Cmp.Lexicographic.{pointwise}
use Rattle.std.proofs.Math.Bool.{beq}
use Rattle.std.proofs.lemmas.List.{append-nil, append_assoc, length-map}
use Rattle.std.proofs.lemmas.Option.{same_Some}
use Rattle.step_results.proofs.FilterLemmas.{find_same}
use Rattle.step_results.proofs.RangeLemmas.{range_more}
use Rattle.step_results.proofs.BoolLemmas.{none_of}
use Rattle.step_results.proofs.ListLemmas.{any_alike}
use Rattle.topo_file.specs.Rounds.{is_marked}
use Rattle.audit_loops.specs.Cycle.{after, cycle_through, first_cycle, goes_home, leads, next_home, shortest, way}
use Rattle.audit_loops.specs.Marks.{IsHitBelow, KeepsCycles, both_marked, peeled, round, rounds, some_leads, some_marked}
use Rattle.audit_net.proofs.EndlessLemmas.{any_of, some_of}
use Rattle.audit_plan.proofs.RangeLemmas.{at_range}

-- ---- marks are what leads home
marked_map : {X : Type 0} (f : X → Bool) (xs : List X) (none : X) → f none ≡ false → (i : ℕ) → is_marked (map f xs) i ≡ f (get_or xs i none)
marked_map f [] none silent i = sym silent
marked_map f (x ∷ xs) none silent zero = refl
marked_map f (x ∷ xs) none silent (suc i) = marked_map f xs none silent i

or_alike : (a b c : Bool) → b ≡ c → (a || b) ≡ (a || c)
or_alike a b c same = ap (λ (d : Bool). a || d) same

pub marks_lead : (graph : List (List ℕ)) (home count a : ℕ) → is_marked (rounds graph home count) a ≡ leads graph count a home
marks_lead graph home zero a = marked_map (λ nexts. false) graph [] refl a
marks_lead graph home (suc count) a =
    marked_map (λ nexts. some_leads home (rounds graph home count) nexts) graph [] refl a
    ∙ any_alike (λ next. (next == home) || is_marked (rounds graph home count) next) (λ next. (next == home) || leads graph count next home)
    (λ next. or_alike (next == home) _ _ (marks_lead graph home count next)) (after graph a)

-- ---- what is found in a range
pub find_in : (test : ℕ → Bool) (low many n : ℕ) → find test (range_with_len low many) ≡ Some n → (test n ≡ true) × (n < low + many)
find_in test low zero n found = cc
find_in test low (suc many) n found = elim (cases_Bool (test low)) [
  | inl here ↦ let same : low ≡ n = same_Some low n (rw here at found) in (ap test (sym same) ∙ here, omega (arith, same))
  | inr other ↦ let rest = find_in test (low + 1) many n (rw other at found) in (rest.0, omega (arith, rest.1))
]

pub find_none : (test : ℕ → Bool) (low many : ℕ) → ((k : ℕ) → low ≤ k → k < low + many → test k ≡ false) → find test (range_with_len low many) ≡ None
find_none test low zero fails = refl
find_none test low (suc many) fails =
    rw (fails low (omega arith) (omega arith)) (find_none test (low + 1) many (λ k from to. fails k (omega (arith, from)) (omega (arith, to))))

pub find_first : (test : ℕ → Bool) (low many n : ℕ) → n < many → ((k : ℕ) → low ≤ k → k < low + n → test k ≡ false) → test (low + n) ≡ true
    → find test (range_with_len low many) ≡ Some (low + n)
find_first test low zero n within fails here = absurd (omega (arith, within))
find_first test low (suc many) zero within fails here =
    let same : low + 0 ≡ low = omega arith in
    let now : test low ≡ true = ap test (sym same) ∙ here in
    rw (now, same) refl
find_first test low (suc many) (suc n) within fails here =
    let same : (low + 1) + n ≡ low + suc n = omega arith in
    let not_yet : test low ≡ false = fails low (omega arith) (omega arith) in
    let later = find_first test (low + 1) many n (omega (arith, within)) (λ k from to. fails k (omega (arith, from)) (omega (arith, to))) (ap test same ∙ here) in
    rw not_yet (later ∙ ap (λ (k : ℕ). Some k) same)

some_by : (o : Option ℕ) → is_some o ≡ true → (n : ℕ) × (o ≡ Some n)
some_by (Some n) is = (n, refl)
some_by None is = absurd (false≢true is)

pub find_there : (test : ℕ → Bool) (low many n : ℕ) → low ≤ n → n < low + many → test n ≡ true → is_some (find test (range_with_len low many)) ≡ true
find_there test low zero n from to here = absurd (omega (arith, from, to))
find_there test low (suc many) n from to here = elim (cases_Bool (test low)) [
  | inl first ↦ rw first refl
  | inr other ↦
      let apart : low ≢ n = λ same. false≢true (sym other ∙ ap test same ∙ here) in
      rw other (find_there test (low + 1) many n (omega (arith, from, apart)) (omega (arith, to)) here)
]

-- ---- one dependency more at the end of a way
pub leads_on : (graph : List (List ℕ)) (count a b c : ℕ) → leads graph count a b ≡ true → list_any (λ y. y == c) (after graph b) ≡ true → leads graph (suc count) a c ≡ true
leads_on graph zero a b c way last = absurd (false≢true way)
leads_on graph (suc count) a b c way last =
    let next = some_of (λ next. (next == b) || leads graph count next b) (after graph a) way in
    any_of (λ other. (other == c) || leads graph (suc count) other c) (after graph a) next.0 next.2 (or_right (next.0 == c) _ (elim (cases_Bool (next.0 == b)) [
      | inl here ↦ let same : next.0 ≡ b = grind (arith, nat_tests, here) in
          rw same (any_of (λ other. (other == c) || leads graph count other c) (after graph b) c last (let is : (c == c) ≡ true = eq-eqb c c refl in rw is refl))
      | inr other ↦ leads_on graph count next.0 b c (rw other at next.1) last
    ]))

-- ---- what is on a cycle depends on something that is on one too
at_once : (graph : List (List ℕ)) (a : ℕ) → is_some (shortest graph a) ≡ true → (count : ℕ) × (leads graph count a a ≡ true) × (count < length graph + 1)
at_once graph a on =
    let found = some_by (shortest graph a) on in
    let parts = find_in (λ count. leads graph count a a) 0 (length graph + 1) found.0 found.1 in
    (found.0, parts.0, omega (arith, parts.1))

on_cycle : (graph : List (List ℕ)) (a count : ℕ) → leads graph count a a ≡ true → count < length graph + 1 → is_some (shortest graph a) ≡ true
on_cycle graph a count comes within = find_there (λ n. leads graph n a a) 0 (length graph + 1) count (omega arith) (omega (arith, within)) comes

next_on_cycle : (graph : List (List ℕ)) (a : ℕ) → is_some (shortest graph a) ≡ true → list_any (λ next. is_some (shortest graph next)) (after graph a) ≡ true
next_on_cycle graph a on =
    let cycle = at_once graph a on in
    by cycle.0 cycle.1 cycle.2
  where
    by : (count : ℕ) → leads graph count a a ≡ true → count < length graph + 1 → list_any (λ next. is_some (shortest graph next)) (after graph a) ≡ true
    by zero comes within = absurd (false≢true comes)
    by (suc count) comes within =
        let next = some_of (λ next. (next == a) || leads graph count next a) (after graph a) comes in
        any_of (λ other. is_some (shortest graph other)) (after graph a) next.0 next.2 (elim (cases_Bool (next.0 == a)) [
          | inl here ↦ let same : next.0 ≡ a = grind (arith, nat_tests, here) in rw same on
          | inr other ↦ on_cycle graph next.0 (suc count) (leads_on graph count next.0 a next.0 (rw other at next.1) next.2) within
        ])

within_graph : (p : ℕ → Bool) (graph : List (List ℕ)) (a : ℕ) → list_any p (get_or graph a []) ≡ true → a < length graph
within_graph p [] a some = absurd (false≢true some)
within_graph p (first ∷ rest) zero some = omega arith
within_graph p (first ∷ rest) (suc a) some = let later = within_graph p rest a some in omega (arith, later)

marked_at : {X : Type 0} (f : ℕ × X → Bool) (low : ℕ) (xs : List X) (i k : ℕ) (none : X) → low + i ≡ k → i < length xs → is_marked (map f (enumerate_from low xs)) i ≡ f (k, get_or xs i none)
marked_at f low [] i k none is within = absurd (omega (arith, within))
marked_at f low (x ∷ xs) zero k none is within = let same : low ≡ k = omega (arith, is) in rw same refl
marked_at f low (x ∷ xs) (suc i) k none is within = marked_at f (low + 1) xs i k none (omega (arith, is)) (omega (arith, within))

marked_all : {X : Type 0} (xs : List X) (i : ℕ) → i < length xs → is_marked (map (λ x. true) xs) i ≡ true
marked_all [] i within = absurd (omega (arith, within))
marked_all (x ∷ xs) zero within = refl
marked_all (x ∷ xs) (suc i) within = marked_all xs i (omega (arith, within))

pub keeps_all : (graph : List (List ℕ)) → KeepsCycles graph (map (λ nexts. true) graph)
keeps_all graph a on = marked_all graph a (within_graph (λ next. is_some (shortest graph next)) graph a (next_on_cycle graph a on))

pub keeps_peeled : (graph : List (List ℕ)) (marks : List Bool) → KeepsCycles graph marks → KeepsCycles graph (peeled graph marks)
keeps_peeled graph marks keeps a on =
    let some = next_on_cycle graph a on in
    let within = within_graph (λ next. is_some (shortest graph next)) graph a some in
    let next = some_of (λ next. is_some (shortest graph next)) (after graph a) some in
    marked_at (λ p. is_marked marks p.0 && some_marked marks p.1) 0 graph a a [] (omega arith) within
    ∙ and_from (is_marked marks a) _ (keeps a on) (any_of (λ n. is_marked marks n) (after graph a) next.0 next.2 (keeps next.0 next.1))

-- ---- rounds home
pub record AreRounds (graph : List (List ℕ)) (home count : ℕ) (before : List (List Bool)) (marks : List Bool) : Type 0 where
  pub so_far : before ≡ map (rounds graph home) (range_with_len 0 count)
  pub now : marks ≡ rounds graph home count
  pub not_home : (k : ℕ) → k < count → leads graph k home home ≡ false

pub rounds_step : (graph : List (List ℕ)) (home count : ℕ) (before : List (List Bool)) (marks next : List Bool) → AreRounds graph home count before marks
    → is_marked marks home ≡ false → next ≡ round graph home marks → AreRounds graph home (count + 1) (before ++ marks ∷ []) next
rounds_step graph home count before marks next state away step =
    let more : count + 1 ≡ suc count = omega arith in
    let none_before : 0 + count ≡ count = omega arith in
    record {
      so_far =
          ap₂ (λ (xs : List (List Bool)) (x : List Bool). xs ++ x ∷ []) state.so_far state.now
          ∙ sym (ap (λ (n : ℕ). map (rounds graph home) (range_with_len 0 n)) more ∙ ap (map (rounds graph home)) (range_more 0 count ∙ ap (λ (n : ℕ). range_with_len 0 count ++ n ∷ []) none_before)
          ∙ map_joined (rounds graph home) (range_with_len 0 count) count);
      now = rw more (step ∙ ap (round graph home) state.now);
      not_home = λ k less. elim (cases_Bool (k == count)) [
        | inl here ↦ let same : k ≡ count = grind (arith, nat_tests, here) in
            rw same (sym (marks_lead graph home count home) ∙ ap (λ (m : List Bool). is_marked m home) (sym state.now) ∙ away)
        | inr other ↦ let apart : k ≢ count = (λ e. let is : (k == count) ≡ true = eq-eqb k count e in false≢true (sym other ∙ is)) in state.not_home k (omega (arith, less, apart))
      ];
    }
  where
    map_joined : (f : ℕ → List Bool) (xs : List ℕ) (x : ℕ) → map f (xs ++ x ∷ []) ≡ map f xs ++ f x ∷ []
    map_joined f [] x = refl
    map_joined f (y ∷ ys) x = ap (λ (rest : List (List Bool)). f y ∷ rest) (map_joined f ys x)

length_range : (low many : ℕ) → length (range_with_len low many) ≡ many
length_range low zero = refl
length_range low (suc many) = ap suc (length_range (low + 1) many)

length_rounds : (graph : List (List ℕ)) (home count : ℕ) (before : List (List Bool)) (marks : List Bool) → AreRounds graph home count before marks → length before ≡ count
length_rounds graph home count before marks state =
    ap length state.so_far ∙ length-map (range_with_len 0 count) (rounds graph home) ∙ length_range 0 count

pub comes_home : (graph : List (List ℕ)) (home count : ℕ) (before : List (List Bool)) (marks : List Bool) → count < length graph + 1 → AreRounds graph home count before marks
    → is_marked marks home ≡ true → Some (length before) ≡ shortest graph home
comes_home graph home count before marks within state here =
    let none_before : 0 + count ≡ count = omega arith in
    let comes : leads graph (0 + count) home home ≡ true =
    ap (λ (n : ℕ). leads graph n home home) none_before ∙ sym (marks_lead graph home count home) ∙ ap (λ (m : List Bool). is_marked m home) (sym state.now) ∙ here in
    ap (λ (n : ℕ). Some n) (length_rounds graph home count before marks state ∙ sym none_before)
    ∙ sym (find_first (λ n. leads graph n home home) 0 (length graph + 1) count within (λ k from to. state.not_home k (omega (arith, to))) comes)

pub all_before : (graph : List (List ℕ)) (home count : ℕ) (before : List (List Bool)) (marks : List Bool) → AreRounds graph home count before marks
    → before ≡ map (rounds graph home) (range_with_len 0 (length before))
all_before graph home count before marks state =
    state.so_far ∙ ap (λ (n : ℕ). map (rounds graph home) (range_with_len 0 n)) (sym (length_rounds graph home count before marks state))

same_from : (graph : List (List ℕ)) (home count : ℕ) → rounds graph home (suc count) ≡ rounds graph home count → (n : ℕ) → count ≤ n → rounds graph home n ≡ rounds graph home count
same_from graph home count stable zero least = let same : count ≡ 0 = omega (arith, least) in rw same refl
same_from graph home count stable (suc n) least = elim (cases_lt count (suc n)) [
  | inl less ↦ ap (round graph home) (same_from graph home count stable n (omega (arith, less))) ∙ stable
  | inr more ↦ let same : count ≡ suc n = omega (arith, least, more) in rw same refl
]

pub stays_away : (graph : List (List ℕ)) (home count : ℕ) (before : List (List Bool)) (marks next : List Bool) → AreRounds graph home count before marks
    → is_marked marks home ≡ false → next ≡ round graph home marks → next ≡ marks → None ≡ shortest graph home
stays_away graph home count before marks next state away step same =
    let stable : rounds graph home (suc count) ≡ rounds graph home count = ap (round graph home) (sym state.now) ∙ sym step ∙ same ∙ state.now in
    let here : leads graph count home home ≡ false = sym (marks_lead graph home count home) ∙ ap (λ (m : List Bool). is_marked m home) (sym state.now) ∙ away in
    sym (find_none (λ n. leads graph n home home) 0 (length graph + 1) (λ k from to. elim (cases_lt k count) [
      | inl less ↦ state.not_home k less
      | inr least ↦
          sym (marks_lead graph home k home) ∙ ap (λ (m : List Bool). is_marked m home) (same_from graph home count stable k least) ∙ marks_lead graph home count home ∙ here
    ]))

pub never_home : (graph : List (List ℕ)) (home count : ℕ) (before : List (List Bool)) (marks : List Bool) → AreRounds graph home count before marks
    → length graph + 1 ≤ count → None ≡ shortest graph home
never_home graph home count before marks state ended =
    sym (find_none (λ n. leads graph n home home) 0 (length graph + 1) (λ k from to. state.not_home k (omega (arith, to, ended))))

-- ---- lists of marks
pub same_marks : (E : Bool → Bool → Bool) → ((a b : Bool) → E a b ≡ true → a ≡ b) → (xs ys : List Bool) → pointwise E xs ys ≡ true → xs ≡ ys
same_marks E same [] [] all = refl
same_marks E same [] (y ∷ ys) all = absurd (false≢true all)
same_marks E same (x ∷ xs) [] all = absurd (false≢true all)
same_marks E same (x ∷ xs) (y ∷ ys) all =
    let parts = and_parts (E x y) _ all in
    ap₂ (λ (z : Bool) (zs : List Bool). z ∷ zs) (same x y parts.0) (same_marks E same xs ys parts.1)

pub beq_is : (a b : Bool) → beq a b ≡ true → a ≡ b
beq_is true true same = refl
beq_is false false same = refl
beq_is true false same = absurd (false≢true same)
beq_is false true same = absurd (false≢true same)

pub home_by_marks : (graph : List (List ℕ)) (home count place : ℕ) (before : List (List Bool)) (marks : List Bool) → before ≡ map (rounds graph home) (range_with_len 0 (length before))
    → count < length before → marks ≡ get_or before count marks
    → find (λ next. (next == home) || is_marked marks next) (after graph place) ≡ next_home graph count place home
home_by_marks graph home count place before marks all within is =
    let same : marks ≡ rounds graph home count =
    is ∙ ap (λ (ms : List (List Bool)). get_or ms count marks) all ∙ at_range (rounds graph home) 0 (length before) count count marks (omega arith) within in
    find_same (λ next. (next == home) || is_marked marks next) (λ next. (next == home) || leads graph count next home)
    (λ next. or_alike (next == home) _ _ (ap (λ (m : List Bool). is_marked m next) same ∙ marks_lead graph home count next)) (after graph place)

pub ring_ends : (graph : List (List ℕ)) (count place home : ℕ) (ring whole : List ℕ) → 0 < count → goes_home home (λ next. way graph (count - 1) next home) (next_home graph (count - 1) place home) ≡ []
    → ring ++ way graph count place home ≡ whole → ring ≡ whole
ring_ends graph zero place home ring whole some ends so_far = absurd (omega (arith, some))
ring_ends graph (suc count) place home ring whole some ends so_far =
    let less : suc count - 1 ≡ count = omega arith in
    let none : way graph (suc count) place home ≡ [] = rw less at ends in
    sym (append-nil ring) ∙ ap (λ (rest : List ℕ). ring ++ rest) (sym none) ∙ so_far

pub ring_goes_on : (graph : List (List ℕ)) (count place home next : ℕ) (ring whole : List ℕ) → 0 < count → next_home graph (count - 1) place home ≡ Some next → (next == home) ≡ false
    → ring ++ way graph count place home ≡ whole → (ring ++ next ∷ []) ++ way graph (count - 1) next home ≡ whole
ring_goes_on graph zero place home next ring whole some goes away so_far = absurd (omega (arith, some))
ring_goes_on graph (suc count) place home next ring whole some goes away so_far =
    let less : suc count - 1 ≡ count = omega arith in
    let found : next_home graph count place home ≡ Some next = rw less at goes in
    let step : way graph (suc count) place home ≡ next ∷ way graph count next home = rw (found, away) refl in
    rw less (append_assoc ring (next ∷ []) (way graph count next home) ∙ ap (λ (rest : List ℕ). ring ++ rest) (sym step) ∙ so_far)

-- ---- the first that is on a cycle
range_next : (place many : ℕ) → place < many → range_with_len place (many - place) ≡ place ∷ range_with_len (place + 1) (many - (place + 1))
range_next place many less =
    let left : many - place ≡ suc (many - (place + 1)) = omega (arith, less) in
    rw left refl

pub not_through : (graph : List (List ℕ)) (place : ℕ) (whole : Option (List ℕ)) → place < length graph → cycle_through graph place ≡ None
    → first_cycle graph (range_with_len place (length graph - place)) ≡ whole → first_cycle graph (range_with_len (place + 1) (length graph - (place + 1))) ≡ whole
not_through graph place whole less none so_far =
    sym (ap (first_cycle graph) (range_next place (length graph) less) ∙ (rw none refl)) ∙ so_far

pub first_through : (graph : List (List ℕ)) (place : ℕ) (ring : List ℕ) (whole : Option (List ℕ)) → place < length graph → cycle_through graph place ≡ Some ring
    → first_cycle graph (range_with_len place (length graph - place)) ≡ whole → Some ring ≡ whole
first_through graph place ring whole less some so_far =
    sym (ap (first_cycle graph) (range_next place (length graph) less) ∙ (rw some refl)) ∙ so_far

-- what is taken off is on none
pub none_through : (graph : List (List ℕ)) (marks : List Bool) (place : ℕ) → KeepsCycles graph marks → is_marked marks place ≡ false → cycle_through graph place ≡ None
none_through graph marks place keeps off =
    let away : is_some (shortest graph place) ≡ false = false_from_ne_true _ (λ on. false≢true (sym off ∙ keeps place on)) in
    ap (option_map (λ count. place ∷ way graph count place place)) (none_of (shortest graph place) away)

-- ---- what is on a cycle is what something on one depends on
last_step : (graph : List (List ℕ)) (count x a : ℕ) → leads graph (suc count) x a ≡ true → (c : ℕ) × (list_any (λ next. next == a) (after graph c) ≡ true) × ((c ≡ x) ⊎ (leads graph count x c ≡ true))
last_step graph zero x a comes =
    let next = some_of (λ n. (n == a) || false) (after graph x) comes in
    (x, any_of (λ n. n == a) (after graph x) next.0 next.2 (or_left (next.0 == a) next.1), inl refl)
  where
    or_left : (b : Bool) → (b || false) ≡ true → b ≡ true
    or_left true is = refl
    or_left false is = is
last_step graph (suc count) x a comes =
    let next = some_of (λ n. (n == a) || leads graph (suc count) n a) (after graph x) comes in
    elim (cases_Bool (next.0 == a)) [
      | inl here ↦ (x, any_of (λ n. n == a) (after graph x) next.0 next.2 here, inl refl)
      | inr other ↦
          let later = last_step graph count next.0 a (rw other at next.1) in
          elim later.2 [
            | inl same ↦ (
              later.0,
              later.1,
              inr (any_of (λ n. (n == later.0) || leads graph count n later.0) (after graph x) next.0 next.2
                  (let is : (next.0 == later.0) ≡ true = eq-eqb next.0 later.0 (sym same) in rw is refl)),
            )
            | inr leads_there ↦ (later.0, later.1, inr (any_of (λ n. (n == later.0) || leads graph count n later.0) (after graph x) next.0 next.2 (or_right (next.0 == later.0) _ leads_there)))
          ]
    ]

before_on_cycle : (graph : List (List ℕ)) (a : ℕ) → is_some (shortest graph a) ≡ true → (c : ℕ) × (list_any (λ next. next == a) (after graph c) ≡ true) × (is_some (shortest graph c) ≡ true)
before_on_cycle graph a on =
    let cycle = at_once graph a on in
    by cycle.0 cycle.1 cycle.2
  where
    by : (count : ℕ) → leads graph count a a ≡ true → count < length graph + 1 → (c : ℕ) × (list_any (λ next. next == a) (after graph c) ≡ true) × (is_some (shortest graph c) ≡ true)
    by zero comes within = absurd (false≢true comes)
    by (suc count) comes within =
        let last = last_step graph count a a comes in (
          last.0,
          last.1,
          elim last.2 [
            | inl same ↦ rw same on
            | inr there ↦ on_cycle graph last.0 (suc count)
                (any_of (λ n. (n == last.0) || leads graph count n last.0) (after graph last.0) a last.1 (or_right (a == last.0) _ there)) within
          ],
        )

marked_both : (marks hits : List Bool) (low : ℕ) (i k : ℕ) → low + i ≡ k → is_marked marks i ≡ true → is_marked hits k ≡ true
    → is_marked (map (λ p. p.1 && is_marked hits p.0) (enumerate_from low marks)) i ≡ true
marked_both [] hits low i k is one other = one
marked_both (m ∷ marks) hits low zero k is one other = let same : low ≡ k = omega (arith, is) in and_from m _ one (ap (is_marked hits) same ∙ other)
marked_both (m ∷ marks) hits low (suc i) k is one other = marked_both marks hits (low + 1) i k (omega (arith, is)) one other

pub keeps_both : (graph : List (List ℕ)) (marks hits : List Bool) → KeepsCycles graph marks → length hits ≡ length graph → IsHitBelow graph marks (length graph) hits → KeepsCycles graph (both_marked marks hits)
keeps_both graph marks hits keeps long hit a on =
    let before = before_on_cycle graph a on in
    let within = within_graph (λ next. is_some (shortest graph next)) graph a (next_on_cycle graph a on) in
    let there = within_graph (λ next. is_some (shortest graph next)) graph before.0 (next_on_cycle graph before.0 before.2) in
    marked_both marks hits 0 a a (omega arith) (keeps a on) (hit before.0 a there (omega (arith, within, long)) (keeps before.0 before.2) before.1)

-- ---- hits
pub record AreHit (before : List Bool) (nexts : List ℕ) (hits : List Bool) : Type 0 where
  pub long : length hits ≡ length before
  pub kept : (other : ℕ) → is_marked before other ≡ true → is_marked hits other ≡ true
  pub all : (d : ℕ) → d < length before → list_any (λ next. next == d) nexts ≡ true → is_marked hits d ≡ true
