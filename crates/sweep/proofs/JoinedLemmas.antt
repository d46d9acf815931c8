-- A graph each switch of which, but the first, has a link to an earlier one: links join all its switches.
use Rattle.std.proofs.Common.{◌≡◌, ℕ, zero, suc, ◌+◌, ◌<◌, ◌≤◌, Bool, true, false, not, ◌==◌, ◌&&◌, ◌||◌, nat_le, nat_lt, List, [], ◌∷◌, ◌++◌, length, get_or}
use Rattle.std.proofs.Common.{refl, subst, sym, inl, inr, arith}
use Rattle.std.specs.List.{list_all, list_any, range_with_len}
use Rattle.std.proofs.lemmas.Bool.{and_parts, and_from, eqb-true, eqb-false, eq-eqb, ltb-true, or_cases, or_left, or_right, false≢true}
use Rattle.fabric_parts.specs.Cable.{is_same_port, port}
use Rattle.step_results.proofs.ListLemmas.{list_any_weaker}
use Rattle.sweep.specs.Graph.{GraphState, IsGraph, count_at, is_joined, is_linked, is_near, is_right_link, is_right_row, rise_above}
use Rattle.sweep.specs.Joined.{AllJoined, is_next_to, is_walk_by}

-- ---- lists
-- what passes at each number of a range
pub at_each : (p : ℕ → Bool) (first count s : ℕ) → list_all p (range_with_len first count) ≡ true → first ≤ s
    → s < first + count → p s ≡ true
at_each p first zero s all low high = absurd (let no_room : ⊥ = omega (arith, low, high) in no_room)
at_each p first (suc count) s all low high =
    by (first == s) refl (λ more. at_each p (first + 1) count s parts.1 more (omega (arith, high)))
  where
    parts : (p first ≡ true) × (list_all p (range_with_len (first + 1) count) ≡ true)
    parts = and_parts (p first) (list_all p (range_with_len (first + 1) count)) all

    by : (b : Bool) → (first == s) ≡ b → (first + 1 ≤ s → p s ≡ true) → p s ≡ true
    by true e later = subst (λ (k : ℕ). p k ≡ true) (eqb-true first s e) parts.0
    by false e later = let other = eqb-false first s e in later (omega (arith, low, other))

-- an element that passes a test, and is one of them
pub some_in : {X : Type 0} (f : X → ℕ) (p q : X → Bool) (xs : List X) → list_all q xs ≡ true → list_any p xs ≡ true
    → (x : X) × (p x ≡ true) × (q x ≡ true) × (list_any (λ y. f y == f x) xs ≡ true)
some_in f p q [] all h = absurd (false≢true h)
some_in f p q (x ∷ xs) all h =
    let parts = and_parts (q x) (list_all q xs) all in
    elim (or_cases (p x) (list_any p xs) h) [
      | inl here ↦ (x, here, parts.0, or_left (f x == f x) (list_any (λ y. f y == f x) xs) (eq-eqb (f x) (f x) refl))
      | inr later ↦ (let more = some_in f p q xs parts.1 later in (more.0, more.1, more.2, or_right (f x == f more.0) (list_any (λ y. f y == f more.0) xs) more.3))
    ]

-- ---- walks
-- one walk after another
pub walk_on : (next : ℕ → ℕ → Bool) (s m d : ℕ) (steps more : List ℕ) → is_walk_by next s steps m ≡ true
    → is_walk_by next m more d ≡ true → is_walk_by next s (steps ++ more) d ≡ true
walk_on next s m d [] more walk on = subst (λ (k : ℕ). is_walk_by next k more d ≡ true) (sym (eqb-true s m walk)) on
walk_on next s m d (t ∷ steps) more walk on =
    let parts = and_parts (next s t) (is_walk_by next t steps m) walk in
    and_from (next s t) _ parts.0 (walk_on next t m d steps more parts.1 on)

-- ---- to the first switch, and back
module _ (graph : GraphState) (is : IsGraph graph) where
  right_row : (s : ℕ) → s < length graph.rows → is_right_row graph.switches graph.rows s ≡ true
  right_row s less = at_each (is_right_row graph.switches graph.rows) 0 (length graph.rows) s is.rows (omega arith) (omega (arith, less))

  record Nearer (s : ℕ) : Type 0 where
    to : ℕ
    less : to < s
    there : is_next_to graph.rows s to ≡ true
    back : is_next_to graph.rows to s ≡ true

  nearer : (s : ℕ) → s < length graph.rows → is_near graph.rows s ≡ true → Nearer s
  nearer s low near =
      let right = (and_parts (rise_above 0 (get_or graph.rows s [])) (list_all (is_right_link graph.switches graph.rows s) (get_or graph.rows s [])) (right_row s low)).1 in
      let link = some_in (λ link. link.to.node) (λ link. nat_lt link.to.node s) (is_right_link graph.switches graph.rows s) (get_or graph.rows s []) right near in
      let one = and_parts (nat_le link.0.port (count_at graph.switches s)) _ link.2 in
      let two = and_parts (not (link.0.to.node == s)) (is_linked graph.rows link.0.to (port s link.0.port)) one.1 in
      record {
        to = link.0.to.node;
        less = ltb-true link.0.to.node s link.1;
        there = link.3;
        back = list_any_weaker (λ l. (l.port == link.0.to.port) && is_same_port l.to (port s link.0.port)) (λ l. l.to.node == s) (λ l k. (and_parts (l.to.node == s) _ (and_parts (l.port == link.0.to.port) _ k).1).0) (get_or graph.rows link.0.to.node []) two.1;
      }

  abbrev Joined : ℕ → Type 0
  Joined s =
      (there : List ℕ) × (back : List ℕ) × (is_walk_by (is_next_to graph.rows) s there 0 ≡ true) × (is_walk_by (is_next_to graph.rows) 0 back s ≡ true)

  to_first : (most s : ℕ) → s ≤ most → s < length graph.rows → is_joined graph.rows ≡ true → Joined s
  to_first zero s low less joined =
      let same : s ≡ 0 = omega (arith, low) in
      ([], [], eq-eqb s 0 same, eq-eqb 0 s (sym same))
  to_first (suc most) s low less joined =
      by (at_each (λ place. (place == 0) || is_near graph.rows place) 0 (length graph.rows) s joined (omega arith) (omega (arith, less))) (λ t high. to_first most t high)
    where
      by : ((s == 0) || is_near graph.rows s) ≡ true → ((t : ℕ) → t ≤ most → t < length graph.rows → is_joined graph.rows ≡ true → Joined t) → Joined s
      by h later =
          elim (or_cases (s == 0) (is_near graph.rows s) h) [
            | inl first ↦ ([], [], first, eq-eqb 0 s (sym (eqb-true s 0 first)))
            | inr near ↦
                (let one = nearer s less near in
                let fewer = one.less in
                let more : Joined one.to = later one.to (omega (arith, fewer, low)) (omega (arith, fewer, less)) joined in (
                  one.to ∷ more.0,
                  more.1 ++ s ∷ [],
                  and_from (is_next_to graph.rows s one.to) (is_walk_by (is_next_to graph.rows) one.to more.0 0) one.there more.2,
                  walk_on (is_next_to graph.rows) 0 one.to s more.1 (s ∷ []) more.3 (and_from (is_next_to graph.rows one.to s) (s == s) one.back (eq-eqb s s refl)),
                ))
          ]

  pub all_joined : is_joined graph.rows ≡ true → AllJoined graph.rows
  all_joined joined s d sl dl =
      let one : Joined s = to_first s s (omega arith) sl joined in
      let other : Joined d = to_first d d (omega arith) dl joined in
      (one.0 ++ other.1, walk_on (is_next_to graph.rows) s 0 d one.0 other.1 one.2 other.3)
