-- Distances: where they are, how many a switch has, and a test of a list of them.
use Rattle.std.proofs.Common.{◌≡◌, ℕ, zero, suc, ◌+◌, ◌<◌, ◌≤◌, ◌⊎◌, Bool, true, false, not, ◌==◌, ◌&&◌, ◌||◌, nat_le, List, [], ◌∷◌, length, get_or}
use Rattle.std.proofs.Common.{refl, sym, ap, subst, ◌∙◌, inl, inr, arith}
use Rattle.std.specs.List.{list_all, list_any, range_with_len}
use Rattle.std.proofs.lemmas.Bool.{and_parts, and_from, cases_lt, not-true, or_left, or_right, or_cases, eqb-true, eq-eqb, leb-true, false≢true}
use Rattle.step_results.proofs.ListLemmas.{list_any_weaker}
use Rattle.updn_routes.specs.declared.link.Link.{Link}
use Rattle.updn_routes.specs.Cabling.{AllJoined, is_cabling, is_next_to, is_walk, links_of}
use Rattle.updn_routes.specs.Order.{AreDistances, IsDistance}
use Rattle.updn_routes.proofs.CablingLemmas.{ends, some_of}
use Rattle.sweep.proofs.JoinedLemmas.{at_each}

-- ---- one distance
pub one_distance : (rows : List (List Link)) (passes : ℕ → Bool) (s one other : ℕ) → IsDistance rows passes s one
    → IsDistance rows passes s other → one ≡ other
one_distance rows passes s one other f g =
    let a = f.some in
    let b = g.some in
    let near = f.none_shorter b.0 b.1 b.2 b.3 in
    let far = g.none_shorter a.0 a.1 a.2 a.3 in
    let long = a.4 in
    let other_long = b.4 in
    omega (arith, near, far, long, other_long)

-- ---- walks of so many steps, by a test
reaches : List (List Link) → (ℕ → Bool) → ℕ → ℕ → Bool
reaches rows passes zero s = passes s
reaches rows passes (suc k) s = list_any (λ link. reaches rows passes k link.to) (links_of rows s)

abbrev EndsOf : List (List Link) → (ℕ → Bool) → ℕ → ℕ → Type 0
EndsOf rows passes s k =
    (d : ℕ) × (steps : List ℕ) × (passes d ≡ true) × (is_walk rows s steps d ≡ true) × (length steps ≡ k)

pub next_of : (p : ℕ → Bool) (row : List Link) → list_any (λ link. p link.to) row ≡ true
    → (t : ℕ) × ((list_any (λ link. link.to == t) row ≡ true) × (p t ≡ true))
next_of p [] h = absurd (false≢true h)
next_of p (link ∷ row) h =
    elim (or_cases (p link.to) (list_any (λ link. p link.to) row) h) [
      | inl here ↦ (link.to, (or_left (link.to == link.to) _ (eq-eqb link.to link.to refl), here))
      | inr later ↦ let more = next_of p row later in (more.0, (or_right (link.to == more.0) _ more.1.0, more.1.1))
    ]

reaches_walk : (rows : List (List Link)) (passes : ℕ → Bool) (k s : ℕ) → reaches rows passes k s ≡ true
    → EndsOf rows passes s k
unfolding reaches
reaches_walk rows passes zero s h = (s, [], h, eq-eqb s s refl, refl)
reaches_walk rows passes (suc k) s h =
    let t = next_of (reaches rows passes k) (links_of rows s) h in
    let more : EndsOf rows passes t.0 k = reaches_walk rows passes k t.0 t.1.1 in
    (more.0, t.0 ∷ more.1, more.2, and_from (is_next_to rows s t.0) _ t.1.0 more.3, ap suc more.4)

walk_reaches : (rows : List (List Link)) (passes : ℕ → Bool) (s d : ℕ) (steps : List ℕ) → passes d ≡ true
    → is_walk rows s steps d ≡ true → reaches rows passes (length steps) s ≡ true
unfolding reaches
walk_reaches rows passes s d [] end walk = subst (λ (k : ℕ). passes k ≡ true) (sym (eqb-true s d walk)) end
walk_reaches rows passes s d (t ∷ steps) end walk =
    let parts = and_parts (is_next_to rows s t) (is_walk rows t steps d) walk in
    let more = walk_reaches rows passes t d steps end parts.1 in
    list_any_weaker (λ link. link.to == t) (λ link. reaches rows passes (length steps) link.to)
    (λ link is. subst (λ (v : ℕ). reaches rows passes (length steps) v ≡ true) (sym (eqb-true link.to t is)) more) (links_of rows s) parts.0

-- ---- the least number that passes
abbrev IsLeast : (ℕ → Bool) → ℕ → Type 0
IsLeast p k = (p k ≡ true) × ((j : ℕ) → p j ≡ true → k ≤ j)

below : (p : ℕ → Bool) (m : ℕ) → ((k : ℕ) × IsLeast p k) ⊎ ((j : ℕ) → j < m → p j ≡ false)
below p zero = inr (λ j less. absurd (let no_room : ⊥ = omega (arith, less) in no_room))
below p (suc m) = elim (below p m) [ inl found ↦ inl found | inr none ↦ by none (p m) refl ]
  where
    by : ((j : ℕ) → j < m → p j ≡ false) → (b : Bool) → p m ≡ b
        → ((k : ℕ) × IsLeast p k) ⊎ ((j : ℕ) → j < suc m → p j ≡ false)
    by none true e =
        inl (m, (e, λ j h. elim (cases_lt j m) [ inl less ↦ absurd (false≢true (sym (none j less) ∙ h)) | inr more ↦ more ]))
    by none false e =
        inr (λ j less. elim (cases_lt j m) [
          | inl lower ↦ none j lower
          | inr more ↦ (let same : j ≡ m =
              omega (arith, less, more) in subst (λ (k : ℕ). p k ≡ false) (sym same) e)
        ])

least_of : (p : ℕ → Bool) (m : ℕ) → p m ≡ true → (k : ℕ) × IsLeast p k
least_of p m h =
    elim (below p (suc m)) [ inl found ↦ found | inr none ↦ absurd (false≢true (sym (none m (omega arith)) ∙ h)) ]

-- ---- a number for each of so many
listed : (P : ℕ → ℕ → Type 0) (first count : ℕ) → ((s : ℕ) → first ≤ s → s < first + count → (k : ℕ) × P s k)
    → (ks : List ℕ) × (length ks ≡ count) × ((i : ℕ) → i < count → P (first + i) (get_or ks i 0))
listed P first zero each = ([], refl, λ i less. absurd (let no_room : ⊥ = omega (arith, less) in no_room))
listed P first (suc count) each =
    with (each first (omega arith) (omega arith)) (listed P (first + 1) count (λ s low high. each s (omega (arith, low)) (omega (arith, high))))
  where
    with : (k : ℕ) × P first k
        → (ks : List ℕ) × (length ks ≡ count) × ((i : ℕ) → i < count → P (first + 1 + i) (get_or ks i 0))
        → (ks : List ℕ) × (length ks ≡ suc count) × ((i : ℕ) → i < suc count → P (first + i) (get_or ks i 0))
    with one more = (one.0 ∷ more.0, ap suc more.1, at)
      where
        at : (i : ℕ) → i < suc count → P (first + i) (get_or (one.0 ∷ more.0) i 0)
        at zero less = let same : first ≡ first + 0 = omega arith in subst (λ (s : ℕ). P s one.0) same one.1
        at (suc i) less =
            let same : first + 1 + i ≡ first + suc i = omega arith in subst (λ (s : ℕ). P s (get_or more.0 i 0)) same (more.2 i (omega (arith, less)))

pub joined_distances : (rows : List (List Link)) (passes : ℕ → Bool) (root : ℕ) → AllJoined rows → root < length rows
    → passes root ≡ true → (distances : List ℕ) × AreDistances rows passes distances
joined_distances rows passes root joined there is =
    (all.0, record { count = all.1; each = λ s less. subst (λ (k : ℕ). IsDistance rows passes k (get_or all.0 s 0)) (zero_more s) (all.2 s less) })
  where
    zero_more : (s : ℕ) → 0 + s ≡ s
    zero_more s = omega arith

    one : (s : ℕ) → s < length rows → (k : ℕ) × IsDistance rows passes s k
    one s less =
        let walk = joined s root less there in
        let best = least_of (λ k. reaches rows passes k s) (length walk.0) (walk_reaches rows passes s root walk.0 is walk.1) in
        (best.0, record { some = reaches_walk rows passes best.0 s best.1.0; none_shorter = λ d steps end w. best.1.1 (length steps) (walk_reaches rows passes s d steps end w) })

    all : (ks : List ℕ) × (length ks ≡ length rows) × ((i : ℕ) → i < length rows → IsDistance rows passes (0 + i) (get_or ks i 0))
    all = listed (λ s k. IsDistance rows passes s k) 0 (length rows) (λ s low high. one s (omega (arith, high)))

-- ---- a list of distances, tested row by row: those that pass are at 0, and each other is one further than the nearest next to it
abbrev pub is_distance_at : List (List Link) → (ℕ → Bool) → List ℕ → ℕ → Bool
is_distance_at rows passes distances s =
    (passes s && (get_or distances s 0 == 0))
    || (not (passes s)
    && (list_any (λ link. get_or distances link.to 0 + 1 == get_or distances s 0) (links_of rows s)
    && list_all (λ link. nat_le (get_or distances s 0) (get_or distances link.to 0 + 1)) (links_of rows s)))

abbrev pub are_distances : List (List Link) → (ℕ → Bool) → List ℕ → Bool
are_distances rows passes distances =
    (length distances == length rows) && list_all (is_distance_at rows passes distances) (range_with_len 0 (length rows))

module _ (rows : List (List Link)) (passes : ℕ → Bool) (distances : List ℕ) (cabling : is_cabling rows ≡ true) (tested : are_distances rows passes distances ≡ true) where
  abbrev far : ℕ → ℕ
  far s = get_or distances s 0

  at : (s : ℕ) → s < length rows → is_distance_at rows passes distances s ≡ true
  at s less =
      at_each (is_distance_at rows passes distances) 0 (length rows) s
      (and_parts (length distances == length rows) (list_all (is_distance_at rows passes distances) (range_with_len 0 (length rows))) tested).1 (omega arith) (omega (arith, less))

  record Near (s : ℕ) : Type 0 where
    parent : ℕ
    beside : is_next_to rows s parent ≡ true
    nearer : far parent + 1 ≡ far s

  cases : (s : ℕ) → s < length rows
      → (far s ≡ 0) × (passes s ≡ true) ⊎ (passes s ≡ false) × Near s × ((t : ℕ) → is_next_to rows s t ≡ true → far s ≤ far t + 1)
  cases s less =
      elim (or_cases (passes s && (far s == 0)) _ (at s less)) [
        | inl h ↦ let parts = and_parts (passes s) (far s == 0) h in inl (eqb-true (far s) 0 parts.1, parts.0)
        | inr h ↦
            let one = and_parts (not (passes s)) _ h in
            let two = and_parts (list_any (λ link. far link.to + 1 == far s) (links_of rows s)) (list_all (λ link. nat_le (far s) (far link.to + 1)) (links_of rows s)) one.1 in
            let t = next_of (λ v. far v + 1 == far s) (links_of rows s) two.0 in
            inr (
              not-true (passes s) one.0,
              record { parent = t.0; beside = t.1.0; nearer = eqb-true (far t.0 + 1) (far s) t.1.1 },
              λ v beside. let link =
                  some_of (λ link. link.to == v) (λ link. nat_le (far s) (far link.to + 1)) (links_of rows s) two.1 beside in
                  subst (λ (u : ℕ). far s ≤ far u + 1) (eqb-true link.0.to v link.1.0) (leb-true (far s) (far link.0.to + 1) link.1.1),
            )
      ]

  shortest : (s d : ℕ) (steps : List ℕ) → s < length rows → passes d ≡ true → is_walk rows s steps d ≡ true
      → far s ≤ length steps
  shortest s d [] less end walk =
      elim (cases s less) [
        | inl h ↦ (let none = h.0 in omega (arith, none))
        | inr h ↦ absurd (false≢true (sym h.0 ∙ subst (λ (k : ℕ). passes k ≡ true) (sym (eqb-true s d walk)) end))
      ]
  shortest s d (t ∷ steps) less end walk =
      let parts = and_parts (is_next_to rows s t) (is_walk rows t steps d) walk in
      let there = (ends rows s t cabling less parts.0).0 in
      let more = shortest t d steps there end parts.1 in
      elim (cases s less) [
        | inl h ↦ (let none = h.0 in omega (arith, none))
        | inr h ↦ (let step = h.2 t parts.0 in omega (arith, step, more))
      ]

  reached : (k s : ℕ) → s < length rows → far s ≡ k → EndsOf rows passes s k
  reached zero s less e =
      elim (cases s less) [
        | inl h ↦ (s, [], h.1, eq-eqb s s refl, refl)
        | inr h ↦ absurd (let nearer = h.1.nearer in let no_room : ⊥ = omega (arith, nearer, e) in no_room)
      ]
  reached (suc k) s less e = by (cases s less) (λ t there f. reached k t there f)
    where
      by : (far s ≡ 0) × (passes s ≡ true) ⊎ (passes s ≡ false) × Near s × ((t : ℕ) → is_next_to rows s t ≡ true → far s ≤ far t + 1)
          → ((t : ℕ) → t < length rows → far t ≡ k → EndsOf rows passes t k) → EndsOf rows passes s (suc k)
      by (inl h) later = absurd (let none = h.0 in let no_room : ⊥ = omega (arith, none, e) in no_room)
      by (inr h) later =
          let near = h.1 in
          let nearer = near.nearer in
          let more : EndsOf rows passes near.parent k = later near.parent (ends rows s near.parent cabling less near.beside).0 (omega (arith, nearer, e)) in
          (more.0, near.parent ∷ more.1, more.2, and_from (is_next_to rows s near.parent) _ near.beside more.3, ap suc more.4)

  pub distances_tested : AreDistances rows passes distances
  distances_tested =
      record {
        count = eqb-true (length distances) (length rows) (and_parts (length distances == length rows) _ tested).0;
        each = λ s less. record { some = reached (far s) s less refl; none_shorter = λ d steps end walk. shortest s d steps less end walk };
      }
