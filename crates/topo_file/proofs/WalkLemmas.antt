-- Walks over cables: where the rounds reach all switches, and where the test of switches in turn is true, walks join
-- every two of them, and the other way round.
use Rattle.std.proofs.Common.{◌≡◌, ℕ, zero, suc, ◌+◌, ◌<◌, Bool, true, false, cond, not, ◌==◌, ◌&&◌, ◌||◌, nat_lt, List, [], ◌∷◌, ◌++◌, length}
use Rattle.std.proofs.Common.{filter, get_or, slice_get, position, Option, Some, None, refl, sym, ap, subst, ◌∙◌, inl, inr, arith, zero-add}
use Rattle.std.specs.List.{list_all, list_any, position_or_len, range_with_len}
use Rattle.std.specs.Option.{option_map_or}
use Rattle.step_results.proofs.ListLemmas.{list_any_weaker}
use Rattle.std.proofs.lemmas.Bool.{and_parts, and_from, or_cases, or_parts, or_left, or_right, eqb-true, eq-eqb, false≢true}
use Rattle.std.proofs.lemmas.List.Folds.{list_all_at, list_any_at}
use Rattle.std.proofs.lemmas.List.FromFn.{get_or-range_with_len, length-range_with_len}
use Rattle.std.proofs.lemmas.Option.{cond_some}
use Rattle.fabric_parts.specs.declared.cable.Cable.{Cable}
use Rattle.topo_file.specs.declared.node.Node.{Node}
use Rattle.topo_file.specs.Node.{is_switch, is_switch_at, switch_count}
use Rattle.topo_file.specs.Connectivity.{is_connected, is_joined_within, joins, is_walk, switches, Joined, AllJoined}
use Rattle.topo_file.specs.Rounds.{is_marked, leads_to, after_rounds, leads_to_all, leads_to_all_from}
use Rattle.step_results.proofs.PlaceLemmas.{not_there, one_more}
use Rattle.topo_file.proofs.MarkLemmas.{mark-spread, mark-only, marked_switch, only_marks, stays, rests, all_marked, from_marked}

-- a cable joins both ways
joins-back : (a b : ℕ) (cable : Cable) → joins a b cable ≡ true → joins b a cable ≡ true
joins-back a b cable h =
    elim (or_cases ((cable.first.node == a) && (cable.second.node == b)) ((cable.first.node == b) && (cable.second.node == a)) h) [
      | inl one ↦ or_right ((cable.first.node == b) && (cable.second.node == a)) _ one
      | inr other ↦ or_left _ ((cable.first.node == a) && (cable.second.node == b)) other
    ]

-- ---- walks
walk_more : (nodes : List Node) (cables : List Cable) (a : ℕ) (steps : List ℕ) (b c : ℕ) → is_walk nodes cables a steps b ≡ true
    → list_any (λ cable. joins b c cable) cables ≡ true → is_switch_at nodes c ≡ true → is_walk nodes cables a (steps ++ c ∷ []) c ≡ true
walk_more nodes cables a [] b c w j s =
    let parts = and_parts (is_switch_at nodes a) (a == b) w in
    let here : list_any (λ cable. joins a c cable) cables ≡ true = subst (λ (k : ℕ). list_any (λ cable. joins k c cable) cables ≡ true) (sym (eqb-true a b parts.1)) j in
    and_from (is_switch_at nodes a) _ parts.0
    (and_from (list_any (λ cable. joins a c cable) cables) _ here
    (and_from (is_switch_at nodes c) (c == c) s (eq-eqb c c refl)))
walk_more nodes cables a (next ∷ steps) b c w j s =
    let first = and_parts (is_switch_at nodes a) _ w in
    let second = and_parts (list_any (λ cable. joins a next cable) cables) _ first.1 in
    and_from (is_switch_at nodes a) _ first.0
    (and_from (list_any (λ cable. joins a next cable) cables) _ second.0 (walk_more nodes cables next steps b c second.1 j s))

walk_back : (nodes : List Node) (cables : List Cable) (a : ℕ) (steps : List ℕ) (b : ℕ) → is_walk nodes cables a steps b ≡ true → Joined nodes cables b a
walk_back nodes cables a [] b w =
    let parts = and_parts (is_switch_at nodes a) (a == b) w in
    let same = eqb-true a b parts.1 in
    ([], and_from (is_switch_at nodes b) (b == a) (subst (λ (k : ℕ). is_switch_at nodes k ≡ true) same parts.0) (eq-eqb b a (sym same)))
walk_back nodes cables a (next ∷ steps) b w =
    let first = and_parts (is_switch_at nodes a) _ w in
    let second = and_parts (list_any (λ cable. joins a next cable) cables) _ first.1 in
    let back : Joined nodes cables b next = walk_back nodes cables next steps b second.1 in
    (back.0 ++ a ∷ [], walk_more nodes cables b back.0 next a back.1 (list_any_weaker (λ cable. joins a next cable) (λ cable. joins next a cable) (λ cable h. joins-back a next cable h) cables second.0) first.0)

walk_on : (nodes : List Node) (cables : List Cable) (a : ℕ) (steps : List ℕ) (b c : ℕ)
    → is_walk nodes cables a steps b ≡ true → Joined nodes cables b c → Joined nodes cables a c
walk_on nodes cables a [] b c w more =
    let parts = and_parts (is_switch_at nodes a) (a == b) w in
    subst (λ (k : ℕ). Joined nodes cables k c) (sym (eqb-true a b parts.1)) more
walk_on nodes cables a (next ∷ steps) b c w more =
    let first = and_parts (is_switch_at nodes a) _ w in
    let second = and_parts (list_any (λ cable. joins a next cable) cables) _ first.1 in
    let rest : Joined nodes cables next c = walk_on nodes cables next steps b c second.1 more in
    (next ∷ rest.0, and_from (is_switch_at nodes a) _ first.0 (and_from (list_any (λ cable. joins a next cable) cables) _ second.0 rest.1))

-- ---- marks and walks
led_by : (marks : List Bool) (i : ℕ) (cable : Cable) → leads_to marks i cable ≡ true → (j : ℕ) × ((is_marked marks j ≡ true) × (joins j i cable ≡ true))
led_by marks i cable h =
    elim (or_cases ((cable.first.node == i) && is_marked marks cable.second.node) ((cable.second.node == i) && is_marked marks cable.first.node) h) [
      | inl one ↦ let parts = and_parts (cable.first.node == i) _ one in
          (cable.second.node, (parts.1, or_right ((cable.first.node == cable.second.node) && (cable.second.node == i)) _ (and_from (cable.first.node == i) _ parts.0 (eq-eqb cable.second.node cable.second.node refl))))
      | inr other ↦ let parts = and_parts (cable.second.node == i) _ other in
          (cable.first.node, (parts.1, or_left _ ((cable.first.node == i) && (cable.second.node == cable.first.node)) (and_from (cable.first.node == cable.first.node) _ (eq-eqb cable.first.node cable.first.node refl) parts.0)))
    ]

led_from : (marks : List Bool) (i : ℕ) (cables : List Cable) → list_any (λ cable. leads_to marks i cable) cables ≡ true
    → (j : ℕ) × ((is_marked marks j ≡ true) × (list_any (λ cable. joins j i cable) cables ≡ true))
led_from marks i [] h = absurd cc
led_from marks i (cable ∷ cables) h =
    elim (or_cases (leads_to marks i cable) (list_any (λ c. leads_to marks i c) cables) h) [
      | inl here ↦ let found = led_by marks i cable here in
          (found.0, (found.1.0, or_left (joins found.0 i cable) (list_any (λ c. joins found.0 i c) cables) found.1.1))
      | inr later ↦ let found = led_from marks i cables later in
          (found.0, (found.1.0, or_right (joins found.0 i cable) (list_any (λ c. joins found.0 i c) cables) found.1.1))
    ]

leads_so : (marks : List Bool) (j i : ℕ) (cable : Cable) → is_marked marks j ≡ true → joins j i cable ≡ true → leads_to marks i cable ≡ true
leads_so marks j i cable m h =
    elim (or_cases ((cable.first.node == j) && (cable.second.node == i)) ((cable.first.node == i) && (cable.second.node == j)) h) [
      | inl one ↦ let parts = and_parts (cable.first.node == j) _ one in
          or_right ((cable.first.node == i) && is_marked marks cable.second.node) _ (and_from (cable.second.node == i) _ parts.1 (subst (λ (k : ℕ). is_marked marks k ≡ true) (sym (eqb-true cable.first.node j parts.0)) m))
      | inr other ↦ let parts = and_parts (cable.first.node == i) _ other in
          or_left _ ((cable.second.node == i) && is_marked marks cable.first.node) (and_from (cable.first.node == i) _ parts.0 (subst (λ (k : ℕ). is_marked marks k ≡ true) (sym (eqb-true cable.second.node j parts.1)) m))
    ]

-- what is marked is joined to the start
sound : (nodes : List Node) (cables : List Cable) (place rounds i : ℕ) → is_switch_at nodes place ≡ true
    → is_marked (after_rounds nodes cables place rounds) i ≡ true → Joined nodes cables place i
sound nodes cables place zero i start h =
    ([], and_from (is_switch_at nodes place) (place == i) start (eq-eqb place i (sym (mark-only nodes place i h))))
sound nodes cables place (suc rounds) i start h =
    let marks = after_rounds nodes cables place rounds in
    let parts = and_parts (is_switch_at nodes i) _ (sym (mark-spread nodes cables marks i) ∙ h) in
    elim (or_cases (is_marked marks i) (list_any (λ cable. leads_to marks i cable) cables) parts.1) [
      | inl before ↦ sound nodes cables place rounds i start before
      | inr now ↦ let found = led_from marks i cables now in
          let walk : Joined nodes cables place found.0 = sound nodes cables place rounds found.0 start found.1.0 in
          (walk.0 ++ i ∷ [], walk_more nodes cables place walk.0 found.0 i walk.1 found.1.1 parts.0)
    ]

starts_at_switch : (nodes : List Node) (cables : List Cable) (a : ℕ) (steps : List ℕ) (b : ℕ) → is_walk nodes cables a steps b ≡ true → is_switch_at nodes a ≡ true
starts_at_switch nodes cables a [] b w = (and_parts (is_switch_at nodes a) _ w).0
starts_at_switch nodes cables a (next ∷ steps) b w = (and_parts (is_switch_at nodes a) _ w).0

-- once the rounds rest, a walk from a mark leads to marks alone
complete : (nodes : List Node) (cables : List Cable) (place : ℕ) → is_switch_at nodes place ≡ true → (a : ℕ) (steps : List ℕ) (b : ℕ)
    → is_marked (after_rounds nodes cables place (switch_count nodes)) a ≡ true → is_walk nodes cables a steps b ≡ true
    → is_marked (after_rounds nodes cables place (switch_count nodes)) b ≡ true
complete nodes cables place start a [] b m w =
    let parts = and_parts (is_switch_at nodes a) (a == b) w in
    subst (λ (k : ℕ). is_marked (after_rounds nodes cables place (switch_count nodes)) k ≡ true) (eqb-true a b parts.1) m
complete nodes cables place start a (next ∷ steps) b m w =
    let marks = after_rounds nodes cables place (switch_count nodes) in
    let first = and_parts (is_switch_at nodes a) _ w in
    let second = and_parts (list_any (λ cable. joins a next cable) cables) _ first.1 in
    let led = list_any_weaker (λ cable. joins a next cable) (λ cable. leads_to marks next cable) (λ cable h. leads_so marks a next cable m h) cables second.0 in
    let after = mark-spread nodes cables marks next ∙ and_from (is_switch_at nodes next) _ (starts_at_switch nodes cables next steps b second.1) (or_right (is_marked marks next) _ led) in
    complete nodes cables place start next steps b (subst (λ (l : List Bool). is_marked l next ≡ true) (sym (rests nodes cables place start)) after) second.1

-- the start is marked in each round
start_marked : (nodes : List Node) (cables : List Cable) (place rounds : ℕ) → is_switch_at nodes place ≡ true
    → is_marked (after_rounds nodes cables place rounds) place ≡ true
start_marked nodes cables place zero start = only_marks nodes place start
start_marked nodes cables place (suc rounds) start = stays nodes cables place rounds place start (start_marked nodes cables place rounds start)

-- ---- the first switch
passes_at : {X : Type 0} (p : X → Bool) (xs : List X) → nat_lt (position_or_len p xs) (length xs) ≡ true
    → option_map_or p (slice_get xs (position_or_len p xs)) false ≡ true
passes_at p [] h = absurd cc
passes_at p (x ∷ xs) h = by (p x) refl (passes_at p xs)
  where
    by : (b : Bool) → p x ≡ b → (nat_lt (position_or_len p xs) (length xs) ≡ true → option_map_or p (slice_get xs (position_or_len p xs)) false ≡ true)
        → option_map_or p (slice_get (x ∷ xs) (position_or_len p (x ∷ xs))) false ≡ true
    by true e later = rw e e
    by false e later =
        let one : 1 + position_or_len p xs ≡ suc (position_or_len p xs) = omega arith in
        let within : nat_lt (position_or_len p xs) (length xs) ≡ true = one_more (position_or_len p xs) (length xs) ∙ (rw e at h) in
        rw (e, one) (later within)

first_is_switch : (nodes : List Node) (place : ℕ) → position is_switch nodes ≡ Some place → is_switch_at nodes place ≡ true
first_is_switch nodes place h =
    let found = cond_some (nat_lt (position_or_len is_switch nodes) (length nodes)) (position_or_len is_switch nodes) place h in
    subst (λ (k : ℕ). is_switch_at nodes k ≡ true) found.1 (passes_at is_switch nodes found.0)

fails_at : {X : Type 0} (p : X → Bool) (xs : List X) (i : ℕ) → list_any p xs ≡ false → option_map_or p (slice_get xs i) false ≡ false
fails_at p [] i h = refl
fails_at p (x ∷ xs) zero h = (or_parts (p x) _ h).0
fails_at p (x ∷ xs) (suc i) h = fails_at p xs i (or_parts (p x) _ h).1

-- ---- the rounds and the walks
reached_joined : (nodes : List Node) (cables : List Cable) → leads_to_all nodes cables ≡ true → AllJoined nodes cables
reached_joined nodes cables h = by (position is_switch nodes) refl h
  where
    by : (o : Option ℕ) → position is_switch nodes ≡ o → leads_to_all_from nodes cables o ≡ true → AllJoined nodes cables
    by None e reported a b at bt = absurd (let never = fails_at is_switch nodes a (not_there is_switch nodes e) in cc)
    by (Some place) e reported a b at bt =
        let start = first_is_switch nodes place e in
        let marks = after_rounds nodes cables place (switch_count nodes) in
        let to_a = sound nodes cables place (switch_count nodes) a start (subst (λ (k : ℕ). is_marked marks k ≡ true) (zero-add a) (all_marked 0 nodes marks reported a at)) in
        let to_b = sound nodes cables place (switch_count nodes) b start (subst (λ (k : ℕ). is_marked marks k ≡ true) (zero-add b) (all_marked 0 nodes marks reported b bt)) in
        let back : Joined nodes cables a place = walk_back nodes cables place to_a.0 a to_a.1 in
        walk_on nodes cables a back.0 place b back.1 to_b

joined_reached : (nodes : List Node) (cables : List Cable) → AllJoined nodes cables → leads_to_all nodes cables ≡ true
joined_reached nodes cables all = by (position is_switch nodes) refl
  where
    by : (o : Option ℕ) → position is_switch nodes ≡ o → leads_to_all_from nodes cables o ≡ true
    by None e = refl
    by (Some place) e =
        let start = first_is_switch nodes place e in
        let marks = after_rounds nodes cables place (switch_count nodes) in
        from_marked 0 nodes marks (λ i s. let walk = all place i start s in
        subst (λ (k : ℕ). is_marked marks k ≡ true) (sym (zero-add i)) (complete nodes cables place start place walk.0 i (start_marked nodes cables place (switch_count nodes) start) walk.1))

-- ---- the switches, each at its place
below : (nodes : List Node) (i : ℕ) → is_switch_at nodes i ≡ true → i < length nodes
below [] i h = absurd cc
below (n ∷ nodes) zero h = omega arith
below (n ∷ nodes) (suc i) h = let less = below nodes i h in omega (arith, less)

any_of : {X : Type 0} (p q : X → Bool) (xs : List X) → list_any q (filter p xs) ≡ list_any (λ x. p x && q x) xs
any_of p q [] = refl
any_of p q (x ∷ xs) = by (p x) (any_of p q xs)
  where
    by : (b : Bool) → list_any q (filter p xs) ≡ list_any (λ y. p y && q y) xs
        → list_any q (cond b (x ∷ filter p xs) (filter p xs)) ≡ ((b && q x) || list_any (λ y. p y && q y) xs)
    by true later = ap (λ (o : Bool). q x || o) later
    by false later = later

all_of : {X : Type 0} (p q : X → Bool) (xs : List X) → list_all q (filter p xs) ≡ list_all (λ x. not (p x) || q x) xs
all_of p q [] = refl
all_of p q (x ∷ xs) = by (p x) (all_of p q xs)
  where
    by : (b : Bool) → list_all q (filter p xs) ≡ list_all (λ y. not (p y) || q y) xs
        → list_all q (cond b (x ∷ filter p xs) (filter p xs)) ≡ ((not b || q x) && list_all (λ y. not (p y) || q y) xs)
    by true later = ap (λ (o : Bool). q x && o) later
    by false later = later

place_is : (nodes : List Node) (i : ℕ) → i < length nodes → get_or (range_with_len 0 (length nodes)) i 0 ≡ i
place_is nodes i less = get_or-range_with_len 0 (length nodes) i 0 less ∙ zero-add i

within_all : (nodes : List Node) (i : ℕ) → i < length nodes → i < length (range_with_len 0 (length nodes))
within_all nodes i less = rw (length-range_with_len 0 (length nodes)) less

-- a test that some switch passes
this_switch : (nodes : List Node) (q : ℕ → Bool) (i : ℕ) → is_switch_at nodes i ≡ true → q i ≡ true → list_any q (switches nodes) ≡ true
this_switch nodes q i is passes =
    let less = below nodes i is in
    any_of (is_switch_at nodes) q (range_with_len 0 (length nodes))
    ∙ list_any_at (λ k. is_switch_at nodes k && q k) (range_with_len 0 (length nodes)) i 0 (within_all nodes i less) (rw (place_is nodes i less) (and_from (is_switch_at nodes i) _ is passes))

some_switch : (nodes : List Node) (q : ℕ → Bool) → list_any q (switches nodes) ≡ true → (i : ℕ) × ((is_switch_at nodes i ≡ true) × (q i ≡ true))
some_switch nodes q h = from (range_with_len 0 (length nodes)) (sym (any_of (is_switch_at nodes) q (range_with_len 0 (length nodes))) ∙ h)
  where
    from : (places : List ℕ) → list_any (λ k. is_switch_at nodes k && q k) places ≡ true → (i : ℕ) × ((is_switch_at nodes i ≡ true) × (q i ≡ true))
    from [] reported = absurd cc
    from (i ∷ places) reported =
        elim (or_cases (is_switch_at nodes i && q i) _ reported) [ inl here ↦ let parts = and_parts (is_switch_at nodes i) (q i) here in (i, (parts.0, parts.1)) | inr later ↦ from places later ]

-- a test that each switch passes
each_switch : (nodes : List Node) (q : ℕ → Bool) → list_all q (switches nodes) ≡ true → (i : ℕ) → is_switch_at nodes i ≡ true → q i ≡ true
each_switch nodes q all i is = by (q i) refl
  where
    by : (b : Bool) → q i ≡ b → q i ≡ true
    by true e = e
    by false e =
        let less = below nodes i is in
        let fails = list_all_at (λ k. not (is_switch_at nodes k) || q k) (range_with_len 0 (length nodes)) i 0 (within_all nodes i less) (rw (place_is nodes i less, is) e) in
        absurd (false≢true (sym fails ∙ (sym (all_of (is_switch_at nodes) q (range_with_len 0 (length nodes))) ∙ all)))

all_switches : (nodes : List Node) (q : ℕ → Bool) → ((i : ℕ) → is_switch_at nodes i ≡ true → q i ≡ true) → list_all q (switches nodes) ≡ true
all_switches nodes q each = from (range_with_len 0 (length nodes))
  where
    from : (places : List ℕ) → list_all q (filter (is_switch_at nodes) places) ≡ true
    from [] = refl
    from (i ∷ places) = by (is_switch_at nodes i) refl (from places)
      where
        by : (b : Bool) → is_switch_at nodes i ≡ b → list_all q (filter (is_switch_at nodes) places) ≡ true
            → list_all q (cond b (i ∷ filter (is_switch_at nodes) places) (filter (is_switch_at nodes) places)) ≡ true
        by true e later = and_from (q i) _ (each i e) later
        by false e later = later

-- ---- walks of so many steps
abbrev leads_on : List Node → List Cable → ℕ → ℕ → ℕ → ℕ → Bool
leads_on nodes cables steps a b next = list_any (λ cable. joins a next cable) cables && is_joined_within nodes cables steps next b

within_joined : (nodes : List Node) (cables : List Cable) (steps a b : ℕ) → is_switch_at nodes a ≡ true
    → is_joined_within nodes cables steps a b ≡ true → Joined nodes cables a b
within_joined nodes cables zero a b s h = ([], and_from (is_switch_at nodes a) (a == b) s h)
within_joined nodes cables (suc steps) a b s h =
    elim (or_cases (a == b) (list_any (leads_on nodes cables steps a b) (switches nodes)) h) [
      | inl here ↦ ([], and_from (is_switch_at nodes a) (a == b) s here)
      | inr on ↦ let next = some_switch nodes (leads_on nodes cables steps a b) on in
          let parts = and_parts (list_any (λ cable. joins a next.0 cable) cables) _ next.1.1 in
          let rest : Joined nodes cables next.0 b = within_joined nodes cables steps next.0 b next.1.0 parts.1 in
          (next.0 ∷ rest.0, and_from (is_switch_at nodes a) _ s (and_from (list_any (λ cable. joins a next.0 cable) cables) _ parts.0 rest.1))
    ]

within_more : (nodes : List Node) (cables : List Cable) (steps a b : ℕ) → is_joined_within nodes cables steps a b ≡ true
    → is_joined_within nodes cables (suc steps) a b ≡ true
within_more nodes cables zero a b h = or_left (a == b) _ h
within_more nodes cables (suc steps) a b h =
    elim (or_cases (a == b) (list_any (leads_on nodes cables steps a b) (switches nodes)) h) [
      | inl here ↦ or_left (a == b) _ here
      | inr on ↦ or_right (a == b) (list_any (leads_on nodes cables (suc steps) a b) (switches nodes)) (list_any_weaker (leads_on nodes cables steps a b) (leads_on nodes cables (suc steps) a b)
          (λ next led. let parts = and_parts (list_any (λ cable. joins a next cable) cables) _ led in
          and_from (list_any (λ cable. joins a next cable) cables) _ parts.0 (within_more nodes cables steps next b parts.1)) (switches nodes) on)
    ]

-- what so many rounds mark is so many steps away at most
marked_within : (nodes : List Node) (cables : List Cable) (place rounds i : ℕ) → is_switch_at nodes place ≡ true
    → is_marked (after_rounds nodes cables place rounds) i ≡ true → is_joined_within nodes cables rounds i place ≡ true
marked_within nodes cables place zero i start h = eq-eqb i place (mark-only nodes place i h)
marked_within nodes cables place (suc rounds) i start h =
    let marks = after_rounds nodes cables place rounds in
    let parts = and_parts (is_switch_at nodes i) _ (sym (mark-spread nodes cables marks i) ∙ h) in
    elim (or_cases (is_marked marks i) (list_any (λ cable. leads_to marks i cable) cables) parts.1) [
      | inl before ↦ within_more nodes cables rounds i place (marked_within nodes cables place rounds i start before)
      | inr now ↦ let found = led_from marks i cables now in
          let back = list_any_weaker (λ cable. joins found.0 i cable) (λ cable. joins i found.0 cable) (λ cable j. joins-back found.0 i cable j) cables found.1.1 in
          or_right (i == place) _ (this_switch nodes (leads_on nodes cables rounds i place) found.0 (marked_switch nodes cables place rounds found.0 start found.1.0)
          (and_from (list_any (λ cable. joins i found.0 cable) cables) _ back (marked_within nodes cables place rounds found.0 start found.1.0)))
    ]

-- ---- the law
pub joined_if : (nodes : List Node) (cables : List Cable) → is_connected nodes cables ≡ true → AllJoined nodes cables
joined_if nodes cables h a b at bt =
    within_joined nodes cables (switch_count nodes) a b at (each_switch nodes (λ to. is_joined_within nodes cables (switch_count nodes) a to)
    (each_switch nodes (λ from. list_all (λ to. is_joined_within nodes cables (switch_count nodes) from to) (switches nodes)) h a at) b bt)

pub if_joined : (nodes : List Node) (cables : List Cable) → AllJoined nodes cables → is_connected nodes cables ≡ true
if_joined nodes cables all =
    all_switches nodes _ (λ a at. all_switches nodes _ (λ b bt. let walk = all b a bt at in
    marked_within nodes cables b (switch_count nodes) a bt (complete nodes cables b bt b walk.0 a (start_marked nodes cables b (switch_count nodes) bt) walk.1)))

-- the rounds find what the test says
pub tested : (nodes : List Node) (cables : List Cable) → leads_to_all nodes cables ≡ is_connected nodes cables
tested nodes cables =
    by (leads_to_all nodes cables) (is_connected nodes cables) (λ h. if_joined nodes cables (reached_joined nodes cables h)) (λ h. joined_reached nodes cables (joined_if nodes cables h))
  where
    by : (one other : Bool) → (one ≡ true → other ≡ true) → (other ≡ true → one ≡ true) → one ≡ other
    by true other there back = sym (there refl)
    by false true there back = back refl
    by false false there back = refl
