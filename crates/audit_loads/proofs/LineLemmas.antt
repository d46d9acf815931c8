-- Loads, and the lines that report them.
use Rattle.std.proofs.Common.{◌≡◌, ◌∙◌, inl, inr, ap, refl, sym, ℕ, zero, suc, ◌+◌, ◌<◌, ◌≤◌, Bool, true, false, cond, not, ◌==◌, ◌&&◌, List, [], ◌∷◌, filter, flat_map, length, map, nat_le, arith}
use Rattle.std.specs.List.{count_by, list_any, range_with_len, sum_by}
use Rattle.std.proofs.lemmas.Bool.{cases_Bool, cases_lt}
use Rattle.std.proofs.lemmas.Bool.Decides.{nat_tests}
use Rattle.std.proofs.lemmas.List.Sums.{count_by-le-length, sum_by-append, sum_by-cons}
use Rattle.fabric_parts.specs.Cable.{is_same_port, port}
use Rattle.fabric_parts.specs.declared.cable.PortRef.{PortRef}
use Rattle.topo_file.specs.Connectivity.{switches}
use Rattle.topo_file.specs.Node.{is_switch_at, ports_at}
use Rattle.audit_plan.specs.Attached.{ports_of}
use Rattle.audit_loops.specs.Channels.{channels, channels_of, is_channel}
use Rattle.audit_net.specs.Net.{NetState}
use Rattle.audit_loads.specs.declared.loaded.Loaded.{Loaded}
use Rattle.audit_loads.specs.Laws.{EachChannelHasOneLine, LoadsAddUp, LoadsAreOfPairs, LoadsStayWithin, is_at, ports_used}
use Rattle.audit_loads.specs.Loads.{load, loaded, loads, most_of}
use Rattle.audit_loads.specs.Order.{from_load, has_load, ordered}
use Rattle.audit_loads.specs.Sources.{Pair}
use Rattle.audit_loads.specs.Ways.{goes_over}
use Rattle.audit_loads.proofs.OrderLemmas.{AreUpTo, up_to_most}

-- ---- counts
count_first : {X : Type 0} (p : X → Bool) (x : X) (xs : List X) → count_by p (x ∷ xs) ≡ cond (p x) 1 0 + count_by p xs
count_first p x xs = sum_by-cons (λ one. cond (p one) 1 0) x xs

count_yes : {X : Type 0} (p : X → Bool) (x : X) (xs : List X) → p x ≡ true → count_by p (x ∷ xs) ≡ 1 + count_by p xs
count_yes p x xs is = count_first p x xs ∙ ap (λ (b : Bool). cond b 1 0 + count_by p xs) is

count_not : {X : Type 0} (p : X → Bool) (x : X) (xs : List X) → p x ≡ false → count_by p (x ∷ xs) ≡ count_by p xs
count_not p x xs off =
    let none : 0 + count_by p xs ≡ count_by p xs = omega arith in
    count_first p x xs ∙ ap (λ (b : Bool). cond b 1 0 + count_by p xs) off ∙ none

pub none_counted : {X : Type 0} (p : X → Bool) (xs : List X) → (count_by p xs == 0) ≡ not (list_any p xs)
none_counted p [] = refl
none_counted p (x ∷ xs) = elim (cases_Bool (p x)) [
  | inl is ↦ let many = count_yes p x xs is in let some : (count_by p (x ∷ xs) == 0) ≡ false = grind (arith, nat_tests, many) in
      let any : not (list_any p (x ∷ xs)) ≡ false = rw is refl in some ∙ sym any
  | inr off ↦ let any : list_any p (x ∷ xs) ≡ list_any p xs = rw off refl in
      ap (λ (n : ℕ). n == 0) (count_not p x xs off) ∙ none_counted p xs ∙ ap not (sym any)
]

count_agree : {X : Type 0} (p q : X → Bool) (xs : List X) → ((x : X) → p x ≡ q x) → count_by p xs ≡ count_by q xs
count_agree p q [] same = refl
count_agree p q (x ∷ xs) same =
    count_first p x xs ∙ ap (λ (b : Bool). cond b 1 0 + count_by p xs) (same x) ∙ ap (λ (n : ℕ). cond (q x) 1 0 + n) (count_agree p q xs same) ∙ sym (count_first q x xs)

count_kept : {X : Type 0} (p q : X → Bool) (xs : List X) → count_by p (filter q xs) ≤ count_by p xs
count_kept p q [] = omega arith
count_kept p q (x ∷ xs) =
    let rest = count_kept p q xs in
    let whole = count_first p x xs in
    elim (cases_Bool (q x)) [
      | inl keeps ↦
          let kept : filter q (x ∷ xs) ≡ x ∷ filter q xs = rw keeps refl in
          let more = ap (count_by p) kept ∙ count_first p x (filter q xs) in
          omega (arith, rest, whole, more)
      | inr drops ↦
          let kept : filter q (x ∷ xs) ≡ filter q xs = rw drops refl in
          let same = ap (count_by p) kept in
          omega (arith, rest, whole, same)
    ]

count_mapped : {X Y : Type 0} (p : Y → Bool) (f : X → Y) (xs : List X) → count_by p (map f xs) ≡ count_by (λ x. p (f x)) xs
count_mapped p f [] = refl
count_mapped p f (x ∷ xs) =
    count_first p (f x) (map f xs) ∙ ap (λ (n : ℕ). cond (p (f x)) 1 0 + n) (count_mapped p f xs) ∙ sym (count_first (λ one. p (f one)) x xs)

count_flat : {X Y : Type 0} (p : Y → Bool) (f : X → List Y) (q : X → Bool) (xs : List X) → ((x : X) → count_by p (f x) ≤ cond (q x) 1 0)
    → count_by p (flat_map f xs) ≤ count_by q xs
count_flat p f q [] each = omega arith
count_flat p f q (x ∷ xs) each =
    let rest = count_flat p f q xs each in
    let here = each x in
    let both = sum_by-append (λ one. cond (p one) 1 0) (f x) (flat_map f xs) in
    let more = count_first q x xs in
    omega (arith, rest, here, both, more)

-- ---- a number is once in a range
below_range : (k low many : ℕ) → k < low → count_by (λ n. n == k) (range_with_len low many) ≡ 0
below_range k low zero less = refl
below_range k low (suc many) less =
    let other : (low == k) ≡ false = grind (arith, nat_tests, less) in
    count_not (λ n. n == k) low (range_with_len (low + 1) many) other ∙ below_range k (low + 1) many (omega (arith, less))

once_in_range : (k low many : ℕ) → count_by (λ n. n == k) (range_with_len low many) ≤ 1
once_in_range k low zero = omega arith
once_in_range k low (suc many) = elim (cases_Bool (low == k)) [
  | inl here ↦
      let same : low ≡ k = grind (arith, nat_tests, here) in
      let one = count_yes (λ n. n == k) low (range_with_len (low + 1) many) here in
      let rest = below_range k (low + 1) many (omega (arith, same)) in
      omega (arith, one, rest)
  | inr other ↦
      let same = count_not (λ n. n == k) low (range_with_len (low + 1) many) other in
      let rest = once_in_range k (low + 1) many in
      omega (arith, same, rest)
]

-- ---- each channel is once among them
pub none_of_range : {X : Type 0} (xs : List X) → count_by (λ x. false) xs ≡ 0
none_of_range [] = refl
none_of_range (x ∷ xs) = count_not (λ one. false) x xs refl ∙ none_of_range xs

ports_once : (place many : ℕ) (at : PortRef) → count_by (λ channel. is_same_port channel at) (map (port place) (range_with_len 1 many)) ≤ cond (place == at.node) 1 0
ports_once place many at = elim (cases_Bool (place == at.node)) [
  | inl here ↦
      let by_number : count_by (λ n. is_same_port (port place n) at) (range_with_len 1 many) ≡ count_by (λ n. n == at.port) (range_with_len 1 many) =
      count_agree (λ n. is_same_port (port place n) at) (λ n. n == at.port) (range_with_len 1 many) (λ n. ap (λ (b : Bool). b && (n == at.port)) here) in
      let mapped = count_mapped (λ channel. is_same_port channel at) (port place) (range_with_len 1 many) in
      let once = once_in_range at.port 1 many in
      let one : ℕ = 1 in
      let limit : cond (place == at.node) one 0 ≡ one = rw here refl in
      omega (arith, by_number, mapped, once, limit)
  | inr other ↦
      let by_number : count_by (λ n. is_same_port (port place n) at) (range_with_len 1 many) ≡ count_by (λ n. false) (range_with_len 1 many) =
      count_agree (λ n. is_same_port (port place n) at) (λ n. false) (range_with_len 1 many) (λ n. ap (λ (b : Bool). b && (n == at.port)) other) in
      let mapped = count_mapped (λ channel. is_same_port channel at) (port place) (range_with_len 1 many) in
      let none = none_of_range (range_with_len 1 many) in
      omega (arith, by_number, mapped, none)
]

pub channels_once : (net : NetState) (at : PortRef) → count_by (λ channel. is_same_port channel at) (channels net) ≤ 1
channels_once net at =
    let all = count_flat (λ channel. is_same_port channel at) (channels_of net) (λ place. place == at.node) (switches net.plan.nodes)
    (λ place.
    let kept = count_kept (λ channel. is_same_port channel at) (is_channel net) (ports_of net.plan place) in
    let once = ports_once place (ports_at net.plan.nodes place) at in
    omega (arith, kept, once)) in
    let kept = count_kept (λ place. place == at.node) (is_switch_at net.plan.nodes) (range_with_len 0 (length net.plan.nodes)) in
    let once = once_in_range at.node 0 (length net.plan.nodes) in
    omega (arith, all, kept, once)

pub one_or_none : {X : Type 0} (p : X → Bool) (xs : List X) → count_by p xs ≤ 1 → count_by p xs ≡ cond (list_any p xs) 1 0
one_or_none p xs most = elim (cases_Bool (list_any p xs)) [
  | inl some ↦
      let any : (count_by p xs == 0) ≡ false = none_counted p xs ∙ ap not some in
      let one : count_by p xs ≡ 1 = grind (arith, nat_tests, any, most) in
      one ∙ sym (ap (λ (b : Bool). cond b 1 0) some)
  | inr none ↦
      let any : (count_by p xs == 0) ≡ true = none_counted p xs ∙ ap not none in
      let zeros : count_by p xs ≡ 0 = grind (arith, nat_tests, any) in
      zeros ∙ sym (ap (λ (b : Bool). cond b 1 0) none)
]

-- ---- the order drops none, and has none twice
pub of_kept : {X : Type 0} (p q : X → Bool) (xs : List X) → count_by p (filter q xs) ≡ count_by (λ x. q x && p x) xs
of_kept p q [] = refl
of_kept p q (x ∷ xs) = elim (cases_Bool (q x)) [
  | inl here ↦
      let kept : filter q (x ∷ xs) ≡ x ∷ filter q xs = rw here refl in
      ap (count_by p) kept ∙ count_first p x (filter q xs) ∙ ap (λ (n : ℕ). cond (p x) 1 0 + n) (of_kept p q xs)
      ∙ sym (count_first (λ y. q y && p y) x xs ∙ ap (λ (b : Bool). cond (b && p x) 1 0 + count_by (λ y. q y && p y) xs) here)
  | inr other ↦
      let kept : filter q (x ∷ xs) ≡ filter q xs = rw other refl in
      let off : (q x && p x) ≡ false = rw other refl in
      ap (count_by p) kept ∙ of_kept p q xs ∙ sym (count_not (λ y. q y && p y) x xs off)
]

count_parts : (a b c : Loaded → Bool) (all : List Loaded) → ((one : Loaded) → cond (a one) 1 0 + cond (b one) 1 0 ≡ cond (c one) 1 0)
    → count_by a all + count_by b all ≡ count_by c all
count_parts a b c [] parts = refl
count_parts a b c (one ∷ all) parts =
    let first = count_first a one all in
    let second = count_first b one all in
    let whole = count_first c one all in
    let here = parts one in
    let rest = count_parts a b c all parts in
    omega (arith, first, second, whole, here, rest)

up_to_split : (load most : ℕ) (passes : Bool) → cond ((load == suc most) && passes) 1 0 + cond (nat_le load most && passes) 1 0 ≡ cond (nat_le load (suc most) && passes) 1 0
up_to_split load most false = no_pass (load == suc most) (nat_le load most) (nat_le load (suc most))
  where
    no_pass : (a b c : Bool) → cond (a && false) 1 0 + cond (b && false) 1 0 ≡ cond (c && false) 1 0
    no_pass true true true = refl
    no_pass true true false = refl
    no_pass true false true = refl
    no_pass true false false = refl
    no_pass false true true = refl
    no_pass false true false = refl
    no_pass false false true = refl
    no_pass false false false = refl
up_to_split load most true = elim (cases_lt most load) [
  | inl more ↦ elim (cases_Bool (load == suc most)) [
    | inl here ↦
        let b : nat_le load most ≡ false = grind (arith, nat_tests, more) in
        let c : nat_le load (suc most) ≡ true = grind (arith, nat_tests, here) in
        rw (here, b, c) refl
    | inr other ↦
        let b : nat_le load most ≡ false = grind (arith, nat_tests, more) in
        let c : nat_le load (suc most) ≡ false = grind (arith, nat_tests, more, other) in
        rw (other, b, c) refl
  ]
  | inr less ↦
      let a : (load == suc most) ≡ false = grind (arith, nat_tests, less) in
      let b : nat_le load most ≡ true = grind (arith, nat_tests, less) in
      let c : nat_le load (suc most) ≡ true = grind (arith, nat_tests, less) in
      rw (a, b, c) refl
]

count_from : (p : Loaded → Bool) (all : List Loaded) (most : ℕ) → count_by p (from_load all most) ≡ count_by (λ one. nat_le one.load most && p one) all
count_from p all zero =
    of_kept p (has_load 0) all
    ∙ count_agree (λ one. has_load 0 one && p one) (λ one. nat_le one.load 0 && p one) all
    (λ one. let same : (one.load == 0) ≡ nat_le one.load 0 = grind (arith, nat_tests) in ap (λ (b : Bool). b && p one) same)
count_from p all (suc most) =
    sum_by-append (λ one. cond (p one) 1 0) (filter (has_load (suc most)) all) (from_load all most)
    ∙ ap (λ (n : ℕ). n + count_by p (from_load all most)) (of_kept p (has_load (suc most)) all)
    ∙ ap (λ (n : ℕ). count_by (λ one. has_load (suc most) one && p one) all + n) (count_from p all most)
    ∙ count_parts (λ one. has_load (suc most) one && p one) (λ one. nat_le one.load most && p one) (λ one. nat_le one.load (suc most) && p one) all
    (λ one. up_to_split one.load most (p one))

all_up_to : (p : Loaded → Bool) (all : List Loaded) (most : ℕ) → AreUpTo most all → count_by (λ one. nat_le one.load most && p one) all ≡ count_by p all
all_up_to p [] most up = refl
all_up_to p (one ∷ all) most up =
    let less = up.0 in
    let here : nat_le one.load most ≡ true = grind (arith, nat_tests, less) in
    count_first (λ x. nat_le x.load most && p x) one all ∙ ap (λ (b : Bool). cond (b && p one) 1 0 + count_by (λ x. nat_le x.load most && p x) all) here
    ∙ ap (λ (n : ℕ). cond (p one) 1 0 + n) (all_up_to p all most up.1) ∙ sym (count_first p one all)

pub count_ordered : (p : Loaded → Bool) (all : List Loaded) → count_by p (ordered all) ≡ count_by p all
count_ordered p all = count_from p all (most_of all) ∙ all_up_to p all (most_of all) (up_to_most all)

-- ---- sums of counts, the other way round
sum_both : {X : Type 0} (f g : X → ℕ) (xs : List X) → sum_by (λ x. f x + g x) xs ≡ sum_by f xs + sum_by g xs
sum_both f g [] = refl
sum_both f g (x ∷ xs) =
    let both = sum_by-cons (λ one. f one + g one) x xs in
    let one = sum_by-cons f x xs in
    let other = sum_by-cons g x xs in
    let rest = sum_both f g xs in
    omega (arith, both, one, other, rest)

sum_none : {X : Type 0} (xs : List X) → 0 ≡ sum_by (λ x. 0) xs
sum_none [] = refl
sum_none (x ∷ xs) = let more = sum_by-cons (λ one. 0) x xs in let rest = sum_none xs in omega (arith, more, rest)

pub loads_add_up : LoadsAddUp
loads_add_up net pairs [] = sum_none pairs
loads_add_up net pairs (at ∷ some) =
    sum_by-cons (load net pairs) at some ∙ ap (λ (n : ℕ). load net pairs at + n) (loads_add_up net pairs some)
    ∙ sym (sum_both (λ pair. cond (goes_over net at pair) 1 0) (ports_used net some) pairs)
    ∙ ap (λ (f : Pair → ℕ). sum_by f pairs) (λ place pair. sym (count_first (λ one. goes_over net one pair) at some) place)

-- ---- the laws
pub loads_are_of_pairs : LoadsAreOfPairs
loads_are_of_pairs net pairs at = none_counted (goes_over net at) pairs

pub loads_stay_within : LoadsStayWithin
loads_stay_within net pairs at = count_by-le-length (goes_over net at) pairs

pub each_channel_has_one_line : EachChannelHasOneLine
each_channel_has_one_line net pairs at =
    count_ordered (is_at at) (loads net pairs) ∙ count_mapped (is_at at) (loaded net pairs) (channels net)
    ∙ one_or_none (λ channel. is_same_port channel at) (channels net) (channels_once net at)
