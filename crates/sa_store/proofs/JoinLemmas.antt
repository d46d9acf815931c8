-- A membership among those of a group, which stand by the GUIDs of their ports, as code finds its place.
use Rattle.std.proofs.Common.{◌≡◌, ℕ, zero, suc, ◌+◌, ◌*◌, ◌^◌, ◌<◌, ◌≤◌, ◌==◌, nat_lt, max, bit_and, bit_or, Bool, true, false, ◌||◌}
use Rattle.std.proofs.Common.{List, [], ◌∷◌, filter, map, length, get_or, set, slice_get, insert}
use Rattle.std.proofs.Common.{refl, ap, inl, inr, arith}
use Rattle.std.specs.Int.{bit_at}
use Rattle.std.specs.List.{AllByRecursion, list_all, list_any, prefix_len}
use Rattle.std.specs.Option.{option_map_or}
use Rattle.std.proofs.lemmas.Bool.{and_parts, cases_Bool, eqb-true, eq-eqb, false≢true, ltb-true, lt-ltb, ne_eqb}
use Rattle.std.proofs.lemmas.Nat.{pow_pos}
use Rattle.std.proofs.lemmas.Nat.Bits.{and_pow, bit_at-lt, bit_at_or}
use Rattle.sa_model.specs.Groups.{Membership, lower_port}
use Rattle.sa_model.specs.JoinState.{with_bits}
use Rattle.sa_model.specs.Joining.{Join, in_place, is_of, more_joined, new_membership, with_member}
use Rattle.sa_model.specs.Sound.{pairwise}
use Rattle.sa_replies.specs.Joins.{join_state_of}

-- ---- the bits of a JoinState
one_bit : (x y p : ℕ) → x < 2 → y < 2 → 0 < p → (max x y * p == p) ≡ (x * p == p) || (y * p == p)
one_bit zero zero p low also some = let none : (0 * p == p) ≡ false = ne_eqb (0 * p) p (λ same. omega (arith, same, some)) in rw none refl
one_bit zero (suc zero) p low also some =
    let none : (0 * p == p) ≡ false = ne_eqb (0 * p) p (λ same. omega (arith, same, some)) in
    let all : (1 * p == p) ≡ true = eq-eqb (1 * p) p (omega arith) in
    rw (none, all) refl
one_bit (suc zero) zero p low also some = let all : (1 * p == p) ≡ true = eq-eqb (1 * p) p (omega arith) in rw all refl
one_bit (suc zero) (suc zero) p low also some = let all : (1 * p == p) ≡ true = eq-eqb (1 * p) p (omega arith) in rw all refl
one_bit zero (suc (suc y)) p low also some = absurd (omega (arith, also))
one_bit (suc zero) (suc (suc y)) p low also some = absurd (omega (arith, also))
one_bit (suc (suc x)) y p low also some = absurd (omega (arith, low))

either_bit : (k a b : ℕ) → (bit_and (bit_or a b) (2 ^ k) == 2 ^ k) ≡ (bit_and a (2 ^ k) == 2 ^ k) || (bit_and b (2 ^ k) == 2 ^ k)
either_bit k a b =
    rw (and_pow (bit_or a b) k, and_pow a k, and_pow b k, bit_at_or a b k)
    (one_bit (bit_at a k) (bit_at b k) (2 ^ k) (bit_at-lt a k) (bit_at-lt b k) (pow_pos k))

pub more_bits : (a b : ℕ) → join_state_of (bit_or a b) ≡ with_bits (join_state_of b) (join_state_of a)
more_bits a b =
    let full : (bit_and (bit_or a b) 1 == 1) ≡ (bit_and a 1 == 1) || (bit_and b 1 == 1) = either_bit 0 a b in
    let non : (bit_and (bit_or a b) 2 == 2) ≡ (bit_and a 2 == 2) || (bit_and b 2 == 2) = either_bit 1 a b in
    let send : (bit_and (bit_or a b) 4 == 4) ≡ (bit_and a 4 == 4) || (bit_and b 4 == 4) = either_bit 2 a b in
    rw (full, non, send) refl

-- ---- tests of numbers
not_less : (a b : ℕ) → b ≤ a → nat_lt a b ≡ false
not_less a b h = elim (cases_Bool (nat_lt a b)) [
  | inl less ↦ absurd (omega (arith, ltb-true a b less, h))
  | inr other ↦ other
]

pub one_more : (n : ℕ) → 1 + n ≡ suc n
one_more n = omega arith

-- ---- memberships of ports of higher GUIDs
abbrev pub Above : ℕ → List Membership → Type 0
Above port memberships = AllByRecursion (λ membership. port < membership.port) memberships

pub above_first : (port : ℕ) (first : Membership) (rest : List Membership) → list_all (lower_port first) rest ≡ true → port ≤ first.port → Above port rest
above_first port first [] all low = tt
above_first port first (membership ∷ rest) all low =
    let parts = and_parts (lower_port first membership) _ all in
    (omega (arith, ltb-true first.port membership.port parts.0, low), above_first port first rest parts.1 low)

none_lower : (new : Membership) (memberships : List Membership) → Above new.port memberships
    → filter (λ membership. lower_port membership new) memberships ≡ []
none_lower new [] above = refl
none_lower new (membership ∷ memberships) above =
    rw (not_less membership.port new.port (omega (arith, above.0))) (none_lower new memberships above.1)

all_higher : (new : Membership) (memberships : List Membership) → Above new.port memberships
    → filter (λ membership. lower_port new membership) memberships ≡ memberships
all_higher new [] above = refl
all_higher new (membership ∷ memberships) above =
    rw (lt-ltb new.port membership.port above.0) (ap (λ (rest : List Membership). membership ∷ rest) (all_higher new memberships above.1))

other_port : (port : ℕ) (membership : Membership) → port < membership.port → is_of port membership ≡ false
other_port port membership above = ne_eqb membership.port port (λ same. omega (arith, same, above))

pub lower_is_other : (port : ℕ) (membership : Membership) → nat_lt membership.port port ≡ true → is_of port membership ≡ false
lower_is_other port membership lower = ne_eqb membership.port port (λ same. omega (arith, ltb-true membership.port port lower, same))

pub none_of_port : (port : ℕ) (memberships : List Membership) → Above port memberships → list_any (is_of port) memberships ≡ false
none_of_port port [] above = refl
none_of_port port (membership ∷ memberships) above = rw (other_port port membership above.0) (none_of_port port memberships above.1)

none_grown : (join : Join) (memberships : List Membership) → Above join.port memberships → map (more_joined join) memberships ≡ memberships
none_grown join [] above = refl
none_grown join (membership ∷ memberships) above =
    rw (other_port join.port membership above.0)
    (ap (λ (rest : List Membership). membership ∷ rest) (none_grown join memberships above.1))

-- ---- the place of a port
abbrev pub place_for : ℕ → List Membership → ℕ
place_for port memberships = prefix_len (λ membership. nat_lt membership.port port) memberships

abbrev pub is_at : ℕ → List Membership → Bool
is_at port memberships = option_map_or (is_of port) (slice_get memberships (place_for port memberships)) false

pub within_there : (port : ℕ) (memberships : List Membership) → is_at port memberships ≡ true → place_for port memberships < length memberships
within_there port [] there = absurd (false≢true there)
within_there port (first ∷ rest) there = elim (cases_Bool (nat_lt first.port port)) [
  | inl lower ↦
      let e = one_more (place_for port rest) in
      let later = within_there port rest (rw (lower, e) at there) in
      rw (lower, e) (omega (arith, later))
  | inr here ↦ rw here (omega arith)
]

found_there : (port : ℕ) (memberships : List Membership) → is_at port memberships ≡ true → list_any (is_of port) memberships ≡ true
found_there port [] there = absurd (false≢true there)
found_there port (first ∷ rest) there = elim (cases_Bool (nat_lt first.port port)) [
  | inl lower ↦
      let e = one_more (place_for port rest) in
      let other = lower_is_other port first lower in
      rw other (found_there port rest (rw (lower, e) at there))
  | inr here ↦ let same : is_of port first ≡ true = rw here at there in rw same refl
]

-- a membership with more bits
abbrev pub grown : Join → Membership → Membership
grown join membership = record membership { join_state = with_bits join.join_state membership.join_state }

grown_there : (join : Join) (memberships : List Membership) (d : Membership) → pairwise lower_port memberships ≡ true
    → is_at join.port memberships ≡ true
    → set memberships (place_for join.port memberships) (grown join (get_or memberships (place_for join.port memberships) d))
    ≡ map (more_joined join) memberships
grown_there join [] d order there = absurd (false≢true there)
grown_there join (first ∷ rest) d order there = elim (cases_Bool (nat_lt first.port join.port)) [
  | inl lower ↦
      let parts = and_parts (list_all (lower_port first) rest) (pairwise lower_port rest) order in
      let e = one_more (place_for join.port rest) in
      let other = lower_is_other join.port first lower in
      rw (lower, e, other)
      (ap (λ (memberships : List Membership). first ∷ memberships) (grown_there join rest d parts.1 (rw (lower, e) at there)))
  | inr here ↦
      let parts = and_parts (list_all (lower_port first) rest) (pairwise lower_port rest) order in
      let same : is_of join.port first ≡ true = rw here at there in
      let equal : first.port ≡ join.port = eqb-true first.port join.port same in
      let others = none_grown join rest (above_first join.port first rest parts.0 (omega (arith, equal))) in
      rw (here, same, others) refl
]

pub entered_there : (join : Join) (memberships : List Membership) (d : Membership) → pairwise lower_port memberships ≡ true
    → is_at join.port memberships ≡ true
    → set memberships (place_for join.port memberships) (grown join (get_or memberships (place_for join.port memberships) d))
    ≡ with_member join memberships
entered_there join memberships d order there = rw (found_there join.port memberships there) (grown_there join memberships d order there)

-- ---- where there is none
higher_than : (port : ℕ) (first : Membership) → nat_lt first.port port ≡ false → is_of port first ≡ false → port < first.port
higher_than port first low other = grind (arith, Rattle.std.proofs.lemmas.Bool.Decides.nat_tests, low, other)

pub none_there : (port : ℕ) (memberships : List Membership) → pairwise lower_port memberships ≡ true → is_at port memberships ≡ false
    → list_any (is_of port) memberships ≡ false
none_there port [] order none = refl
none_there port (first ∷ rest) order none = elim (cases_Bool (nat_lt first.port port)) [
  | inl lower ↦
      let parts = and_parts (list_all (lower_port first) rest) (pairwise lower_port rest) order in
      let e = one_more (place_for port rest) in
      let other = lower_is_other port first lower in
      rw other (none_there port rest parts.1 (rw (lower, e) at none))
  | inr here ↦
      let parts = and_parts (list_all (lower_port first) rest) (pairwise lower_port rest) order in
      let different : is_of port first ≡ false = rw here at none in
      let over = higher_than port first here different in
      rw different (none_of_port port rest (above_first port first rest parts.0 (omega (arith, over))))
]

put_there : (new : Membership) (memberships : List Membership) → pairwise lower_port memberships ≡ true → is_at new.port memberships ≡ false
    → insert memberships (place_for new.port memberships) new ≡ in_place new memberships
put_there new [] order none = refl
put_there new (first ∷ rest) order none = elim (cases_Bool (nat_lt first.port new.port)) [
  | inl lower ↦
      let parts = and_parts (list_all (lower_port first) rest) (pairwise lower_port rest) order in
      let e = one_more (place_for new.port rest) in
      let higher = not_less new.port first.port (omega (arith, ltb-true first.port new.port lower)) in
      rw (lower, e, higher) (ap (λ (memberships : List Membership). first ∷ memberships) (put_there new rest parts.1 (rw (lower, e) at none)))
  | inr here ↦
      let parts = and_parts (list_all (lower_port first) rest) (pairwise lower_port rest) order in
      let different : is_of new.port first ≡ false = rw here at none in
      let over = higher_than new.port first here different in
      let above = above_first new.port first rest parts.0 (omega (arith, over)) in
      let higher = lt-ltb new.port first.port over in
      let lowers = none_lower new rest above in
      let highers = all_higher new rest above in
      rw (here, higher, lowers, highers) refl
]

pub inserted_there : (join : Join) (memberships : List Membership) → pairwise lower_port memberships ≡ true → is_at join.port memberships ≡ false
    → insert memberships (place_for join.port memberships) (new_membership join) ≡ with_member join memberships
inserted_there join memberships order none =
    rw (none_there join.port memberships order none) (put_there (new_membership join) memberships order none)
