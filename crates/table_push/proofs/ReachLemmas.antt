-- The bits of the ports by which receivers are reached.
use Rattle.std.proofs.Common.{ℕ, zero, suc, ◌≡◌, ◌-◌, ◌*◌, ◌%◌, ◌^◌, ◌<◌, ◌≤◌, ◌==◌, ◌&&◌, ◌||◌, ◌∙◌, ap, refl, sym, subst, Bool, true, false, List, [], ◌∷◌, length, max, bit_or, slice_get, w64, Option, Some, None, ◌⊎◌, inl, inr, arith}
use Rattle.std.specs.Int.{bit_at}
use Rattle.std.specs.List.{list_any, range_with_len}
use Rattle.std.specs.Option.{option_map_or}
use Rattle.std.proofs.lemmas.Bool.{and_parts, and_from, cases_Bool, eqb-true, false≢true}
use Rattle.std.proofs.lemmas.Bool.Decides.{nat_tests, same_from_decides}
use Rattle.std.proofs.lemmas.Map.Keys.{any_passes_from_place}
use Rattle.std.proofs.lemmas.Nat.Bits.{bit_at-lt, bit_at-zero, bit_at_or, bit_at_set_other, bit_at_set_same}
use Rattle.std.proofs.lemmas.Option.{slice_get_within}
use Rattle.fabric_parts.specs.declared.cable.PortRef.{PortRef}
use Rattle.step_results.proofs.ListLemmas.{range_at}
use Rattle.subnet_model.specs.declared.group_receiver.GroupReceiver.{GroupReceiver}
use Rattle.table_push.specs.Masks.{is_hop, is_hop_to, is_in_mask, receives_of}
use Rattle.table_push.proofs.NodeLemmas.{same_number}
use Rattle.updn_routes.specs.Routes.{home_of}
use Rattle.updn_routes.specs.Subnet.{RoutesState}

-- ---- bits of ports
one_of : (a b : ℕ) → a < 2 → b < 2 → (max a b == 1) ≡ ((a == 1) || (b == 1))
one_of a b low other = two a b (cases_of a low) (cases_of b other)
  where
    cases_of : (a : ℕ) → a < 2 → (a ≡ 0) ⊎ (a ≡ 1)
    cases_of zero low = inl refl
    cases_of (suc zero) low = inr refl
    cases_of (suc (suc a)) low = absurd (omega (arith, low))

    two : (a b : ℕ) → (a ≡ 0) ⊎ (a ≡ 1) → (b ≡ 0) ⊎ (b ≡ 1) → (max a b == 1) ≡ ((a == 1) || (b == 1))
    two a b (inl x) (inl y) = rw (x, y) refl
    two a b (inl x) (inr y) = rw (x, y) refl
    two a b (inr x) (inl y) = rw (x, y) refl
    two a b (inr x) (inr y) = rw (x, y) refl

pub either_bit : (a b n : ℕ) → (bit_at (bit_or a b) n == 1) ≡ ((bit_at a n == 1) || (bit_at b n == 1))
either_bit a b n =
    ap (λ (bit : ℕ). bit == 1) (bit_at_or a b n) ∙ one_of (bit_at a n) (bit_at b n) (bit_at-lt a n) (bit_at-lt b n)

pub no_bits : (n : ℕ) → (bit_at 0 n == 1) ≡ false
no_bits n = ap (λ (bit : ℕ). bit == 1) (bit_at-zero n)

-- the bit of a port, and of no other
pub its_bit : (k n : ℕ) → k < 64 → (bit_at (bit_or 0 (1 * 2 ^ k % 2 ^ 64)) n == 1) ≡ (k == n)
its_bit k n low = elim (cases_Bool (k == n)) [
  | inl same ↦
      let is : k ≡ n = eqb-true k n same in
      subst (λ (m : ℕ). (bit_at (bit_or 0 (1 * 2 ^ k % 2 ^ 64)) m == 1) ≡ (k == m)) is
      (ap (λ (bit : ℕ). bit == 1) (bit_at_set_same w64 0 k low) ∙ sym (same_number k))
  | inr other ↦
      ap (λ (bit : ℕ). bit == 1) (bit_at_set_other w64 0 k low n (λ is. both other (sym (same_number k) ∙ ap (λ (m : ℕ). k == m) (sym is)))) ∙ no_bits n ∙ sym other
]
  where
    both : {b : Bool} → b ≡ false → true ≡ b → ⊥
    both apart same = absurd (cc)

pub port_bit : (k n : ℕ) → k < 64 → (bit_at (1 * 2 ^ k % 2 ^ 64) n == 1) ≡ (k == n)
port_bit k n low =
    sym (either_bit 0 (1 * 2 ^ k % 2 ^ 64) n ∙ ap (λ (b : Bool). b || (bit_at (1 * 2 ^ k % 2 ^ 64) n == 1)) (no_bits n)) ∙ its_bit k n low

-- ---- who is reached
abbrev pub is_reached : RoutesState → (place mlid number : ℕ) → GroupReceiver → Bool
is_reached routes place mlid number one = (one.mlid == mlid) && is_hop_to routes place number one.lid

pub same_answers : (a b : Bool) → (a ≡ true → b ≡ true) → (b ≡ true → a ≡ true) → a ≡ b
same_answers a b there back = same_from_decides a b (there, back) (λ is. is, λ is. is)

pub record Among {X : Type 0} (p : X → Bool) (xs : List X) : Type 0 where
  pub at : ℕ
  pub one : X
  pub there : slice_get xs at ≡ Some one
  pub passes : p one ≡ true

pub among : {X : Type 0} (p : X → Bool) (xs : List X) → list_any p xs ≡ true → Among p xs
among p [] any = absurd (cc)
among p (x ∷ xs) any = by (p x) refl (λ rest. among p xs rest)
  where
    by : (b : Bool) → p x ≡ b → (list_any p xs ≡ true → Among p xs) → Among p (x ∷ xs)
    by true is more = record { at = 0; one = x; there = refl; passes = is }
    by false is more =
        let rest = more (sym (ap (λ (b : Bool). b || list_any p xs) is) ∙ any) in
        record { at = suc rest.at; one = rest.one; there = rest.there; passes = rest.passes }

-- a LID that is attached somewhere is one of those that are counted
counted : (homes : List PortRef) (lid n : ℕ) (test : PortRef → Bool) → length homes ≡ n → option_map_or test (home_of homes lid) false ≡ true
    → slice_get (range_with_len 1 n) (lid - 1) ≡ Some lid
counted homes lid n test long is = by (lid == 0) refl
  where
    later : (found : Option PortRef) → (lid == 0) ≡ false → slice_get homes (lid - 1) ≡ found → option_map_or test found false ≡ true
        → slice_get (range_with_len 1 n) (lid - 1) ≡ Some lid
    later None some at never = absurd (false≢true never)
    later (Some home) some at passes =
        let within = slice_get_within homes (lid - 1) home at in
        let above : 1 ≤ lid = grind (arith, nat_tests) in
        range_at 1 n (lid - 1) (omega (arith, within, long)) ∙ ap (λ (m : ℕ). Some m) (omega (arith, above))

    by : (b : Bool) → (lid == 0) ≡ b → slice_get (range_with_len 1 n) (lid - 1) ≡ Some lid
    by true none = absurd (false≢true (sym (ap (λ (o : Option PortRef). option_map_or test o false) (nothing none)) ∙ is))
      where
        nothing : (lid == 0) ≡ true → home_of homes lid ≡ None
        nothing first = rw first refl
    by false some = later (slice_get homes (lid - 1)) some refl (sym (ap (λ (o : Option PortRef). option_map_or test o false) (its some)) ∙ is)
      where
        its : (lid == 0) ≡ false → home_of homes lid ≡ slice_get homes (lid - 1)
        its some = rw some refl

pub reached_is : (routes : RoutesState) (place mlid number : ℕ) (receivers : List GroupReceiver) → length routes.between.homes ≡ length routes.lids
    → list_any (is_reached routes place mlid number) receivers ≡ is_in_mask routes (receives_of receivers) place mlid number
unfolding is_in_mask
reached_is routes place mlid number receivers long =
    same_answers (list_any (is_reached routes place mlid number) receivers)
    (list_any (λ lid. receives_of receivers mlid lid && is_hop_to routes place number lid) (range_with_len 1 (length routes.lids))) there back
  where
    there : list_any (is_reached routes place mlid number) receivers ≡ true
        → list_any (λ lid. receives_of receivers mlid lid && is_hop_to routes place number lid) (range_with_len 1 (length routes.lids)) ≡ true
    there any =
        let found = among (is_reached routes place mlid number) receivers any in
        let parts = and_parts (found.one.mlid == mlid) (is_hop_to routes place number found.one.lid) found.passes in
        let receives : receives_of receivers mlid found.one.lid ≡ true =
        any_passes_from_place (λ (one : GroupReceiver). (one.mlid == mlid) && (one.lid == found.one.lid)) receivers found.at found.one found.there
        (and_from (found.one.mlid == mlid) (found.one.lid == found.one.lid) parts.0 (same_number found.one.lid)) in
        any_passes_from_place (λ (lid : ℕ). receives_of receivers mlid lid && is_hop_to routes place number lid) (range_with_len 1 (length routes.lids)) (found.one.lid - 1) found.one.lid
        (counted routes.between.homes found.one.lid (length routes.lids) (is_hop routes place number) long parts.1)
        (and_from (receives_of receivers mlid found.one.lid) (is_hop_to routes place number found.one.lid) receives parts.1)

    back : list_any (λ lid. receives_of receivers mlid lid && is_hop_to routes place number lid) (range_with_len 1 (length routes.lids)) ≡ true
        → list_any (is_reached routes place mlid number) receivers ≡ true
    back any =
        let found = among (λ (lid : ℕ). receives_of receivers mlid lid && is_hop_to routes place number lid) (range_with_len 1 (length routes.lids)) any in
        let parts = and_parts (receives_of receivers mlid found.one) (is_hop_to routes place number found.one) found.passes in
        let receiver = among (λ (one : GroupReceiver). (one.mlid == mlid) && (one.lid == found.one)) receivers parts.0 in
        let own = and_parts (receiver.one.mlid == mlid) (receiver.one.lid == found.one) receiver.passes in
        any_passes_from_place (is_reached routes place mlid number) receivers receiver.at receiver.one receiver.there
        (and_from (receiver.one.mlid == mlid) (is_hop_to routes place number receiver.one.lid) own.0
        (ap (is_hop_to routes place number) (eqb-true receiver.one.lid found.one own.1) ∙ parts.1))
