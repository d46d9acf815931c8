-- The bits of masks, and of the ports by which a packet to a group leaves.
use Rattle.std.proofs.Common.{◌≡◌, ℕ, zero, suc, ◌+◌, ◌*◌, ◌/◌, ◌%◌, ◌^◌, ◌<◌, ◌==◌, ◌&&◌, Bool, true, false, nat_lt, bit_and, bit_or, w64, not, length, ◌≤◌, List, [], ◌∷◌, Option, Some, None, slice_get, ◌⊎◌, refl, sym, ◌∙◌, ap, inl, inr, arith}
use Rattle.std.specs.Int.{bit_at}
use Rattle.std.proofs.lemmas.Bool.{and_parts, cases_Bool, eq-eqb, eqb-true, false_from_ne_true, lt-ltb, ltb-false, not-true, or_parts}
use Rattle.std.proofs.lemmas.Bool.Decides.{nat_tests}
use Rattle.std.proofs.lemmas.Nat.{and_mask}
use Rattle.std.proofs.lemmas.Option.{slice_get_past}
use Rattle.data_packet.specs.declared.packet.Packet.{Packet}
use Rattle.switch_model.specs.Forwarding.{passes_inbound, passes_outbound}
use Rattle.switch_model.specs.Laws.{MulticastGoesByMasks}
use Rattle.switch_model.specs.Multicast.{IsCopiedOut, copies_out, has_bit, has_bits, is_in_masks, mask_of}
use Rattle.switch_model.specs.SwitchState.{SwitchState}
use Rattle.std.proofs.lemmas.Nat.Bits.{bit_at-zero, bit_at_set_other, bit_at_set_same}
use Rattle.std.specs.Option.{option_and_then, option_map_or}

pub bit_shown : (mask k : ℕ) → (bit_and (mask / 2 ^ k) 1 == 1) ≡ (bit_at mask k == 1)
bit_shown mask k = ap (λ (b : ℕ). b == 1) (and_mask (mask / 2 ^ k) 1)

-- one port more: its bit is set where it passes, and the others stay
abbrev pub AreBits : ℕ → ℕ → (ℕ → Bool) → Type 0
AreBits out end passes = (n : ℕ) → (bit_at out n == 1) ≡ (nat_lt n end && passes n)

last_is : (n k : ℕ) → (n == k) ≡ false → nat_lt n (k + 1) ≡ nat_lt n k
last_is n k other = grind (arith, nat_tests)

pub one_set : (out k : ℕ) (passes : ℕ → Bool) → k < 64 → passes k ≡ true → AreBits out k passes
    → AreBits (bit_or out (1 * 2 ^ k % 2 ^ 64)) (k + 1) passes
one_set out k passes within set are n = elim (cases_Bool (n == k)) [
  | inl same ↦
      let is : n ≡ k = eqb-true n k same in
      let low : nat_lt k (k + 1) ≡ true = lt-ltb k (k + 1) (omega arith) in
      let bit = bit_at_set_same w64 out k within in
      rw (is, low, set, bit) refl
  | inr other ↦
      let bit = bit_at_set_other w64 out k within n (λ is. let same = eq-eqb n k is in absurd (cc)) in
      ap (λ (b : ℕ). b == 1) bit ∙ are n ∙ ap (λ (b : Bool). b && passes n) (sym (last_is n k other))
]

pub one_passed : (out k : ℕ) (passes : ℕ → Bool) → passes k ≡ false → AreBits out k passes → AreBits out (k + 1) passes
one_passed out k passes fails are n = elim (cases_Bool (n == k)) [
  | inl same ↦
      let is : n ≡ k = eqb-true n k same in
      let low : nat_lt k k ≡ false = grind (arith, nat_tests) in
      let more : nat_lt k (k + 1) ≡ true = lt-ltb k (k + 1) (omega arith) in
      let here = are k in
      rw is (here ∙ rw (low, more, fails) refl)
  | inr other ↦ are n ∙ ap (λ (b : Bool). b && passes n) (sym (last_is n k other))
]

-- all ports of the switch are asked
pub all_asked : (held : SwitchState) (in_port : ℕ) (packet : Packet) (out end : ℕ) → length held.ports ≤ end → AreBits out end (copies_out held in_port packet)
    → (n : ℕ) → (bit_at out n == 1) ≡ copies_out held in_port packet n
all_asked held in_port packet out end all are n = are n ∙ whole (cases_Bool (nat_lt n end))
  where
    nothing : (a b c : Bool) → c ≡ false → (a && (b && c)) ≡ false
    nothing true true c none = none
    nothing true false c none = refl
    nothing false b c none = refl

    whole : (nat_lt n end ≡ true) ⊎ (nat_lt n end ≡ false) → (nat_lt n end && copies_out held in_port packet n) ≡ copies_out held in_port packet n
    whole (inl low) = rw low refl
    whole (inr high) =
        let past : slice_get held.ports n ≡ None = slice_get_past held.ports n (let over = ltb-false n end high in omega (arith, over, all)) in
        let closed : passes_outbound held.ports n packet.p_key ≡ false = rw past refl in
        rw high (sym (nothing (passes_inbound held.ports in_port packet.p_key && not (n == in_port)) (is_in_masks held.masks packet.dlid n)
        (passes_outbound held.ports n packet.p_key) closed))

-- ---- part by part
is_copied : (held : SwitchState) (in_port : ℕ) (packet : Packet) (out : ℕ) → copies_out held in_port packet out ≡ true → IsCopiedOut held in_port packet out
is_copied held in_port packet out h =
    let halves = and_parts (passes_inbound held.ports in_port packet.p_key && not (out == in_port)) _ h in
    let first = and_parts (passes_inbound held.ports in_port packet.p_key) _ halves.0 in
    let second = and_parts (is_in_masks held.masks packet.dlid out) _ halves.1 in
    record {
      inbound = first.0;
      onward = λ same. let is = eq-eqb out in_port same in let other = not-true (out == in_port) first.1 in cc;
      group = second.0;
      outbound = second.1;
    }

copied : (held : SwitchState) (in_port : ℕ) (packet : Packet) (out : ℕ) → IsCopiedOut held in_port packet out → copies_out held in_port packet out ≡ true
copied held in_port packet out is =
    let other : (out == in_port) ≡ false = false_from_ne_true (out == in_port) (λ same. is.onward (eqb-true out in_port same)) in
    rw (is.inbound, other, is.group, is.outbound) refl

pub goes_by_masks : MulticastGoesByMasks
goes_by_masks held in_port packet out multicast = (
  λ h. is_copied held in_port packet out (rw multicast at h),
  λ is. rw multicast (copied held in_port packet out is),
)

-- ---- masks without a bit
no_bit : (lid k : ℕ) (mask : Option ℕ) → option_map_or (λ one. not (one == 0)) mask false ≡ false
    → option_map_or (λ one. bit_at one k == 1) mask false ≡ false
no_bit lid k None none = refl
no_bit lid k (Some mask) none =
    let zero_is : mask ≡ 0 = eqb-true mask 0 (not_false (mask == 0) none) in
    rw (zero_is, bit_at-zero k) refl
  where
    not_false : (b : Bool) → not b ≡ false → b ≡ true
    not_false true h = refl
    not_false false h = cc

no_bit_of : (lid k : ℕ) (masks : List (List ℕ)) (place : ℕ) → has_bits masks lid ≡ false
    → option_map_or (λ one. bit_at one k == 1) (option_and_then (mask_of lid) (slice_get masks place)) false ≡ false
no_bit_of lid k [] place none = refl
no_bit_of lid k (words ∷ masks) zero none = no_bit lid k (mask_of lid words) (or_parts (has_bit lid words) _ none).0
no_bit_of lid k (words ∷ masks) (suc place) none = no_bit_of lid k masks place (or_parts (has_bit lid words) _ none).1

-- where none is set, that of no port is
pub none_in_masks : (masks : List (List ℕ)) (lid number : ℕ) → has_bits masks lid ≡ false → is_in_masks masks lid number ≡ false
none_in_masks masks lid number none = no_bit_of lid (number % 16) masks (number / 16) none
