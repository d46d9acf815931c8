-- Masks of a multicast LID that nobody receives have no bit.
use Rattle.std.proofs.Common.{ℕ, zero, suc, ◌+◌, ◌-◌, ◌*◌, ◌≡◌, ◌==◌, ◌&&◌, ◌∙◌, ap, refl, not, Bool, true, false, if◌then◌else◌, List, [], ◌∷◌, length, map, nat_lt, slice_get, None, arith}
use Rattle.std.specs.List.{range_with_len}
use Rattle.std.specs.Option.{option_map_or}
use Rattle.std.proofs.lemmas.Bool.{ltb-false, ltb-true}
use Rattle.std.proofs.lemmas.Bool.Decides.{nat_tests}
use Rattle.std.proofs.lemmas.List.FromFn.{length-map-range_with_len}
use Rattle.std.proofs.lemmas.Option.{slice_get_past}
use Rattle.agent_rules.specs.declared.power_up.TheConstants.{MULTICAST_TABLE}
use Rattle.fabric_parts.specs.Lid.{is_multicast}
use Rattle.fabric_parts.specs.declared.lid.TheConstants.{FIRST_MULTICAST_LID}
use Rattle.step_results.proofs.ListLemmas.{any_none}
use Rattle.sa_model.proofs.ReceiverLemmas.{any_alike}
use Rattle.switch_model.specs.Multicast.{has_bit, has_bits}
use Rattle.table_push.proofs.MaskLemmas.{at_range}
use Rattle.table_push.specs.Masks.{bits_where, is_hop_to, is_in_mask, mask_of_position, mask_word, masks_of}
use Rattle.updn_routes.specs.Subnet.{RoutesState}

no_bits : (count : ℕ) (is_set : ℕ → Bool) → ((k : ℕ) → is_set k ≡ false) → bits_where count is_set ≡ 0
unfolding bits_where
no_bits zero is_set none = refl
no_bits (suc count) is_set none =
    let rest = no_bits count (λ k. is_set (suc k)) (λ k. none (suc k)) in
    rw (none 0, rest) refl

module _ (routes : RoutesState) (receives : ℕ → ℕ → Bool) (mlid : ℕ) (nobody : (lid : ℕ) → receives mlid lid ≡ false) where
  no_bit : (place number : ℕ) → is_in_mask routes receives place mlid number ≡ false
  unfolding is_in_mask
  no_bit place number =
      any_alike (λ lid. receives mlid lid && is_hop_to routes place number lid) (λ lid. false)
      (λ lid. ap (λ b. b && is_hop_to routes place number lid) (nobody lid)) (range_with_len 1 (length routes.lids))
      ∙ any_none (range_with_len 1 (length routes.lids))

  pub no_mask : (place position : ℕ) → mask_word routes receives place position mlid ≡ 0
  no_mask place position =
      no_bits 16 (λ k. is_in_mask routes receives place mlid (16 * position + k)) (λ k. no_bit place (16 * position + k))

  -- nor does a switch read one
  read_at : (place position k : ℕ) → FIRST_MULTICAST_LID + k ≡ mlid
      → option_map_or (λ mask. not (mask == 0)) (slice_get (mask_of_position routes receives place position) k) false ≡ false
  read_at place position k at = by (nat_lt k MULTICAST_TABLE) refl
    where
      word : ℕ → ℕ
      word i = mask_word routes receives place position (FIRST_MULTICAST_LID + i)

      by : (low : Bool) → nat_lt k MULTICAST_TABLE ≡ low
          → option_map_or (λ mask. not (mask == 0)) (slice_get (map word (range_with_len 0 MULTICAST_TABLE)) k) false ≡ false
      by true low =
          let there = at_range word MULTICAST_TABLE k (ltb-true k MULTICAST_TABLE low) in
          let empty : word k ≡ 0 = ap (mask_word routes receives place position) at ∙ no_mask place position in
          rw (there, empty) refl
      by false high =
          let long = length-map-range_with_len word 0 MULTICAST_TABLE in
          let past = slice_get_past (map word (range_with_len 0 MULTICAST_TABLE)) k (omega (arith, long, ltb-false k MULTICAST_TABLE high)) in
          rw past refl

  no_bit_read : (place position : ℕ) → has_bit mlid (mask_of_position routes receives place position) ≡ false
  no_bit_read place position = by (is_multicast mlid) refl
    where
      from_first : is_multicast mlid ≡ true → FIRST_MULTICAST_LID + (mlid - FIRST_MULTICAST_LID) ≡ mlid
      from_first multi = grind (arith, nat_tests)

      by : (multi : Bool) → is_multicast mlid ≡ multi
          → option_map_or (λ mask. not (mask == 0)) (if multi then slice_get (mask_of_position routes receives place position) (mlid - FIRST_MULTICAST_LID) else None) false ≡ false
      by false is = refl
      by true is = read_at place position (mlid - FIRST_MULTICAST_LID) (from_first is)

  pub none_read : (place : ℕ) → has_bits (masks_of routes receives place) mlid ≡ false
  none_read place =
      each (mask_of_position routes receives place 0) (mask_of_position routes receives place 1) (mask_of_position routes receives place 2)
      (no_bit_read place 0) (no_bit_read place 1) (no_bit_read place 2)
    where
      each : (a b c : List ℕ) → has_bit mlid a ≡ false → has_bit mlid b ≡ false → has_bit mlid c ≡ false → has_bits (a ∷ b ∷ c ∷ []) mlid ≡ false
      each a b c first second third = rw (first, second, third) refl
