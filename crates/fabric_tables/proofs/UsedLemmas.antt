-- The lines of multicast LIDs that pass a test.
use Rattle.std.proofs.Common.{ℕ, ◌≡◌, ◌∙◌, ap, refl, Bool, false, if◌then◌else◌, List, [], ◌∷◌, ◌++◌, arith}
use Rattle.std.specs.List.{filter, flat_map, list_any, range_with_len}
use Rattle.agent_rules.specs.declared.power_up.TheConstants.{MULTICAST_TABLE}
use Rattle.fabric_parts.specs.declared.lid.TheConstants.{FIRST_MULTICAST_LID}
use Rattle.fabric_tables.specs.Multicast.{columns, is_used, mlid_line, used}
use Rattle.switch_model.proofs.MulticastLemmas.{none_in_masks}
use Rattle.switch_model.specs.Multicast.{has_bits, is_in_masks}
use Rattle.switch_model.specs.SwitchState.{SwitchState}

-- those that pass alone, or all with nothing for the others
passing : (test : ℕ → Bool) (f : ℕ → List ℕ) (xs : List ℕ) → flat_map (λ x. if test x then f x else []) xs ≡ flat_map f (filter test xs)
passing test f [] = refl
passing test f (x ∷ xs) = grind (arith, passing test f xs)

among : (held : SwitchState) (count : ℕ) → count ≡ MULTICAST_TABLE
    → filter (is_used held) (range_with_len FIRST_MULTICAST_LID count) ≡ used held
unfolding used
among held count all = ap (λ (n : ℕ). filter (is_used held) (range_with_len FIRST_MULTICAST_LID n)) all

pub all_used : (held : SwitchState) (old text : List ℕ) (count : ℕ) → count ≡ MULTICAST_TABLE
    → text ≡ old ++ flat_map (λ mlid. if is_used held mlid then mlid_line held mlid else []) (range_with_len FIRST_MULTICAST_LID count)
    → text ≡ old ++ flat_map (mlid_line held) (used held)
all_used held old text count all lines =
    lines ∙ ap (λ (more : List ℕ). old ++ more)
    (passing (is_used held) (mlid_line held) (range_with_len FIRST_MULTICAST_LID count) ∙ ap (flat_map (mlid_line held)) (among held count all))

-- ---- a multicast LID whose masks have no bit
none_of : (test : ℕ → Bool) → ((number : ℕ) → test number ≡ false) → (numbers : List ℕ) → list_any test numbers ≡ false
none_of test none [] = refl
none_of test none (number ∷ numbers) = rw (none number) (none_of test none numbers)

pub unused : (held : SwitchState) (mlid : ℕ) → has_bits held.masks mlid ≡ false → is_used held mlid ≡ false
unused held mlid none = none_of (is_in_masks held.masks mlid) (λ number. none_in_masks held.masks mlid number none) (columns held)
