-- A table of which the first masks alone have bits: its text is made of their LIDs.
use Rattle.std.proofs.Common.{ℕ, zero, suc, ◌≡◌, ◌+◌, ◌-◌, ◌≤◌, ◌==◌, ap, refl, Bool, true, false, not, if◌then◌else◌, List, [], ◌∷◌, ◌++◌, length, replicate, slice_get, Option, None, arith}
use Rattle.std.specs.List.{filter, flat_map, range_with_len}
use Rattle.std.specs.Option.{option_map_or}
use Rattle.std.proofs.lemmas.Bool.{or_from}
use Rattle.agent_rules.specs.declared.power_up.TheConstants.{MULTICAST_TABLE}
use Rattle.fabric_parts.specs.Lid.{is_multicast}
use Rattle.fabric_parts.specs.declared.lid.TheConstants.{FIRST_MULTICAST_LID}
use Rattle.fabric_tables.proofs.UsedLemmas.{unused}
use Rattle.fabric_tables.specs.Multicast.{count_line, head_line, is_used, mlid_line, table_text, titles, used}
use Rattle.fabric_tables.specs.Whole.{switch_with}
use Rattle.subnet_model.specs.declared.subnet_port.SubnetPort.{SubnetPort}
use Rattle.switch_model.specs.Multicast.{has_bit}
use Rattle.switch_model.specs.SwitchState.{SwitchState}

-- ---- masks that are 0
abbrev is_some_bit : Option ℕ → Bool
is_some_bit mask = option_map_or (λ one. not (one == 0)) mask false

zeros : (m i : ℕ) → is_some_bit (slice_get (replicate m 0) i) ≡ false
zeros zero i = refl
zeros (suc m) zero = refl
zeros (suc m) (suc i) = zeros m i

behind : (bits : List ℕ) (m i : ℕ) → length bits ≤ i → is_some_bit (slice_get (bits ++ replicate m 0) i) ≡ false
behind [] m i past = zeros m i
behind (bit ∷ bits) m zero past = absurd (omega (arith, past))
behind (bit ∷ bits) m (suc i) past = behind bits m i (omega (arith, past))

or_none : (multicast : Bool) (mask : Option ℕ) → is_some_bit mask ≡ false → is_some_bit (if multicast then mask else None) ≡ false
or_none true mask none = none
or_none false mask none = refl

no_bit : (bits : List ℕ) (m mlid : ℕ) → FIRST_MULTICAST_LID + length bits ≤ mlid → has_bit mlid (bits ++ replicate m 0) ≡ false
no_bit bits m mlid past =
    or_none (is_multicast mlid) (slice_get (bits ++ replicate m 0) (mlid - FIRST_MULTICAST_LID))
    (behind bits m (mlid - FIRST_MULTICAST_LID) (omega (arith, past)))

pub none_used : (guid count : ℕ) (bits : List ℕ) (mlid : ℕ) → FIRST_MULTICAST_LID + length bits ≤ mlid
    → is_used (switch_with guid count bits) mlid ≡ false
none_used guid count bits mlid past =
    let zero_at : has_bit mlid (replicate MULTICAST_TABLE 0) ≡ false = no_bit [] MULTICAST_TABLE mlid (omega (arith, past)) in
    unused (switch_with guid count bits) mlid
    (or_from (has_bit mlid (bits ++ replicate (MULTICAST_TABLE - length bits) 0)) _ (no_bit bits (MULTICAST_TABLE - length bits) mlid past)
    (or_from (has_bit mlid (replicate MULTICAST_TABLE 0)) _ zero_at (or_from (has_bit mlid (replicate MULTICAST_TABLE 0)) _ zero_at refl)))

-- ---- the LIDs that pass a test, where the later ones do not
none_pass : (test : ℕ → Bool) (first count : ℕ) → ((n : ℕ) → first ≤ n → test n ≡ false) → filter test (range_with_len first count) ≡ []
none_pass test first zero none = refl
none_pass test first (suc count) none =
    rw (none first (omega arith)) (none_pass test (first + 1) count (λ n past. none n (omega (arith, past))))

first_pass : (test : ℕ → Bool) (first count total : ℕ) → count ≤ total → ((n : ℕ) → first + count ≤ n → test n ≡ false)
    → filter test (range_with_len first total) ≡ filter test (range_with_len first count)
first_pass test first zero total few none = none_pass test first total (λ n past. none n (omega (arith, past)))
first_pass test first (suc count) zero few none = absurd (omega (arith, few))
first_pass test first (suc count) (suc total) few none =
    ap (λ (rest : List ℕ). if test first then first ∷ rest else rest)
    (first_pass test (first + 1) count total (omega (arith, few)) (λ n past. none n (omega (arith, past))))

pub are_used : (held : SwitchState) (count : ℕ) → count ≤ MULTICAST_TABLE
    → ((mlid : ℕ) → FIRST_MULTICAST_LID + count ≤ mlid → is_used held mlid ≡ false)
    → used held ≡ filter (is_used held) (range_with_len FIRST_MULTICAST_LID count)
unfolding used
are_used held count few none = first_pass (is_used held) FIRST_MULTICAST_LID count MULTICAST_TABLE few none

-- ---- the text of a table whose lines are of these LIDs
unfoldable pub text_with : List ℕ → SubnetPort → SwitchState → (mlids : List ℕ) → List ℕ
text_with path switch held mlids =
    if length mlids == 0 then []
    else head_line path switch ++ titles held ++ flat_map (mlid_line held) mlids ++ count_line (length mlids)

pub text_is : (path : List ℕ) (switch : SubnetPort) (held : SwitchState) (mlids : List ℕ) → used held ≡ mlids
    → table_text path switch held ≡ text_with path switch held mlids
unfolding text_with
text_is path switch held mlids are = ap (text_with path switch held) are
