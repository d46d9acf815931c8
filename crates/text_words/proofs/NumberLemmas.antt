-- The number that digits encode, read from the left.
use Rattle.std.proofs.Common.{◌≡◌, ℕ, ◌+◌, ◌*◌, ◌^◌, ◌<◌, ◌≤◌, Bool, true, false, ◌&&◌, cond, nat_lt, List, [], ◌∷◌, length, drop, get_or, Option}
use Rattle.std.proofs.Common.{Some, None, refl, sym, ap, ◌∙◌, arith, lit<, add-one, drop-cons}
use Rattle.std.specs.List.{list_all}
use Rattle.std.specs.Char.{is_digit, digit_value}
use Rattle.std.specs.Str.Parse.{digits_value_after}
use Rattle.std.proofs.lemmas.Bool.{and_parts, lt-ltb, le-ltb, ltb-true, ltb-false}
use Rattle.std.proofs.Math.Nat.{mul-le-mul_left}
use Rattle.std.proofs.lemmas.List.{drop_all}
use Rattle.std.proofs.lemmas.Option.{cond_some}
use Rattle.text_words.specs.Number.{digits_in, digit_step}

-- the number that the digits encode when they follow those of the value
abbrev pub digits_left : ℕ → ℕ → List ℕ → Option ℕ
digits_left radix value digits =
    cond (list_all (λ byte. is_digit byte radix) digits && nat_lt (digits_value_after radix value digits) (2 ^ 128)) (Some (digits_value_after radix value digits)) None

goes_on : (radix value byte next : ℕ) (rest : List ℕ) → digit_step radix value byte ≡ Some next
    → digits_left radix value (byte ∷ rest) ≡ digits_left radix next rest
goes_on radix value byte next rest step =
    let found = cond_some _ _ _ step in
    let both = and_parts (is_digit byte radix) _ found.0 in
    rw (both.0, found.1) refl

grows : (radix value : ℕ) (digits : List ℕ) → 1 ≤ radix → value ≤ digits_value_after radix value digits
grows radix value [] base = omega arith
grows radix value (byte ∷ rest) base =
    let product : value * 1 ≤ value * radix = mul-le-mul_left value base in
    let later : value * radix + digit_value byte ≤ digits_value_after radix (value * radix + digit_value byte) rest = grows radix (value * radix + digit_value byte) rest base in
    omega (arith, product, later)

none_left : (b c : Bool) (value : ℕ) → c ≡ false → cond (b && c) (Some value) None ≡ None
none_left true c value e = rw e refl
none_left false c value e = refl

too_big : (c : Bool) (value : ℕ) → c ≡ true → cond (c && nat_lt value (2 ^ 128)) (Some value) None ≡ None → nat_lt value (2 ^ 128) ≡ false
too_big c value e step = none_so (nat_lt value (2 ^ 128)) value (rw e at step)
  where
    none_so : (b : Bool) (n : ℕ) → cond b (Some n) None ≡ None → b ≡ false
    none_so true n h = absurd cc
    none_so false n h = refl

stops_here : (radix value byte : ℕ) (rest : List ℕ) → 1 ≤ radix → digit_step radix value byte ≡ None → digits_left radix value (byte ∷ rest) ≡ None
stops_here radix value byte rest base step = by (is_digit byte radix) refl
  where
    by : (b : Bool) → is_digit byte radix ≡ b → digits_left radix value (byte ∷ rest) ≡ None
    by true e =
        let now : 2 ^ 128 ≤ value * radix + digit_value byte = ltb-false _ _ (too_big (is_digit byte radix) (value * radix + digit_value byte) e step) in
        let later : value * radix + digit_value byte ≤ digits_value_after radix (value * radix + digit_value byte) rest = grows radix (value * radix + digit_value byte) rest base in
        let past : 2 ^ 128 ≤ digits_value_after radix (value * radix + digit_value byte) rest = omega (arith, now, later) in
        none_left (list_all (λ b. is_digit b radix) (byte ∷ rest)) (nat_lt (digits_value_after radix value (byte ∷ rest)) (2 ^ 128)) (digits_value_after radix value (byte ∷ rest)) (le-ltb _ _ past)
    by false e = rw e refl

first_left : (digits : List ℕ) (i : ℕ) → i < length digits → drop i digits ≡ get_or digits i 0 ∷ drop (i + 1) digits
first_left digits i within = rw (add-one, drop-cons digits i 0) refl

-- what a loop over digits keeps: the value fits, and what is left encodes after it what all of them encode
pub record IsLeft (radix value : ℕ) (left digits : List ℕ) : Type 0 where
  pub fits : value < 2 ^ 128
  pub same : digits_left radix value left ≡ digits_left radix 0 digits

pub starts : (radix : ℕ) (digits : List ℕ) → IsLeft radix 0 (drop 0 digits) digits
starts radix digits = record { fits = lit< tt; same = refl }

step_fits : (radix value byte next : ℕ) → digit_step radix value byte ≡ Some next → next < 2 ^ 128
step_fits radix value byte next step =
    let found = cond_some _ _ _ step in
    let both = and_parts (is_digit byte radix) _ found.0 in
    let fits = ltb-true _ _ both.1 in
    omega (arith, fits, found.1)

pub encodes_more : (radix value i next : ℕ) (digits : List ℕ) → i < length digits → IsLeft radix value (drop i digits) digits
    → digit_step radix value (get_or digits i 0) ≡ Some next → IsLeft radix next (drop (i + 1) digits) digits
encodes_more radix value i next digits within so_far step = record {
  fits = step_fits radix value (get_or digits i 0) next step;
  same = sym (goes_on radix value (get_or digits i 0) next (drop (i + 1) digits) step) ∙ ap (digits_left radix value) (sym (first_left digits i within)) ∙ so_far.same;
}

-- digits that encode a number, none of them left out
nonempty : (radix : ℕ) (digits : List ℕ) → 0 < length digits → digits_in radix digits ≡ digits_left radix 0 digits
nonempty radix digits some = rw (lt-ltb 0 (length digits) some) refl

pub stops : (radix value i : ℕ) (digits : List ℕ) → 1 ≤ radix → i < length digits → IsLeft radix value (drop i digits) digits
    → digit_step radix value (get_or digits i 0) ≡ None → digits_in radix digits ≡ None
stops radix value i digits base within so_far step =
    let some : 0 < length digits = omega arith in
    nonempty radix digits some ∙ sym so_far.same ∙ ap (digits_left radix value) (first_left digits i within)
    ∙ stops_here radix value (get_or digits i 0) (drop (i + 1) digits) base step

pub all_encoded : (radix value i : ℕ) (digits : List ℕ) → 0 < length digits → length digits ≤ i → IsLeft radix value (drop i digits) digits
    → digits_in radix digits ≡ Some value
all_encoded radix value i digits some ended so_far =
    nonempty radix digits some ∙ sym so_far.same ∙ ap (digits_left radix value) (drop_all i digits ended) ∙ rw (lt-ltb value (2 ^ 128) so_far.fits) refl
