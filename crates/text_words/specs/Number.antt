-- Numbers, as topology files, scripts and partition files encode them.
use Rattle.std.specs.Prelude.{ℕ, ◌+◌, ◌*◌, ◌^◌, ◌&&◌, nat_eq, nat_lt, if◌then◌else◌, List, length, drop, codes, Option, Some, None}
use Rattle.std.specs.List.{list_all, starts_with}
use Rattle.std.specs.Char.{is_digit, digit_value}
use Rattle.std.specs.Str.Parse.{digits_value}

-- the number that a row of digits encodes: at least one digit, all of this radix, and a value of 128 bits
abbrev pub digits_in : ℕ → List ℕ → Option ℕ
digits_in radix digits =
    if nat_lt 0 (length digits)
    && (list_all (λ byte. is_digit byte radix) digits && nat_lt (digits_value radix digits) (2 ^ 128))
    then Some (digits_value radix digits)
    else None

-- decimal digits, or `0x` and hexadecimal digits of either case
abbrev pub number_in : List ℕ → Option ℕ
number_in word = if starts_with nat_eq word (codes "0x") then digits_in 16 (drop 2 word) else digits_in 10 word

abbrev pub if_under : ℕ → Option ℕ → Option ℕ
if_under top (Some n) = if nat_lt n top then Some n else None
if_under top None = None

-- one of 16 bits
abbrev pub u16_in : List ℕ → Option ℕ
u16_in word = if_under (2 ^ 16) (number_in word)

-- ---- a step of the code, on which no definition stands: the number that one more digit makes
abbrev pub digit_step : ℕ → ℕ → ℕ → Option ℕ
digit_step radix value byte =
    if is_digit byte radix && nat_lt (value * radix + digit_value byte) (2 ^ 128) then Some (value * radix + digit_value byte) else None
