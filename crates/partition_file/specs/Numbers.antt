-- Numbers, as partition files encode them.
use Rattle.std.specs.Prelude.{ℕ, Bool, not, ◌&&◌, nat_eq, nat_lt, nat_le, if◌then◌else◌, List, length, drop, codes, Option, Some, None}
use Rattle.std.specs.List.{list_all, starts_with}
use Rattle.std.specs.Char.{is_digit}
use Rattle.text_words.specs.Number.{number_in}

abbrev pub are_digits : ℕ → List ℕ → Bool
are_digits radix digits = nat_lt 0 (length digits) && list_all (λ byte. is_digit byte radix) digits

-- several digits, of which the first is 0
abbrev pub has_leading_zero : List ℕ → Bool
has_leading_zero digits = nat_lt 1 (length digits) && starts_with nat_eq digits (codes "0")

-- a number of any size is encoded: in decimal digits without a leading zero, or as `0x` and hexadecimal digits of either case
abbrev pub is_number : List ℕ → Bool
is_number word =
    if starts_with nat_eq word (codes "0x") then are_digits 16 (drop 2 word) else are_digits 10 word && not (has_leading_zero word)

abbrev pub at_most : ℕ → Option ℕ → Option ℕ
at_most top (Some n) = if nat_le n top then Some n else None
at_most top None = None

-- the number that a word encodes, if it is not above this one
abbrev pub number_up_to : ℕ → List ℕ → Option ℕ
number_up_to top word = if is_number word then at_most top (number_in word) else None
