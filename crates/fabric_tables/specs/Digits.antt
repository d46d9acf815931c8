-- Numbers, as `dump_fts` prints them.
use Rattle.std.specs.Prelude.{ℕ, ◌+◌, ◌/◌, ◌%◌, nat_lt, if◌then◌else◌, List, [], ◌∷◌, ◌++◌, codes}

-- a number under 1000 in three digits
abbrev pub three_digits : ℕ → List ℕ
three_digits n = (48 + n / 100) ∷ (48 + n / 10 % 10) ∷ (48 + n % 10) ∷ []

abbrev pub hex_digit : ℕ → ℕ
hex_digit n = if nat_lt n 10 then 48 + n else 87 + n

-- the hexadecimal digit that is worth so much, unless no digit before it is more than 0 and it isn't either
abbrev pub digit_worth : ℕ → ℕ → List ℕ
digit_worth worth n = if nat_lt n worth then [] else hex_digit (n / worth % 16) ∷ []

-- 16 bits as a hexadecimal number without zeros before it, as `0x6`
unfoldable pub short_hex_text : ℕ → List ℕ
short_hex_text n =
    codes "0x" ++ digit_worth 4096 n ++ digit_worth 256 n ++ digit_worth 16 n ++ hex_digit (n % 16) ∷ []
