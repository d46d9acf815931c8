-- A field of some bytes, as the InfiniBand standard counts them: bit 0 is the first bit of the first
-- byte, and the bytes encode one number, the highest byte first.
use Rattle.std.specs.Prelude.{ℕ, ◌+◌, ◌*◌, ◌-◌, ◌/◌, ◌%◌, ◌^◌, Bool, true, false, List, length}
use Rattle.std.specs.Int.Digits.{number_from_digits}
use Rattle.std.specs.Int.{bytes_high_first}

-- the number that bytes encode
abbrev pub number : List ℕ → ℕ
number bytes = number_from_digits 256 bytes

-- the `len` binary digits of n above its lowest `low` ones
abbrev pub digits : ℕ → ℕ → ℕ → ℕ
digits n low len = n / 2 ^ low % 2 ^ len

-- the field of `len` bits that begins at bit `off`
unfoldable pub field : List ℕ → ℕ → ℕ → ℕ
field bytes off len = digits (number bytes) (8 * length bytes - (off + len)) len

-- n with those digits replaced by the number v
abbrev pub replaced : ℕ → ℕ → ℕ → ℕ → ℕ
replaced n low len v = (n / 2 ^ (low + len) * 2 ^ len + v) * 2 ^ low + n % 2 ^ low

-- the bytes with that field set to v
unfoldable pub put_field : List ℕ → ℕ → ℕ → ℕ → List ℕ
put_field bytes off len v =
    bytes_high_first (length bytes) (replaced (number bytes) (8 * length bytes - (off + len)) len v)

-- a field of one bit, as the number that it is
abbrev pub bit_of : Bool → ℕ
bit_of true = 1
bit_of false = 0
