-- A layout: the fields of a header or an attribute, each with its place and the value that it holds.
use Rattle.std.specs.Prelude.{ℕ, ◌≡◌, ◌+◌, ◌*◌, ◌^◌, ◌<◌, ◌≤◌, Bool, true, ◌&&◌, ◌||◌, nat_le, List, [], ◌∷◌, length}
use Rattle.mad_layout.specs.Bits.{field, put_field}

-- a field of `len` bits that begins at bit `off` and holds `value`
pub record Field : Type 0 where
  pub off : ℕ
  pub len : ℕ
  pub value : ℕ

abbrev pub at : ℕ → ℕ → ℕ → Field
at off len value = record { off = off; len = len; value = value }

-- the bytes read as this record: each field holds its value, whatever the other bits are
abbrev pub Holds : List ℕ → List Field → Type 0
Holds bytes [] = Unit {0}
Holds bytes (p ∷ ps) = (p.value ≡ field bytes p.off p.len) × Holds bytes ps

-- each value is narrow enough for its field
abbrev pub Fits : List Field → Type 0
Fits [] = Unit {0}
Fits (p ∷ ps) = (p.value < 2 ^ p.len) × Fits ps

-- the bytes with each field set, one after the other
abbrev pub put_all : List ℕ → List Field → List ℕ
put_all bytes [] = bytes
put_all bytes (p ∷ ps) = put_all (put_field bytes p.off p.len p.value) ps

-- no bit of the field of `len` bits at bit `off` is one of p's
abbrev pub is_apart : ℕ → ℕ → Field → Bool
is_apart off len p = nat_le (off + len) p.off || nat_le (p.off + p.len) off

-- no bit of it is in any field of the layout
abbrev pub is_free : ℕ → ℕ → List Field → Bool
is_free off len [] = true
is_free off len (p ∷ ps) = is_apart off len p && is_free off len ps

-- every field lies within the first `size` bits, and no two have a bit in common
abbrev pub is_layout : ℕ → List Field → Bool
is_layout size [] = true
is_layout size (p ∷ ps) = nat_le (p.off + p.len) size && (is_free p.off p.len ps && is_layout size ps)

-- the bytes encode this record: each field holds its value, and each bit outside the fields is 0
pub record Encodes (bytes : List ℕ) (layout : List Field) : Type 0 where
  pub fields : Holds bytes layout
  pub others : (off len : ℕ) → off + len ≤ 8 * length bytes → is_free off len layout ≡ true → field bytes off len ≡ 0

-- the new bytes are the old ones with this record written over them: each field holds its value, and
-- every field that has no bit of them is as it was
pub record Sets (old new : List ℕ) (layout : List Field) : Type 0 where
  pub fields : Holds new layout
  pub others : (off len : ℕ) → off + len ≤ 8 * length old → is_free off len layout ≡ true → field new off len ≡ field old off len
  pub same_length : length new ≡ length old
