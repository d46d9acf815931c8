-- What a record is asked by (IBA volume 1, 15.2.1.1): a field that a request may set, with its bits in the
-- ComponentMask.
use Rattle.std.specs.Prelude.{ℕ, ◌==◌, ◌^◌, nat_lt, if◌then◌else◌, List, Option, Some, None, map, option_map}
use Rattle.std.specs.List.{find}
use Rattle.std.specs.Str.{bytes_eq}
use Rattle.mad_layout.specs.Bits.{put_field}
use Rattle.mad_layout.specs.Layout.{Field, at}

-- its name in scripts, its bits in the mask, and its place in the record
pub record Asked : Type 0 where
  pub name : List ℕ
  pub bits : ℕ
  pub off : ℕ
  pub len : ℕ

abbrev pub by : List ℕ → ℕ → ℕ → ℕ → Asked
by name bits off len = record { name = name; bits = bits; off = off; len = len }

-- the field, if the value is narrow enough for it
abbrev pub if_wide_enough : ℕ → Option Asked → Option Asked
if_wide_enough value (Some one) = if nat_lt value (2 ^ one.len) then Some one else None
if_wide_enough value None = None

-- the field of this name, if there is one and the value is narrow enough for it
unfoldable pub asked_by : List ℕ → ℕ → List Asked → Option Asked
asked_by name value fields = if_wide_enough value (find (λ one. bytes_eq name one.name) fields)

abbrev pub bits_of : Option Asked → Option ℕ
bits_of asked = option_map (λ one. one.bits) asked

-- the record with that value at the place of the field that is asked by, and all else as it was
abbrev pub with_value : ℕ → Option Asked → List Field → List Field
with_value value (Some one) layout = map (λ p. if p.off == one.off then at p.off p.len value else p) layout
with_value value None layout = layout

-- bytes with that value at the place of the field that is asked by, and all else as it was
abbrev pub with_number : ℕ → Option Asked → List ℕ → List ℕ
with_number value (Some one) bytes = put_field bytes one.off one.len value
with_number value None bytes = bytes
