-- The fields of a subnet administration MAD (IBA volume 1, 15.2.1.1) after its RMPP header.
use Rattle.std.specs.Prelude.{ℕ, List, [], ◌∷◌, slice_range}
use Rattle.mad_layout.specs.declared.sa_mad.SaMad.{SaMad}
use Rattle.mad_layout.specs.Bits.{field, number}
use Rattle.mad_layout.specs.Layout.{Field, at}

abbrev pub sa_mad : SaMad → List Field
sa_mad mad =
    at 288 64 mad.sm_key
    ∷ at 352 16 mad.attribute_offset
    ∷ at 384 64 mad.component_mask
    ∷ at 448 1600 (number mad.«data»)
    ∷ []

-- the bytes of its data, and these fields of the bytes
abbrev pub data_in : List ℕ → List ℕ
data_in mad = slice_range mad 56 256

abbrev pub sa_mad_in : List ℕ → SaMad
sa_mad_in mad = record {
  sm_key = field mad 288 64;
  attribute_offset = field mad 352 16;
  component_mask = field mad 384 64;
  «data» = data_in mad;
}
