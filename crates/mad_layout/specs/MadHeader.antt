-- The header of a MAD (IBA volume 1, 13.4.2).
use Rattle.std.specs.Prelude.{ℕ, List, [], ◌∷◌}
use Rattle.mad_layout.specs.declared.mad_header.Header.{Header}
use Rattle.mad_layout.specs.Bits.{field}
use Rattle.mad_layout.specs.Layout.{Field, at}

abbrev pub mad_header : Header → List Field
mad_header header =
    at 0 8 header.base_version
    ∷ at 8 8 header.mgmt_class
    ∷ at 16 8 header.class_version
    ∷ at 24 8 header.method
    ∷ at 32 16 header.status
    ∷ at 48 16 header.class_specific
    ∷ at 64 64 header.transaction_id
    ∷ at 128 16 header.attribute_id
    ∷ at 160 32 header.attribute_modifier
    ∷ []

-- the header that these bytes begin with
abbrev pub header_in : List ℕ → Header
header_in mad = record {
  base_version = field mad 0 8;
  mgmt_class = field mad 8 8;
  class_version = field mad 16 8;
  method = field mad 24 8;
  status = field mad 32 16;
  class_specific = field mad 48 16;
  transaction_id = field mad 64 64;
  attribute_id = field mad 128 16;
  attribute_modifier = field mad 160 32;
}
