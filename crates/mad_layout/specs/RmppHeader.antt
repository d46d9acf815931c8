-- The RMPP header of a MAD (IBA volume 1, chapter 13).
use Rattle.std.specs.Prelude.{ℕ, List, [], ◌∷◌}
use Rattle.mad_layout.specs.declared.rmpp_header.RmppHeader.{RmppHeader}
use Rattle.mad_layout.specs.Bits.{field}
use Rattle.mad_layout.specs.Layout.{Field, at}

abbrev pub rmpp_header : RmppHeader → List Field
rmpp_header header =
    at 192 8 header.version
    ∷ at 200 8 header.kind
    ∷ at 208 5 header.response_time
    ∷ at 213 3 header.flags
    ∷ at 216 8 header.status
    ∷ at 224 32 header.segment_number
    ∷ at 256 32 header.payload_length_or_new_window_last
    ∷ []

-- the RMPP header of these bytes
abbrev pub rmpp_in : List ℕ → RmppHeader
rmpp_in mad = record {
  version = field mad 192 8;
  kind = field mad 200 8;
  response_time = field mad 208 5;
  flags = field mad 213 3;
  status = field mad 216 8;
  segment_number = field mad 224 32;
  payload_length_or_new_window_last = field mad 256 32;
}
