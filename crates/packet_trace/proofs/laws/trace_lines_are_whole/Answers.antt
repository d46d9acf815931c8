use Rattle.std.proofs.Common.{refl}
use Rattle.std.specs.Fmt.{digits}
use Rattle.hex.specs.Hex.{encode_with}
use Rattle.packet_trace.proofs.laws.trace_lines_are_whole.Goals as goal

pub returns : goal.returns
unfolding digits encode_with
returns c = record {
  stamps = refl;
  not_active = refl;
  not_held = refl;
  qp_zero = refl;
  reserved = refl;
  again = refl;
  inbound = refl;
  top = refl;
  entry = refl;
  mask = refl;
  takes = refl;
  outbound = refl;
  no_cable = refl;
  meets = refl;
  goes = refl;
  accepts = refl;
  key = refl;
}
