use Rattle.std.proofs.Common.{refl}
use Rattle.std.specs.Fmt.{digits}
use Rattle.hex.specs.Hex.{encode_with}
use Rattle.subnet_core.proofs.laws.report_lines_are_whole.Goals as goal

pub returns : goal.returns
unfolding digits encode_with
returns c = record { received = refl; empty = refl; not_active = refl; not_held = refl; qp_zero = refl; reserved = refl }
