use Rattle.std.proofs.Common.{refl}
use Rattle.std.specs.Fmt.{digits}
use Rattle.cable_cuts.proofs.laws.lines_are_whole.Goals as goal

pub returns : goal.returns
unfolding digits
returns c = record { keeps = refl; apart = refl; too_far = refl; no_path = refl; counts = refl; change = refl; no_port = refl }
