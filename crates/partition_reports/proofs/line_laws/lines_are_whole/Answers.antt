use Rattle.std.proofs.Common.{refl}
use Rattle.std.specs.Fmt.{digits}
use Rattle.hex.specs.Hex.{encode_with}
use Rattle.partition_reports.proofs.line_laws.lines_are_whole.Goals as goal

pub returns : goal.returns
unfolding digits encode_with
returns c = record { heading = refl; nameless = refl; member = refl }
