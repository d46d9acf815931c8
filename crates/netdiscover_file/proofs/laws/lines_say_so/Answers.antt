use Rattle.netdiscover_file.proofs.ReportedLemmas.{lines_say_so}
use Rattle.netdiscover_file.proofs.laws.lines_say_so.Goals as goal

pub returns : goal.returns
returns c = lines_say_so
