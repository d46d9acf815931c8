use Rattle.fabric_cli.proofs.AgreementLemmas.{judged_alike}
use Rattle.fabric_cli.proofs.laws.files_that_agree_are_judged_alike.Goals as goal

pub returns : goal.returns
returns c = judged_alike
