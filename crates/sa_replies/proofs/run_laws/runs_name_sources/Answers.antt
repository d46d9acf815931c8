use Rattle.sa_replies.proofs.NamedRunLemmas.{runs_name_sources}
use Rattle.sa_replies.proofs.run_laws.runs_name_sources.Goals as goal

pub returns : goal.returns
returns c = runs_name_sources
