use Rattle.partition_file.proofs.GeneratedLemmas.{generated_bases_are_free}
use Rattle.partition_file.proofs.laws.generated_bases_are_free.Goals as goal

pub returns : goal.returns
returns c = generated_bases_are_free
