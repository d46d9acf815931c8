use Rattle.partition_file.proofs.CutLawLemmas.{texts_are_cut}
use Rattle.partition_file.proofs.laws.partitions_are_cut_from_the_text.Goals as goal

pub returns : goal.returns
returns c = texts_are_cut
