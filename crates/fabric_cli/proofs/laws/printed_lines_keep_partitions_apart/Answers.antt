use Rattle.fabric_cli.proofs.PrintedLemmas.{printed_lines_keep_partitions_apart}
use Rattle.fabric_cli.proofs.laws.printed_lines_keep_partitions_apart.Goals as goal

pub returns : goal.returns
returns c = printed_lines_keep_partitions_apart
