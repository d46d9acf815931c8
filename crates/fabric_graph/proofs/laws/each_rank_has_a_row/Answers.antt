use Rattle.fabric_graph.proofs.RankLemmas.{each_rank_has_a_row}
use Rattle.fabric_graph.proofs.laws.each_rank_has_a_row.Goals as goal

pub returns : goal.returns
returns c = each_rank_has_a_row
