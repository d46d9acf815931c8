use Rattle.topo_file.proofs.WalkLemmas.{if_joined, joined_if}
use Rattle.topo_file.proofs.laws.connected_means_joined.Goals as goal

pub returns : goal.returns
returns c = λ nodes cables. (joined_if nodes cables, if_joined nodes cables)
