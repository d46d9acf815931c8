use Rattle.attr_tables.proofs.BlockLemmas.{blocks_tile}
use Rattle.attr_tables.proofs.laws.blocks_tile.Goals as goal

pub returns : goal.returns
returns c = blocks_tile
