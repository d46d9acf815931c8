use Rattle.attr_tables.proofs.AttributeLemmas.{attributes}
use Rattle.attr_tables.proofs.laws.attributes_are_encoded.Goals as goal

pub returns : goal.returns
returns c = attributes
