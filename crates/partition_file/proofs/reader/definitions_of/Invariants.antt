use Rattle.partition_file.proofs.ReadLemmas.{IsReadTo}
use Rattle.partition_file.proofs.reader.definitions_of.Given as goal

abbrev pub invariant-loop-index : goal.invariant-loop-index
invariant-loop-index l = IsReadTo l.shown l.index l.from l.line l.scan
