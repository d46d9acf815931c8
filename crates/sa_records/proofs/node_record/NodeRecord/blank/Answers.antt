use Rattle.mad_layout.proofs.ReadLemmas.{zeros_encoded}
use Rattle.sa_records.specs.NodeRecord.{node_record, node_record_bytes}
use Rattle.sa_records.proofs.node_record.NodeRecord.blank.Goals as goal

pub returns-clause-zeros : goal.returns-clause-zeros
unfolding node_record_bytes
returns-clause-zeros c = zeros_encoded 112 200 (node_record c.read.result) c.read.ensures.fields
