use Rattle.mad_layout.proofs.ReadLemmas.{zeros_encoded}
use Rattle.sa_records.specs.PathRecord.{path_record, path_record_bytes}
use Rattle.sa_records.proofs.path_record.PathRecord.blank.Goals as goal

pub returns-clause-zeros : goal.returns-clause-zeros
unfolding path_record_bytes
returns-clause-zeros c = zeros_encoded 64 200 (path_record c.read.result) c.read.ensures.fields
