use Rattle.mad_layout.proofs.ReadLemmas.{zeros_encoded}
use Rattle.sa_records.specs.ServiceRecord.{service_record, service_record_bytes}
use Rattle.sa_records.proofs.service_record.ServiceRecord.blank.Goals as goal

pub returns : goal.returns
unfolding service_record_bytes
returns c = zeros_encoded 176 200 (service_record c.read.result) c.read.ensures.fields
