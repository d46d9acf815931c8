use Rattle.mad_layout.proofs.ReadLemmas.{zeros_encoded}
use Rattle.sa_records.specs.McMemberRecord.{mc_member_record, mc_member_record_bytes}
use Rattle.sa_records.proofs.mc_member_record.McMemberRecord.blank.Goals as goal

pub returns-clause-zeros : goal.returns-clause-zeros
unfolding mc_member_record_bytes
returns-clause-zeros c = zeros_encoded 56 200 (mc_member_record c.read.result) c.read.ensures.fields
