use Rattle.mad_layout.proofs.LayoutLemmas.{fits_from_holds}
use Rattle.sa_records.specs.McMemberRecord.{mc_member_record}
use Rattle.sa_records.proofs.mc_member_record.McMemberRecord.read.Goals as goal

pub returns-clause-fits : goal.returns-clause-fits
returns-clause-fits c = fits_from_holds c.args.bytes.now (mc_member_record c.fields_of.result) c.fields_of.ensures.fields
