use Rattle.mad_layout.proofs.LayoutLemmas.{fits_from_holds}
use Rattle.sa_records.specs.PathRecord.{path_record}
use Rattle.sa_records.proofs.path_record.PathRecord.read.Goals as goal

pub returns-clause-fits : goal.returns-clause-fits
returns-clause-fits c = fits_from_holds c.args.bytes.now (path_record c.fields_of.result) c.fields_of.ensures.fields
