use Rattle.mad_layout.proofs.LayoutLemmas.{fits_from_holds}
use Rattle.sa_records.specs.NodeRecord.{node_record}
use Rattle.sa_records.proofs.node_record.NodeRecord.read.Goals as goal

pub returns-clause-fits : goal.returns-clause-fits
returns-clause-fits c = fits_from_holds c.args.bytes.now (node_record c.fields_of.result) c.fields_of.ensures.fields
