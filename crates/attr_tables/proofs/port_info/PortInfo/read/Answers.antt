use Rattle.mad_layout.proofs.LayoutLemmas.{fits_from_holds}
use Rattle.attr_tables.specs.PortInfo.{port_info}
use Rattle.attr_tables.proofs.port_info.PortInfo.read.Goals as goal

pub returns-clause-fits : goal.returns-clause-fits
returns-clause-fits c = fits_from_holds c.args.bytes.now (port_info c.fields_of.result) c.fields_of.ensures
