use Rattle.std.proofs.Common.{List, sym, subst, refl}
use Rattle.mad_layout.specs.Layout.{Field, Fits}
use Rattle.sa_records.specs.NodeRecord.{node_record, node_record_asked}
use Rattle.sa_records.proofs.AskedLemmas.{fits_with_value, is_as_wide}
use Rattle.sa_records.proofs.node_record.NodeRecord.ask_by.Goals as goal

pub returns-clause-fits : goal.returns-clause-fits
unfolding is_as_wide
returns-clause-fits c = λ fits.
    let P : List Field → Type 0 = Fits in
    subst P (sym c.set_by.ensures.set)
    (fits_with_value c.args.field.now c.args.value node_record_asked (node_record c.args.self.now) refl fits)
