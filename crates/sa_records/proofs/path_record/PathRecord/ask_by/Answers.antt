use Rattle.std.proofs.Common.{List, sym, subst, refl}
use Rattle.mad_layout.specs.Layout.{Field, Fits}
use Rattle.sa_records.specs.PathRecord.{path_record, path_record_asked}
use Rattle.sa_records.proofs.AskedLemmas.{fits_with_value, is_as_wide}
use Rattle.sa_records.proofs.path_record.PathRecord.ask_by.Goals as goal

pub returns-clause-fits : goal.returns-clause-fits
unfolding is_as_wide
returns-clause-fits c = λ fits.
    let P : List Field → Type 0 = Fits in
    subst P (sym c.set_by.ensures.set)
    (fits_with_value c.args.field.now c.args.value path_record_asked (path_record c.args.self.now) refl fits)
