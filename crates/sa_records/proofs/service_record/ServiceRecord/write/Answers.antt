use Rattle.std.proofs.Common.{ℕ, List, sym, subst, refl}
use Rattle.mad_layout.specs.Layout.{Encodes}
use Rattle.mad_layout.proofs.LayoutLemmas.{encodes_put_all}
use Rattle.sa_records.specs.ServiceRecord.{service_record, service_record_bytes}
use Rattle.sa_records.proofs.service_record.ServiceRecord.write.Goals as goal

pub returns-clause-encodes : goal.returns-clause-encodes
returns-clause-encodes c =
    let layout = service_record c.args.self.now in
    let P : List ℕ → Type 0 = λ bytes. Encodes bytes layout in
    subst P (sym c.put_over_zeros.ensures.fields) (encodes_put_all layout 176 refl c.put_over_zeros.ensures.fits)

pub returns-clause-bytes : goal.returns-clause-bytes
unfolding service_record_bytes
returns-clause-bytes c = c.put_over_zeros.ensures.fields
