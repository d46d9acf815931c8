use Rattle.std.proofs.Common.{ℕ, List, sym, subst, refl}
use Rattle.mad_layout.specs.Layout.{Encodes}
use Rattle.mad_layout.proofs.LayoutLemmas.{encodes_put_all}
use Rattle.sa_records.specs.NodeRecord.{node_record, node_record_bytes}
use Rattle.sa_records.proofs.node_record.NodeRecord.write.Goals as goal

pub returns-clause-encodes : goal.returns-clause-encodes
returns-clause-encodes c =
    let layout = node_record c.args.self.now in
    let P : List ℕ → Type 0 = λ bytes. Encodes bytes layout in
    subst P (sym c.put_over_zeros.ensures) (encodes_put_all layout 112 refl c.requires)

pub returns-clause-bytes : goal.returns-clause-bytes
unfolding node_record_bytes
returns-clause-bytes c = c.put_over_zeros.ensures
