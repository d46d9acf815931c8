use Rattle.std.proofs.Common.{ℕ, List, sym, subst, refl}
use Rattle.mad_layout.specs.Layout.{Encodes}
use Rattle.mad_layout.proofs.LayoutLemmas.{encodes_put_all}
use Rattle.attr_tables.specs.SwitchInfo.{switch_info, switch_info_bytes}
use Rattle.attr_tables.proofs.switch_info.SwitchInfo.write.Goals as goal

pub returns-clause-encodes : goal.returns-clause-encodes
returns-clause-encodes c =
    let layout = switch_info c.args.self.now in
    let P : List ℕ → Type 0 = λ bytes. Encodes bytes layout in
    subst P (sym c.put_over_zeros.ensures.fields) (encodes_put_all layout 64 refl c.put_over_zeros.ensures.fits)

pub returns-clause-bytes : goal.returns-clause-bytes
unfolding switch_info_bytes
returns-clause-bytes c = c.put_over_zeros.ensures.fields
