use Rattle.std.proofs.Common.{◌-◌, arith}
use Rattle.mad_layout.proofs.WindowLemmas.{cut_at}
use Rattle.mad_layout.proofs.AlignedLemmas.{field_of_part}
use Rattle.mad_layout.proofs.laws.parts_have_fields.Goals as goal

pub returns : goal.returns
returns c = λ bytes first last off len below ends within inside.
    let cut = cut_at bytes first (last - first) (omega arith) in
    field_of_part bytes first (last - first) off len below (omega arith) (omega (arith, cut.window, inside))
