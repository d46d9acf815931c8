use Rattle.std.proofs.Common.{◌≡◌, ◌∙◌, ap, None}
use Rattle.sl2vl_file.specs.Rows.{place_of}
use Rattle.sl2vl_file.proofs.LaneSoundLemmas.{sound_with_row}
use Rattle.sl2vl_file.proofs.draft.Draft.push_row.Goals as goal

pub invariant_of-self-2 : goal.invariant_of-self-2
invariant_of-self-2 c =
    let inside = c.self.inside in
    let row = c.args.row in
    let new : place_of row.lid row.input row.output inside.rows ≡ None = ap (λ draft. place_of row.lid row.input row.output draft.rows) c.self.view_is ∙ c.requires.new in
    rw c.in_ok-push.ensures.ok
    (sound_with_row (record { rows = inside.rows; paths = inside.paths.items; stage = inside.stage }) row c.self.invariant new c.requires.whole)
