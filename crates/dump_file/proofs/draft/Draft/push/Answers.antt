use Rattle.std.proofs.Common.{◌≡◌, ◌∙◌, ◌++◌, ap, true, false}
use Rattle.dump_file.specs.Dump.{DraftState, heading_of, rows_so_far}
use Rattle.dump_file.specs.Row.{is_said_otherwise}
use Rattle.dump_file.specs.Sound.{may_take}
use Rattle.dump_file.specs.Table.{rows_of}
use Rattle.dump_file.proofs.SoundLemmas.{sound_with_row}
use Rattle.dump_file.proofs.draft.Draft.push.Goals as goal

pub invariant_of-self-2 : goal.invariant_of-self-2
invariant_of-self-2 c =
    let inside = c.self.inside in
    let row = c.args.row in
    let before : DraftState = record { tables = inside.tables.items; by_lid = inside.by_lid.keys; stage = inside.stage; rows = inside.rows.items } in
    let takes : may_take (heading_of inside.stage) inside.rows.items row ≡ true = ap (λ draft. may_take (heading_of draft.stage) draft.rows row) c.self.view_is ∙ c.requires.open in
    let apart : is_said_otherwise (rows_of inside.tables.items ++ inside.rows.items) row ≡ false = ap (λ draft. is_said_otherwise (rows_so_far draft) row) c.self.view_is ∙ c.requires.one_end in
    rw c.in_ok-push.ensures.items (sound_with_row before row c.self.invariant.0 takes apart, c.self.invariant.1)
