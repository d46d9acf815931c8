use Rattle.std.proofs.Common.{◌≡◌, ◌∙◌, ap, true, ℕ, Option}
use Rattle.dump_file.specs.Destination.{guid_said}
use Rattle.dump_file.specs.Dump.{heading_of, rows_so_far}
use Rattle.dump_file.specs.Row.{are_two, is_above, is_said_otherwise}
use Rattle.dump_file.specs.Table.{rows_of}
use Rattle.dump_file.proofs.EndLemmas.{end_above}
use Rattle.dump_file.proofs.draft.Draft.is_said_otherwise.Goals as goal

pub returns : goal.returns
returns c =
    let inside = c.self.inside in
    let row = c.args.row in
    let above : is_above inside.rows.items row.lid ≡ true = ap (λ draft. is_above draft.rows row.lid) c.self.view_is ∙ c.requires.above in
    c.are_two.ensures ∙ ap (are_two c.end_of.result) c.guid.ensures
    ∙ ap (λ (end : Option ℕ). are_two end (guid_said row.destination)) (c.end_of.ensures ∙ c.self.invariant.1.1 row.lid
    ∙ end_above row.lid (heading_of inside.stage) (rows_of inside.tables.items) inside.rows.items c.self.invariant.0.open_rows above)
    ∙ ap (λ draft. is_said_otherwise (rows_so_far draft) row) c.self.view_is
