use Rattle.std.proofs.Common.{◌∙◌, ◌==◌, ap, sym, is_some}
use Rattle.dump_file.specs.Table.{place_of}
use Rattle.dump_file.proofs.LatestLemmas.{has_place}
use Rattle.dump_file.proofs.draft.Draft.has_table.Goals as goal

pub returns : goal.returns
returns c =
    c.contains.ensures ∙ c.self.invariant.1.0 c.args.guid ∙ sym (has_place (λ table. c.args.guid == table.guid) c.self.inside.tables.items)
    ∙ ap (λ draft. is_some (place_of c.args.guid draft.tables)) c.self.view_is
