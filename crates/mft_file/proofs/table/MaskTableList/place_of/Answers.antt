use Rattle.std.proofs.Common.{◌==◌, ap, ◌∙◌}
use Rattle.mft_file.specs.Table.{place_of}
use Rattle.step_results.proofs.PlaceLemmas.{place_by_key}
use Rattle.mft_file.proofs.table.MaskTableList.place_of.Goals as goal

pub returns : goal.returns
returns c =
    c.get_index_of.ensures.index
    ∙ place_by_key (λ key. c.args.guid == key) (λ table. table.guid) c.self.inside.guids.keys c.self.inside.tables.items c.self.invariant
    ∙ ap (place_of c.args.guid) c.self.view_is
