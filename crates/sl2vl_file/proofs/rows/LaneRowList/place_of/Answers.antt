use Rattle.std.proofs.Common.{◌==◌, ◌&&◌, ap, ◌∙◌}
use Rattle.sl2vl_file.specs.Rows.{place_of}
use Rattle.step_results.proofs.PlaceLemmas.{place_by_key}
use Rattle.sl2vl_file.proofs.rows.LaneRowList.place_of.Goals as goal

pub returns : goal.returns
returns c =
    c.get_index_of.ensures.index
    ∙ place_by_key (λ key. (c.args.lid == key.lid) && ((c.args.input == key.input) && (c.args.output == key.output)))
    (λ row. record { lid = row.lid; input = row.input; output = row.output }) c.self.inside.keys.keys c.self.inside.rows.items c.self.invariant
    ∙ ap (place_of c.args.lid c.args.input c.args.output) c.self.view_is
