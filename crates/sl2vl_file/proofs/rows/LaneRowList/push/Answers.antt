use Rattle.std.proofs.Common.{◌≡◌, ◌==◌, ◌&&◌, None, refl}
use Rattle.sl2vl_file.specs.Rows.{place_of}
use Rattle.sl2vl_file.specs.declared.rows.RowKey.{RowKey}
use Rattle.step_results.proofs.PlaceLemmas.{keys_grow}
use Rattle.sl2vl_file.proofs.rows.LaneRowList.push.Goals as goal

pub invariant_of-self-2 : goal.invariant_of-self-2
invariant_of-self-2 c =
    let row = c.args.row in
    let new : place_of row.lid row.input row.output c.self.inside.rows.items ≡ None = rw c.self.view_is c.requires.new in
    rw (c.in_ok-insert.ensures.keys, c.in_ok-push.ensures.items, c.reserve.ensures.items)
    (keys_grow (λ (a b : RowKey). (a.lid == b.lid) && ((a.input == b.input) && (a.output == b.output)))
    (λ row. record { lid = row.lid; input = row.input; output = row.output }) (record { lid = row.lid; input = row.input; output = row.output }) row
    c.self.inside.keys.keys c.self.inside.rows.items c.self.invariant refl new)
