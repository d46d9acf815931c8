use Rattle.std.proofs.Common.{◌≡◌, ap, sym, ◌∙◌, Some, slice_get}
use Rattle.std.proofs.lemmas.Option.{slice_get-get_or}
use Rattle.dump_file.specs.declared.row.Row.{Row}
use Rattle.audit_net.proofs.NetLemmas.{found_is}
use Rattle.audit_net.proofs.inputs.dense_row.Goals as goal

pub returns : goal.returns
returns c =
    let rows = c.args.rows.now in
    let row = c.in_ok-row.row.now in
    let found = c.in_ok-row.ensures.lookup in
    let there : slice_get rows c.from.result ≡ Some row = slice_get-get_or rows c.from.result row found.3.0 ∙ ap (λ (r : Row). Some r) (sym found.1) in
    found_is c.args.lid 0 c.args.top c.from.result rows row c.requires there c.if-row-lid.false
