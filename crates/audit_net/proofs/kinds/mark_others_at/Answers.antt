use Rattle.std.proofs.Common.{List, ap, sym, ◌||◌, ◌∙◌}
use Rattle.std.specs.List.{list_any}
use Rattle.dump_file.specs.declared.row.Row.{Row}
use Rattle.topo_file.specs.Rounds.{is_marked}
use Rattle.audit_net.specs.Kinds.{says_other}
use Rattle.audit_net.proofs.KindLemmas.{others_at}
use Rattle.audit_net.proofs.kinds.mark_others_at.Goals as goal

pub returns-in-Some-clause-marked : goal.returns-in-Some-clause-marked
returns-in-Some-clause-marked c lid =
    let before = is_marked c.args.marks.now lid in
    others_at c.args.net.now c.args.of_switch c.args.place lid before (is_marked c.mark_others.new.marks lid) c.in-Some.table.now (sym c.in-Some.ensures.value) c.in-Some.ensures.rising
    (c.mark_others.ensures.marked lid ∙ ap (λ (rows : List Row). before || list_any (says_other c.args.of_switch lid) rows) c.as_slice.ensures)
