use Rattle.std.proofs.Common.{[], ◌∙◌, ap, sym}
use Rattle.dump_file.specs.Table.{put}
use Rattle.dump_file.proofs.LatestLemmas.{put_more}
use Rattle.dump_file.proofs.table.TableList.latest.Goals as goal

pub loop-table-preserved : goal.loop-table-preserved
loop-table-preserved c =
    c.in_ok-put.ensures ∙ ap (put c.in-Some.table) c.loop-table.invariant ∙ sym (put_more [] c.loop-table.yielded c.in-Some.table)
