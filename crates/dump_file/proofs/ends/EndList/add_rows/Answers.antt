use Rattle.std.proofs.Common.{refl}
use Rattle.dump_file.specs.Index.{end_known}
use Rattle.dump_file.proofs.EndLemmas.{row_more}
use Rattle.dump_file.proofs.ends.EndList.add_rows.Goals as goal

pub loop-row-preserved : goal.loop-row-preserved
loop-row-preserved c =
    row_more (end_known c.args.self.now) c.loop-row.self c.add_row.new.self c.args.rows.now c.loop-row.row-index _ _
    c.loop-row-test.true refl c.loop-row.invariant c.in_ok-add_row.ensures
