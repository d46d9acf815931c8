use Rattle.std.proofs.Common.{◌∙◌, arith}
use Rattle.std.proofs.lemmas.List.{length-set}
use Rattle.table_push.proofs.LinearLemmas.{entries_end, entry_more}
use Rattle.table_push.proofs.linear.linear_table.Goals as goal

pub loop-lid-preserved : goal.loop-lid-preserved
loop-lid-preserved c = record {
  long = length-set c.loop-lid.ports c.loop-lid.lid c.linear_entry.result ∙ c.loop-lid.invariant.long;
  are = entry_more c.args.routes.now c.args.place c.loop-lid.lid c.linear_entry.result c.loop-lid.ports
      (omega (arith, c.loop-lid-test.true, c.loop-lid.invariant.long)) c.linear_entry.ensures c.loop-lid.invariant.are;
}

pub returns : goal.returns
returns c =
    entries_end c.args.routes.now c.args.place c.loop-lid.lid c.loop-lid.ports c.loop-lid.invariant.long
    (omega (arith, c.loop-lid-test.false, c.loop-lid.auto.lid-end)) c.loop-lid.invariant.are
