use Rattle.std.proofs.Common.{◌∙◌, refl, arith, ◌*◌}
use Rattle.table_push.proofs.LeadLemmas.{no_fault}
use Rattle.table_push.proofs.LinearLemmas.{table_begins, table_ends, table_more}
use Rattle.table_push.proofs.linear.set_table.Goals as goal

pub loop-block-init : goal.loop-block-init
loop-block-init g c = record {
  left = λ fabric guid stands good leads. table_begins _ fabric guid c.args.table.now stands good;
  same_wire = refl;
}

pub returns-in-Err-clause-left : goal.returns-in-Err-clause-left
returns-in-Err-clause-left g c x stands guid good leads =
    absurd (no_fault c.in-Err.fault _ _ _ (table_more _ _ _ x c.args.path.now guid c.loop-block.block c.args.table.now c.block_at-entries.result
    c.loop-block-test.true c.told-table c.known_bytes.ensures c.block_at-entries.ensures leads
    (c.loop-block.invariant.left x guid stands good leads) c.in-Err.ensures.left))

pub loop-block-preserved : goal.loop-block-preserved
loop-block-preserved g c = record {
  left = λ fabric guid stands good leads.
      (table_more _ _ _ fabric c.args.path.now guid c.loop-block.block c.args.table.now c.block_at-entries.result
      c.loop-block-test.true c.told-table c.known_bytes.ensures c.block_at-entries.ensures leads
      (c.loop-block.invariant.left fabric guid stands good leads) c.set.ensures.left).stands;
  same_wire = c.set.ensures.same_wire ∙ c.loop-block.invariant.same_wire;
}

pub returns-clause-left : goal.returns-clause-left
returns-clause-left g c x stands guid good leads =
    table_ends _ x guid (64 * c.loop-block.block) c.args.table.now (omega (arith, c.loop-block-test.false, c.loop-block.auto.block-end)) c.told-table good
    (c.loop-block.invariant.left x guid stands good leads)
