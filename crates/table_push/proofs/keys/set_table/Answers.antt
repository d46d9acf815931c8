use Rattle.std.proofs.Common.{◌∙◌, refl, arith, ◌*◌}
use Rattle.table_push.proofs.LeadLemmas.{no_fault}
use Rattle.table_push.proofs.KeyLemmas.{table_begins, table_ends, table_more}
use Rattle.table_push.proofs.keys.set_table.Goals as goal

pub loop-block-init : goal.loop-block-init
loop-block-init g c = record {
  left = λ fabric guid number stands good leads. table_begins _ fabric guid number c.args.table.now stands good;
  same_wire = refl;
}

pub returns-in-Err-clause-left : goal.returns-in-Err-clause-left
returns-in-Err-clause-left g c x stands guid number good leads =
    absurd (no_fault c.in-Err.fault _ _ _ (table_more _ _ _ x c.args.path.now c.args.asked guid number c.loop-block.block c.args.table.now
    c.loop-block-test.true c.told-table leads (c.loop-block.invariant.left x guid number stands good leads) c.in-Err.ensures.left))

pub loop-block-preserved : goal.loop-block-preserved
loop-block-preserved g c = record {
  left = λ fabric guid number stands good leads.
      (table_more _ _ _ fabric c.args.path.now c.args.asked guid number c.loop-block.block c.args.table.now
      c.loop-block-test.true c.told-table leads (c.loop-block.invariant.left fabric guid number stands good leads) c.put_block.ensures.left).stands;
  same_wire = c.put_block.ensures.same_wire ∙ c.loop-block.invariant.same_wire;
}

pub returns-clause-left : goal.returns-clause-left
returns-clause-left g c x stands guid number good leads =
    table_ends _ x c.args.path.now c.args.asked guid number (32 * c.loop-block.block) c.args.table.now
    (omega (arith, c.loop-block-test.false, c.loop-block.auto.block-end)) c.told-table good leads
    (c.loop-block.invariant.left x guid number stands good leads)
