use Rattle.std.proofs.Common.{◌∙◌, arith, refl}
use Rattle.std.proofs.lemmas.Option.{slice_get-get_or}
use Rattle.table_push.proofs.LeadLemmas.{no_fault}
use Rattle.table_push.proofs.MlidRangeLemmas.{slice_begins, slice_ends, mlid_range_more}
use Rattle.table_push.proofs.multicast.set_range.Goals as goal

pub loop-position-init : goal.loop-position-init
loop-position-init g c = record {
  left = λ fabric guid stands good leads. slice_begins _ fabric guid c.args.partition c.args.blocks.now stands good;
  same_wire = refl;
}

pub returns-in-Err-clause-left : goal.returns-in-Err-clause-left
returns-in-Err-clause-left g c x stands guid good leads =
    absurd (no_fault c.in-Err.fault _ _ _ (mlid_range_more _ _ _ x c.args.path.now guid c.loop-position.position c.args.partition c.args.blocks.now _ _
    c.loop-position-test.true c.requires.partition (slice_get-get_or c.args.blocks.now c.loop-position.position _ (omega (arith, c.told-blocks, c.loop-position-test.true)))
    c.set_block.ensures.words refl leads (c.loop-position.invariant.left x guid stands good leads) c.in-Err.ensures.set))

pub loop-position-preserved : goal.loop-position-preserved
loop-position-preserved g c = record {
  left = λ fabric guid stands good leads.
      (mlid_range_more _ _ _ fabric c.args.path.now guid c.loop-position.position c.args.partition c.args.blocks.now _ _
      c.loop-position-test.true c.requires.partition (slice_get-get_or c.args.blocks.now c.loop-position.position _ (omega (arith, c.told-blocks, c.loop-position-test.true)))
      c.set_block.ensures.words refl leads (c.loop-position.invariant.left fabric guid stands good leads) c.set_block.ensures.set).stands;
  same_wire = c.set_block.ensures.same_wire ∙ c.loop-position.invariant.same_wire;
}

pub returns-clause-left : goal.returns-clause-left
returns-clause-left g c x stands guid good leads =
    slice_ends _ x guid c.loop-position.position c.args.partition c.args.blocks.now (omega (arith, c.told-blocks, c.loop-position-test.false))
    (c.loop-position.invariant.left x guid stands good leads)
