use Rattle.std.proofs.Common.{arith, ◌+◌, ◌≡◌, ◌++◌, subst, ◌∙◌}
use Rattle.sweep.specs.Sweeps.{Comes, GoesOn}
use Rattle.sweep.proofs.VisitLemmas.{at_next, on_again, row_end}
use Rattle.sweep.proofs.discovery.visit_switch.Goals as goal

pub returns-in-Err-clause-went : goal.returns-in-Err-clause-went
returns-in-Err-clause-went g c x stands sweepable found one is all there progress =
    let on = c.loop-before.invariant.went x stands sweepable found one is all there progress in
    let at = at_next x found one c.args.switch.now.place c.loop-before.before c.loop-before.survey c.loop-before.row there (omega (arith, c.loop-before-test.true, all)) on in
    subst (Comes x (λ _. GoesOn x (found ++ on.more) c.args.switch.now.place (c.loop-before.before + 1) c.visit_port.new.survey c.visit_port.new.row)) c.in-Err.is
    (c.visit_port.ensures.went x (c.loop-before.invariant.left x stands sweepable.good) sweepable (found ++ on.more) one c.loop-before.before is at)

pub loop-before-preserved : goal.loop-before-preserved
loop-before-preserved g c = record {
  same_wire = c.visit_port.ensures.same_wire ∙ c.loop-before.invariant.same_wire;
  left = λ fabric stands good. c.visit_port.ensures.left fabric (c.loop-before.invariant.left fabric stands good) good;
  went = λ fabric stands sweepable found one is all there progress.
      let on = c.loop-before.invariant.went fabric stands sweepable found one is all there progress in
      let at = at_next fabric found one c.args.switch.now.place c.loop-before.before c.loop-before.survey c.loop-before.row there (omega (arith, c.loop-before-test.true, all)) on in
      on_again fabric found on.more c.args.switch.now.place (c.loop-before.before + 1) c.visit_port.new.survey c.visit_port.new.row
      (subst (Comes fabric (λ _. GoesOn fabric (found ++ on.more) c.args.switch.now.place (c.loop-before.before + 1) c.visit_port.new.survey c.visit_port.new.row)) c.in-Ok.is
      (c.visit_port.ensures.went fabric (c.loop-before.invariant.left fabric stands sweepable.good) sweepable (found ++ on.more) one c.loop-before.before is at));
}

pub returns-in-Ok-add_row-clause-went : goal.returns-in-Ok-add_row-clause-went
returns-in-Ok-add_row-clause-went g c x stands sweepable found one is all there progress =
    let on = c.loop-before.invariant.went x stands sweepable found one is all there progress in
    let last : c.loop-before.before ≡ c.args.switch.now.num_ports = omega (arith, c.loop-before-test.false, c.loop-before.auto.before-end) in
    row_end x found one c.args.switch.now.place c.loop-before.before c.loop-before.survey c.add_row.new.self c.loop-before.row there
    (rw last all) c.in-Ok-add_row.ensures.ok on
