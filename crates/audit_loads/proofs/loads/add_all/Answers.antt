use Rattle.std.proofs.Common.{◌≡◌, ◌∙◌, ap, refl, List, flat_map, subst}
use Rattle.std.proofs.lemmas.List.{take_all}
use Rattle.audit_net.specs.declared.lids.Aim.{Aim}
use Rattle.audit_loads.specs.Counts.{counts_of}
use Rattle.audit_loads.specs.Sources.{pairs_to}
use Rattle.audit_loads.specs.Talk.{may_talk}
use Rattle.audit_loads.specs.Walk.{HasSums}
use Rattle.audit_loads.proofs.PairLemmas.{counts_more, sums_more}
use Rattle.audit_loads.proofs.loads.add_all.Goals as goal

pub loop-aim-preserved : goal.loop-aim-preserved
loop-aim-preserved c =
    let net = c.args.net.now in
    let pairs = pairs_to net (may_talk c.args.talk.now) in
    record {
      sums =
          sums_more net pairs c.args.aims.now c.loop-aim.aim-index _ _ c.loop-aim.sums c.add_to.new.sums c.loop-aim-test.true refl
          c.loop-aim.invariant.sums c.in_ok-more.ensures.sums;
      counted =
          counts_more net pairs c.args.aims.now c.loop-aim.aim-index _ _ c.loop-aim.counts c.in_ok-more.more _ c.loop-aim-test.true refl
          c.loop-aim.invariant.counted c.in_ok-more.ensures.counts c.in_ok-counts.ensures;
    }

pub returns-clause-sums : goal.returns-clause-sums
returns-clause-sums c =
    let net = c.args.net.now in
    subst (λ (aims : List Aim). HasSums net (flat_map (pairs_to net (may_talk c.args.talk.now)) aims) c.loop-aim.sums)
    (take_all c.loop-aim.aim-index c.args.aims.now c.loop-aim-test.false) c.loop-aim.invariant.sums

pub returns-clause-counts : goal.returns-clause-counts
returns-clause-counts c =
    let net = c.args.net.now in
    c.loop-aim.invariant.counted
    ∙ ap (λ (aims : List Aim). counts_of net (flat_map (pairs_to net (may_talk c.args.talk.now)) aims)) (take_all c.loop-aim.aim-index c.args.aims.now c.loop-aim-test.false)
