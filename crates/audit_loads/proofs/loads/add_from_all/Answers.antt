use Rattle.std.proofs.Common.{◌≡◌, ◌∙◌, ◌+◌, ◌++◌, ap, sym, subst, ℕ, List, drop, length, take}
use Rattle.std.proofs.Math.Seq.{take-append_seam}
use Rattle.audit_loads.specs.Sources.{pairs_in}
use Rattle.audit_loads.specs.Talk.{may_talk}
use Rattle.audit_loads.specs.Walk.{AreBelow}
use Rattle.audit_loads.proofs.PairLemmas.{counts_more, pairs_more}
use Rattle.audit_loads.proofs.loads.add_from_all.Goals as goal

pub loop-index-preserved : goal.loop-index-preserved
loop-index-preserved c =
    let net = c.args.net.now in
    let pairs = pairs_in (may_talk c.args.talk.now) c.args.target.lid c.args.target.end in
    let new = c.add_from.new.marks in
    let rest = drop (length new) c.loop-index.marks.items in
    let same : c.loop-index.marks.len ≡ length new = sym c.deref_mut.ensures.len ∙ sym c.add_from.ensures.long in
    let is : take c.loop-index.marks.len (new ++ rest) ≡ new = ap (λ (n : ℕ). take n (new ++ rest)) same ∙ take-append_seam new rest in
    let long : length new ≡ length net.plan.nodes =
    c.add_from.ensures.long ∙ ap (λ (marks : List ℕ). length marks) c.deref_mut.ensures.value ∙ c.loop-index.invariant.long in
    let kept = subst (λ (marks : List ℕ). (length marks ≡ length net.plan.nodes) × AreBelow (c.loop-index.index + 1) marks) (sym is) (long, c.add_from.ensures.below) in
    record {
      grown =
          pairs_more net pairs c.args.all.now c.loop-index.index c.index-all-index.result c.index-all-index.result
          c.args.sums.now c.loop-index.sums c.add_from.new.sums c.loop-index-test.true (sym c.index-all-index.is) c.loop-index.invariant.grown c.in_ok-more.ensures.sums;
      counted =
          counts_more net pairs c.args.all.now c.loop-index.index c.index-all-index.result c.index-all-index.result c.loop-index.counts c.in_ok-more.more _
          c.loop-index-test.true c.index-all-index.is c.loop-index.invariant.counted c.in_ok-more.ensures.counts c.in_ok-counts.ensures;
      long = kept.0;
      below = kept.1;
    }
