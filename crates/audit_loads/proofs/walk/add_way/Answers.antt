use Rattle.std.proofs.Common.{ℕ, List, ◌≡◌, ◌∙◌, ◌<◌, length, ap, subst, sym, true, false, arith}
use Rattle.audit_net.specs.declared.entry.Entry.TheVariants.{Out}
use Rattle.audit_net.specs.declared.following.Turn.TheVariants as turns
use Rattle.audit_loops.specs.Channels.{is_out}
use Rattle.audit_net.specs.Following.{turn, turn_by}
use Rattle.audit_net.specs.Net.{entry}
use Rattle.audit_loads.specs.Walk.{is_stamped}
use Rattle.audit_loads.proofs.SumLemmas.{ends_added, ends_back, ends_closed, is_added, is_free, is_taken, no_out, no_out_stays, walks_on}
use Rattle.audit_loads.proofs.walk.add_way.Goals as goal

pub returns-then-not-stamp_at-clause-sums : goal.returns-then-not-stamp_at-clause-sums
returns-then-not-stamp_at-clause-sums c =
    let net = c.args.net.now in
    let less = subst (λ (places : List ℕ). c.loop.counter < length places) c.switches-end.ensures c.loop-test.true in
    let taken : is_stamped c.loop.marks c.args.stamp c.loop.at ≡ true = is_taken c.stamp_at.result _ c.stamp_at.ensures.free c.if-not-stamp_at.true in
    ends_back net c.args.flow.lid c.args.flow.place c.args.flow.count c.args.stamp c.args.marks.now c.args.sums.now c.loop.counter c.loop.at c.loop.marks c.loop.sums
    c.requires.stamp (omega (arith, less)) c.loop.invariant.0 taken

pub returns-in_default : goal.returns-in_default
returns-in_default c =
    let net = c.args.net.now in
    let lid = c.args.flow.lid in
    let at = c.loop.at in
    let less = subst (λ (places : List ℕ). c.loop.counter < length places) c.switches-end.ensures c.loop-test.true in
    record {
      long = c.stamp_at.ensures.long ∙ c.loop.invariant.0.long;
      below = λ below. c.stamp_at.ensures.below (c.loop.invariant.1 below);
      sums =
          ends_closed net lid c.args.flow.place c.args.flow.count c.args.stamp c.args.marks.now c.args.sums.now c.loop.counter at c.loop.marks c.loop.sums less c.loop.invariant.0
          (λ number. ap (is_out number) (sym c.entry.ensures) ∙ no_out c.entry.result c.in_default.not-Out number)
          (λ next goes. no_out_stays net at c.entry.result c.in_default.not-Out next (ap (turn_by net at) c.entry.ensures ∙ goes));
    }

pub returns-in_default-turn_out : goal.returns-in_default-turn_out
returns-in_default-turn_out c =
    let net = c.args.net.now in
    let lid = c.args.flow.lid in
    let at = c.loop.at in
    let less = subst (λ (places : List ℕ). c.loop.counter < length places) c.switches-end.ensures c.loop-test.true in
    let free : is_stamped c.loop.marks c.args.stamp at ≡ false = is_free c.stamp_at.result _ c.stamp_at.ensures.free c.if-not-stamp_at.false in
    let out : entry net lid at ≡ Out c.in-Out.number = sym c.entry.ensures ∙ c.in-Out.is in
    record {
      long = c.stamp_at.ensures.long ∙ c.loop.invariant.0.long;
      below = λ below. c.stamp_at.ensures.below (c.loop.invariant.1 below);
      sums =
          ends_added net lid c.args.flow.place c.args.flow.count c.loop.counter at c.args.sums.now c.add_at.new.sums less c.loop.invariant.0.comes
          (λ next goes. c.in_default-turn_out.not-Goes next (c.turn_out.ensures ∙ ap (turn_by net at) (sym out) ∙ goes))
          (is_added net lid c.args.flow.place c.args.flow.count c.args.stamp c.args.marks.now c.args.sums.now c.loop.counter at c.in-Out.number c.loop.marks c.loop.sums c.add_at.new.sums
          c.requires.long c.loop.invariant.0 free out c.in_ok-add_at.ensures);
    }

pub loop-preserved : goal.loop-preserved
loop-preserved c =
    let net = c.args.net.now in
    let lid = c.args.flow.lid in
    let at = c.loop.at in
    let free : is_stamped c.loop.marks c.args.stamp at ≡ false = is_free c.stamp_at.result _ c.stamp_at.ensures.free c.if-not-stamp_at.false in
    let out : entry net lid at ≡ Out c.in-Out.number = sym c.entry.ensures ∙ c.in-Out.is in
    let goes : turn net lid at ≡ turns.Goes c.in-Goes.next = ap (turn_by net at) out ∙ sym c.turn_out.ensures ∙ c.in-Goes.is in (
      walks_on net lid c.args.flow.place c.args.flow.count c.args.stamp c.args.marks.now c.args.sums.now c.loop.counter at c.in-Goes.next c.loop.marks c.loop.sums c.stamp_at.new.marks
          c.add_at.new.sums c.loop.invariant.0 goes c.stamp_at.ensures.long c.stamp_at.ensures.stamped
          (is_added net lid c.args.flow.place c.args.flow.count c.args.stamp c.args.marks.now c.args.sums.now c.loop.counter at c.in-Out.number c.loop.marks c.loop.sums c.add_at.new.sums
          c.requires.long c.loop.invariant.0 free out c.in_ok-add_at.ensures),
      λ below. c.stamp_at.ensures.below (c.loop.invariant.1 below),
    )
