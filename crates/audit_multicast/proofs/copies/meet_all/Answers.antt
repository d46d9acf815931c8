use Rattle.std.proofs.Common.{ℕ, List, Bool, ◌==◌, ◌||◌, ◌≡◌, ◌∙◌, ap, false, sym}
use Rattle.topo_file.specs.Rounds.{is_marked}
use Rattle.audit_multicast.proofs.MeetLemmas.{all_met, one_met}
use Rattle.audit_multicast.proofs.copies.meet_all.Goals as goal

pub loop-at-preserved : goal.loop-at-preserved
loop-at-preserved c =
    let met = c.loop-at.met in
    let place = c.node_behind-place.ensures in
    one_met c.args.net.now c.args.met.now c.args.front.now c.loop-at.at-index met c.meet.new.met _ c.loop-at-test.true c.loop-at.invariant
    (ap (λ (n : ℕ). is_marked met n) (sym place) ∙ sym c.meet.ensures.before ∙ c.if-meet.false) c.meet.ensures.long
    (λ k. c.meet.ensures.marked k ∙ ap (λ (n : ℕ). is_marked met k || (n == k)) place)

pub returns-clause-marked : goal.returns-clause-marked
returns-clause-marked c none other = all_met c.args.net.now c.args.met.now c.args.front.now c.loop-at.at-index c.loop-at.met c.loop-at-test.false c.loop-at.invariant other
