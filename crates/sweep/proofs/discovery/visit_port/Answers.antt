use Rattle.std.proofs.Common.{ℕ, arith, ◌∙◌, ap, sym, length, List, true, false}
use Rattle.fabric_parts.specs.Cable.{far_end, port}
use Rattle.fabric_parts.specs.NodeType.{is_switch_type}
use Rattle.smp_wire.proofs.CableLemmas.{far_is_port}
use Rattle.smp_wire.specs.Walk.{end_of}
use Rattle.sweep.proofs.CabledLemmas.{end_more, far_of}
use Rattle.sweep.proofs.StartLemmas.{kind_at, seen_err, seen_ok}
use Rattle.sweep.proofs.VisitLemmas.{adapter_on, base, behind_it, no_cable, nothing_on, same_bit}
use Rattle.sweep.proofs.discovery.visit_port.Goals as goal
use Rattle.smp_wire.proofs.PresentLemmas.{present_right}

pub returns-in-Ok-false-clause-went : goal.returns-in-Ok-false-clause-went
returns-in-Ok-false-clause-went g c x stands sweepable found one count is at =
    let b = base x found one count c.args.survey.now c.args.row.now c.args.here c.args.path.now is at in
    let reported = sym c.in-Ok-false.is ∙ c.has_link.ensures.reported x stands b.0 sweepable.good sweepable.links b.1.ends b.1.switch b.1.there in
    nothing_on x found one count c.args.survey.now c.args.row.now c.args.here at
    (no_cable x one c.args.path.now c.args.here b.0 b.1 (same_bit _ _ false reported c.in-Ok-false.field-0-test))

pub returns-in-Err-clause-went : goal.returns-in-Err-clause-went
returns-in-Err-clause-went g c x stands sweepable found one count is at =
    let b = base x found one count c.args.survey.now c.args.row.now c.args.here c.args.path.now is at in
    let reported = sym c.in-Err.is ∙ c.has_link.ensures.reported x stands b.0 sweepable.good sweepable.links b.1.ends b.1.switch b.1.there in
    absurd cc

pub returns-then-len-eq-PATH_HOPS-clause-went : goal.returns-then-len-eq-PATH_HOPS-clause-went
returns-then-len-eq-PATH_HOPS-clause-went g c x stands sweepable found one count is at =
    let b = base x found one count c.args.survey.now c.args.row.now c.args.here c.args.path.now is at in
    let reported = sym c.in-Ok-true.is ∙ c.has_link.ensures.reported x stands b.0 sweepable.good sweepable.links b.1.ends b.1.switch b.1.there in
    let far = far_of x.cables (port b.0.node c.args.here.port) (same_bit _ _ true reported c.in-Ok-true.field-0-test) in
    c.turn_round.ensures.went x sweepable found one count far.0 at
    (ap (λ (n : ℕ). far_end x.cables (port n c.args.here.port)) (sym b.1.node) ∙ far.1)
    (ap (λ (some : List ℕ). length some) (sym is) ∙ sym c.len.ensures.value ∙ c.if-len-eq-PATH_HOPS.true)

pub returns-in-Err-look-clause-went : goal.returns-in-Err-look-clause-went
returns-in-Err-look-clause-went g c x stands sweepable found one count is at =
    let b = base x found one count c.args.survey.now c.args.row.now c.args.here c.args.path.now is at in
    let reported = sym c.in-Ok-true.is ∙ c.has_link.ensures.reported x stands b.0 sweepable.good sweepable.links b.1.ends b.1.switch b.1.there in
    let far = far_of x.cables (port b.0.node c.args.here.port) (same_bit _ _ true reported c.in-Ok-true.field-0-test) in
    let ends = ap (end_of x) c.then-path.ensures ∙ end_more x c.args.path.now b.0 far.0 c.args.here.port b.1.ends b.1.switch b.1.there far.1 in
    absurd (seen_err x c.then-path.result far.0 c.in-Err-look.fault sweepable.good
    (far_is_port x.nodes x.cables (port b.0.node c.args.here.port) far.0 (present_right sweepable.good) far.1) ends
    (sym c.in-Err-look.is ∙ c.look.ensures.reported x (c.has_link.ensures.left x stands sweepable.good) sweepable.good))

pub returns-in-Switch-clause-went : goal.returns-in-Switch-clause-went
returns-in-Switch-clause-went g c x stands sweepable found one count is at =
    let b = base x found one count c.args.survey.now c.args.row.now c.args.here c.args.path.now is at in
    let reported = sym c.in-Ok-true.is ∙ c.has_link.ensures.reported x stands b.0 sweepable.good sweepable.links b.1.ends b.1.switch b.1.there in
    let far = far_of x.cables (port b.0.node c.args.here.port) (same_bit _ _ true reported c.in-Ok-true.field-0-test) in
    let ends = ap (end_of x) c.then-path.ensures ∙ end_more x c.args.path.now b.0 far.0 c.args.here.port b.1.ends b.1.switch b.1.there far.1 in
    let linked = c.has_link.ensures.left x stands sweepable.good in
    let seen = seen_ok x c.then-path.result far.0 c.in-Ok.seen ends (sym c.in-Ok.is ∙ c.look.ensures.reported x linked sweepable.good) in
    let behind = behind_it x one c.args.path.now c.then-path.result c.args.here b.0 far.0 c.in-Ok.seen is b.1 far.1 c.then-path.ensures
    (omega (arith, c.len.ensures.fits, c.len.ensures.value, c.if-len-eq-PATH_HOPS.false)) seen in
    c.meet_switch.ensures.went x (c.look.ensures.left x linked sweepable.good) sweepable found one count far.0 at behind
    (sym (kind_at x far.0 c.in-Ok.seen seen).0 ∙ ap is_switch_type c.in-Switch.is)

pub returns-in-ChannelAdapter-clause-went : goal.returns-in-ChannelAdapter-clause-went
returns-in-ChannelAdapter-clause-went g c x stands sweepable found one count is at =
    let b = base x found one count c.args.survey.now c.args.row.now c.args.here c.args.path.now is at in
    let reported = sym c.in-Ok-true.is ∙ c.has_link.ensures.reported x stands b.0 sweepable.good sweepable.links b.1.ends b.1.switch b.1.there in
    let far = far_of x.cables (port b.0.node c.args.here.port) (same_bit _ _ true reported c.in-Ok-true.field-0-test) in
    let ends = ap (end_of x) c.then-path.ensures ∙ end_more x c.args.path.now b.0 far.0 c.args.here.port b.1.ends b.1.switch b.1.there far.1 in
    let linked = c.has_link.ensures.left x stands sweepable.good in
    let seen = seen_ok x c.then-path.result far.0 c.in-Ok.seen ends (sym c.in-Ok.is ∙ c.look.ensures.reported x linked sweepable.good) in
    let behind = behind_it x one c.args.path.now c.then-path.result c.args.here b.0 far.0 c.in-Ok.seen is b.1 far.1 c.then-path.ensures
    (omega (arith, c.len.ensures.fits, c.len.ensures.value, c.if-len-eq-PATH_HOPS.false)) seen in
    let adapter = sym (kind_at x far.0 c.in-Ok.seen seen).0 ∙ ap is_switch_type c.in-ChannelAdapter.is in
    adapter_on x found one count c.args.survey.now c.meet_port.new.survey c.args.row.now c.args.here far.0 c.then-path.result c.in-Ok.seen c.meet_port.result
    sweepable at behind adapter
    (c.meet_port.ensures.added x (c.look.ensures.left x linked sweepable.good) sweepable.good far.0 behind.ends adapter behind.seen_is)
