use Rattle.std.proofs.Common.{◌∙◌, subst}
use Rattle.sweep.specs.Sweeps.{Comes, IsPlacedAt}
use Rattle.sweep.proofs.VisitLemmas.{right_count, switch_on}
use Rattle.sweep.proofs.discovery.meet_switch.Goals as goal

pub returns-in-Err-clause-went : goal.returns-in-Err-clause-went
returns-in-Err-clause-went g c x stands sweepable found one count there at behind switch =
    subst (Comes x (IsPlacedAt x found one c.args.here.node count c.place_behind.new.survey c.args.row.now there.node)) c.in-Err.is
    (c.place_behind.ensures.went x stands sweepable found one count c.args.row.now c.args.here there at behind switch)

pub returns-then-count_at-behind-clause-went : goal.returns-then-count_at-behind-clause-went
returns-then-count_at-behind-clause-went g c x stands sweepable found one count there at behind switch =
    let placed_at =
    subst (Comes x (IsPlacedAt x found one c.args.here.node count c.place_behind.new.survey c.args.row.now there.node)) c.in-Ok.is
    (c.place_behind.ensures.went x stands sweepable found one count c.args.row.now c.args.here there at behind switch) in
    c.if-count_at-behind.true (c.count_at.ensures ∙ right_count x found one c.args.here.node count c.place_behind.new.survey c.args.row.now there c.args.behind.now.seen
    c.in-Ok.place switch placed_at behind.seen_is)

pub returns-clause-went : goal.returns-clause-went
returns-clause-went g c x stands sweepable found one count there at behind switch =
    let placed_at =
    subst (Comes x (IsPlacedAt x found one c.args.here.node count c.place_behind.new.survey c.args.row.now there.node)) c.in-Ok.is
    (c.place_behind.ensures.went x stands sweepable found one count c.args.row.now c.args.here there at behind switch) in
    switch_on x found one count c.in-Ok.place c.args.survey.now c.place_behind.new.survey c.args.row.now c.note.new.row c.args.here there c.args.behind.now.path c.args.behind.now.seen
    c.note.result at behind switch placed_at c.note.ensures
