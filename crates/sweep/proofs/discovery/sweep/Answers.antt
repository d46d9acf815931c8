use Rattle.std.proofs.Common.{◌∙◌, ◌++◌, ◌∷◌, [], Err, ap, sym, subst}
use Rattle.sweep.specs.Graph.{GraphState}
use Rattle.sweep.specs.Start.{Starts}
use Rattle.sweep.specs.Survey.{SurveyState}
use Rattle.sweep.specs.Sweeps.{Comes, IsAllAsked}
use Rattle.sweep.specs.declared.fault.SweepFault.{SweepFault}
use Rattle.sweep.proofs.EndedLemmas.{begun_at, found_first}
use Rattle.sweep.proofs.NearLemmas.{always_joined, finds, no_contradiction}
use Rattle.sweep.proofs.discovery.sweep.Goals as goal

pub returns-in-Err-visit_all-clause-found : goal.returns-in-Err-visit_all-clause-found
returns-in-Err-visit_all-clause-found g c x stands sweepable =
    let begins = ap g.W.SmpWire.fabric c.new-session.ensures.wire ∙ stands in
    let start = subst (Starts x) c.in-Ok.is (c.start.ensures.reported x begins sweepable.good) in
    let begun = begun_at x c.in-Ok.origin c.add_switch.new.self sweepable.good start
    (c.in-Ok-add_switch.ensures.ok ∙ ap (λ (s : SurveyState). record s { switches = s.switches ++ c.in-Ok.origin.switch ∷ [] }) c.new-survey.ensures) in
    subst (Comes x (λ _. IsAllAsked x (found_first x start.there) c.visit_all.new.survey)) c.in-Err-visit_all.is
    (c.visit_all.ensures.went x (c.start.ensures.left x begins sweepable.good) sweepable (found_first x start.there) begun)

pub returns-in-Err-into_graph-clause-found : goal.returns-in-Err-into_graph-clause-found
returns-in-Err-into_graph-clause-found g c x stands sweepable =
    let begins = ap g.W.SmpWire.fabric c.new-session.ensures.wire ∙ stands in
    let start = subst (Starts x) c.in-Ok.is (c.start.ensures.reported x begins sweepable.good) in
    let begun = begun_at x c.in-Ok.origin c.add_switch.new.self sweepable.good start
    (c.in-Ok-add_switch.ensures.ok ∙ ap (λ (s : SurveyState). record s { switches = s.switches ++ c.in-Ok.origin.switch ∷ [] }) c.new-survey.ensures) in
    no_contradiction x (found_first x start.there) c.visit_all.new.survey c.in-Ok.origin.manager c.in-Err-into_graph.fault sweepable start.manager
    (subst (Comes x (λ _. IsAllAsked x (found_first x start.there) c.visit_all.new.survey)) c.in-Ok-visit_all.is
    (c.visit_all.ensures.went x (c.start.ensures.left x begins sweepable.good) sweepable (found_first x start.there) begun))
    c.in-Err-into_graph.ensures.err (λ is. c.in-Err-into_graph.ensures.wrong (ap (λ (fault : SweepFault). Err fault) is))

pub returns-then-not-is_joined-clause-found : goal.returns-then-not-is_joined-clause-found
returns-then-not-is_joined-clause-found g c x stands sweepable =
    let begins = ap g.W.SmpWire.fabric c.new-session.ensures.wire ∙ stands in
    let start = subst (Starts x) c.in-Ok.is (c.start.ensures.reported x begins sweepable.good) in
    let begun = begun_at x c.in-Ok.origin c.add_switch.new.self sweepable.good start
    (c.in-Ok-add_switch.ensures.ok ∙ ap (λ (s : SurveyState). record s { switches = s.switches ++ c.in-Ok.origin.switch ∷ [] }) c.new-survey.ensures) in
    always_joined x (found_first x start.there) c.visit_all.new.survey _ sweepable
    (subst (Comes x (λ _. IsAllAsked x (found_first x start.there) c.visit_all.new.survey)) c.in-Ok-visit_all.is
    (c.visit_all.ensures.went x (c.start.ensures.left x begins sweepable.good) sweepable (found_first x start.there) begun))
    (ap (λ (graph : GraphState). graph.rows) c.in-Ok-into_graph.ensures.ok) (sym c.is_joined.ensures.order ∙ c.if-not-is_joined.true)

pub returns-clause-found : goal.returns-clause-found
returns-clause-found g c x stands sweepable =
    let begins = ap g.W.SmpWire.fabric c.new-session.ensures.wire ∙ stands in
    let start = subst (Starts x) c.in-Ok.is (c.start.ensures.reported x begins sweepable.good) in
    let begun = begun_at x c.in-Ok.origin c.add_switch.new.self sweepable.good start
    (c.in-Ok-add_switch.ensures.ok ∙ ap (λ (s : SurveyState). record s { switches = s.switches ++ c.in-Ok.origin.switch ∷ [] }) c.new-survey.ensures) in
    finds x (found_first x start.there) c.visit_all.new.survey c.in-Ok.origin.manager _ sweepable start.manager
    (subst (Comes x (λ _. IsAllAsked x (found_first x start.there) c.visit_all.new.survey)) c.in-Ok-visit_all.is
    (c.visit_all.ensures.went x (c.start.ensures.left x begins sweepable.good) sweepable (found_first x start.there) begun))
    c.in-Ok-into_graph.ensures.ok
