use Rattle.std.proofs.Common.{suc, ◌++◌, ◌∙◌, [], sym, subst}
use Rattle.sweep.specs.Sweeps.{Comes, GoesOn}
use Rattle.sweep.proofs.VisitLemmas.{full_asked, switch_again, way_found}
use Rattle.sweep.proofs.discovery.visit_all.Goals as goal

pub returns-in-Err-clause-went : goal.returns-in-Err-clause-went
returns-in-Err-clause-went g c x stands sweepable found progress =
    let on = c.loop-place.invariant.went x stands sweepable found progress in
    let way = way_found x (found ++ on.more) c.loop-place.survey.switches c.loop-place.place c.in-Some.num_ports c.in-Some.path on.progress.noted.switches
    (sym c.way_to.ensures ∙ c.in-Some.is) in
    subst (Comes x (λ _. GoesOn x (found ++ on.more) (suc c.loop-place.place) 0 c.visit_switch.new.survey [])) c.in-Err.is
    (c.visit_switch.ensures.went x (c.loop-place.invariant.left x stands sweepable.good) sweepable (found ++ on.more) way.one way.path_is way.count way.there on.progress)

pub loop-place-preserved : goal.loop-place-preserved
loop-place-preserved g c = record {
  same_wire = c.visit_switch.ensures.same_wire ∙ c.loop-place.invariant.same_wire;
  left = λ fabric stands good. c.visit_switch.ensures.left fabric (c.loop-place.invariant.left fabric stands good) good;
  went = λ fabric stands sweepable found progress.
      let on = c.loop-place.invariant.went fabric stands sweepable found progress in
      let way = way_found fabric (found ++ on.more) c.loop-place.survey.switches c.loop-place.place c.in-Some.num_ports c.in-Some.path on.progress.noted.switches
      (sym c.way_to.ensures ∙ c.in-Some.is) in
      switch_again fabric found on.more c.loop-place.place c.visit_switch.new.survey
      (subst (Comes fabric (λ _. GoesOn fabric (found ++ on.more) (suc c.loop-place.place) 0 c.visit_switch.new.survey [])) c.in-Ok.is
      (c.visit_switch.ensures.went fabric (c.loop-place.invariant.left fabric stands sweepable.good) sweepable
      (found ++ on.more) way.one way.path_is way.count way.there on.progress));
}

pub returns-clause-went : goal.returns-clause-went
returns-clause-went g c x stands sweepable found progress =
    full_asked x found c.loop-place.place c.loop-place.survey (c.loop-place.invariant.went x stands sweepable found progress) c.loop-place-test.false
