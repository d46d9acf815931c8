use Rattle.std.proofs.Common.{◌∙◌, sym}
use Rattle.sweep.proofs.VisitLemmas.{known_place, new_place}
use Rattle.sweep.proofs.discovery.place_behind.Goals as goal

pub returns-in-Some-clause-went : goal.returns-in-Some-clause-went
returns-in-Some-clause-went g c x stands sweepable found one count row here there at behind switch =
    known_place x found one count c.args.survey.now row here there c.args.behind.now.path c.args.behind.now.seen c.in-Some.place sweepable at behind switch
    (sym c.place_of.ensures ∙ c.in-Some.is)

pub returns-in-None-clause-went : goal.returns-in-None-clause-went
returns-in-None-clause-went g c x stands sweepable found one count row here there at behind switch =
    new_place x found one count c.args.survey.now c.find_switch.new.survey row here there c.args.behind.now.path c.args.behind.now.seen c.find_switch.result
    sweepable at behind switch (sym c.place_of.ensures ∙ c.in-None.is)
    (c.find_switch.ensures.added x stands sweepable.good there behind.ends switch behind.seen_is)
