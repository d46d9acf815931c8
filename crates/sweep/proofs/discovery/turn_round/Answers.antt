use Rattle.sweep.proofs.TurnLemmas.{not_turned, turned}
use Rattle.sweep.proofs.discovery.turn_round.Goals as goal

pub returns-in-Some : goal.returns-in-Some
returns-in-Some c = record {
  went = λ fabric sweepable found one count there at cable deep.
      turned fabric found one count c.args.survey.now c.args.row.now c.note.new.row c.args.here there c.in-Some.to c.note.result
      sweepable at cable deep c.in-Some.ensures.some c.note.ensures;
}

pub returns-in-None : goal.returns-in-None
returns-in-None c = record {
  went = λ fabric sweepable found one count there at cable deep.
      not_turned fabric found one count c.args.survey.now c.args.row.now c.args.here there sweepable at cable deep
      (c.seen_from.ensures.none c.in-None.is);
}
