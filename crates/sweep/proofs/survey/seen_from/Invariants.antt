use Rattle.sweep.proofs.SurveyLemmas.{NoneLeads}
use Rattle.sweep.proofs.survey.seen_from.Given as goal

abbrev pub invariant-loop-node : goal.invariant-loop-node
invariant-loop-node l = NoneLeads l.rows l.there l.node
