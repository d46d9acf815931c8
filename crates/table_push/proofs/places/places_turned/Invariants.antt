use Rattle.table_push.proofs.PlaceLemmas.{TurnedSoFar}
use Rattle.table_push.proofs.places.places_turned.Given as goal

-- where the first switches are looked at
abbrev pub invariant-loop-switch : goal.invariant-loop-switch
invariant-loop-switch l = TurnedSoFar l.fn.tree l.fn.before l.fn.after l.switch l.places
