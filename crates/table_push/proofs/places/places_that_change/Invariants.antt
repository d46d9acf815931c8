use Rattle.table_push.proofs.PlaceLemmas.{Unchanged}
use Rattle.table_push.proofs.places.places_that_change.Given as goal

-- of the first multicast LIDs
abbrev pub invariant-loop-slot : goal.invariant-loop-slot
invariant-loop-slot l = Unchanged l.fn.routes.between.homes l.fn.tree l.fn.before l.fn.after l.switches_before l.switches_after l.slot l.places
