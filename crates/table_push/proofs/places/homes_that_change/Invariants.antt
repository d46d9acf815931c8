use Rattle.std.proofs.Common.{◌≤◌, ◌+◌, length}
use Rattle.table_push.proofs.PlaceLemmas.{SameSoFar}
use Rattle.table_push.proofs.places.homes_that_change.Given as goal

-- of the first receivers of both lists
abbrev pub invariant-loop-turn : goal.invariant-loop-turn
invariant-loop-turn l = record {
  gone : l.gone ≤ length l.fn.before;
  come : l.come ≤ length l.fn.after;
  far : l._turn ≤ l.gone + l.come;
  same : SameSoFar l.fn.routes.between.homes l.fn.before l.fn.after l.gone l.come l.places;
}
