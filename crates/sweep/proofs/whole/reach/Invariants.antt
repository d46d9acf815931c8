use Rattle.std.proofs.Common.{◌≡◌, ◌<◌, ◌==◌, ℕ, length, drop}
use Rattle.std.specs.List.{list_any}
use Rattle.sweep.specs.Rounds.{found_at, or_further}
use Rattle.sweep.proofs.whole.reach.Given as goal

abbrev pub invariant-loop-link : goal.invariant-loop-link
invariant-loop-link l =
    (t : ℕ) → t < length l.found
    → or_further (found_at l.initial.found t) (list_any (λ link. link.to.node == t) l.links) l.distance
    ≡ or_further (found_at l.found t) (list_any (λ link. link.to.node == t) (drop l.link-index l.links)) l.distance
