use Rattle.std.proofs.Common.{◌≡◌, drop}
use Rattle.sweep.specs.Graph.{rise_above}
use Rattle.sweep.proofs.agreement.rise_above.Given as goal

abbrev pub invariant-loop-link : goal.invariant-loop-link
invariant-loop-link l = rise_above l.fn.last l.links ≡ rise_above l.last (drop l.link-index l.links)
