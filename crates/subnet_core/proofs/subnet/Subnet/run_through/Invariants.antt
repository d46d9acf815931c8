use Rattle.std.proofs.Common.{◌≡◌, drop}
use Rattle.subnet_core.specs.After.{IsThrough}
use Rattle.subnet_core.specs.BringUp.{SubnetState}
use Rattle.subnet_core.proofs.subnet.Subnet.run_through.Given as goal

-- what carries out the rest from here carries out all from the start
abbrev pub invariant-loop-command : goal.invariant-loop-command
invariant-loop-command l =
    (l.self.inventory ≡ l.initial.self.inventory)
    × ((new : SubnetState) → IsThrough (drop l.command-index l.commands) l.self new → IsThrough l.commands l.initial.self new)
