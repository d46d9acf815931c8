use Rattle.std.proofs.Common.{◌≡◌, ◌++◌, length}
use Rattle.partition_reports.specs.FoundShares.{found_text}
use Rattle.partition_reports.proofs.shares.shares_text.Given as goal

abbrev pub invariant-loop-port : goal.invariant-loop-port
invariant-loop-port l = l.text.items ++ found_text l.fn.asked l.rest ≡ found_text l.fn.asked l.fn.ports

abbrev pub decreases-loop-port : goal.decreases-loop-port
decreases-loop-port l = length l.rest
