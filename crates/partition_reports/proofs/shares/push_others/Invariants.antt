use Rattle.std.proofs.Common.{◌≡◌, ◌++◌, take}
use Rattle.std.specs.List.{flat_map}
use Rattle.partition_reports.specs.FoundShares.{asked_text}
use Rattle.partition_reports.proofs.shares.push_others.Given as goal

abbrev pub invariant-loop-other : goal.invariant-loop-other
invariant-loop-other l =
    l.text.items ≡ l.fn.text.items ++ flat_map (asked_text l.fn.asked l.fn.port) (take l.other-index l.fn.others)
