use Rattle.std.proofs.Common.{◌≡◌, ◌++◌, take}
use Rattle.std.specs.List.{flat_map}
use Rattle.partition_reports.specs.FoundShares.{base_text}
use Rattle.partition_reports.proofs.shares.push_pair.Given as goal

abbrev pub invariant-loop-base : goal.invariant-loop-base
invariant-loop-base l = l.text.items ≡ l.fn.text.items ++ flat_map (base_text l.fn.port l.fn.other) (take l.base-index l.fn.bases)
