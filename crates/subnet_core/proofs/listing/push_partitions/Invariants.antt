use Rattle.std.proofs.Common.{◌≡◌, ◌++◌, take}
use Rattle.std.specs.List.{flat_map, enumerate_from}
use Rattle.subnet_core.specs.Listing.{partition_text}
use Rattle.subnet_core.proofs.listing.push_partitions.Given as goal

abbrev pub invariant-loop-number : goal.invariant-loop-number
invariant-loop-number l = l.text.items ≡ l.initial.text.items ++ flat_map (partition_text l.ports) (take l.number (enumerate_from 0 l.headings))
