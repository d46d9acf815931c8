use Rattle.std.specs.List.{range_with_len}
use Rattle.subnet_core.specs.MlidRanges.{IsPushed, received_in, ranges_pushed}
use Rattle.subnet_core.proofs.mlid_ranges.push_received.Given as goal

-- of the first partitions those MLID ranges are pushed in which somebody receives
abbrev pub invariant-loop-number : goal.invariant-loop-number
invariant-loop-number l =
    IsPushed l.fn.routes (ranges_pushed l.fn.routes l.fn.registry (received_in l.fn.registry (range_with_len 0 l.number)) l.fn.fabric) l.fabric
