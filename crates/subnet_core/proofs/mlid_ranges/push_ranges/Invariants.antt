use Rattle.std.proofs.Common.{ℕ, ◌≡◌, Bool, length, take}
use Rattle.pkey_rules.specs.declared.key_table.TheConstants.{PARTITIONS}
use Rattle.subnet_core.specs.MlidRanges.{AgreesWith, AreRight, IsPushed, ranges_pushed, where_in}
use Rattle.subnet_core.proofs.mlid_ranges.push_ranges.Given as goal

-- the MLID ranges of the first numbers are pushed, and it is kept for each partition who receives in it
abbrev pub invariant-loop-number : goal.invariant-loop-number
invariant-loop-number l = record {
  whole : length l.received.items ≡ PARTITIONS;
  pushed : IsPushed l.fn.routes (ranges_pushed l.fn.routes l.fn.registry (take l.number-index l.fn.numbers) l.fn.fabric) l.fabric;
  right : (was now : ℕ → ℕ → Bool) → AgreesWith l.fn.registry now → AreRight was l.fn.received.items
      → AreRight (where_in (take l.number-index l.fn.numbers) now was) l.received.items;
}
