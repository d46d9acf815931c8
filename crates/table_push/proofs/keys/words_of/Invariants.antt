use Rattle.std.proofs.Common.{◌≡◌, drop, length, map, replicate, take}
use Rattle.pkey_rules.specs.declared.key_table.TheConstants.{PARTITIONS}
use Rattle.table_push.specs.Keys.{held_as}
use Rattle.table_push.proofs.keys.words_of.Given as goal

-- the first keys are there, and empty places behind them
abbrev pub invariant-loop-place : goal.invariant-loop-place
invariant-loop-place l = record {
  long : length l.words ≡ PARTITIONS;
  done : take l.place l.words ≡ map (held_as l.fn.full) (take l.place l.held);
  rest : drop l.place l.words ≡ drop l.place (replicate PARTITIONS 0);
}
