use Rattle.std.proofs.Common.{ℕ, ◌≡◌, take}
use Rattle.std.specs.Option.{option_or}
use Rattle.dump_file.specs.Index.{end_known}
use Rattle.dump_file.specs.Row.{end_of}
use Rattle.dump_file.proofs.ends.EndList.add_rows.Given as goal

abbrev pub invariant-loop-row : goal.invariant-loop-row
invariant-loop-row l = (lid : ℕ) → end_known l.self lid ≡ option_or (end_known l.fn.self lid) (end_of lid (take l.row-index l.rows))
