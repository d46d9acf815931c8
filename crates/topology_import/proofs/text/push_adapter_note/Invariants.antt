use Rattle.std.proofs.Common.{◌≡◌, ◌++◌}
use Rattle.std.specs.List.{flat_map, range_with_len}
use Rattle.topology_import.specs.Text.{next_note}
use Rattle.topology_import.proofs.text.push_adapter_note.Given as goal

abbrev pub invariant-loop-before : goal.invariant-loop-before
invariant-loop-before l = l.text.items ≡ l.fn.text.items ++ flat_map (next_note l.fn.nodes l.fn.ends l.fn.guid) (range_with_len 0 l.before)
