use Rattle.std.proofs.Common.{◌≡◌, ◌++◌, take}
use Rattle.std.specs.List.{flat_map}
use Rattle.fabric_tables.specs.Keys.{key_text}
use Rattle.fabric_tables.proofs.keys.push_keys.Given as goal

abbrev pub invariant-loop-word : goal.invariant-loop-word
invariant-loop-word l = l.text.items ≡ l.fn.text.items ++ flat_map key_text (take l.word-index l.fn.words)
