use Rattle.std.specs.Prelude.{◌≡◌}
use Rattle.pkeys_file.specs.Rows.{keys_after}
use Rattle.pkeys_file.proofs.rows.push_keys.Given as goal

abbrev pub invariant-loop-word : goal.invariant-loop-word
invariant-loop-word l = keys_after l.keys.items l.word-iterator ≡ keys_after l.fn.keys.items l.fn.words
