use Rattle.std.proofs.Common.{◌≡◌, ◌||◌, drop}
use Rattle.pkey_rules.specs.KeyTable.{has_base}
use Rattle.pkey_rules.proofs.stored_keys.has_base.Given as goal

abbrev pub invariant-loop-word : goal.invariant-loop-word
invariant-loop-word l =
    (l.found || has_base l.fn.base (drop l.word-index l.fn.words)) ≡ has_base l.fn.base l.fn.words
