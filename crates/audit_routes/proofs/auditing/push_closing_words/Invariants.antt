use Rattle.std.proofs.Common.{◌≡◌, ◌++◌, flat_map}
use Rattle.std.specs.List.{range_with_len}
use Rattle.audit_routes.specs.Audit.{closing_word}
use Rattle.audit_routes.proofs.auditing.push_closing_words.Given as goal

abbrev pub invariant-loop-index : goal.invariant-loop-index
invariant-loop-index l = l.text.items ≡ l.fn.text.items ++ flat_map (closing_word l.net l.decides l.aims l.ring) (range_with_len 0 l.index)
