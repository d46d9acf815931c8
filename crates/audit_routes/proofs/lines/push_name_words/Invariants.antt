use Rattle.std.proofs.Common.{◌≡◌, ◌++◌, flat_map, take}
use Rattle.audit_routes.specs.Lines.{name_word}
use Rattle.audit_routes.proofs.lines.push_name_words.Given as goal

abbrev pub invariant-loop-place : goal.invariant-loop-place
invariant-loop-place l = l.text.items ≡ l.fn.text.items ++ flat_map (name_word l.net) (take l.place-index l.ring)
