use Rattle.std.proofs.Common.{◌≡◌, [], fold, take}
use Rattle.audit_ports.specs.Held.{with_key}
use Rattle.audit_ports.proofs.held.keys_of.Given as goal

abbrev pub invariant-loop-word : goal.invariant-loop-word
invariant-loop-word l = l.keys.items ≡ fold with_key [] (take l.word-index l.fn.words)
