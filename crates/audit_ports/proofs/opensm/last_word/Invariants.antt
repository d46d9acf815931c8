use Rattle.std.proofs.Common.{◌≡◌, fold, take}
use Rattle.audit_ports.specs.OpenSm.{word_after}
use Rattle.audit_ports.proofs.opensm.last_word.Given as goal

abbrev pub invariant-loop-item : goal.invariant-loop-item
invariant-loop-item l = l.said ≡ fold (word_after l.fn.port) l.fn.said (take l.item-index l.fn.items)
