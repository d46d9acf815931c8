use Rattle.std.proofs.Common.{◌≡◌, ◌++◌, flat_map, take}
use Rattle.audit_loads.specs.Text.{load_line}
use Rattle.audit_loads.proofs.texts.push_loads.Given as goal

abbrev pub invariant-loop-one : goal.invariant-loop-one
invariant-loop-one l = l.text.items ≡ l.fn.text.items ++ flat_map (load_line l.net) (take l.one-index l.all)
