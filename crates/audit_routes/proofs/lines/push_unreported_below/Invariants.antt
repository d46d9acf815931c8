use Rattle.std.proofs.Common.{◌≡◌, ◌++◌, ◌*◌, flat_map}
use Rattle.std.specs.List.{range_with_len}
use Rattle.audit_routes.specs.Lines.{unreported_line}
use Rattle.audit_routes.proofs.lines.push_unreported_below.Given as goal

abbrev pub invariant-loop-number : goal.invariant-loop-number
invariant-loop-number l = l.text.items ≡ l.fn.text.items ++ flat_map (λ n. unreported_line l.net l.aims (n * 64)) (range_with_len 0 l.number)
