use Rattle.std.proofs.Common.{◌≡◌, flat_map}
use Rattle.std.specs.List.{range_with_len}
use Rattle.audit_loads.specs.Sources.{host_behind}
use Rattle.audit_loads.proofs.sources.attached.Given as goal

abbrev pub invariant-loop-before : goal.invariant-loop-before
invariant-loop-before l = l.ports.items ≡ flat_map (host_behind l.net l.place) (range_with_len 0 l.before)
