use Rattle.std.proofs.Common.{◌≡◌, ◌++◌, flat_map, take}
use Rattle.audit_lanes.specs.Lines.{no_path_line}
use Rattle.audit_lanes.proofs.lines.push_no_paths.Given as goal

abbrev pub invariant-loop-source : goal.invariant-loop-source
invariant-loop-source l = l.text.items ≡ l.fn.text.items ++ flat_map (no_path_line l.net l.paths l.all) (take l.source-index l.all)
