use Rattle.std.proofs.Common.{◌≡◌, ◌++◌, ◌-◌, ◌≤◌, []}
use Rattle.std.specs.Prelude.{if◌then◌else◌}
use Rattle.std.specs.List.{flat_map, range_with_len}
use Rattle.fabric_parts.specs.declared.lid.TheConstants.{FIRST_MULTICAST_LID}
use Rattle.fabric_tables.specs.Multicast.{is_used, mlid_line}
use Rattle.fabric_tables.proofs.multicast.push_used_lines.Given as goal

abbrev pub invariant-loop-mlid : goal.invariant-loop-mlid
invariant-loop-mlid l =
    (FIRST_MULTICAST_LID ≤ l.mlid)
    × (l.text.items
    ≡ l.fn.text.items
    ++ flat_map (λ mlid. if is_used l.fn.held mlid then mlid_line l.fn.held mlid else [])
    (range_with_len FIRST_MULTICAST_LID (l.mlid - FIRST_MULTICAST_LID)))
