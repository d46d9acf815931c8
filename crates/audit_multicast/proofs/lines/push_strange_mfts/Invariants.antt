use Rattle.std.proofs.Common.{◌≡◌, ◌++◌, flat_map, take}
use Rattle.audit_multicast.specs.Lines.{strange_mft_line}
use Rattle.audit_multicast.proofs.lines.push_strange_mfts.Given as goal

abbrev pub invariant-loop-table : goal.invariant-loop-table
invariant-loop-table l = l.text.items ≡ l.fn.text.items ++ flat_map (strange_mft_line l.net) (take l.table-index l.tables)
