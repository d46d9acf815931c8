use Rattle.std.proofs.Common.{◌≡◌, ◌+◌, ◌-◌, not, find, length, unwrap_or}
use Rattle.std.specs.List.{range_with_len}
use Rattle.topology_import.specs.Names.{free_number, has_name, numbered}
use Rattle.topology_import.specs.Tried.{AreTaken}
use Rattle.topology_import.proofs.names.free_number.Given as goal

abbrev pub invariant-loop-number : goal.invariant-loop-number
invariant-loop-number l = record {
  same : free_number l.nodes l.name
      ≡ unwrap_or (find (λ number. not (has_name l.nodes (numbered l.name number))) (range_with_len l.number (length l.nodes + 2 - l.number)))
      (length l.nodes + 2);
  taken : AreTaken l.nodes l.name l.number;
}
