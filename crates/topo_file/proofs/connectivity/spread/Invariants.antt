use Rattle.std.proofs.Common.{ℕ, ◌≡◌, length, take}
use Rattle.topo_file.specs.Rounds.{is_marked, spread}
use Rattle.topo_file.proofs.connectivity.spread.Given as goal

abbrev pub invariant-loop-cable : goal.invariant-loop-cable
invariant-loop-cable l = record {
  long : length l.next.items ≡ length l.nodes;
  marks : (place : ℕ) → is_marked l.next.items place ≡ is_marked (spread l.nodes (take l.cable-index l.cables) l.marks) place;
}
