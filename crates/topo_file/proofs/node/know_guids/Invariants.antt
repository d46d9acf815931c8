use Rattle.std.proofs.Common.{ℕ, ◌≡◌, ◌≤◌, ◌+◌, ◌||◌, nat_eq}
use Rattle.std.specs.List.{list_any}
use Rattle.indexmap.specs.IndexSet.{spare}
use Rattle.topo_file.proofs.KnownGuidLemmas.{is_among}
use Rattle.topo_file.proofs.node.know_guids.Given as goal

abbrev pub invariant-loop-number : goal.invariant-loop-number
invariant-loop-number l = record {
  noted : (guid : ℕ) → list_any (nat_eq guid) l.guids.keys ≡ (list_any (nat_eq guid) l.fn.guids.keys || is_among l.node.guid l.number guid);
  room : l.count ≤ spare l.guids + l.number;
}
