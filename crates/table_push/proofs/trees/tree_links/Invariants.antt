use Rattle.std.proofs.Common.{ℕ, ◌≡◌, ◌<◌, length, get_or, None}
use Rattle.table_push.specs.TreeSteps.{graph_link}
use Rattle.table_push.proofs.trees.tree_links.Given as goal

abbrev pub invariant-loop-switch : goal.invariant-loop-switch
invariant-loop-switch l = record {
  long : length l.links ≡ 64;
  are : (s : ℕ) → s < l.switch → get_or l.links s None ≡ graph_link l.fn.routes s;
}
