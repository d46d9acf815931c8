use Rattle.std.proofs.Common.{◌≡◌}
use Rattle.table_push.specs.TreeSteps.{ArePut, is_up_to}
use Rattle.updn_routes.specs.Sides.{above}
use Rattle.table_push.proofs.trees.put_above.Given as goal

-- into the sets of so many above it
abbrev pub invariant-loop-hop : goal.invariant-loop-hop
invariant-loop-hop l = record {
  at_is : l.at ≡ above l.fn.routes.between.rows l.fn.routes.between.depths l.hop l.fn.switch;
  put : ArePut (is_up_to l.fn.routes l.hop l.fn.switch) l.fn.switch l.fn.sets l.sets;
}
