use Rattle.std.proofs.Common.{refl}
use Rattle.updn_routes.specs.Sides.{is_below}
use Rattle.table_push.proofs.AboveLemmas.{no_sets}
use Rattle.table_push.proofs.trees.below_sets.Goals as goal

pub loop-other-init : goal.loop-other-init
loop-other-init c = record {
  long = refl;
  are = λ s low n. no_sets s n (is_below c.args.routes.now.between.rows c.args.routes.now.between.depths s);
}
