use Rattle.std.proofs.Common.{ℕ, ◌*◌, ◌%◌, ◌^◌, refl, sym, subst, bit_or, get_or, slice_set, Option, arith}
use Rattle.table_push.specs.MaskSteps.{is_that_port}
use Rattle.table_push.specs.TreeSteps.{ArePut}
use Rattle.table_push.proofs.AboveLemmas.{one_put}
use Rattle.table_push.proofs.ReachLemmas.{port_bit}
use Rattle.table_push.proofs.trees.put_bit.Goals as goal

pub returns-then-place-lt-SWITCHES : goal.returns-then-place-lt-SWITCHES
returns-then-place-lt-SWITCHES c =
    let place = c.in-Some.place in
    let before = c.args.sets.now in
    let after = slice_set before place (bit_or (get_or before place 0) (1 * 2 ^ c.args.bit % 2 ^ 64)) in
    subst (λ (at : Option ℕ). ArePut (is_that_port at) c.args.bit before after) (sym c.in-Some.is)
    (one_put place c.args.bit (1 * 2 ^ c.args.bit % 2 ^ 64) before after (omega (arith, c.told-sets, c.if-place-lt-SWITCHES.true)) (λ t. port_bit c.args.bit t c.requires) refl)
