use Rattle.std.proofs.Common.{◌<◌, ℕ, subst, sym}
use Rattle.updn_routes.specs.Order.{is_first_root}
use Rattle.updn_routes.proofs.SideLemmas.{one_first_root, sided, sides_part}
use Rattle.updn_routes.proofs.laws.the_tree_has_sides.Goals as goal

pub returns-clause-sided : goal.returns-clause-sided
returns-clause-sided c = λ rows guids roots depths cabling right. sided rows (is_first_root guids roots) depths cabling right

pub returns-clause-parted : goal.returns-clause-parted
returns-clause-parted c = λ rows guids roots depths cabling right apart count s less.
    sides_part rows (is_first_root guids roots) depths cabling right (λ a b al bl.
    one_first_root guids roots a b apart (subst (λ (n : ℕ). a < n) (sym count) al) (subst (λ (n : ℕ). b < n) (sym count) bl)) s less
