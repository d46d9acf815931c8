-- LIDs that count up are each port's own.
use Rattle.std.proofs.Common.{◌≡◌, ℕ, ◌+◌, ◌≤◌, false, ◌==◌, List, [], ◌∷◌, length, map, sym, arith}
use Rattle.std.specs.Cmp.{nat_cmp_is}
use Rattle.std.specs.List.{IsDistinct, AllByRecursion, range_with_len}
use Rattle.std.specs.List.Sorted.{IsStrictlySortedBy}
use Rattle.std.specs.Ordering.{nat_cmp, on}
use Rattle.std.specs.declared.cmp.Ordering.TheVariants.{Less}
use Rattle.std.proofs.lemmas.Bool.Decides.{nat_tests}
use Rattle.subnet_model.specs.declared.subnet_port.SubnetPort.{SubnetPort}
use Rattle.subnet_model.specs.Source.{same_lid}
use Rattle.step_results.proofs.ElementLemmas.{each_weaker}

lids_from : (first : ℕ) (ports : List SubnetPort) → map (λ port. port.lid) ports ≡ range_with_len first (length ports) → AllByRecursion (λ b. first ≤ b.lid) ports
lids_from first [] h = tt
lids_from first (port ∷ ports) h =
    let head : port.lid ≡ first = cc in
    let tail : map (λ q. q.lid) ports ≡ range_with_len (first + 1) (length ports) = cc in
    (omega arith, each_weaker (λ b. first + 1 ≤ b.lid) (λ b. first ≤ b.lid) (λ b k. omega arith) ports (lids_from (first + 1) ports tail))

differ : (m n : ℕ) → m + 1 ≤ n → (m == n) ≡ false
differ m n h = grind (arith, nat_tests)

pub own_lids : (first : ℕ) (ports : List SubnetPort) → map (λ port. port.lid) ports ≡ range_with_len first (length ports) → IsDistinct same_lid ports
unfolding IsDistinct
own_lids first [] h = tt
own_lids first (port ∷ ports) h =
    let head : port.lid ≡ first = cc in
    let tail : map (λ q. q.lid) ports ≡ range_with_len (first + 1) (length ports) = cc in
    (each_weaker (λ b. first + 1 ≤ b.lid) (λ b. same_lid port b ≡ false) (λ b k. differ port.lid b.lid (omega arith)) ports (lids_from (first + 1) ports tail), own_lids (first + 1) ports tail)

-- and rise
pub in_lid_order : (first : ℕ) (ports : List SubnetPort) → map (λ port. port.lid) ports ≡ range_with_len first (length ports)
    → IsStrictlySortedBy (on (λ port. port.lid) nat_cmp) ports
unfolding IsStrictlySortedBy
in_lid_order first [] h = tt
in_lid_order first (port ∷ ports) h =
    let head : port.lid ≡ first = cc in
    let tail : map (λ q. q.lid) ports ≡ range_with_len (first + 1) (length ports) = cc in (
      each_weaker (λ b. first + 1 ≤ b.lid) (λ b. nat_cmp port.lid b.lid ≡ Less)
          (λ b low. sym (nat_cmp_is port.lid b.lid Less (omega (arith, head, low)))) ports (lids_from (first + 1) ports tail),
      in_lid_order (first + 1) ports tail,
    )
