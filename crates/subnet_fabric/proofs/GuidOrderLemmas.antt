-- How many GUIDs are below one, in a list in order.
use Rattle.std.proofs.Common.{ℕ, zero, suc, ◌≡◌, ◌+◌, ◌-◌, ◌≤◌, ◌∙◌, ◌&&◌, Bool, true, false, not, cond, List, [], ◌∷◌, length, take, map, filter, count_by, nat_lt, refl, sym, ap, subst, arith}
use Rattle.std.proofs.Math.Seq.{take-length}
use Rattle.std.proofs.lemmas.List.{length-map}
use Rattle.std.proofs.lemmas.List.Sorted.{length_permutation, sum_by-IsPermutation}
use Rattle.std.proofs.lemmas.List.Sums.{count_by_more_no, count_by_more_yes, count_by-le-length, length-filter}
use Rattle.std.specs.List.Sorted.{IsPartitionPoint, IsPermutation}
use Rattle.step_results.proofs.RisingLemmas.{counted}
use Rattle.subnet_fabric.specs.GuidOrder.{AreGuidsOf}
use Rattle.pkey_rules.specs.declared.end_port.EndPort.{EndPort}

-- ---- where a list in order is cut, as many pass as are before the cut
module _ {X : Type 0} (p : X → Bool) (d : X) (xs : List X) (i : ℕ) (within : i ≤ length xs) (cut : IsPartitionPoint (λ y. p y ≡ true) (λ y. p y ≡ false) xs i) where
  all_pass : (k : ℕ) → k ≤ i → count_by p (take k xs) ≡ k
  all_pass zero low = refl
  all_pass (suc k) low =
      let next : suc k ≡ k + 1 = omega arith in
      rw next (count_by_more_yes p xs k d (omega (arith, low, within)) (cut.0 k d (omega arith) (omega (arith, low))) ∙ ap (λ n. n + 1) (all_pass k (omega (arith, low))))

  no_more : (k : ℕ) → i + k ≤ length xs → count_by p (take (i + k) xs) ≡ i
  no_more zero low = let same : i + zero ≡ i = omega arith in rw same (all_pass i (omega arith))
  no_more (suc k) low =
      let next : i + suc k ≡ (i + k) + 1 = omega arith in
      rw next (count_by_more_no p xs (i + k) d (omega (arith, low)) (cut.1 (i + k) d (omega arith) (omega (arith, low))) ∙ no_more k (omega (arith, low)))

  pub count_is_cut : count_by p xs ≡ i
  count_is_cut =
      let all : i + (length xs - i) ≡ length xs = omega (arith, within) in
      sym (ap (count_by p) (ap (λ n. take n xs) all ∙ take-length xs)) ∙ no_more (length xs - i) (omega (arith, within))

-- ---- the GUIDs of the ports that are not the SM's
unfoldable pub own_guids : List EndPort → List ℕ
own_guids ports = map (λ port. port.guid) (filter (λ port. not port.is_sm) ports)

module _ (guid : ℕ) where
  pub below : (port : EndPort) (ports : List EndPort) → count_by (λ other. nat_lt other guid) (own_guids ports) ≡ count_by (λ other. not other.is_sm && nat_lt other.guid guid) ports
      → (test : Bool) → not port.is_sm ≡ test
      → count_by (λ other. nat_lt other guid) (own_guids (port ∷ ports)) ≡ count_by (λ other. not other.is_sm && nat_lt other.guid guid) (port ∷ ports)
  unfolding own_guids
  below port ports next true is =
      let first : own_guids (port ∷ ports) ≡ port.guid ∷ own_guids ports = rw is refl in
      let same : (not port.is_sm && nat_lt port.guid guid) ≡ nat_lt port.guid guid = rw is refl in
      ap (count_by (λ other. nat_lt other guid)) first
      ∙ counted (λ other. nat_lt other guid) port.guid (own_guids ports)
      ∙ ap (λ n. cond (nat_lt port.guid guid) 1 0 + n) next
      ∙ ap (λ test. cond test 1 0 + count_by (λ other. not other.is_sm && nat_lt other.guid guid) ports) (sym same)
      ∙ sym (counted (λ other. not other.is_sm && nat_lt other.guid guid) port ports)
  below port ports next false is =
      let first : own_guids (port ∷ ports) ≡ own_guids ports = rw is refl in
      let none : (not port.is_sm && nat_lt port.guid guid) ≡ false = rw is refl in
      let all = counted (λ other. not other.is_sm && nat_lt other.guid guid) port ports in
      ap (count_by (λ other. nat_lt other guid)) first ∙ next ∙ (let some = subst (λ test. count_by (λ other. not other.is_sm && nat_lt other.guid guid) (port ∷ ports) ≡ cond test 1 0 + count_by (λ other. not other.is_sm && nat_lt other.guid guid) ports) none all in omega (arith, some))

pub guids_below : (guid : ℕ) (ports : List EndPort) → count_by (λ other. nat_lt other guid) (own_guids ports) ≡ count_by (λ other. not other.is_sm && nat_lt other.guid guid) ports
unfolding own_guids
guids_below guid [] = refl
guids_below guid (port ∷ ports) = below guid port ports (guids_below guid ports) (not port.is_sm) refl

pub sorted_guids : (ports : List EndPort) (sorted : List ℕ) → IsPermutation (own_guids ports) sorted → AreGuidsOf ports sorted
unfolding own_guids
sorted_guids ports sorted same = record {
  below = λ guid. sum_by-IsPermutation (λ other. cond (nat_lt other guid) 1 0) (own_guids ports) sorted same ∙ guids_below guid ports;
  few =
      let long = length_permutation (own_guids ports) sorted same in
      let mapped = length-map (filter (λ port. not port.is_sm) ports) (λ port. port.guid) in
      let kept = length-filter (λ port. not port.is_sm) ports in
      let all = count_by-le-length (λ port. not port.is_sm) ports in
      omega (arith, long, mapped, kept, all);
}
