-- Lists in which a test finds one element at most: the partition of a base, the group of an MGID, the registration of a port.
use Rattle.std.proofs.Common.{ℕ, ◌+◌, Bool, true, false, not, ◌==◌, List, [], ◌∷◌, map, filter, ◌≡◌, ◌∙◌, ap, refl, sym, subst, inl, inr, nat_eq, arith}
use Rattle.std.specs.List.{IsDistinct, list_all, list_any}
use Rattle.std.proofs.lemmas.Bool.Decides.{nat_tests}
use Rattle.std.proofs.lemmas.Bool.{cases_Bool, and_parts, both_ways, not_from_false, not-true, eqb-true, eq-eqb, false_from_ne_true}
use Rattle.std.proofs.lemmas.Map.Keys.{IsDistinct-tail}
use Rattle.step_results.proofs.ListLemmas.{any_map, list_all_weaker, list_any_weaker}
use Rattle.step_results.proofs.DistinctLemmas.{none_shares}
use Rattle.partition_file.specs.Members.{bases_in}
use Rattle.partition_file.specs.declared.heading.Heading.{Heading}
use Rattle.subnet_model.specs.Configuration.{ConfigurationState}
use Rattle.subnet_model.specs.Configured.{IsConfigured}
use Rattle.sa_model.specs.Changes.{partition_of}
use Rattle.sa_model.specs.Groups.{Membership, MulticastGroup, PartitionGroups, lower_port, start_from}
use Rattle.sa_model.specs.Joining.{has_mgid, is_of}
use Rattle.sa_model.specs.Sound.{other_mgid, pairwise}
use Rattle.sa_model.proofs.ListLemmas.{all_fail, all_filter, all_of_filter, filter_of_none}
use Rattle.sa_replies.specs.State.{IsRememberedOf}
use Rattle.sa_model.specs.Visible.{SaState}
use Rattle.sa_replies.specs.Registrations.{has_base, partitions_at}

pub record IsOne {X : Type 0} (xs : List X) : Type 0 where
  pub one : X
  pub is : xs ≡ one ∷ []

pub filter_one : {X : Type 0} (r : X → X → Bool) (test : X → Bool) → ((x y : X) → r x y ≡ true → test x ≡ true → test y ≡ false) → (xs : List X)
    → pairwise r xs ≡ true → list_any test xs ≡ true → IsOne (filter test xs)
filter_one r test apart [] pairs some = absurd (cc)
filter_one r test apart (x ∷ xs) pairs some =
    let parts = and_parts (list_all (r x) xs) (pairwise r xs) pairs in
    elim (cases_Bool (test x)) [
      | inl here ↦
          let none : filter test xs ≡ [] =
          filter_of_none test xs (list_all_weaker (r x) (λ y. not (test y)) (λ y e. not_from_false (test y) (apart x y e here)) xs parts.0) in
          record { one = x; is = rw (here, none) refl }
      | inr out ↦
          let later : list_any test xs ≡ true = rw out at some in
          let rest = filter_one r test apart xs parts.1 later in
          record { one = rest.one; is = rw out rest.is }
    ]

pub filter_none : {X : Type 0} (test : X → Bool) (xs : List X) → list_any test xs ≡ false → filter test xs ≡ []
filter_none test xs none = filter_of_none test xs (all_fail test xs none)

-- what is kept passes none of it
pub none_kept : {X : Type 0} (test keep : X → Bool) → ((x : X) → keep x ≡ true → test x ≡ false) → (xs : List X) → filter test (filter keep xs) ≡ []
none_kept test keep none xs =
    filter_of_none test (filter keep xs) (all_of_filter keep (λ x. not (test x)) (λ x e. not_from_false (test x) (none x e)) xs)

-- what is found passes the test, and what all pass
pub found_passes : {X : Type 0} (test : X → Bool) (xs : List X) (x : X) → filter test xs ≡ x ∷ [] → test x ≡ true
found_passes test [] x one = absurd (cc)
found_passes test (y ∷ ys) x one = elim (cases_Bool (test y)) [
  | inl here ↦ let all : y ∷ filter test ys ≡ x ∷ [] = rw here at one in let same : y ≡ x = cc in ap test (sym same) ∙ here
  | inr out ↦ let later : filter test ys ≡ x ∷ [] = rw out at one in found_passes test ys x later
]

pub found_has : {X : Type 0} (test p : X → Bool) (xs : List X) (x : X) → list_all p xs ≡ true → filter test xs ≡ x ∷ [] → p x ≡ true
found_has test p xs x all one =
    let kept : list_all p (filter test xs) ≡ true = all_filter p test p (λ y e passes. e) xs all in
    let its : list_all p (x ∷ []) ≡ true = ap (list_all p) (sym one) ∙ kept in
    (and_parts (p x) true its).0

-- ---- a port is registered once, and an MGID is one group's
same_then : (a b n : ℕ) → (a == n) ≡ true → (b == n) ≡ true → (a == b) ≡ true
same_then a b n x y = eq-eqb a b (eqb-true a n x ∙ sym (eqb-true b n y))

pub one_membership : (port : ℕ) (memberships : List Membership) → pairwise lower_port memberships ≡ true → list_any (is_of port) memberships ≡ true
    → IsOne (filter (is_of port) memberships)
one_membership port = filter_one lower_port (is_of port) (λ x y lower its. above x y lower its)
  where
    above : (x y : Membership) → lower_port x y ≡ true → is_of port x ≡ true → is_of port y ≡ false
    above x y lower its = grind (arith, nat_tests)

pub one_group : (mgid : ℕ) (groups : List MulticastGroup) → pairwise other_mgid groups ≡ true → list_any (has_mgid mgid) groups ≡ true
    → IsOne (filter (has_mgid mgid) groups)
one_group mgid = filter_one other_mgid (has_mgid mgid) (λ x y other its.
    false_from_ne_true (has_mgid mgid y) (λ too. both_ways (x.mgid == y.mgid) (not-true (x.mgid == y.mgid) other) (same_then x.mgid y.mgid mgid its too)))

-- ---- a base is one partition's
none_else : (base : ℕ) (x : PartitionGroups) (xs : List PartitionGroups) → has_base base x ≡ true
    → list_any (nat_eq x.base) (map (λ partition. partition.base) xs) ≡ false → list_any (has_base base) xs ≡ false
none_else base x xs here apart =
    false_from_ne_true (list_any (has_base base) xs) (λ some.
    both_ways (list_any (nat_eq x.base) (map (λ partition. partition.base) xs)) apart
    (any_map (nat_eq x.base) (λ partition. partition.base) xs
    ∙ list_any_weaker (has_base base) (λ y. nat_eq x.base y.base) (λ y e. same_then x.base y.base base here e) xs some))

pub one_partition : (base : ℕ) (partitions : List PartitionGroups) → IsDistinct nat_eq (map (λ partition. partition.base) partitions)
    → list_any (has_base base) partitions ≡ true → IsOne (partitions_at base partitions)
one_partition base [] own some = absurd (cc)
one_partition base (x ∷ xs) own some = elim (cases_Bool (has_base base x)) [
  | inl here ↦
      let none : partitions_at base xs ≡ [] =
      filter_none (has_base base) xs (none_else base x xs here (none_shares nat_eq x.base (map (λ partition. partition.base) xs) own)) in
      record { one = x; is = rw (here, none) refl }
  | inr out ↦
      let later : list_any (has_base base) xs ≡ true = rw out at some in
      let rest = one_partition base xs (IsDistinct-tail nat_eq x.base (map (λ partition. partition.base) xs) own) later in
      record { one = rest.one; is = rw out rest.is }
]

-- partitions have the bases of the headings
bases_of : (partitions : List PartitionGroups) → map (λ (one : ℕ × ℕ). one.1) (map partition_of partitions) ≡ map (λ partition. partition.base) partitions
bases_of [] = refl
bases_of (x ∷ xs) = ap (λ rest. x.base ∷ rest) (bases_of xs)

bases_at_start : (number : ℕ) (headings : List Heading) → map (λ partition. partition.base) (start_from number headings) ≡ bases_in headings
bases_at_start number [] = refl
bases_at_start number (heading ∷ headings) = ap (λ rest. heading.base ∷ rest) (bases_at_start (number + 1) headings)

pub own_bases : (configuration : ConfigurationState) (state : SaState) → IsConfigured configuration → IsRememberedOf configuration state
    → IsDistinct nat_eq (map (λ partition. partition.base) state.partitions)
own_bases configuration state configured remembered =
    let same = sym (bases_of state.partitions)
    ∙ (ap (map (λ (one : ℕ × ℕ). one.1)) remembered.partitions
    ∙ (bases_of (start_from 0 configuration.partitions) ∙ bases_at_start 0 configuration.partitions)) in
    subst (IsDistinct nat_eq) (sym same) configured.headings.bases.distinct
