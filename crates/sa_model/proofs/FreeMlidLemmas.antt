-- The first MLID of a range that is free is the least.
use Rattle.std.proofs.Common.{◌≡◌, ℕ, zero, suc, ◌+◌, ◌<◌, ◌≤◌, Bool, true, false, not, ◌==◌, nat_le, nat_lt, List, [], ◌∷◌, ◌++◌, find, Option, Some, None, refl, sym, subst, ◌∙◌, inl, inr, arith}
use Rattle.std.specs.List.{list_all, list_any, range_with_len}
use Rattle.std.proofs.lemmas.Bool.{and_from, and_parts, both_ways, cases_Bool, eqb-true, le-leb, leb-true, lt-ltb, ltb-true, not-true, not_from_false}
use Rattle.std.proofs.lemmas.Bool.Decides.{nat_tests}
use Rattle.std.proofs.lemmas.List.Folds.{list_any-append}
use Rattle.subnet_model.specs.declared.subnet_port.SubnetPort.{SubnetPort}
use Rattle.sa_model.specs.Anchor.{free_mlid}
use Rattle.sa_model.specs.FreeMlid.{IsFreeMlid, TheLeastFreeIsGiven, has_mlid, other_number}
use Rattle.sa_model.specs.Groups.{MulticastGroup, PartitionGroups, first_mlid}
use Rattle.sa_model.specs.Sound.{is_in_range, is_sound, is_sound_group, is_sound_partition}
use Rattle.sa_model.proofs.SoundLemmas.{partition_parts, sound_parts}

-- ---- what is found in a range
record IsFirst (first count : ℕ) (passes : ℕ → Bool) (found : ℕ) : Type 0 where
  from : first ≤ found
  to : found < first + count
  fits : passes found ≡ true
  least : (lower : ℕ) → first ≤ lower → lower < found → passes lower ≡ false

abbrev Finds : ℕ → ℕ → (ℕ → Bool) → Option ℕ → Type 0
Finds first count passes (Some found) = IsFirst first count passes found
Finds first count passes None = (n : ℕ) → first ≤ n → n < first + count → passes n ≡ false

finds_first : (first count : ℕ) (passes : ℕ → Bool) → Finds first count passes (find passes (range_with_len first count))
finds_first first zero passes = λ n from to. absurd (omega (arith, from, to))
finds_first first (suc count) passes = elim (cases_Bool (passes first)) [
  | inl yes_it ↦ rw yes_it (record { from = omega arith; to = omega arith; fits = yes_it; least = λ lower from below. absurd (omega (arith, from, below)) })
  | inr no_it ↦ rw no_it (later (find passes (range_with_len (first + 1) count)) no_it (finds_first (first + 1) count passes))
]
  where
    at_first : (n : ℕ) → passes first ≡ false → n ≡ first → passes n ≡ false
    at_first n is_not same = subst (λ (m : ℕ). passes m ≡ false) (sym same) is_not

    later : (found : Option ℕ) → passes first ≡ false → Finds (first + 1) count passes found → Finds first (suc count) passes found
    later None is_not none = λ n from to. elim (cases_Bool (n == first)) [
      | inl this ↦ at_first n is_not (eqb-true n first this)
      | inr other ↦ none n (let apart = other in grind (arith, nat_tests, from, other)) (omega (arith, to))
    ]
    later (Some found) is_not is = record {
      from = let h = is.from in omega arith;
      to = let h = is.to in omega arith;
      fits = is.fits;
      least = λ lower from below. elim (cases_Bool (lower == first)) [
        | inl this ↦ at_first lower is_not (eqb-true lower first this)
        | inr other ↦ is.least lower (grind (arith, nat_tests, from, other)) below
      ];
    }

-- ---- no other partition has an MLID of the range
groups_elsewhere : (ports : List SubnetPort) (number mlid : ℕ) (partition : PartitionGroups) → is_sound_partition ports partition ≡ true
    → (number == partition.number) ≡ false → is_in_range number mlid ≡ true → has_mlid mlid partition ≡ false
groups_elsewhere ports number mlid partition sound apart ours = none partition.groups (partition_parts ports partition sound).each
  where
    none : (groups : List MulticastGroup) → list_all (is_sound_group ports partition) groups ≡ true → list_any (λ group. group.mlid == mlid) groups ≡ false
    none [] all = refl
    none (group ∷ groups) all =
        let parts = and_parts (is_sound_group ports partition group) _ all in
        let theirs = (sound_parts ports partition group parts.0).ranged in
        let low = and_parts (nat_le (first_mlid partition.number) group.mlid) (nat_lt group.mlid (first_mlid partition.number + 32)) theirs in
        let high = and_parts (nat_le (first_mlid number) mlid) (nat_lt mlid (first_mlid number + 32)) ours in
        let a = leb-true (first_mlid partition.number) group.mlid low.0 in
        let b = ltb-true group.mlid (first_mlid partition.number + 32) low.1 in
        let c = leb-true (first_mlid number) mlid high.0 in
        let d = ltb-true mlid (first_mlid number + 32) high.1 in
        let other : (group.mlid == mlid) ≡ false = grind (arith, nat_tests, apart, a, b, c, d) in
        rw other (none groups parts.1)

elsewhere : (ports : List SubnetPort) (partition : PartitionGroups) (mlid : ℕ) (others : List PartitionGroups) → is_sound ports others ≡ true
    → list_all (other_number partition) others ≡ true → is_in_range partition.number mlid ≡ true → list_any (has_mlid mlid) others ≡ false
elsewhere ports partition mlid [] sound apart ours = refl
elsewhere ports partition mlid (other ∷ others) sound apart ours =
    let sounds = and_parts (is_sound_partition ports other) _ sound in
    let aparts = and_parts (other_number partition other) _ apart in
    rw (groups_elsewhere ports partition.number mlid other sounds.0 (not-true (partition.number == other.number) aparts.0) ours)
    (elsewhere ports partition mlid others sounds.1 aparts.1 ours)

all_front : {X : Type 0} (p : X → Bool) (xs ys : List X) → list_all p (xs ++ ys) ≡ true → (list_all p xs ≡ true) × (list_all p ys ≡ true)
all_front p [] ys all = (refl, all)
all_front p (x ∷ xs) ys all =
    let parts = and_parts (p x) (list_all p (xs ++ ys)) all in
    let rest = all_front p xs ys parts.1 in
    (and_from (p x) (list_all p xs) parts.0 rest.0, rest.1)

-- ---- in all partitions
in_range : (number mlid : ℕ) → first_mlid number ≤ mlid → mlid < first_mlid number + 32 → is_in_range number mlid ≡ true
in_range number mlid from to = and_from _ _ (le-leb (first_mlid number) mlid from) (lt-ltb mlid (first_mlid number + 32) to)

had : (mlid : ℕ) (partition : PartitionGroups) → not (has_mlid mlid partition) ≡ false → has_mlid mlid partition ≡ true
had mlid partition taken = elim (cases_Bool (has_mlid mlid partition)) [
  | inl it_is ↦ it_is
  | inr free ↦ absurd (both_ways (not (has_mlid mlid partition)) taken (not_from_false (has_mlid mlid partition) free))
]

given : (ports : List SubnetPort) (before after : List PartitionGroups) (partition : PartitionGroups) → is_sound ports (before ++ partition ∷ after) ≡ true
    → list_all (other_number partition) (before ++ after) ≡ true → (found : Option ℕ)
    → Finds (first_mlid partition.number) 32 (λ mlid. not (has_mlid mlid partition)) found → IsFreeMlid (before ++ partition ∷ after) partition found
given ports before after partition sound apart None none = λ mlid ours.
    let parts = and_parts (nat_le (first_mlid partition.number) mlid) (nat_lt mlid (first_mlid partition.number + 32)) ours in
    had mlid partition (none mlid (leb-true (first_mlid partition.number) mlid parts.0) (ltb-true mlid (first_mlid partition.number + 32) parts.1))
given ports before after partition sound apart (Some mlid) is =
    let ours = in_range partition.number mlid is.from is.to in
    let sounds = all_front (is_sound_partition ports) before (partition ∷ after) sound in
    let rest = and_parts (is_sound_partition ports partition) (is_sound ports after) sounds.1 in
    let aparts = all_front (other_number partition) before after apart in
    let front = elsewhere ports partition mlid before sounds.0 aparts.0 ours in
    let back = elsewhere ports partition mlid after rest.1 aparts.1 ours in
    let own = not-true (has_mlid mlid partition) is.fits in
    record {
      ours = ours;
      free = list_any-append (has_mlid mlid) before (partition ∷ after) ∙ rw (front, own) back;
      least = λ lower range below.
          let parts = and_parts (nat_le (first_mlid partition.number) lower) (nat_lt lower (first_mlid partition.number + 32)) range in
          had lower partition (is.least lower (leb-true (first_mlid partition.number) lower parts.0) below);
    }

pub the_least_free_is_given : TheLeastFreeIsGiven
the_least_free_is_given ports before after partition sound apart =
    given ports before after partition sound apart (free_mlid partition)
    (finds_first (first_mlid partition.number) 32 (λ mlid. not (has_mlid mlid partition)))
