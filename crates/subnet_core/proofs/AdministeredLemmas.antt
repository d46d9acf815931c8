-- In MLID ranges of partitions that are not reported to have changed, and outside all MLID ranges, the same ports receive as before.
use Rattle.std.proofs.Common.{ℕ, ◌+◌, ◌≡◌, ◌≤◌, ◌==◌, ◌&&◌, ◌||◌, ◌∙◌, ap, refl, sym, not, Bool, true, false, nat_lt, List, [], ◌∷◌, filter, length, map, inl, inr, arith}
use Rattle.std.specs.List.{list_all, list_any}
use Rattle.std.proofs.lemmas.Bool.{and_from, and_parts, both_ways, cases_Bool, eqb-true, false_from_ne_true, lt-ltb, or_right}
use Rattle.std.proofs.lemmas.Bool.Decides.{nat_tests}
use Rattle.std.proofs.lemmas.List.Folds.{list_all-map}
use Rattle.partition_file.specs.declared.heading.Heading.{Heading}
use Rattle.step_results.proofs.ListLemmas.{any_map, list_any_weaker}
use Rattle.sa_model.proofs.ReceiverLemmas.{any_alike, changes_are_reported, turned}
use Rattle.sa_model.specs.Changes.{partition_of}
use Rattle.sa_model.specs.Groups.{PartitionGroups, start_from}
use Rattle.step_results.specs.Truth.{same_answer}
use Rattle.sa_model.specs.ReceiverLaws.{has_number}
use Rattle.sa_model.specs.Receivers.{are_same_receivers, changed_numbers, is_among, is_same_receiver, receivers_of}
use Rattle.sa_model.specs.Sound.{is_in_range, is_sound}
use Rattle.subnet_model.specs.declared.group_receiver.GroupReceiver.{GroupReceiver}
use Rattle.subnet_model.specs.declared.subnet_port.SubnetPort.{SubnetPort}
use Rattle.table_push.specs.Masks.{is_in_mlid_range, receives_of}
use Rattle.subnet_core.proofs.ReceiveLemmas.{in_its_range, of_a_partition}
use Rattle.subnet_core.specs.Served.{receives_at}
use Rattle.subnet_core.specs.MlidRanges.{where_in}

-- who is among receivers receives by them
pub among_is : (all : List GroupReceiver) (mlid lid : ℕ) → is_among all (record { mlid = mlid; lid = lid }) ≡ receives_of all mlid lid
among_is all mlid lid =
    any_alike (is_same_receiver (record { mlid = mlid; lid = lid })) (λ one. (one.mlid == mlid) && (one.lid == lid))
    (λ one. rw (turned mlid one.mlid, turned lid one.lid) refl) all

same : (a b : Bool) → same_answer a b ≡ true → a ≡ b
same true b is = sym is
same false b is = by b is
  where
    by : (b : Bool) → not b ≡ true → false ≡ b
    by true is = absurd (cc)
    by false is = refl

-- ---- numbers of partitions
numbered : (mlid : ℕ) (partitions : List PartitionGroups) → list_any (λ partition. is_in_range partition.number mlid) partitions
    ≡ list_any (λ (pair : ℕ × ℕ). is_in_range pair.0 mlid) (map partition_of partitions)
numbered mlid partitions = sym (any_map (λ (pair : ℕ × ℕ). is_in_range pair.0 mlid) partition_of partitions)

pub record HasMlid (partitions : List PartitionGroups) (mlid : ℕ) : Type 0 where
  pub number : ℕ
  pub there : has_number number partitions ≡ true
  pub ranged : is_in_range number mlid ≡ true

one_number : (partitions : List PartitionGroups) (mlid : ℕ) → list_any (λ partition. is_in_range partition.number mlid) partitions ≡ true → HasMlid partitions mlid
one_number [] mlid some = absurd (cc)
one_number (partition ∷ partitions) mlid some = elim (cases_Bool (is_in_range partition.number mlid)) [
  | inl here ↦ record { number = partition.number; there = itself (partition.number == partition.number) (turned_same partition.number); ranged = here }
  | inr other ↦
      let rest = one_number partitions mlid (rw other at some) in
      record { number = rest.number; there = or_right (partition.number == rest.number) (has_number rest.number partitions) rest.there; ranged = rest.ranged }
]
  where
    turned_same : (n : ℕ) → (n == n) ≡ true
    turned_same n = grind (arith, nat_tests)

    itself : (b : Bool) → b ≡ true → (b || has_number partition.number partitions) ≡ true
    itself b is = rw is refl

-- ---- where nobody is reported to come or go
module _ (ports : List SubnetPort) (before after : List PartitionGroups) (stays : map partition_of after ≡ map partition_of before)
    (sound_before : is_sound ports before ≡ true) (sound_after : is_sound ports after ≡ true) where
  abbrev reported : List ℕ
  reported = changed_numbers ports before after

  abbrev is_alike : (number : ℕ) → GroupReceiver → Bool
  is_alike number one = same_answer (is_among (receivers_of ports number before) one) (is_among (receivers_of ports number after) one)

  alike : (number : ℕ) (one : GroupReceiver) → has_number number before ≡ true → list_any (λ other. other == number) reported ≡ false → is_alike number one ≡ true
  alike number one there unreported = elim (cases_Bool (is_alike number one)) [
    | inl is ↦ is
    | inr other ↦ absurd (both_ways (list_any (λ other. other == number) reported) unreported (changes_are_reported ports before after number one there other))
  ]

  number_alike : (number mlid lid : ℕ) → has_number number before ≡ true → list_any (λ other. other == number) reported ≡ false
      → receives_of (receivers_of ports number before) mlid lid ≡ receives_of (receivers_of ports number after) mlid lid
  number_alike number mlid lid there unreported =
      let one : GroupReceiver = record { mlid = mlid; lid = lid } in
      sym (among_is (receivers_of ports number before) mlid lid)
      ∙ same (is_among (receivers_of ports number before) one) (is_among (receivers_of ports number after) one) (alike number one there unreported)
      ∙ among_is (receivers_of ports number after) mlid lid

  in_slice : (number mlid lid : ℕ) → has_number number before ≡ true → is_in_mlid_range number mlid ≡ true → list_any (λ other. is_in_mlid_range other mlid) reported ≡ false
      → receives_at ports before mlid lid ≡ receives_at ports after mlid lid
  in_slice number mlid lid there here none =
      let unreported = false_from_ne_true (list_any (λ one. one == number) reported)
      (λ some. both_ways (list_any (λ other. is_in_mlid_range other mlid) reported) none
      (list_any_weaker (λ one. one == number) (λ other. is_in_mlid_range other mlid)
      (λ one is. ap (λ (n : ℕ). is_in_mlid_range n mlid) (eqb-true one number is) ∙ here) reported some)) in
      sym (in_its_range ports mlid lid number before sound_before here)
      ∙ number_alike number mlid lid there unreported
      ∙ in_its_range ports mlid lid number after sound_after here

  nobody_at : (partitions : List PartitionGroups) (mlid lid : ℕ) → is_sound ports partitions ≡ true
      → list_any (λ partition. is_in_range partition.number mlid) partitions ≡ false → receives_at ports partitions mlid lid ≡ false
  nobody_at partitions mlid lid sound none =
      false_from_ne_true (receives_at ports partitions mlid lid)
      (λ some. both_ways (list_any (λ partition. is_in_range partition.number mlid) partitions) none (of_a_partition ports mlid lid partitions sound some))

  outside_reported : (mlid lid : ℕ) → list_any (λ number. is_in_mlid_range number mlid) reported ≡ false
      → receives_at ports before mlid lid ≡ receives_at ports after mlid lid
  outside_reported mlid lid none = elim (cases_Bool (list_any (λ partition. is_in_range partition.number mlid) before)) [
    | inl some ↦ let has = one_number before mlid some in in_slice has.number mlid lid has.there has.ranged none
    | inr nowhere ↦
        let then_nowhere : list_any (λ partition. is_in_range partition.number mlid) after ≡ false =
        numbered mlid after ∙ ap (list_any (λ (pair : ℕ × ℕ). is_in_range pair.0 mlid)) stays ∙ sym (numbered mlid before) ∙ nowhere in
        nobody_at before mlid lid sound_before nowhere ∙ sym (nobody_at after mlid lid sound_after then_nowhere)
  ]

  -- so it is those who receive now, wherever masks are not of those who received before
  pub reported_is_all : (mlid lid : ℕ) → where_in reported (receives_at ports after) (receives_at ports before) mlid lid ≡ receives_at ports after mlid lid
  reported_is_all mlid lid = elim (cases_Bool (list_any (λ number. is_in_mlid_range number mlid) reported)) [
    | inl some ↦ rw some refl
    | inr none ↦ rw none (outside_reported mlid lid none)
  ]

-- ---- there are few numbers
low_numbers : (limit first : ℕ) (headings : List Heading) → first + length headings ≤ limit
    → list_all (λ (pair : ℕ × ℕ). nat_lt pair.0 limit) (map partition_of (start_from first headings)) ≡ true
low_numbers limit first [] few = refl
low_numbers limit first (heading ∷ headings) few =
    let low = lt-ltb first limit (omega (arith, few)) in
    rw low (low_numbers limit (first + 1) headings (omega (arith, few)))

pub all_low : (limit : ℕ) (headings : List Heading) (partitions : List PartitionGroups) → length headings ≤ limit
    → map partition_of partitions ≡ map partition_of (start_from 0 headings) → list_all (λ partition. nat_lt partition.number limit) partitions ≡ true
all_low limit headings partitions few are =
    sym (list_all-map (λ (pair : ℕ × ℕ). nat_lt pair.0 limit) partition_of partitions)
    ∙ ap (list_all (λ (pair : ℕ × ℕ). nat_lt pair.0 limit)) are
    ∙ low_numbers limit 0 headings (omega (arith, few))

all_kept : (p q : ℕ → Bool) (xs : List ℕ) → list_all p xs ≡ true → list_all p (filter q xs) ≡ true
all_kept p q [] all = refl
all_kept p q (x ∷ xs) all =
    let parts = and_parts (p x) (list_all p xs) all in
    elim (cases_Bool (q x)) [
      | inl passes ↦ rw passes (and_from (p x) (list_all p (filter q xs)) parts.0 (all_kept p q xs parts.1))
      | inr fails ↦ rw fails (all_kept p q xs parts.1)
    ]

pub reported_are_low : (limit : ℕ) (ports : List SubnetPort) (before after : List PartitionGroups) → list_all (λ partition. nat_lt partition.number limit) before ≡ true
    → list_all (λ number. nat_lt number limit) (changed_numbers ports before after) ≡ true
reported_are_low limit ports before after low =
    all_kept (λ number. nat_lt number limit) (λ number. not (are_same_receivers (receivers_of ports number before) (receivers_of ports number after)))
    (map (λ partition. partition.number) before)
    (list_all-map (λ number. nat_lt number limit) (λ (partition : PartitionGroups). partition.number) before ∙ low)
