-- Who receives, by the groups of partitions: in the MLID range of a partition those whom a registry lists for it.
use Rattle.std.proofs.Common.{ℕ, ◌≡◌, ◌==◌, ◌&&◌, ◌||◌, ◌∙◌, ap, refl, sym, not, Bool, true, false, List, [], ◌∷◌, filter, inl, inr, arith}
use Rattle.std.specs.List.{flat_map, list_all, list_any}
use Rattle.std.proofs.lemmas.Bool.{and_parts, both_ways, cases_Bool, eqb-true, false_from_ne_true, or_cases, or_left, or_right}
use Rattle.std.proofs.lemmas.Bool.Decides.{nat_tests}
use Rattle.fabric_parts.specs.NodeType.{is_switch_type}
use Rattle.step_results.proofs.ListLemmas.{any_and, any_flat, any_map, any_turned}
use Rattle.sa_model.proofs.ReceiverLemmas.{any_alike}
use Rattle.sa_model.proofs.SoundLemmas.{partition_parts, sound_parts}
use Rattle.sa_model.specs.Delivery.{is_receiver_of, receives, receives_in}
use Rattle.sa_model.specs.Groups.{MulticastGroup, PartitionGroups}
use Rattle.sa_model.specs.Receivers.{group_receivers, receivers_in, receivers_of, receives_group}
use Rattle.sa_model.specs.Sound.{is_in_range, is_sound, is_sound_group, is_sound_partition}
use Rattle.subnet_model.specs.declared.group_receiver.GroupReceiver.{GroupReceiver}
use Rattle.subnet_model.specs.declared.subnet_port.SubnetPort.{SubnetPort}
use Rattle.table_push.specs.Masks.{is_in_mlid_range, receives_of}
use Rattle.subnet_core.specs.Served.{receives_at}

pub any_kept : {X : Type 0} (p q : X → Bool) (xs : List X) → list_any p (filter q xs) ≡ list_any (λ x. q x && p x) xs
any_kept p q [] = refl
any_kept p q (x ∷ xs) = elim (cases_Bool (q x)) [
  | inl passes ↦ rw passes (ap (λ rest. p x || rest) (any_kept p q xs))
  | inr fails ↦ rw fails (any_kept p q xs)
]

any_where : {X : Type 0} (all p q : X → Bool) → ((x : X) → all x ≡ true → p x ≡ q x) → (xs : List X) → list_all all xs ≡ true → list_any p xs ≡ list_any q xs
any_where all p q same [] each = refl
any_where all p q same (x ∷ xs) each =
    let parts = and_parts (all x) (list_all all xs) each in
    let head = same x parts.0 in
    let tail = any_where all p q same xs parts.1 in
    λ place. head place || tail place

pub one_passes : {X : Type 0} (all p q : X → Bool) → ((x : X) → all x ≡ true → p x ≡ true → q x ≡ true) → (xs : List X) → list_all all xs ≡ true → list_any p xs ≡ true
    → list_any q xs ≡ true
one_passes all p q implies [] each some = absurd (cc)
one_passes all p q implies (x ∷ xs) each some =
    let parts = and_parts (all x) (list_all all xs) each in
    elim (or_cases (p x) (list_any p xs) some) [
      | inl here ↦ or_left (q x) (list_any q xs) (implies x parts.0 here)
      | inr later ↦ or_right (q x) (list_any q xs) (one_passes all p q implies xs parts.1 later)
    ]

-- ---- by groups
module _ (ports : List SubnetPort) (mlid lid : ℕ) where
  -- by this group the port of the LID receives
  abbrev pub reached : MulticastGroup → Bool
  reached group = list_any (λ port. (port.lid == lid) && (not (is_switch_type port.node_type) && list_any (receives port.guid) group.memberships)) ports

  abbrev pub in_group : MulticastGroup → Bool
  in_group group = (group.mlid == mlid) && reached group

  abbrev pub in_partition : PartitionGroups → Bool
  in_partition partition = list_any in_group partition.groups

  group_first : (m l s r : Bool) → (l && (s && (m && r))) ≡ (m && (l && (s && r)))
  group_first true l s r = refl
  group_first false true true r = refl
  group_first false true false r = refl
  group_first false false s r = refl

  kept_first : (m l s r : Bool) → ((s && r) && (m && l)) ≡ (m && (l && (s && r)))
  kept_first true true true true = refl
  kept_first true true true false = refl
  kept_first true true false r = refl
  kept_first true false true true = refl
  kept_first true false true false = refl
  kept_first true false false r = refl
  kept_first false l true true = refl
  kept_first false l true false = refl
  kept_first false l false r = refl

  through : (port : SubnetPort) (p : PartitionGroups → Bool) (partitions : List PartitionGroups)
      → ((port.lid == lid) && (not (is_switch_type port.node_type) && list_any p partitions))
      ≡ list_any (λ partition. (port.lid == lid) && (not (is_switch_type port.node_type) && p partition)) partitions
  through port p partitions =
      ap (λ b. (port.lid == lid) && b) (sym (any_and (not (is_switch_type port.node_type)) p partitions))
      ∙ sym (any_and (port.lid == lid) (λ partition. not (is_switch_type port.node_type) && p partition) partitions)

  through_groups : (port : SubnetPort) (p : MulticastGroup → Bool) (groups : List MulticastGroup)
      → ((port.lid == lid) && (not (is_switch_type port.node_type) && list_any p groups))
      ≡ list_any (λ group. (port.lid == lid) && (not (is_switch_type port.node_type) && p group)) groups
  through_groups port p groups =
      ap (λ b. (port.lid == lid) && b) (sym (any_and (not (is_switch_type port.node_type)) p groups))
      ∙ sym (any_and (port.lid == lid) (λ group. not (is_switch_type port.node_type) && p group) groups)

  group_reads : (group : MulticastGroup)
      → list_any (λ port. (port.lid == lid) && (not (is_switch_type port.node_type) && ((group.mlid == mlid) && list_any (receives port.guid) group.memberships))) ports
      ≡ in_group group
  group_reads group =
      any_alike (λ port. (port.lid == lid) && (not (is_switch_type port.node_type) && ((group.mlid == mlid) && list_any (receives port.guid) group.memberships)))
      (λ port. (group.mlid == mlid) && ((port.lid == lid) && (not (is_switch_type port.node_type) && list_any (receives port.guid) group.memberships)))
      (λ port. group_first (group.mlid == mlid) (port.lid == lid) (not (is_switch_type port.node_type)) (list_any (receives port.guid) group.memberships)) ports
      ∙ any_and (group.mlid == mlid) (λ port. (port.lid == lid) && (not (is_switch_type port.node_type) && list_any (receives port.guid) group.memberships)) ports

  partition_reads : (partition : PartitionGroups)
      → list_any (λ port. (port.lid == lid) && (not (is_switch_type port.node_type) && receives_in mlid port.guid partition)) ports ≡ in_partition partition
  partition_reads partition =
      any_alike (λ port. (port.lid == lid) && (not (is_switch_type port.node_type) && receives_in mlid port.guid partition))
      (λ port. list_any (λ group. (port.lid == lid) && (not (is_switch_type port.node_type) && ((group.mlid == mlid) && list_any (receives port.guid) group.memberships))) partition.groups)
      (λ port. through_groups port (λ group. (group.mlid == mlid) && list_any (receives port.guid) group.memberships) partition.groups) ports
      ∙ any_turned (λ port group. (port.lid == lid) && (not (is_switch_type port.node_type) && ((group.mlid == mlid) && list_any (receives port.guid) group.memberships))) ports partition.groups
      ∙ any_alike (λ group. list_any (λ port. (port.lid == lid) && (not (is_switch_type port.node_type) && ((group.mlid == mlid) && list_any (receives port.guid) group.memberships))) ports)
      in_group group_reads partition.groups

  pub by_partitions : (partitions : List PartitionGroups) → receives_at ports partitions mlid lid ≡ list_any in_partition partitions
  by_partitions partitions =
      any_alike (λ port. (port.lid == lid) && (not (is_switch_type port.node_type) && list_any (receives_in mlid port.guid) partitions))
      (λ port. list_any (λ partition. (port.lid == lid) && (not (is_switch_type port.node_type) && receives_in mlid port.guid partition)) partitions)
      (λ port. through port (receives_in mlid port.guid) partitions) ports
      ∙ any_turned (λ port partition. (port.lid == lid) && (not (is_switch_type port.node_type) && receives_in mlid port.guid partition)) ports partitions
      ∙ any_alike (λ partition. list_any (λ port. (port.lid == lid) && (not (is_switch_type port.node_type) && receives_in mlid port.guid partition)) ports)
      in_partition partition_reads partitions

  -- ---- and by lists of receivers
  abbrev is_for : GroupReceiver → Bool
  is_for one = (one.mlid == mlid) && (one.lid == lid)

  group_listed : (group : MulticastGroup) → list_any is_for (group_receivers ports group) ≡ in_group group
  group_listed group =
      any_map is_for (λ (port : SubnetPort). record { mlid = group.mlid; lid = port.lid }) (filter (receives_group group) ports)
      ∙ any_kept (λ port. (group.mlid == mlid) && (port.lid == lid)) (receives_group group) ports
      ∙ any_alike (λ port. receives_group group port && ((group.mlid == mlid) && (port.lid == lid)))
      (λ port. (group.mlid == mlid) && ((port.lid == lid) && (not (is_switch_type port.node_type) && list_any (receives port.guid) group.memberships)))
      (λ port. kept_first (group.mlid == mlid) (port.lid == lid) (not (is_switch_type port.node_type)) (list_any (receives port.guid) group.memberships)) ports
      ∙ any_and (group.mlid == mlid) (λ port. (port.lid == lid) && (not (is_switch_type port.node_type) && list_any (receives port.guid) group.memberships)) ports

  pub partition_listed : (partition : PartitionGroups) → receives_of (receivers_in ports partition) mlid lid ≡ in_partition partition
  partition_listed partition =
      any_flat is_for (group_receivers ports) partition.groups
      ∙ any_alike (λ group. list_any is_for (group_receivers ports group)) in_group group_listed partition.groups

  pub all_listed : (partitions : List PartitionGroups) → receives_of (flat_map (receivers_in ports) partitions) mlid lid ≡ list_any in_partition partitions
  all_listed partitions =
      any_flat is_for (receivers_in ports) partitions
      ∙ any_alike (λ partition. receives_of (receivers_in ports partition) mlid lid) in_partition partition_listed partitions

  number_listed : (number : ℕ) (partitions : List PartitionGroups)
      → receives_of (receivers_of ports number partitions) mlid lid ≡ list_any (λ partition. (partition.number == number) && in_partition partition) partitions
  number_listed number partitions =
      all_listed (filter (λ partition. partition.number == number) partitions)
      ∙ any_kept in_partition (λ partition. partition.number == number) partitions

  -- ---- the groups of a partition have its MLIDs
  ranged : (there : MulticastGroup → Bool) (partition : PartitionGroups) (groups : List MulticastGroup) → list_all (is_sound_group ports partition) groups ≡ true
      → list_any (λ group. (group.mlid == mlid) && there group) groups ≡ true → is_in_range partition.number mlid ≡ true
  ranged there partition [] sound some = absurd (cc)
  ranged there partition (group ∷ groups) sound some =
      let parts = and_parts (is_sound_group ports partition group) (list_all (is_sound_group ports partition) groups) sound in
      elim (or_cases ((group.mlid == mlid) && there group) (list_any (λ other. (other.mlid == mlid) && there other) groups) some) [
        | inl here ↦
            ap (is_in_range partition.number) (sym (eqb-true group.mlid mlid (and_parts (group.mlid == mlid) (there group) here).0))
            ∙ (sound_parts ports partition group parts.0).ranged
        | inr later ↦ ranged there partition groups parts.1 later
      ]

  partition_ranged : (partition : PartitionGroups) → is_sound_partition ports partition ≡ true → in_partition partition ≡ true → is_in_range partition.number mlid ≡ true
  partition_ranged partition sound some = ranged reached partition partition.groups (partition_parts ports partition sound).each some

  -- whom packets to the MLID reach is in a group of a partition that has it
  pub receiver_of_a_partition : (guid : ℕ) (partitions : List PartitionGroups) → is_sound ports partitions ≡ true → is_receiver_of partitions mlid guid ≡ true
      → list_any (λ partition. is_in_range partition.number mlid) partitions ≡ true
  receiver_of_a_partition guid partitions sound some =
      one_passes (is_sound_partition ports) (receives_in mlid guid) (λ partition. is_in_range partition.number mlid)
      (λ partition sound there. ranged (λ group. list_any (receives guid) group.memberships) partition partition.groups (partition_parts ports partition sound).each there)
      partitions sound some

  -- who receives is in a group of a partition that has the MLID
  pub of_a_partition : (partitions : List PartitionGroups) → is_sound ports partitions ≡ true → receives_at ports partitions mlid lid ≡ true
      → list_any (λ partition. is_in_range partition.number mlid) partitions ≡ true
  of_a_partition partitions sound there =
      one_passes (is_sound_partition ports) in_partition (λ partition. is_in_range partition.number mlid) partition_ranged partitions sound
      (sym (by_partitions partitions) ∙ there)

  -- in the MLID range of a partition it is those who are listed for its number
  other_range : (number other : ℕ) → is_in_mlid_range number mlid ≡ true → is_in_range other mlid ≡ true → (other == number) ≡ true
  other_range number other here there = grind (arith, nat_tests)

  only_number : (number : ℕ) → is_in_mlid_range number mlid ≡ true → (partition : PartitionGroups) → is_sound_partition ports partition ≡ true
      → ((partition.number == number) && in_partition partition) ≡ in_partition partition
  only_number number here partition sound = elim (cases_Bool (partition.number == number)) [
    | inl this ↦ rw this refl
    | inr other ↦
        rw other
        (sym (false_from_ne_true (in_partition partition)
        (λ there. both_ways (partition.number == number) other (other_range number partition.number here (partition_ranged partition sound there)))))
  ]

  pub in_its_range : (number : ℕ) (partitions : List PartitionGroups) → is_sound ports partitions ≡ true → is_in_mlid_range number mlid ≡ true
      → receives_of (receivers_of ports number partitions) mlid lid ≡ receives_at ports partitions mlid lid
  in_its_range number partitions sound here =
      number_listed number partitions
      ∙ any_where (is_sound_partition ports) (λ partition. (partition.number == number) && in_partition partition) in_partition (only_number number here) partitions sound
      ∙ sym (by_partitions partitions)
