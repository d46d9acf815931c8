-- Joins keep groups sound.
use Rattle.std.proofs.Common.{ℕ, zero, suc, ◌+◌, ◌≤◌, Bool, true, false, not, ◌==◌, ◌&&◌, ◌||◌, nat_lt, nat_le, List, [], ◌∷◌, find, Option, Some, None}
use Rattle.std.proofs.Common.{◌≡◌, ◌∙◌, ap, refl, sym, inl, inr, arith}
use Rattle.std.specs.List.{list_all, list_any, range_with_len}
use Rattle.std.proofs.lemmas.Bool.{cases_Bool, both_ways, and_from, and_parts, or_cases, or_parts, or_left, or_right, not_from_true, eqb-true}
use Rattle.std.proofs.lemmas.Bool.Decides.{nat_tests}
use Rattle.step_results.proofs.ListLemmas.{found_passes, list_all_weaker}
use Rattle.subnet_model.specs.declared.subnet_port.SubnetPort.{SubnetPort}
use Rattle.sa_model.specs.JoinState.{JoinState, is_joined, with_bits}
use Rattle.sa_model.specs.Members.{is_member, is_full_member}
use Rattle.sa_model.specs.Groups.{Membership, MulticastGroup, PartitionGroups, first_mlid, lower_port}
use Rattle.sa_model.specs.Anchor.{anchors, is_kept, is_by_file, free_mlid, mlid_range}
use Rattle.sa_model.specs.Joining.{Join, may_join, may_create, has_mgid, is_of, new_membership, more_joined, with_member, joined_group, new_group, with_group, with_created, joined_groups, joined_in, joined}
use Rattle.sa_model.specs.Sound.{pairwise, other_mgid, lower_mlid, is_sound_membership, is_in_range, is_sound_group, is_sound_partition, is_sound}
use Rattle.sa_model.proofs.ListLemmas.{all_map, all_fail, any_map, pairwise_map}
use Rattle.sa_model.proofs.InPlaceLemmas.{all_in_place, some_in_place, in_place_in_order}
use Rattle.sa_model.proofs.SoundLemmas.{sound_parts, sound_group, PartitionParts, partition_parts, sound_partition}

-- ---- one membership
more_bits : (a b c x y z : Bool) → (a || (b || c)) ≡ true → ((a || x) || ((b || y) || (c || z))) ≡ true
more_bits true b c x y z h = refl
more_bits false true c true y z h = refl
more_bits false true c false y z h = refl
more_bits false false true true y z h = refl
more_bits false false true false true z h = refl
more_bits false false true false false z h = refl
more_bits false false false x y z h = absurd (cc)

still_joined : (more state : JoinState) → is_joined state ≡ true → is_joined (with_bits more state) ≡ true
still_joined more state h =
    more_bits state.full_member state.non_member state.send_only_non_member more.full_member more.non_member more.send_only_non_member h

pub more_port : (join : Join) (membership : Membership) → (more_joined join membership).port ≡ membership.port
more_port join membership = elim (cases_Bool (is_of join.port membership)) [
  | inl its ↦ rw its refl
  | inr other ↦ rw other refl
]

more_sound : (ports : List SubnetPort) (base : ℕ) (join : Join) (membership : Membership) → is_sound_membership ports base membership ≡ true
    → is_sound_membership ports base (more_joined join membership) ≡ true
more_sound ports base join membership sound = elim (cases_Bool (is_of join.port membership)) [
  | inl its ↦
      let parts = and_parts (is_member ports base membership.port) (is_joined membership.join_state) sound in
      rw its (and_from (is_member ports base membership.port) (is_joined (with_bits join.join_state membership.join_state))
      parts.0 (still_joined join.join_state membership.join_state parts.1))
  | inr other ↦ rw other sound
]

more_anchors : (ports : List SubnetPort) (base : ℕ) (join : Join) (membership : Membership) → anchors ports base membership ≡ true
    → anchors ports base (more_joined join membership) ≡ true
more_anchors ports base join membership h = elim (cases_Bool (is_of join.port membership)) [
  | inl its ↦
      let parts = and_parts membership.join_state.full_member (is_full_member ports base membership.port) h in
      rw its (and_from (membership.join_state.full_member || join.join_state.full_member) (is_full_member ports base membership.port)
      (or_left membership.join_state.full_member join.join_state.full_member parts.0) parts.1)
  | inr other ↦ rw other h
]

-- ---- the memberships of a group
members_sound : (ports : List SubnetPort) (base : ℕ) (join : Join) (memberships : List Membership)
    → is_sound_membership ports base (new_membership join) ≡ true → list_all (is_sound_membership ports base) memberships ≡ true
    → list_all (is_sound_membership ports base) (with_member join memberships) ≡ true
members_sound ports base join memberships one all = elim (cases_Bool (list_any (is_of join.port) memberships)) [
  | inl there ↦ rw there (all_map (is_sound_membership ports base) (is_sound_membership ports base) (more_joined join) (λ m e. more_sound ports base join m e) memberships all)
  | inr new ↦ rw new (all_in_place (is_sound_membership ports base) (new_membership join) memberships one all)
]

members_in_order : (join : Join) (memberships : List Membership) → pairwise lower_port memberships ≡ true
    → pairwise lower_port (with_member join memberships) ≡ true
members_in_order join memberships order = elim (cases_Bool (list_any (is_of join.port) memberships)) [
  | inl there ↦ rw there (pairwise_map lower_port (more_joined join)
      (λ a b e. rw (more_port join a, more_port join b) e) memberships order)
  | inr new ↦ rw new (in_place_in_order (new_membership join) memberships order)
]

members_anchor : (ports : List SubnetPort) (base : ℕ) (join : Join) (memberships : List Membership)
    → list_any (anchors ports base) memberships ≡ true → list_any (anchors ports base) (with_member join memberships) ≡ true
members_anchor ports base join memberships some = elim (cases_Bool (list_any (is_of join.port) memberships)) [
  | inl there ↦ rw there (any_map (anchors ports base) (anchors ports base) (more_joined join) (λ m e. more_anchors ports base join m e) memberships some)
  | inr new ↦ rw new (some_in_place (anchors ports base) (new_membership join) memberships new some)
]

-- ---- a group
joined_kept : (ports : List SubnetPort) (base : ℕ) (join : Join) (group : MulticastGroup) → is_kept ports base group ≡ true
    → is_kept ports base (record group { memberships = with_member join group.memberships }) ≡ true
joined_kept ports base join group kept = elim (or_cases (is_by_file group.creator) (list_any (anchors ports base) group.memberships) kept) [
  | inl file ↦ or_left (is_by_file group.creator) (list_any (anchors ports base) (with_member join group.memberships)) file
  | inr some ↦ or_right (is_by_file group.creator) (list_any (anchors ports base) (with_member join group.memberships))
      (members_anchor ports base join group.memberships some)
]

joined_group_sound : (ports : List SubnetPort) (partition : PartitionGroups) (join : Join) (group : MulticastGroup)
    → is_sound_membership ports partition.base (new_membership join) ≡ true → is_sound_group ports partition group ≡ true
    → is_sound_group ports partition (joined_group join group) ≡ true
joined_group_sound ports partition join group one sound = elim (cases_Bool (has_mgid join.mgid group)) [
  | inl this ↦
      let parts = sound_parts ports partition group sound in
      rw this (sound_group ports partition (record group { memberships = with_member join group.memberships }) (record {
        kept = joined_kept ports partition.base join group parts.kept;
        made = parts.made;
        ranged = parts.ranged;
        members = members_sound ports partition.base join group.memberships one parts.members;
        by_port = members_in_order join group.memberships parts.by_port;
      }))
  | inr other ↦ rw other sound
]

pub joined_mgid : (join : Join) (group : MulticastGroup) → (joined_group join group).mgid ≡ group.mgid
joined_mgid join group = elim (cases_Bool (has_mgid join.mgid group)) [
  | inl this ↦ rw this refl
  | inr other ↦ rw other refl
]

pub joined_mlid : (join : Join) (group : MulticastGroup) → (joined_group join group).mlid ≡ group.mlid
joined_mlid join group = elim (cases_Bool (has_mgid join.mgid group)) [
  | inl this ↦ rw this refl
  | inr other ↦ rw other refl
]

-- ---- a new group
found_among : {X : Type 0} (test other : X → Bool) (xs : List X) (x : X) → find test xs ≡ Some x → list_all other xs ≡ true → other x ≡ true
found_among test other [] x h all = absurd (cc)
found_among test other (y ∷ ys) x h all =
    let parts = and_parts (other y) (list_all other ys) all in
    elim (cases_Bool (test y)) [
      | inl here ↦ let same : Some y ≡ Some x = rw here at h in let e : y ≡ x = cc in ap other (sym e) ∙ parts.0
      | inr not_here ↦ let later : find test ys ≡ Some x = rw not_here at h in found_among test other ys x later parts.1
    ]

range_within : (low first count high : ℕ) → low ≤ first → first + count ≤ high
    → list_all (λ n. nat_le low n && nat_lt n high) (range_with_len first count) ≡ true
range_within low first zero high a b = refl
range_within low first (suc count) high a b =
    let here : (nat_le low first && nat_lt first high) ≡ true = and_from (nat_le low first) (nat_lt first high) (grind (arith, nat_tests)) (grind (arith, nat_tests)) in
    and_from (nat_le low first && nat_lt first high) (list_all (λ n. nat_le low n && nat_lt n high) (range_with_len (first + 1) count)) here
    (range_within low (first + 1) count high (omega arith) (omega arith))

free_in_range : (partition : PartitionGroups) (mlid : ℕ) → free_mlid partition ≡ Some mlid → is_in_range partition.number mlid ≡ true
free_in_range partition mlid found =
    found_among (λ n. not (list_any (λ group. group.mlid == n) partition.groups)) (is_in_range partition.number) (mlid_range partition.number) mlid found
    (range_within (first_mlid partition.number) (first_mlid partition.number) 32 (first_mlid partition.number + 32) (omega arith) (omega arith))

free_is_free : (partition : PartitionGroups) (mlid : ℕ) → free_mlid partition ≡ Some mlid → list_any (λ group. group.mlid == mlid) partition.groups ≡ false
free_is_free partition mlid found = elim (cases_Bool (list_any (λ group. group.mlid == mlid) partition.groups)) [
  | inl had ↦ absurd (both_ways (not (list_any (λ group. group.mlid == mlid) partition.groups))
      (not_from_true (list_any (λ group. group.mlid == mlid) partition.groups) had)
      (found_passes (λ n. not (list_any (λ group. group.mlid == n) partition.groups)) (mlid_range partition.number) mlid found))
  | inr free ↦ free
]

new_sound : (ports : List SubnetPort) (partition : PartitionGroups) (join : Join) (mlid : ℕ) → partition.base ≡ join.base
    → is_sound_membership ports partition.base (new_membership join) ≡ true → may_create ports join ≡ true → is_in_range partition.number mlid ≡ true
    → is_sound_group ports partition (new_group join mlid) ≡ true
new_sound ports partition join mlid same one create ranged =
    let parts = and_parts (is_full_member ports join.base join.port) join.join_state.full_member create in
    let full : is_full_member ports partition.base join.port ≡ true = rw same parts.0 in
    sound_group ports partition (new_group join mlid) (record {
      kept = or_left (anchors ports partition.base (new_membership join)) false (and_from join.join_state.full_member (is_full_member ports partition.base join.port) parts.1 full);
      made = full;
      ranged = ranged;
      members = and_from (is_sound_membership ports partition.base (new_membership join)) true one refl;
      by_port = refl;
    })

-- ---- a group takes its place
pub all_with_group : (p : MulticastGroup → Bool) (new : MulticastGroup) (groups : List MulticastGroup) → p new ≡ true → list_all p groups ≡ true
    → list_all p (with_group new groups) ≡ true
all_with_group p new [] one all = and_from (p new) true one refl
all_with_group p new (group ∷ groups) one all =
    let parts = and_parts (p group) (list_all p groups) all in
    elim (cases_Bool (nat_lt new.mlid group.mlid)) [
      | inl before ↦ rw before (and_from (p new) (list_all p (group ∷ groups)) one all)
      | inr behind ↦ rw behind (and_from (p group) (list_all p (with_group new groups)) parts.0 (all_with_group p new groups one parts.1))
    ]

lower_through : (new group : MulticastGroup) → nat_lt new.mlid group.mlid ≡ true → (x : MulticastGroup) → lower_mlid group x ≡ true → lower_mlid new x ≡ true
lower_through new group before x e = grind (arith, nat_tests)

lower_unless : (new group : MulticastGroup) → nat_lt new.mlid group.mlid ≡ false → (group.mlid == new.mlid) ≡ false → lower_mlid group new ≡ true
lower_unless new group behind other = grind (arith, nat_tests)

pub with_group_in_order : (new : MulticastGroup) (groups : List MulticastGroup) → list_any (λ group. group.mlid == new.mlid) groups ≡ false
    → pairwise lower_mlid groups ≡ true → pairwise lower_mlid (with_group new groups) ≡ true
with_group_in_order new [] free pairs = refl
with_group_in_order new (group ∷ groups) free pairs =
    let parts = and_parts (list_all (lower_mlid group) groups) (pairwise lower_mlid groups) pairs in
    let others = or_parts (group.mlid == new.mlid) (list_any (λ x. x.mlid == new.mlid) groups) free in
    elim (cases_Bool (nat_lt new.mlid group.mlid)) [
      | inl before ↦ rw before (and_from (list_all (lower_mlid new) (group ∷ groups)) (pairwise lower_mlid (group ∷ groups))
          (and_from (lower_mlid new group) (list_all (lower_mlid new) groups) before
          (list_all_weaker (lower_mlid group) (lower_mlid new) (λ x e. lower_through new group before x e) groups parts.0)) pairs)
      | inr behind ↦ rw behind (and_from (list_all (lower_mlid group) (with_group new groups)) (pairwise lower_mlid (with_group new groups))
          (all_with_group (lower_mlid group) new groups (lower_unless new group behind others.0) parts.0)
          (with_group_in_order new groups others.1 parts.1))
    ]

other_way : (new x : MulticastGroup) → not (has_mgid new.mgid x) ≡ true → other_mgid new x ≡ true
other_way new x e = grind (arith, nat_tests)

pub with_group_apart : (new : MulticastGroup) (groups : List MulticastGroup) → list_all (λ group. not (has_mgid new.mgid group)) groups ≡ true
    → pairwise other_mgid groups ≡ true → pairwise other_mgid (with_group new groups) ≡ true
with_group_apart new [] free pairs = refl
with_group_apart new (group ∷ groups) free pairs =
    let parts = and_parts (list_all (other_mgid group) groups) (pairwise other_mgid groups) pairs in
    let others = and_parts (not (has_mgid new.mgid group)) (list_all (λ x. not (has_mgid new.mgid x)) groups) free in
    elim (cases_Bool (nat_lt new.mlid group.mlid)) [
      | inl before ↦ rw before (and_from (list_all (other_mgid new) (group ∷ groups)) (pairwise other_mgid (group ∷ groups))
          (list_all_weaker (λ x. not (has_mgid new.mgid x)) (other_mgid new) (λ x e. other_way new x e) (group ∷ groups) free) pairs)
      | inr behind ↦ rw behind (and_from (list_all (other_mgid group) (with_group new groups)) (pairwise other_mgid (with_group new groups))
          (all_with_group (other_mgid group) new groups others.0 parts.0)
          (with_group_apart new groups others.1 parts.1))
    ]

-- ---- a join, in one partition and in all
with_created_sound : (ports : List SubnetPort) (partition : PartitionGroups) (join : Join) → partition.base ≡ join.base
    → is_sound_membership ports partition.base (new_membership join) ≡ true → may_create ports join ≡ true
    → list_any (has_mgid join.mgid) partition.groups ≡ false → PartitionParts ports partition partition.groups
    → (mlid : Option ℕ) → free_mlid partition ≡ mlid → PartitionParts ports partition (with_created join mlid partition.groups)
with_created_sound ports partition join same one create none parts None found = parts
with_created_sound ports partition join same one create none parts (Some mlid) found = record {
  each = all_with_group (is_sound_group ports partition) (new_group join mlid) partition.groups
      (new_sound ports partition join mlid same one create (free_in_range partition mlid found)) parts.each;
  order = with_group_in_order (new_group join mlid) partition.groups (free_is_free partition mlid found) parts.order;
  apart = with_group_apart (new_group join mlid) partition.groups (all_fail (has_mgid join.mgid) partition.groups none) parts.apart;
}

joined_groups_sound : (ports : List SubnetPort) (partition : PartitionGroups) (join : Join) → partition.base ≡ join.base
    → is_sound_membership ports partition.base (new_membership join) ≡ true → PartitionParts ports partition partition.groups
    → PartitionParts ports partition (joined_groups ports join partition)
joined_groups_sound ports partition join same one parts = elim (cases_Bool (list_any (has_mgid join.mgid) partition.groups)) [
  | inl there ↦ rw there (record {
    each = all_map (is_sound_group ports partition) (is_sound_group ports partition) (joined_group join) (λ g e. joined_group_sound ports partition join g one e) partition.groups parts.each;
    order = pairwise_map lower_mlid (joined_group join) (λ a b e. rw (joined_mlid join a, joined_mlid join b) e) partition.groups parts.order;
    apart = pairwise_map other_mgid (joined_group join) (λ a b e. rw (joined_mgid join a, joined_mgid join b) e) partition.groups parts.apart;
  })
  | inr none ↦ elim (cases_Bool (may_create ports join)) [
    | inl create ↦ rw (none, create) (with_created_sound ports partition join same one create none parts (free_mlid partition) refl)
    | inr not_full ↦ rw (none, not_full) parts
  ]
]

joined_in_sound : (ports : List SubnetPort) (join : Join) (partition : PartitionGroups) → is_sound_partition ports partition ≡ true
    → is_sound_partition ports (joined_in ports join partition) ≡ true
joined_in_sound ports join partition sound = elim (cases_Bool ((partition.base == join.base) && may_join ports join)) [
  | inl allowed ↦
      let parts = and_parts (partition.base == join.base) (may_join ports join) allowed in
      let same : partition.base ≡ join.base = eqb-true partition.base join.base parts.0 in
      let one : is_sound_membership ports partition.base (new_membership join) ≡ true = rw same parts.1 in
      rw allowed (sound_partition ports partition (joined_groups ports join partition)
      (joined_groups_sound ports partition join same one (partition_parts ports partition sound)))
  | inr refused ↦ rw refused sound
]

pub joined_sound : (ports : List SubnetPort) (join : Join) (partitions : List PartitionGroups) → is_sound ports partitions ≡ true
    → is_sound ports (joined ports join partitions) ≡ true
joined_sound ports join partitions sound =
    all_map (is_sound_partition ports) (is_sound_partition ports) (joined_in ports join) (λ x e. joined_in_sound ports join x e) partitions sound
