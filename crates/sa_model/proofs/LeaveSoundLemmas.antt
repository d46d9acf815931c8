-- Leaves keep groups sound.
use Rattle.std.proofs.Common.{ℕ, Bool, true, ◌&&◌, List, map, filter}
use Rattle.std.proofs.Common.{◌≡◌, ◌∙◌, ap, refl, inl, inr}
use Rattle.std.specs.List.{list_all}
use Rattle.std.proofs.lemmas.Bool.{cases_Bool, and_from, and_parts}
use Rattle.subnet_model.specs.declared.subnet_port.SubnetPort.{SubnetPort}
use Rattle.sa_model.specs.JoinState.{is_joined}
use Rattle.sa_model.specs.Members.{is_member}
use Rattle.sa_model.specs.Groups.{Membership, MulticastGroup, PartitionGroups, lower_port}
use Rattle.sa_model.specs.Anchor.{is_kept}
use Rattle.sa_model.specs.Leaving.{Leave, is_left, less_joined, without_member, left_group, left_in, left}
use Rattle.sa_model.specs.Sound.{pairwise, other_mgid, lower_mlid, may_have_made, is_sound_membership, is_in_range, is_sound_group, is_sound_partition, is_sound}
use Rattle.sa_model.proofs.ListLemmas.{all_map, all_filter, pairwise_map, pairwise_filter}
use Rattle.sa_model.proofs.SoundLemmas.{sound_parts, partition_parts, sound_partition}

-- ---- a leave
pub less_port : (leave : Leave) (base : ℕ) (group : MulticastGroup) (membership : Membership) → (less_joined leave base group membership).port ≡ membership.port
less_port leave base group membership = elim (cases_Bool (is_left leave base group membership)) [
  | inl its ↦ rw its refl
  | inr other ↦ rw other refl
]

left_members_sound : (ports : List SubnetPort) (base : ℕ) (leave : Leave) (of_base : ℕ) (group : MulticastGroup)
    → list_all (is_sound_membership ports base) group.memberships ≡ true
    → list_all (is_sound_membership ports base) (without_member leave of_base group) ≡ true
left_members_sound ports base leave of_base group all =
    all_filter (λ m. is_member ports base m.port) (λ m. is_joined m.join_state) (is_sound_membership ports base)
    (λ m e joined. and_from (is_member ports base m.port) (is_joined m.join_state) e joined)
    (map (less_joined leave of_base group) group.memberships)
    (all_map (is_sound_membership ports base) (λ m. is_member ports base m.port) (less_joined leave of_base group)
    (λ m e. ap (is_member ports base) (less_port leave of_base group m) ∙ (and_parts (is_member ports base m.port) (is_joined m.join_state) e).0) group.memberships all)

left_members_in_order : (leave : Leave) (base : ℕ) (group : MulticastGroup) → pairwise lower_port group.memberships ≡ true
    → pairwise lower_port (without_member leave base group) ≡ true
left_members_in_order leave base group apart =
    pairwise_filter lower_port (λ m. is_joined m.join_state) (map (less_joined leave base group) group.memberships)
    (pairwise_map lower_port (less_joined leave base group) (λ a b e. rw (less_port leave base group a, less_port leave base group b) e) group.memberships apart)

-- all that makes a group sound but that something keeps it
abbrev is_sound_unkept : List SubnetPort → PartitionGroups → MulticastGroup → Bool
is_sound_unkept ports partition group =
    may_have_made ports partition.base group.creator
    && (is_in_range partition.number group.mlid
    && (list_all (is_sound_membership ports partition.base) group.memberships
    && pairwise lower_port group.memberships))

left_group_sound : (ports : List SubnetPort) (partition : PartitionGroups) (leave : Leave) (group : MulticastGroup)
    → is_sound_group ports partition group ≡ true → is_sound_unkept ports partition (left_group leave partition.base group) ≡ true
left_group_sound ports partition leave group sound =
    let parts = sound_parts ports partition group sound in
    let after = without_member leave partition.base group in
    and_from (may_have_made ports partition.base group.creator) _ parts.made
    (and_from (is_in_range partition.number group.mlid) _ parts.ranged
    (and_from (list_all (is_sound_membership ports partition.base) after) (pairwise lower_port after)
    (left_members_sound ports partition.base leave partition.base group parts.members)
    (left_members_in_order leave partition.base group parts.by_port)))

left_in_sound : (ports : List SubnetPort) (leave : Leave) (partition : PartitionGroups) → is_sound_partition ports partition ≡ true
    → is_sound_partition ports (left_in ports leave partition) ≡ true
left_in_sound ports leave partition sound =
    let parts = partition_parts ports partition sound in
    let after = map (left_group leave partition.base) partition.groups in
    let kept = is_kept ports partition.base in
    sound_partition ports partition (filter kept after) (record {
      each = all_filter (is_sound_unkept ports partition) kept (is_sound_group ports partition)
          (λ g e stays. and_from (kept g) (is_sound_unkept ports partition g) stays e) after
          (all_map (is_sound_group ports partition) (is_sound_unkept ports partition) (left_group leave partition.base)
          (λ g e. left_group_sound ports partition leave g e) partition.groups parts.each);
      order = pairwise_filter lower_mlid kept after (pairwise_map lower_mlid (left_group leave partition.base) (λ a b e. e) partition.groups parts.order);
      apart = pairwise_filter other_mgid kept after (pairwise_map other_mgid (left_group leave partition.base) (λ a b e. e) partition.groups parts.apart);
    })

pub left_sound : (ports : List SubnetPort) (leave : Leave) (partitions : List PartitionGroups) → is_sound ports partitions ≡ true
    → is_sound ports (left ports leave partitions) ≡ true
left_sound ports leave partitions sound =
    all_map (is_sound_partition ports) (is_sound_partition ports) (left_in ports leave) (λ x e. left_in_sound ports leave x e) partitions sound
