-- What a port sees of groups when a port joins.
use Rattle.std.proofs.Common.{ℕ, Bool, true, false, not, ◌==◌, ◌&&◌, nat_lt, List, [], ◌∷◌, map, filter, Option, Some, None}
use Rattle.std.proofs.Common.{◌≡◌, ◌∙◌, ap, refl, sym, inl, inr}
use Rattle.std.specs.List.{list_all, list_any}
use Rattle.std.proofs.lemmas.Bool.{cases_Bool, both_ways, false_from_ne_true, and_parts, eqb-true}
use Rattle.std.proofs.lemmas.List.Elements.{filter-append}
use Rattle.subnet_model.specs.declared.subnet_port.SubnetPort.{SubnetPort}
use Rattle.subnet_model.specs.Near.{is_near}
use Rattle.sa_model.specs.Members.{is_member, is_full_member}
use Rattle.sa_model.specs.Groups.{Membership, MulticastGroup, PartitionGroups, lower_port}
use Rattle.sa_model.specs.Anchor.{free_mlid, mlid_range}
use Rattle.sa_model.specs.Joining.{Join, may_join, may_create, has_mgid, is_of, new_membership, in_place, more_joined, with_member, joined_group, new_group, with_group, with_created, joined_groups, joined_in, joined}
use Rattle.sa_model.specs.Sound.{pairwise, is_sound_group, is_sound_partition}
use Rattle.sa_model.specs.Sight.{group_seen, partition_seen, Alike}
use Rattle.sa_model.proofs.SoundLemmas.{sound_parts, partition_parts}
use Rattle.sa_model.proofs.InPlaceLemmas.{lower_ones, higher_ones, nothing_lost}
use Rattle.sa_model.proofs.JoinSoundLemmas.{more_port, joined_sound}
use Rattle.step_results.proofs.FilterLemmas.{any_within, filter_commutes, any_map_same, find_same, filter_map_same, filter_map_absorbs, map_swap}
use Rattle.sa_model.proofs.SightLemmas.{full_member_is_near, seen_change, seen_absorbs}

abbrev is_seen : List SubnetPort → ℕ → Membership → Bool
is_seen ports p membership = is_near ports p membership.port

-- of one element that is kept, or is not
kept_one : {X : Type 0} (keep : X → Bool) (x : X) → keep x ≡ true → filter keep (x ∷ []) ≡ x ∷ []
kept_one keep x h = rw h refl

more_seen : (ports : List SubnetPort) (p : ℕ) (join : Join) (m : Membership) → is_seen ports p (more_joined join m) ≡ is_seen ports p m
more_seen ports p join m = ap (is_near ports p) (more_port join m)

-- ---- a port that is near
its_own_seen : (ports : List SubnetPort) (p q : ℕ) (m : Membership) → is_near ports p q ≡ true → is_of q m ≡ true → is_seen ports p m ≡ true
its_own_seen ports p q m near its = ap (is_near ports p) (eqb-true m.port q its) ∙ near

members_there : (join : Join) (ms : List Membership) → list_any (is_of join.port) ms ≡ true → with_member join ms ≡ map (more_joined join) ms
members_there join ms there = rw there refl

members_new : (join : Join) (ms : List Membership) → list_any (is_of join.port) ms ≡ false → with_member join ms ≡ in_place (new_membership join) ms
members_new join ms none = rw none refl

-- a filter that keeps the new one goes through its place
near_in_place : (keep : Membership → Bool) (new : Membership) → keep new ≡ true → (ms : List Membership)
    → filter keep (in_place new ms) ≡ in_place new (filter keep ms)
near_in_place keep new kept ms =
    filter-append keep (lower_ones new ms) (new ∷ higher_ones new ms)
    ∙ rw (kept, filter_commutes keep (λ m. lower_port m new) ms, filter_commutes keep (λ m. lower_port new m) ms) refl

near_members : (ports : List SubnetPort) (p : ℕ) (join : Join) (ms : List Membership) → is_near ports p join.port ≡ true
    → filter (is_seen ports p) (with_member join ms) ≡ with_member join (filter (is_seen ports p) ms)
near_members ports p join ms near =
    let same : list_any (is_of join.port) (filter (is_seen ports p) ms) ≡ list_any (is_of join.port) ms =
    any_within (is_of join.port) (is_seen ports p) (λ m its. its_own_seen ports p join.port m near its) ms in
    elim (cases_Bool (list_any (is_of join.port) ms)) [
      | inl there ↦
          ap (filter (is_seen ports p)) (members_there join ms there)
          ∙ (filter_map_same (is_seen ports p) (more_joined join) (more_seen ports p join) ms
          ∙ sym (members_there join (filter (is_seen ports p) ms) (same ∙ there)))
      | inr new ↦
          ap (filter (is_seen ports p)) (members_new join ms new)
          ∙ (near_in_place (is_seen ports p) (new_membership join) near ms
          ∙ sym (members_new join (filter (is_seen ports p) ms) (same ∙ new)))
    ]

near_group : (ports : List SubnetPort) (p : ℕ) (join : Join) (group : MulticastGroup) → is_near ports p join.port ≡ true
    → group_seen ports p (joined_group join group) ≡ joined_group join (group_seen ports p group)
near_group ports p join group near = elim (cases_Bool (has_mgid join.mgid group)) [
  | inl this ↦ rw this (ap (λ members. record group { memberships = members }) (near_members ports p join group.memberships near))
  | inr other ↦ rw other refl
]

new_group_seen : (ports : List SubnetPort) (p : ℕ) (join : Join) (mlid : ℕ) → is_near ports p join.port ≡ true
    → group_seen ports p (new_group join mlid) ≡ new_group join mlid
new_group_seen ports p join mlid near =
    ap (λ members. record (new_group join mlid) { memberships = members }) (kept_one (is_seen ports p) (new_membership join) near)

with_group_seen : (ports : List SubnetPort) (p : ℕ) (new : MulticastGroup) (groups : List MulticastGroup)
    → map (group_seen ports p) (with_group new groups) ≡ with_group (group_seen ports p new) (map (group_seen ports p) groups)
with_group_seen ports p new [] = refl
with_group_seen ports p new (group ∷ groups) = elim (cases_Bool (nat_lt new.mlid group.mlid)) [
  | inl before ↦ rw before refl
  | inr behind ↦ rw behind (ap (λ rest. group_seen ports p group ∷ rest) (with_group_seen ports p new groups))
]

pub free_seen : (ports : List SubnetPort) (p : ℕ) (partition : PartitionGroups) → free_mlid (partition_seen ports p partition) ≡ free_mlid partition
free_seen ports p partition =
    find_same (λ n. not (list_any (λ group. group.mlid == n) (map (group_seen ports p) partition.groups))) (λ n. not (list_any (λ group. group.mlid == n) partition.groups))
    (λ n. ap not (any_map_same (λ group. group.mlid == n) (λ group. group.mlid == n) (group_seen ports p) (λ group. refl) partition.groups))
    (mlid_range partition.number)

near_created : (ports : List SubnetPort) (p : ℕ) (join : Join) (mlid : Option ℕ) (groups : List MulticastGroup) → is_near ports p join.port ≡ true
    → map (group_seen ports p) (with_created join mlid groups) ≡ with_created join mlid (map (group_seen ports p) groups)
near_created ports p join None groups near = refl
near_created ports p join (Some mlid) groups near =
    with_group_seen ports p (new_group join mlid) groups
    ∙ ap (λ new. with_group new (map (group_seen ports p) groups)) (new_group_seen ports p join mlid near)

mgid_seen : (ports : List SubnetPort) (p mgid : ℕ) (groups : List MulticastGroup)
    → list_any (has_mgid mgid) (map (group_seen ports p) groups) ≡ list_any (has_mgid mgid) groups
mgid_seen ports p mgid groups = any_map_same (has_mgid mgid) (has_mgid mgid) (group_seen ports p) (λ group. refl) groups

near_groups : (ports : List SubnetPort) (p : ℕ) (join : Join) (partition : PartitionGroups) → is_near ports p join.port ≡ true
    → map (group_seen ports p) (joined_groups ports join partition) ≡ joined_groups ports join (partition_seen ports p partition)
near_groups ports p join partition near = elim (cases_Bool (list_any (has_mgid join.mgid) partition.groups)) [
  | inl there ↦ rw (there, mgid_seen ports p join.mgid partition.groups ∙ there)
      (map_swap (group_seen ports p) (joined_group join) (λ g. near_group ports p join g near) partition.groups)
  | inr none ↦ elim (cases_Bool (may_create ports join)) [
    | inl create ↦ rw (none, mgid_seen ports p join.mgid partition.groups ∙ none, create)
        (near_created ports p join (free_mlid partition) partition.groups near
        ∙ ap (λ mlid. with_created join mlid (map (group_seen ports p) partition.groups)) (sym (free_seen ports p partition)))
    | inr not_full ↦ rw (none, mgid_seen ports p join.mgid partition.groups ∙ none, not_full) refl
  ]
]

near_in : (ports : List SubnetPort) (p : ℕ) (join : Join) (partition : PartitionGroups) → is_near ports p join.port ≡ true
    → partition_seen ports p (joined_in ports join partition) ≡ joined_in ports join (partition_seen ports p partition)
near_in ports p join partition near = elim (cases_Bool ((partition.base == join.base) && may_join ports join)) [
  | inl allowed ↦ rw allowed (ap (λ groups. record partition { groups = groups }) (near_groups ports p join partition near))
  | inr refused ↦ rw refused refl
]

-- ---- a port that is far
far_other : (ports : List SubnetPort) (p q : ℕ) (m : Membership) → is_near ports p q ≡ false → is_seen ports p m ≡ true → is_of q m ≡ false
far_other ports p q m far here =
    false_from_ne_true (m.port == q) (λ same. both_ways (is_near ports p q) far (ap (is_near ports p) (sym (eqb-true m.port q same)) ∙ here))

far_more : (ports : List SubnetPort) (p : ℕ) (join : Join) (m : Membership) → is_near ports p join.port ≡ false → is_seen ports p m ≡ true
    → more_joined join m ≡ m
far_more ports p join m far here = rw (far_other ports p join.port m far here) refl

-- one that drops it sees those that stood there
far_in_place : (keep : Membership → Bool) (new : Membership) → keep new ≡ false → (ms : List Membership)
    → list_any (is_of new.port) ms ≡ false → pairwise lower_port ms ≡ true → filter keep (in_place new ms) ≡ filter keep ms
far_in_place keep new dropped ms none order =
    filter-append keep (lower_ones new ms) (new ∷ higher_ones new ms)
    ∙ (rw dropped (sym (filter-append keep (lower_ones new ms) (higher_ones new ms)))
    ∙ ap (filter keep) (nothing_lost new ms none order))

far_members : (ports : List SubnetPort) (p : ℕ) (join : Join) (ms : List Membership) → is_near ports p join.port ≡ false
    → pairwise lower_port ms ≡ true → filter (is_seen ports p) (with_member join ms) ≡ filter (is_seen ports p) ms
far_members ports p join ms far order = elim (cases_Bool (list_any (is_of join.port) ms)) [
  | inl there ↦
      ap (filter (is_seen ports p)) (members_there join ms there)
      ∙ filter_map_absorbs (is_seen ports p) (more_joined join) (more_seen ports p join) (λ m here. far_more ports p join m far here) ms
  | inr new ↦
      ap (filter (is_seen ports p)) (members_new join ms new)
      ∙ far_in_place (is_seen ports p) (new_membership join) far ms new order
]

far_group : (ports : List SubnetPort) (p : ℕ) (join : Join) (partition : PartitionGroups) (group : MulticastGroup) → is_near ports p join.port ≡ false
    → is_sound_group ports partition group ≡ true → group_seen ports p (joined_group join group) ≡ group_seen ports p group
far_group ports p join partition group far sound = elim (cases_Bool (has_mgid join.mgid group)) [
  | inl this ↦ rw this (ap (λ members. record group { memberships = members })
      (far_members ports p join group.memberships far (sound_parts ports partition group sound).by_port))
  | inr other ↦ rw other refl
]

far_joined : (ports : List SubnetPort) (p : ℕ) (join : Join) (partition : PartitionGroups) (groups : List MulticastGroup) → is_near ports p join.port ≡ false
    → list_all (is_sound_group ports partition) groups ≡ true → map (group_seen ports p) (map (joined_group join) groups) ≡ map (group_seen ports p) groups
far_joined ports p join partition [] far sound = refl
far_joined ports p join partition (group ∷ groups) far sound =
    let parts = and_parts (is_sound_group ports partition group) (list_all (is_sound_group ports partition) groups) sound in
    rw (far_group ports p join partition group far parts.0, far_joined ports p join partition groups far parts.1) refl

far_groups : (ports : List SubnetPort) (p : ℕ) (join : Join) (partition : PartitionGroups) → is_near ports p join.port ≡ false
    → is_member ports join.base p ≡ true → is_sound_partition ports partition ≡ true
    → map (group_seen ports p) (joined_groups ports join partition) ≡ map (group_seen ports p) partition.groups
far_groups ports p join partition far member sound = elim (cases_Bool (list_any (has_mgid join.mgid) partition.groups)) [
  | inl there ↦ rw there (far_joined ports p join partition partition.groups far (partition_parts ports partition sound).each)
  | inr none ↦ elim (cases_Bool (may_create ports join)) [
    | inl create ↦ absurd (both_ways (is_near ports p join.port) far
        (full_member_is_near ports join.base p join.port (and_parts (is_full_member ports join.base join.port) join.join_state.full_member create).0 member))
    | inr not_full ↦ rw (none, not_full) refl
  ]
]

far_in : (ports : List SubnetPort) (p : ℕ) (join : Join) (partition : PartitionGroups) → is_near ports p join.port ≡ false
    → is_member ports partition.base p ≡ true → is_sound_partition ports partition ≡ true
    → partition_seen ports p (joined_in ports join partition) ≡ partition_seen ports p partition
far_in ports p join partition far member sound = elim (cases_Bool ((partition.base == join.base) && may_join ports join)) [
  | inl allowed ↦
      let same : partition.base ≡ join.base = eqb-true partition.base join.base (and_parts (partition.base == join.base) (may_join ports join) allowed).0 in
      rw allowed (ap (λ groups. record partition { groups = groups })
      (far_groups ports p join partition far (ap (λ base. is_member ports base p) (sym same) ∙ member) sound))
  | inr refused ↦ rw refused refl
]

-- ---- in all partitions
joined_base : (ports : List SubnetPort) (join : Join) (partition : PartitionGroups) → (joined_in ports join partition).base ≡ partition.base
joined_base ports join partition = elim (cases_Bool ((partition.base == join.base) && may_join ports join)) [
  | inl allowed ↦ rw allowed refl
  | inr refused ↦ rw refused refl
]

pub near_join : (ports : List SubnetPort) (p : ℕ) (join : Join) (s t : List PartitionGroups) → is_near ports p join.port ≡ true → Alike ports p s t
    → Alike ports p (joined ports join s) (joined ports join t)
near_join ports p join s t near alike = record {
  left_sound = joined_sound ports join s alike.left_sound;
  right_sound = joined_sound ports join t alike.right_sound;
  same = seen_change ports p (joined_in ports join) (joined_in ports join) (joined_base ports join) (λ x member sound. near_in ports p join x near) s alike.left_sound
      ∙ (ap (map (joined_in ports join)) alike.same
      ∙ sym (seen_change ports p (joined_in ports join) (joined_in ports join) (joined_base ports join) (λ x member sound. near_in ports p join x near) t alike.right_sound));
}

pub far_join : (ports : List SubnetPort) (p : ℕ) (join : Join) (s t : List PartitionGroups) → is_near ports p join.port ≡ false → Alike ports p s t
    → Alike ports p (joined ports join s) t
far_join ports p join s t far alike = record {
  left_sound = joined_sound ports join s alike.left_sound;
  right_sound = alike.right_sound;
  same = seen_absorbs ports p (joined_in ports join) (joined_base ports join) (λ x member sound. far_in ports p join x far member sound) s alike.left_sound ∙ alike.same;
}
