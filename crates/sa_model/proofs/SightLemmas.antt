-- What a port sees of groups when a port joins or leaves.
use Rattle.std.proofs.Common.{ℕ, Bool, true, false, ◌==◌, ◌&&◌, ◌||◌, List, [], ◌∷◌, map, filter}
use Rattle.std.proofs.Common.{◌≡◌, ◌∙◌, ap, refl, sym, inl, inr}
use Rattle.std.specs.List.{list_all}
use Rattle.std.proofs.lemmas.Bool.{cases_Bool, both_ways, false_from_ne_true, and_from, and_parts, or_right, eqb-true}
use Rattle.step_results.proofs.ListLemmas.{list_any_weaker}
use Rattle.pkey_rules.specs.PKey.{key_of}
use Rattle.pkey_rules.specs.KeyTable.{accepts, holds, shares}
use Rattle.subnet_model.specs.declared.subnet_port.SubnetPort.{SubnetPort}
use Rattle.subnet_model.specs.Near.{is_near, ports_share, shares_with}
use Rattle.subnet_model.proofs.IsolationLemmas.{shares_from_holder}
use Rattle.sa_model.specs.JoinState.{is_joined}
use Rattle.sa_model.specs.Members.{is_member, is_full_member}
use Rattle.sa_model.specs.Groups.{Membership, MulticastGroup, PartitionGroups}
use Rattle.sa_model.specs.Anchor.{anchors, is_kept, is_by_file}
use Rattle.sa_model.specs.Joining.{is_of}
use Rattle.sa_model.specs.Leaving.{Leave, less_joined, without_member, left_group, left_in, left}
use Rattle.sa_model.specs.Sound.{is_sound_membership, is_sound_group, is_sound_partition, is_sound}
use Rattle.sa_model.specs.Sight.{group_seen, partition_seen, seen, Alike}
use Rattle.sa_model.proofs.SoundLemmas.{sound_parts, partition_parts}
use Rattle.sa_model.proofs.LeaveSoundLemmas.{less_port, left_sound}
use Rattle.sa_model.proofs.ListLemmas.{all_filter}
use Rattle.step_results.proofs.FilterLemmas.{filter_commutes, any_within, filter_map_same, map_swap, filter_map_idle, filter_map_idle_of}

-- a full member of a partition is near each of its members
pub full_member_is_near : (ports : List SubnetPort) (base p q : ℕ) → is_full_member ports base q ≡ true → is_member ports base p ≡ true
    → is_near ports p q ≡ true
full_member_is_near ports base p q full member =
    or_right (q == p) (ports_share ports p q)
    (list_any_weaker (λ port. (port.guid == p) && accepts (key_of base true) port.keys) (λ port. (port.guid == p) && shares_with ports port q)
    (λ port e. let parts : ((port.guid == p) ≡ true) × (accepts (key_of base true) port.keys ≡ true) = and_parts (port.guid == p) (accepts (key_of base true) port.keys) e in
    and_from (port.guid == p) (shares_with ports port q) parts.0
    (list_any_weaker (λ other. (other.guid == q) && holds (key_of base true) other.keys) (λ other. (other.guid == q) && shares port.keys other.keys)
    (λ other h. let held : ((other.guid == q) ≡ true) × (holds (key_of base true) other.keys ≡ true) = and_parts (other.guid == q) (holds (key_of base true) other.keys) h in
    and_from (other.guid == q) (shares port.keys other.keys) held.0
    (shares_from_holder (key_of base true) other.keys port.keys held.1 parts.1))
    ports full))
    ports member)

abbrev is_seen : List SubnetPort → ℕ → Membership → Bool
is_seen ports p membership = is_near ports p membership.port

-- ---- what keeps a group is seen
kept_seen : (ports : List SubnetPort) (p base : ℕ) → is_member ports base p ≡ true → (group : MulticastGroup)
    → is_kept ports base (group_seen ports p group) ≡ is_kept ports base group
kept_seen ports p base member group =
    ap (λ some. is_by_file group.creator || some)
    (any_within (anchors ports base) (is_seen ports p)
    (λ m e. full_member_is_near ports base p m.port (and_parts m.join_state.full_member (is_full_member ports base m.port) e).1 member) group.memberships)

-- ---- a leave
less_seen : (ports : List SubnetPort) (p : ℕ) (leave : Leave) (base : ℕ) (group : MulticastGroup) (m : Membership)
    → is_seen ports p (less_joined leave base group m) ≡ is_seen ports p m
less_seen ports p leave base group m = ap (is_near ports p) (less_port leave base group m)

left_members_seen : (ports : List SubnetPort) (p : ℕ) (leave : Leave) (base : ℕ) (group : MulticastGroup)
    → filter (is_seen ports p) (without_member leave base group) ≡ without_member leave base (group_seen ports p group)
left_members_seen ports p leave base group =
    filter_commutes (is_seen ports p) (λ m. is_joined m.join_state) (map (less_joined leave base group) group.memberships)
    ∙ ap (filter (λ m. is_joined m.join_state)) (filter_map_same (is_seen ports p) (less_joined leave base group) (less_seen ports p leave base group) group.memberships)

left_group_seen : (ports : List SubnetPort) (p : ℕ) (leave : Leave) (base : ℕ) (group : MulticastGroup)
    → group_seen ports p (left_group leave base group) ≡ left_group leave base (group_seen ports p group)
left_group_seen ports p leave base group =
    ap (λ members. record group { memberships = members }) (left_members_seen ports p leave base group)

left_in_seen : (ports : List SubnetPort) (p : ℕ) (leave : Leave) (partition : PartitionGroups) → is_member ports partition.base p ≡ true
    → partition_seen ports p (left_in ports leave partition) ≡ left_in ports leave (partition_seen ports p partition)
left_in_seen ports p leave partition member =
    ap (λ groups. record partition { groups = groups })
    (sym (filter_map_same (is_kept ports partition.base) (group_seen ports p) (kept_seen ports p partition.base member) (map (left_group leave partition.base) partition.groups))
    ∙ ap (filter (is_kept ports partition.base)) (map_swap (group_seen ports p) (left_group leave partition.base) (left_group_seen ports p leave partition.base) partition.groups))

-- ---- a leave of a port that is far
far_other : (ports : List SubnetPort) (p q : ℕ) (m : Membership) → is_near ports p q ≡ false → is_seen ports p m ≡ true → is_of q m ≡ false
far_other ports p q m far here =
    false_from_ne_true (m.port == q) (λ same. both_ways (is_near ports p q) far (ap (is_near ports p) (sym (eqb-true m.port q same)) ∙ here))

far_less : (ports : List SubnetPort) (p : ℕ) (leave : Leave) (base : ℕ) (group : MulticastGroup) (m : Membership)
    → is_near ports p leave.port ≡ false → is_seen ports p m ≡ true → less_joined leave base group m ≡ m
far_less ports p leave base group m far here = rw (far_other ports p leave.port m far here) refl

far_left_members : (ports : List SubnetPort) (p : ℕ) (leave : Leave) (base : ℕ) (group : MulticastGroup) → is_near ports p leave.port ≡ false
    → list_all (is_sound_membership ports base) group.memberships ≡ true
    → without_member leave base (group_seen ports p group) ≡ filter (is_seen ports p) group.memberships
far_left_members ports p leave base group far sound =
    filter_map_idle (λ m. is_seen ports p m && is_joined m.join_state) (λ m. is_joined m.join_state) (less_joined leave base group)
    (λ m e. far_less ports p leave base group m far (and_parts (is_seen ports p m) (is_joined m.join_state) e).0)
    (λ m e. (and_parts (is_seen ports p m) (is_joined m.join_state) e).1)
    (filter (is_seen ports p) group.memberships)
    (all_filter (is_sound_membership ports base) (is_seen ports p) (λ m. is_seen ports p m && is_joined m.join_state)
    (λ m e here. and_from (is_seen ports p m) (is_joined m.join_state) here (and_parts (is_member ports base m.port) (is_joined m.join_state) e).1) group.memberships sound)

far_left_group : (ports : List SubnetPort) (p : ℕ) (leave : Leave) (partition : PartitionGroups) (group : MulticastGroup) → is_near ports p leave.port ≡ false
    → is_sound_group ports partition group ≡ true → left_group leave partition.base (group_seen ports p group) ≡ group_seen ports p group
far_left_group ports p leave partition group far sound =
    ap (λ members. record group { memberships = members }) (far_left_members ports p leave partition.base group far (sound_parts ports partition group sound).members)

far_left_groups : (ports : List SubnetPort) (p : ℕ) (leave : Leave) (partition : PartitionGroups) → is_member ports partition.base p ≡ true
    → is_near ports p leave.port ≡ false → (groups : List MulticastGroup) → list_all (is_sound_group ports partition) groups ≡ true
    → filter (is_kept ports partition.base) (map (left_group leave partition.base) (map (group_seen ports p) groups)) ≡ map (group_seen ports p) groups
far_left_groups ports p leave partition member far groups sound =
    filter_map_idle_of (is_sound_group ports partition) (is_kept ports partition.base) (left_group leave partition.base) (group_seen ports p)
    (λ g e. far_left_group ports p leave partition g far e)
    (λ g e. kept_seen ports p partition.base member g ∙ (sound_parts ports partition g e).kept) groups sound

far_left_in : (ports : List SubnetPort) (p : ℕ) (leave : Leave) (partition : PartitionGroups) → is_member ports partition.base p ≡ true
    → is_near ports p leave.port ≡ false → is_sound_partition ports partition ≡ true
    → partition_seen ports p (left_in ports leave partition) ≡ partition_seen ports p partition
far_left_in ports p leave partition member far sound =
    left_in_seen ports p leave partition member
    ∙ ap (λ groups. record partition { groups = groups })
    (far_left_groups ports p leave partition member far partition.groups (partition_parts ports partition sound).each)

-- ---- a change of each partition, and what is seen of it
pub seen_change : (ports : List SubnetPort) (p : ℕ) (f g : PartitionGroups → PartitionGroups) → ((x : PartitionGroups) → (f x).base ≡ x.base)
    → ((x : PartitionGroups) → is_member ports x.base p ≡ true → is_sound_partition ports x ≡ true → partition_seen ports p (f x) ≡ g (partition_seen ports p x))
    → (partitions : List PartitionGroups) → is_sound ports partitions ≡ true → seen ports p (map f partitions) ≡ map g (seen ports p partitions)
seen_change ports p f g based changes [] sound = refl
seen_change ports p f g based changes (x ∷ xs) sound =
    let both = and_parts (is_sound_partition ports x) (is_sound ports xs) sound in
    elim (cases_Bool (is_member ports x.base p)) [
      | inl member ↦ rw (ap (λ base. is_member ports base p) (based x) ∙ member, member, changes x member both.0) (ap (λ rest. g (partition_seen ports p x) ∷ rest) (seen_change ports p f g based changes xs both.1))
      | inr outside ↦ rw (ap (λ base. is_member ports base p) (based x) ∙ outside, outside) (seen_change ports p f g based changes xs both.1)
    ]

pub seen_absorbs : (ports : List SubnetPort) (p : ℕ) (f : PartitionGroups → PartitionGroups) → ((x : PartitionGroups) → (f x).base ≡ x.base)
    → ((x : PartitionGroups) → is_member ports x.base p ≡ true → is_sound_partition ports x ≡ true → partition_seen ports p (f x) ≡ partition_seen ports p x)
    → (partitions : List PartitionGroups) → is_sound ports partitions ≡ true → seen ports p (map f partitions) ≡ seen ports p partitions
seen_absorbs ports p f based changes [] sound = refl
seen_absorbs ports p f based changes (x ∷ xs) sound =
    let both = and_parts (is_sound_partition ports x) (is_sound ports xs) sound in
    elim (cases_Bool (is_member ports x.base p)) [
      | inl member ↦ rw (ap (λ base. is_member ports base p) (based x) ∙ member, member, changes x member both.0) (ap (λ rest. partition_seen ports p x ∷ rest) (seen_absorbs ports p f based changes xs both.1))
      | inr outside ↦ rw (ap (λ base. is_member ports base p) (based x) ∙ outside, outside) (seen_absorbs ports p f based changes xs both.1)
    ]

pub near_leave : (ports : List SubnetPort) (p : ℕ) (leave : Leave) (s t : List PartitionGroups) → Alike ports p s t
    → Alike ports p (left ports leave s) (left ports leave t)
near_leave ports p leave s t alike = record {
  left_sound = left_sound ports leave s alike.left_sound;
  right_sound = left_sound ports leave t alike.right_sound;
  same = seen_change ports p (left_in ports leave) (left_in ports leave) (λ x. refl) (λ x member sound. left_in_seen ports p leave x member) s alike.left_sound
      ∙ (ap (map (left_in ports leave)) alike.same
      ∙ sym (seen_change ports p (left_in ports leave) (left_in ports leave) (λ x. refl) (λ x member sound. left_in_seen ports p leave x member) t alike.right_sound));
}

pub far_leave : (ports : List SubnetPort) (p : ℕ) (leave : Leave) (s t : List PartitionGroups) → is_near ports p leave.port ≡ false → Alike ports p s t
    → Alike ports p (left ports leave s) t
far_leave ports p leave s t far alike = record {
  left_sound = left_sound ports leave s alike.left_sound;
  right_sound = alike.right_sound;
  same = seen_absorbs ports p (left_in ports leave) (λ x. refl) (λ x member sound. far_left_in ports p leave x member far sound) s alike.left_sound ∙ alike.same;
}
