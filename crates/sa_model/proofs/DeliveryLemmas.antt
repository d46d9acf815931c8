-- Whom a packet reaches by groups: only ports near its sender, and by what they see.
use Rattle.std.proofs.Common.{ℕ, true, false, not, ◌==◌, ◌&&◌, ◌||◌, List, [], ◌∷◌, Some, None}
use Rattle.std.proofs.Common.{◌≡◌, ◌∙◌, ap, refl, sym, inl, inr}
use Rattle.std.specs.List.{list_any}
use Rattle.std.proofs.lemmas.Bool.{cases_Bool, both_ways, false_from_ne_true, and_left, and_right, and_parts, or_left, eqb-true}
use Rattle.step_results.proofs.ListLemmas.{none_passes}
use Rattle.fabric_parts.specs.NodeType.{is_switch_type}
use Rattle.pkey_rules.specs.KeyTable.{accepts}
use Rattle.subnet_model.specs.declared.subnet_port.SubnetPort.{SubnetPort}
use Rattle.subnet_model.specs.declared.command.SendCommand.{SendCommand}
use Rattle.subnet_model.specs.Delivery.{port_with_guid, refusal_of}
use Rattle.subnet_model.specs.Near.{is_near, ports_share}
use Rattle.subnet_model.proofs.IsolationLemmas.{held_unless_refused, reached_is_near as joined_is_near}
use Rattle.sa_model.specs.JoinState.{is_joined, is_receiver}
use Rattle.sa_model.specs.Members.{is_member}
use Rattle.sa_model.specs.Groups.{Membership, MulticastGroup, PartitionGroups}
use Rattle.sa_model.specs.Joining.{is_of}
use Rattle.sa_model.specs.Delivery.{receives, receives_in, is_receiver_of, reaches_by_groups}
use Rattle.sa_model.specs.Sound.{is_sound_membership, is_sound_group, is_sound_partition, is_sound}
use Rattle.sa_model.specs.Sight.{group_seen, partition_seen, seen, Alike}
use Rattle.sa_model.proofs.SoundLemmas.{sound_parts, partition_parts}
use Rattle.step_results.proofs.FilterLemmas.{any_within, any_map_same}

-- ---- only ports near the sender
pub reached_is_near : (ports : List SubnetPort) (partitions : List PartitionGroups) (p : ℕ) (command : SendCommand) (sender : SubnetPort)
    → port_with_guid ports command.port_guid ≡ Some sender → refusal_of sender command ≡ None
    → list_any (λ port. (port.guid == p) && reaches_by_groups partitions command port) ports ≡ true → is_near ports p command.port_guid ≡ true
reached_is_near ports partitions p command sender found sends reached =
    joined_is_near ports (is_receiver_of partitions command.dlid) p sender command found (held_unless_refused sender command sends) reached

-- ---- what is seen says who receives
own_is_seen : (ports : List SubnetPort) (p : ℕ) (m : Membership) → receives p m ≡ true → is_near ports p m.port ≡ true
own_is_seen ports p m e = or_left (m.port == p) (ports_share ports p m.port) (and_parts (is_of p m) (is_receiver m.join_state) e).0

group_receives : (ports : List SubnetPort) (p mlid : ℕ) (group : MulticastGroup)
    → (((group_seen ports p group).mlid == mlid) && list_any (receives p) (group_seen ports p group).memberships) ≡ ((group.mlid == mlid) && list_any (receives p) group.memberships)
group_receives ports p mlid group =
    ap (λ some. (group.mlid == mlid) && some) (any_within (receives p) (λ m. is_near ports p m.port) (λ m e. own_is_seen ports p m e) group.memberships)

partition_receives : (ports : List SubnetPort) (p mlid : ℕ) (partition : PartitionGroups)
    → receives_in mlid p (partition_seen ports p partition) ≡ receives_in mlid p partition
partition_receives ports p mlid partition =
    any_map_same (λ group. (group.mlid == mlid) && list_any (receives p) group.memberships) (λ group. (group.mlid == mlid) && list_any (receives p) group.memberships)
    (group_seen ports p) (λ group. group_receives ports p mlid group) partition.groups

other_receives : (ports : List SubnetPort) (p base : ℕ) (m : Membership) → is_member ports base p ≡ false → is_sound_membership ports base m ≡ true
    → receives p m ≡ false
other_receives ports p base m outside sound =
    and_left (is_of p m) (is_receiver m.join_state)
    (false_from_ne_true (m.port == p)
    (λ same. both_ways (is_member ports base p) outside
    (ap (is_member ports base) (sym (eqb-true m.port p same)) ∙ (and_parts (is_member ports base m.port) (is_joined m.join_state) sound).0)))

outside_receives : (ports : List SubnetPort) (p mlid : ℕ) (partition : PartitionGroups) → is_member ports partition.base p ≡ false
    → is_sound_partition ports partition ≡ true → receives_in mlid p partition ≡ false
outside_receives ports p mlid partition outside sound =
    none_passes (is_sound_group ports partition) (λ group. (group.mlid == mlid) && list_any (receives p) group.memberships)
    (λ group e. and_right (group.mlid == mlid) (list_any (receives p) group.memberships)
    (none_passes (is_sound_membership ports partition.base) (receives p) (λ m one. other_receives ports p partition.base m outside one)
    group.memberships (sound_parts ports partition group e).members))
    partition.groups (partition_parts ports partition sound).each

seen_receives : (ports : List SubnetPort) (p mlid : ℕ) (partitions : List PartitionGroups) → is_sound ports partitions ≡ true
    → is_receiver_of (seen ports p partitions) mlid p ≡ is_receiver_of partitions mlid p
seen_receives ports p mlid [] sound = refl
seen_receives ports p mlid (x ∷ xs) sound =
    let both = and_parts (is_sound_partition ports x) (is_sound ports xs) sound in
    elim (cases_Bool (is_member ports x.base p)) [
      | inl member ↦ rw (member, partition_receives ports p mlid x, seen_receives ports p mlid xs both.1) refl
      | inr outside ↦ rw (outside, outside_receives ports p mlid x outside both.0) (seen_receives ports p mlid xs both.1)
    ]

pub receives_alike : (ports : List SubnetPort) (p mlid : ℕ) (s t : List PartitionGroups) → Alike ports p s t → is_receiver_of s mlid p ≡ is_receiver_of t mlid p
receives_alike ports p mlid s t alike =
    sym (seen_receives ports p mlid s alike.left_sound) ∙ (ap (λ partitions. is_receiver_of partitions mlid p) alike.same ∙ seen_receives ports p mlid t alike.right_sound)

pub reaches_alike : (ports : List SubnetPort) (s t : List PartitionGroups) (command : SendCommand) (port : SubnetPort) → Alike ports port.guid s t
    → reaches_by_groups s command port ≡ reaches_by_groups t command port
reaches_alike ports s t command port alike =
    ap (λ receiver. ((receiver && not (port.guid == command.port_guid)) || (port.lid == command.dlid)) && (not (is_switch_type port.node_type) && accepts command.p_key port.keys))
    (receives_alike ports port.guid command.dlid s t alike)
