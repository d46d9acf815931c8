-- Who receives what is sent to the groups of a partition, and where that changes, in words that code computes.
use Rattle.std.specs.Prelude.{ℕ, ◌≡◌, ◌<◌, ◌^◌, ◌==◌, Bool, false, not, ◌&&◌, ◌||◌, if◌then◌else◌, List, [], ◌∷◌, Option, None, Some}
use Rattle.std.specs.List.{list_any}
use Rattle.fabric_parts.specs.NodeType.{is_switch_type}
use Rattle.subnet_model.specs.declared.subnet_port.SubnetPort.{SubnetPort}
use Rattle.sa_model.specs.Groups.{Membership, PartitionGroups}
use Rattle.sa_model.specs.JoinState.{is_receiver, without_bits}
use Rattle.sa_model.specs.Joining.{is_of}
use Rattle.sa_model.specs.Leaving.{Leave}
use Rattle.sa_model.specs.Receivers.{are_same_receivers, receivers_in}
use Rattle.sa_store.specs.Left.{is_kept, left_by}
use Rattle.sa_store.specs.MlidRange.{SlotGroup}

-- ---- the port of this GUID is one of a channel adapter
abbrev pub is_adapter : List SubnetPort → ℕ → Bool
is_adapter ports guid = list_any (λ port. (port.guid == guid) && not (is_switch_type port.node_type)) ports

-- a test of GUIDs reports them
abbrev pub ReportsAdapters : (ℕ → Bool → Type 0) → List SubnetPort → Type 0
ReportsAdapters test ports = (guid : ℕ) (reported : Bool) → guid < 2 ^ 64 → test guid reported → reported ≡ is_adapter ports guid

-- by this membership such a port receives
abbrev pub is_receiving : List SubnetPort → Membership → Bool
is_receiving ports membership = is_receiver membership.join_state && is_adapter ports membership.port

-- ---- others receive in a partition after than before
abbrev pub has_changed : List SubnetPort → PartitionGroups → PartitionGroups → Bool
has_changed ports before after = not (are_same_receivers (receivers_in ports before) (receivers_in ports after))

-- of partitions as they stand before and after, the numbers of those where it is so
abbrev pub numbers_changed : List SubnetPort → List PartitionGroups → List PartitionGroups → List ℕ
numbers_changed ports (before ∷ befores) (after ∷ afters) =
    if has_changed ports before after then before.number ∷ numbers_changed ports befores afters else numbers_changed ports befores afters
numbers_changed ports _ _ = []

-- ---- a leave: the port received by its membership, and does so no more
abbrev pub is_lost_by : Leave → Membership → Bool
is_lost_by leave membership =
    is_of leave.port membership
    && (is_receiver membership.join_state && not (is_receiver (without_bits leave.join_state membership.join_state)))

abbrev pub loses : Leave → SlotGroup → Bool
loses leave group = list_any (is_lost_by leave) group.memberships

-- others receive what is sent to the group in a slot: the port that leaves does not, or nobody, since the group is dropped
abbrev pub slot_changes : List SubnetPort → ℕ → Leave → Option SlotGroup → Bool
slot_changes ports base leave None = false
slot_changes ports base leave (Some group) =
    (loses leave group && is_adapter ports leave.port)
    || (not (is_kept ports base (left_by leave group)) && list_any (is_receiving ports) (left_by leave group).memberships)
