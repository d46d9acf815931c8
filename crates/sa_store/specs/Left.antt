-- What leaves do to slots.
use Rattle.std.specs.Prelude.{ℕ, ◌≡◌, ◌<◌, ◌^◌, ◌==◌, Bool, true, false, ◌&&◌, ◌||◌, if◌then◌else◌, List, filter, map}
use Rattle.std.specs.Prelude.{Option, None, Some}
use Rattle.std.specs.List.{list_all, list_any}
use Rattle.std.specs.Option.{option_map_or}
use Rattle.subnet_model.specs.declared.subnet_port.SubnetPort.{SubnetPort}
use Rattle.sa_model.specs.Anchor.{anchors, is_by_file}
use Rattle.sa_model.specs.Groups.{Membership, lower_port}
use Rattle.sa_model.specs.JoinState.{is_joined, without_bits}
use Rattle.sa_model.specs.Joining.{is_of}
use Rattle.sa_model.specs.Leaving.{Leave}
use Rattle.sa_model.specs.Members.{is_full_member}
use Rattle.sa_model.specs.Sound.{pairwise}
use Rattle.sa_replies.specs.Joins.{has_bit_of}
use Rattle.sa_store.specs.MlidRange.{SlotGroup}

-- a membership of the port that leaves, of which some bit is taken
abbrev pub loses_some : Leave → Membership → Bool
loses_some leave membership = is_of leave.port membership && has_bit_of leave.join_state membership.join_state

-- there is one in the group of its MGID in this slot
abbrev pub takes_from : Leave → Option SlotGroup → Bool
takes_from leave slot = option_map_or (λ group. (group.mgid == leave.mgid) && list_any (loses_some leave) group.memberships) slot false

-- ---- a port leaves a group: its membership loses bits, and goes without any
abbrev pub takes_part : Membership → Bool
takes_part membership = is_joined membership.join_state

abbrev pub less_by : Leave → Membership → Membership
less_by leave membership =
    if is_of leave.port membership
    then record { port = membership.port; join_state = without_bits leave.join_state membership.join_state }
    else membership

abbrev pub left_by : Leave → SlotGroup → SlotGroup
left_by leave group = record group { memberships = filter takes_part (map (less_by leave) group.memberships) }

-- memberships that stand by port, and each of them takes part
abbrev pub are_settled : List Membership → Bool
are_settled memberships = pairwise lower_port memberships && list_all takes_part memberships

abbrev pub is_settled : Option SlotGroup → Bool
is_settled slot = option_map_or (λ group. are_settled group.memberships) slot true

-- ---- what keeps a group
-- a test of GUIDs reports the full members of the partition of a base
abbrev pub ReportsFull : (ℕ → Bool → Type 0) → List SubnetPort → ℕ → Type 0
ReportsFull test ports base = (guid : ℕ) (reported : Bool) → guid < 2 ^ 64 → test guid reported → reported ≡ is_full_member ports base guid

abbrev pub is_kept : List SubnetPort → ℕ → SlotGroup → Bool
is_kept ports base group = is_by_file group.creator || list_any (anchors ports base) group.memberships

-- a group that nothing keeps is dropped
abbrev pub kept_only : List SubnetPort → ℕ → SlotGroup → Option SlotGroup
kept_only ports base group = if is_kept ports base group then Some group else None

abbrev pub left_slot : List SubnetPort → ℕ → Leave → Option SlotGroup → Option SlotGroup
left_slot ports base leave None = None
left_slot ports base leave (Some group) = kept_only ports base (left_by leave group)
