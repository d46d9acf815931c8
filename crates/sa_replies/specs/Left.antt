-- What a leave that is not refused leaves (IBA volume 1, 15.2.5).
use Rattle.std.specs.Prelude.{ℕ, ◌≡◌, ◌==◌, Bool, true, false, not, ◌&&◌, ◌||◌, List, filter, map, Some}
use Rattle.std.specs.List.{list_any}
use Rattle.mad_layout.specs.declared.method.Method.TheVariants.{Delete}
use Rattle.pkey_rules.specs.PKey.{base_of}
use Rattle.sa_records.specs.declared.mc_member_record.McMemberRecord.{McMemberRecord}
use Rattle.sa_records.specs.McMemberMask as member_mask
use Rattle.sa_records.specs.McMemberRecord.{group_in}
use Rattle.subnet_model.specs.Configuration.{ConfigurationState}
use Rattle.subnet_model.specs.Configured.{IsConfigured}
use Rattle.subnet_model.specs.Delivery.{port_with_guid}
use Rattle.subnet_model.specs.declared.subnet_port.SubnetPort.{SubnetPort}
use Rattle.sa_model.specs.Anchor.{is_by_file}
use Rattle.sa_model.specs.Groups.{Membership, MulticastGroup, PartitionGroups}
use Rattle.sa_model.specs.Members.{is_full_member}
use Rattle.sa_model.specs.Selected.{asks}
use Rattle.sa_model.specs.Visible.{SaState}
use Rattle.sa_replies.specs.Answer.{Administration, answer}
use Rattle.sa_replies.specs.Changed.{asks_for_group}
use Rattle.sa_replies.specs.Joins.{join_state_of}
use Rattle.sa_replies.specs.Laws.{AnswerRule, are_refusals}
use Rattle.sa_replies.specs.Request.{request_in}
use Rattle.sa_replies.specs.State.{IsStateOf}
use Rattle.sa_replies.specs.Registrations.{bits_without, groups_at, has_a_bit, is_there, registered, without_members}

-- ---- which registrations it is about: the requester's in the groups of the MGID, in the partition of the P_Key, or in every
-- partition if the mask does not name P_Key
abbrev pub is_left_group : ℕ → McMemberRecord → ℕ → ℕ → Bool
is_left_group mask asked b m = (not (asks mask member_mask.p_key) || (b == base_of asked.p_key)) && (m == asked.mgid)

abbrev pub is_left : SubnetPort → ℕ → McMemberRecord → ℕ → ℕ → ℕ → Bool
is_left own mask asked p b m = (p == own.guid) && is_left_group mask asked b m

-- ---- a full member that is registered as FullMember anchors a group, unless the leave takes that bit
abbrev pub takes_full : SubnetPort → ℕ → McMemberRecord → ℕ → ℕ → ℕ → Bool
takes_full own mask asked p b m = is_left own mask asked p b m && (join_state_of asked.join_state).full_member

abbrev pub still_anchors : List SubnetPort → SubnetPort → ℕ → McMemberRecord → ℕ → ℕ → Membership → Bool
still_anchors ports own mask asked b m membership =
    is_full_member ports b membership.port
    && (membership.join_state.full_member && not (takes_full own mask asked membership.port b m))

-- a group stays if it is the partition file's, or if somebody still anchors it
abbrev pub stays : List SubnetPort → SubnetPort → ℕ → McMemberRecord → ℕ → ℕ → MulticastGroup → Bool
stays ports own mask asked b m group = is_by_file group.creator || list_any (still_anchors ports own mask asked b m) group.memberships

-- ---- a group is there if and only if it was there and stays, with MLID, parameters and maker as before. Of the groups that
-- are there the registrations in question have lost the bits, and are gone if none is left; all others are as before. A group
-- that the leave is not about is as before
pub record IsLeft (ports : List SubnetPort) (own : SubnetPort) (mask : ℕ) (asked : McMemberRecord) (before after : List PartitionGroups)
    : Type 0 where
  pub there : (b m : ℕ) → is_there b m after ≡ list_any (stays ports own mask asked b m) (groups_at b m before)
  pub as_before : (b m : ℕ) → is_there b m after ≡ true
      → map without_members (groups_at b m after) ≡ map without_members (groups_at b m before)
  pub taken : (p b m : ℕ) → is_left own mask asked p b m ≡ true → is_there b m after ≡ true
      → registered p b m after ≡ filter has_a_bit (map (bits_without (join_state_of asked.join_state)) (registered p b m before))
  pub registrations : (p b m : ℕ) → is_left own mask asked p b m ≡ false → is_there b m after ≡ true
      → registered p b m after ≡ registered p b m before
  pub groups : (b m : ℕ) → is_left_group mask asked b m ≡ false → groups_at b m after ≡ groups_at b m before

pub record IsLeftBy (ports : List SubnetPort) (own : SubnetPort) (mask : ℕ) (asked : McMemberRecord) (before after : SaState) : Type 0 where
  pub left : IsLeft ports own mask asked before.partitions after.partitions
  pub services : after.services ≡ before.services

-- ---- what a rule for answers owes to a leave that is not refused
abbrev pub LeavesAsAsked : AnswerRule → Type 0
LeavesAsAsked rule =
    (configuration : ConfigurationState) (own : SubnetPort) (payload : List ℕ) (state : Administration) → IsConfigured configuration
    → port_with_guid configuration.ports own.guid ≡ Some own → IsStateOf configuration state → asks_for_group Delete payload ≡ true
    → are_refusals (rule configuration.ports own payload state).0 ≡ false
    → IsLeftBy configuration.ports own (request_in payload).component_mask (group_in (request_in payload).content) state.remembered
    (rule configuration.ports own payload state).1.remembered

-- it holds of ours
abbrev pub LeavesLeaveTheRestAlone : Type 0
LeavesLeaveTheRestAlone = LeavesAsAsked answer
