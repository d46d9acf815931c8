-- What a join that is not refused leaves (IBA volume 1, 15.2.5).
use Rattle.std.specs.Prelude.{ℕ, ◌≡◌, ◌/◌, ◌%◌, ◌^◌, true, false, ◌||◌, nat_le, List, [], ◌∷◌, map, Some}
use Rattle.mad_layout.specs.declared.method.Method.TheVariants.{Set}
use Rattle.pkey_rules.specs.PKey.{base_of}
use Rattle.sa_records.specs.declared.mc_member_record.McMemberRecord.{McMemberRecord}
use Rattle.sa_records.specs.McMemberMask as member_mask
use Rattle.sa_records.specs.McMemberRecord.{group_in}
use Rattle.subnet_model.specs.Configuration.{ConfigurationState}
use Rattle.subnet_model.specs.Configured.{IsConfigured}
use Rattle.subnet_model.specs.Delivery.{port_with_guid}
use Rattle.subnet_model.specs.declared.subnet_port.SubnetPort.{SubnetPort}
use Rattle.sa_model.specs.Anchor.{free_mlid}
use Rattle.sa_model.specs.Groups.{Creator, GroupParameters, MulticastGroup, PartitionGroups}
use Rattle.sa_model.specs.JoinState.{JoinState}
use Rattle.sa_model.specs.Selected.{asks}
use Rattle.sa_model.specs.Visible.{SaState}
use Rattle.sa_replies.specs.Answer.{Administration, answer}
use Rattle.sa_replies.specs.Changed.{asks_for_group}
use Rattle.sa_replies.specs.Joins.{join_state_of}
use Rattle.sa_replies.specs.Laws.{AnswerRule, are_refusals}
use Rattle.sa_replies.specs.Request.{request_in}
use Rattle.sa_replies.specs.State.{IsStateOf}
use Rattle.sa_replies.specs.Taken.{IsGreatestOf, is_no_faster, life_fits, mtu_fits, our_life_times, our_mtus, our_rates, rate_fits}
use Rattle.sa_replies.specs.Registrations.{bits_of_either, groups_at, is_there, without_members, registered, bits_held, is_group, is_registration, partitions_at}

-- ---- what a new group is given. Q_Key, TClass, SL and FlowLabel are as asked. MTU, rate and PacketLifeTime are the greatest of
-- ours that satisfy what is asked. HopLimit and Scope are as asked if the mask names them, else 0 and the MGID's own
pub record IsGivenAsAsked (mask : ℕ) (asked : McMemberRecord) (given : GroupParameters) : Type 0 where
  pub q_key : given.q_key ≡ asked.q_key
  pub traffic_class : given.traffic_class ≡ asked.t_class
  pub service_level : given.service_level ≡ asked.sl
  pub flow_label : given.flow_label ≡ asked.flow_label
  pub mtu : IsGreatestOf our_mtus (mtu_fits mask asked) nat_le given.mtu
  pub rate : IsGreatestOf our_rates (rate_fits mask asked) is_no_faster given.rate
  pub life_time : IsGreatestOf our_life_times (life_fits mask asked) nat_le given.packet_life_time
  pub hop_limit_named : asks mask member_mask.hop_limit ≡ true → given.hop_limit ≡ asked.hop_limit
  pub no_hop_limit : asks mask member_mask.hop_limit ≡ false → given.hop_limit ≡ 0
  pub scope_named : asks mask member_mask.scope ≡ true → given.scope ≡ asked.scope
  pub scope_of_mgid : asks mask member_mask.scope ≡ false → given.scope ≡ asked.mgid / 2 ^ 112 % 16

-- the group that the port makes in the one partition of the base, with the least MLID of the partition that no group has
pub record IsMade (own : SubnetPort) (mask : ℕ) (asked : McMemberRecord) (before after : List PartitionGroups) : Type 0 where
  pub partition : PartitionGroups
  pub of_base : partitions_at (base_of asked.p_key) before ≡ partition ∷ []
  pub group : MulticastGroup
  pub there : groups_at (base_of asked.p_key) asked.mgid after ≡ group ∷ []
  pub mlid : free_mlid partition ≡ Some group.mlid
  pub maker : group.creator ≡ Creator.Port own.guid
  pub given : IsGivenAsAsked mask asked group.parameters

-- ---- the registration of a port in the group of this base and MGID has these bits besides its own. All other registrations
-- and groups are as before, and so are MLID, parameters and maker of this group if it was there
pub record IsEntered (port base mgid : ℕ) (bits : JoinState) (before after : List PartitionGroups) : Type 0 where
  pub own : registered port base mgid after ≡ bits_of_either (bits_held (registered port base mgid before)) bits ∷ []
  pub registrations : (p b m : ℕ) → is_registration port base mgid p b m ≡ false → registered p b m after ≡ registered p b m before
  pub groups : (b m : ℕ) → is_group base mgid b m ≡ false → groups_at b m after ≡ groups_at b m before
  pub there : (b m : ℕ) → is_there b m after ≡ (is_there b m before || is_group base mgid b m)
  pub as_before : is_there base mgid before ≡ true
      → map without_members (groups_at base mgid after) ≡ map without_members (groups_at base mgid before)

-- and a group that was not there is made
pub record IsJoinedBy (own : SubnetPort) (mask : ℕ) (asked : McMemberRecord) (before after : SaState) : Type 0 where
  pub entered : IsEntered own.guid (base_of asked.p_key) asked.mgid (join_state_of asked.join_state) before.partitions after.partitions
  pub made : is_there (base_of asked.p_key) asked.mgid before.partitions ≡ false
      → IsMade own mask asked before.partitions after.partitions
  pub services : after.services ≡ before.services

-- ---- what a rule for answers owes to a join that is not refused
abbrev pub EntersAsAsked : AnswerRule → Type 0
EntersAsAsked rule =
    (configuration : ConfigurationState) (own : SubnetPort) (payload : List ℕ) (state : Administration) → IsConfigured configuration
    → port_with_guid configuration.ports own.guid ≡ Some own → IsStateOf configuration state → asks_for_group Set payload ≡ true
    → are_refusals (rule configuration.ports own payload state).0 ≡ false
    → IsJoinedBy own (request_in payload).component_mask (group_in (request_in payload).content) state.remembered
    (rule configuration.ports own payload state).1.remembered

-- it holds of ours
abbrev pub JoinsLeaveTheRestAlone : Type 0
JoinsLeaveTheRestAlone = EntersAsAsked answer
