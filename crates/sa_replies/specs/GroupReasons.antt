-- Why a join and a leave are refused (IBA volume 1, 15.2.2 and 15.2.5).
use Rattle.std.specs.Prelude.{ℕ, ◌/◌, ◌^◌, ◌==◌, Bool, not, ◌&&◌, ◌||◌, nat_lt, List, [], ◌∷◌, ◌++◌, filter}
use Rattle.std.specs.List.{flat_map, list_all, list_any}
use Rattle.pkey_rules.specs.PKey.{base_of}
use Rattle.sa_records.specs.Component.{Component, on, satisfies}
use Rattle.sa_records.specs.McMemberMask as member_mask
use Rattle.sa_records.specs.McMemberRecord.{group_in}
use Rattle.sa_records.specs.Speed.{rate_satisfies}
use Rattle.sa_records.specs.declared.mc_member_record.McMemberRecord.{McMemberRecord}
use Rattle.subnet_model.specs.declared.subnet_port.SubnetPort.{SubnetPort}
use Rattle.sa_model.specs.Anchor.{mlid_range}
use Rattle.sa_model.specs.FreeMlid.{has_mlid}
use Rattle.sa_model.specs.Groups.{GroupParameters, PartitionGroups}
use Rattle.sa_model.specs.Joining.{has_mgid}
use Rattle.sa_model.specs.JoinState.{JoinState}
use Rattle.sa_model.specs.Members.{is_full_member, is_in}
use Rattle.sa_model.specs.Gid.{gid_of}
use Rattle.sa_model.specs.Selected.{asks}
use Rattle.sa_model.specs.Visible.{SaState}
use Rattle.sa_replies.specs.Joins.{join_state_of}
use Rattle.sa_replies.specs.Request.{Request}
use Rattle.sa_replies.specs.Taken.{life_fits, mtu_fits, our_life_times, our_mtus, our_rates, rate_fits}
use Rattle.sa_replies.specs.Left.{is_left_group}
use Rattle.sa_replies.specs.Registrations.{bits_of_both, groups_at, has_a_bit, is_there, partitions_at, states_in}
use Rattle.sa_replies.specs.Reasons.{Reason, because, insufficient_components, invalid_gid, lacks, names_unknown, no_resources, request_invalid}

-- ---- joins
-- the parameters that a request may name, and whether each is the group's
abbrev pub parameters_compared : McMemberRecord → GroupParameters → List Component
parameters_compared asked group =
    on member_mask.q_key (group.q_key == asked.q_key)
    ∷ on member_mask.mtu (satisfies asked.mtu_selector group.mtu asked.mtu)
    ∷ on member_mask.t_class (group.traffic_class == asked.t_class)
    ∷ on member_mask.rate (rate_satisfies asked.rate_selector group.rate asked.rate)
    ∷ on member_mask.packet_life_time (satisfies asked.packet_life_time_selector group.packet_life_time asked.packet_life_time)
    ∷ on member_mask.sl (group.service_level == asked.sl)
    ∷ on member_mask.flow_label (group.flow_label == asked.flow_label)
    ∷ on member_mask.hop_limit (group.hop_limit == asked.hop_limit)
    ∷ on member_mask.scope (group.scope == asked.scope)
    ∷ []

-- one that the mask names is not
abbrev pub disagrees : ℕ → McMemberRecord → GroupParameters → Bool
disagrees mask asked group = list_any (λ one. asks mask one.bits && not one.holds) (parameters_compared asked group)

-- none of ours satisfies what is asked
abbrev pub none_fits : ℕ → McMemberRecord → Bool
none_fits mask asked =
    not (list_any (mtu_fits mask asked) our_mtus)
    || (not (list_any (rate_fits mask asked) our_rates) || not (list_any (life_fits mask asked) our_life_times))

-- each MLID of the partition is some group's
abbrev pub is_full : ℕ → List PartitionGroups → Bool
is_full base partitions =
    list_all (λ partition. list_all (λ mlid. has_mlid mlid partition) (mlid_range partition.number)) (partitions_at base partitions)

-- to any group
abbrev pub reasons_to_join : SubnetPort → ℕ → McMemberRecord → List Reason
reasons_to_join own mask asked =
    because (lacks mask (member_mask.mgid ∷ member_mask.port_gid ∷ member_mask.p_key ∷ member_mask.join_state ∷ []))
    insufficient_components
    ∷ because (not (asked.port_gid == gid_of own.guid)) invalid_gid
    ∷ because (not (asked.mgid / 2 ^ 120 == 0xff) || not (is_in own (base_of asked.p_key))) request_invalid
    ∷ because (asked.join_state == 0 || nat_lt 7 asked.join_state) request_invalid
    ∷ because (asks mask member_mask.proxy_join && asked.proxy_join) request_invalid
    ∷ because (names_unknown mask member_mask.mtu 1 5 asked.mtu || names_unknown mask member_mask.rate 2 10 asked.rate) request_invalid
    ∷ []

-- to the group that is there, or one that is to be made: by a full member that joins as FullMember
abbrev pub reasons_by_group : List SubnetPort → SubnetPort → ℕ → McMemberRecord → List PartitionGroups → Bool → List Reason
reasons_by_group ports own mask asked partitions is_new =
    because (list_any (λ group. disagrees mask asked group.parameters) (groups_at (base_of asked.p_key) asked.mgid partitions)) request_invalid
    ∷ because (is_new && not (is_full_member ports (base_of asked.p_key) own.guid)) request_invalid
    ∷ because (is_new && not (join_state_of asked.join_state).full_member) request_invalid
    ∷ because (is_new && lacks mask (member_mask.q_key ∷ member_mask.t_class ∷ member_mask.sl ∷ member_mask.flow_label ∷ []))
    insufficient_components
    ∷ because (is_new && none_fits mask asked) request_invalid
    ∷ because (is_new && is_full (base_of asked.p_key) partitions) no_resources
    ∷ []

abbrev pub reasons_of_join : List SubnetPort → SubnetPort → SaState → Request → List Reason
reasons_of_join ports own state request =
    reasons_to_join own request.component_mask (group_in request.content)
    ++ reasons_by_group ports own request.component_mask (group_in request.content) state.partitions
    (not (is_there (base_of (group_in request.content).p_key) (group_in request.content).mgid state.partitions))

-- ---- leaves
-- the port holds one of these bits in the group of the MGID in this partition
abbrev pub holds_one_of : JoinState → JoinState → Bool
holds_one_of bits held = has_a_bit (bits_of_both held bits)

abbrev pub has_some_in : SubnetPort → McMemberRecord → PartitionGroups → Bool
has_some_in own asked partition =
    list_any (holds_one_of (join_state_of asked.join_state)) (flat_map (states_in own.guid) (filter (has_mgid asked.mgid) partition.groups))

-- in the partition of the P_Key, or in any if the mask does not name it
abbrev pub has_some_to_leave : SubnetPort → ℕ → McMemberRecord → List PartitionGroups → Bool
has_some_to_leave own mask asked partitions =
    list_any (λ partition. is_left_group mask asked partition.base asked.mgid && has_some_in own asked partition) partitions

abbrev pub reasons_of_leave : List SubnetPort → SubnetPort → SaState → Request → List Reason
reasons_of_leave ports own state request =
    because (lacks request.component_mask (member_mask.mgid ∷ member_mask.port_gid ∷ member_mask.join_state ∷ [])) insufficient_components
    ∷ because (not ((group_in request.content).port_gid == gid_of own.guid)) invalid_gid
    ∷ because ((group_in request.content).join_state == 0) request_invalid
    ∷ because (asks request.component_mask member_mask.p_key && not (is_in own (base_of (group_in request.content).p_key))) request_invalid
    ∷ because (not (has_some_to_leave own request.component_mask (group_in request.content) state.partitions)) request_invalid
    ∷ []
