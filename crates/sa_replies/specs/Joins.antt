-- What a Set and a Delete of an MCMemberRecord do (IBA volume 1, 15.2.5): a port joins a group, or leaves it.
use Rattle.std.specs.Prelude.{ℕ, ◌+◌, ◌*◌, ◌/◌, ◌%◌, ◌^◌, ◌==◌, Bool, not, ◌&&◌, ◌||◌, nat_lt, nat_le, bit_and, if◌then◌else◌}
use Rattle.std.specs.Prelude.{List, [], ◌∷◌, Option, Some, None, is_none, Result, Ok, filter, find}
use Rattle.std.specs.List.{flat_map, list_any}
use Rattle.mad_layout.specs.Bits.{bit_of}
use Rattle.mad_layout.specs.declared.status.MadStatus.{MadStatus}
use Rattle.mad_layout.specs.declared.status.MadStatus.TheVariants.{RequestInvalid, InvalidGid, InsufficientComponents, NoResources}
use Rattle.pkey_rules.specs.PKey.{base_of}
use Rattle.sa_records.specs.declared.mc_member_record.McMemberRecord.{McMemberRecord}
use Rattle.sa_records.specs.Component.{satisfies}
use Rattle.sa_records.specs.Speed.{rate_satisfies}
use Rattle.sa_records.specs.McMemberRecord.{mc_member_record_bytes, mc_member_record_selected}
use Rattle.sa_records.specs.McMemberMask as member_mask
use Rattle.sa_model.specs.Members.{is_in}
use Rattle.subnet_model.specs.declared.subnet_port.SubnetPort.{SubnetPort}
use Rattle.sa_model.specs.JoinState.{JoinState}
use Rattle.sa_model.specs.Groups.{GroupParameters, Membership, MulticastGroup, PartitionGroups}
use Rattle.sa_model.specs.Anchor.{free_mlid}
use Rattle.sa_model.specs.Joining.{Join, may_create, has_mgid, is_of, joined}
use Rattle.sa_model.specs.Leaving.{Leave, is_left, left}
use Rattle.sa_model.specs.Gid.{gid_of}
use Rattle.sa_model.specs.Visible.{SaState}
use Rattle.sa_model.specs.Shown.{group_record_of}
use Rattle.sa_model.specs.Selected.{asks}
use Rattle.sa_model.specs.Refusals.{Question, refused_if, first_refusal, asks_unknown_mtu, asks_unknown_rate}
use Rattle.sa_model.specs.Outcome.{unless_status}
use Rattle.sa_replies.specs.Success.{Success}

-- ---- JoinState as bits
abbrev pub join_state_of : ℕ → JoinState
join_state_of bits = record {
  full_member = bit_and bits 1 == 1;
  non_member = bit_and bits 2 == 2;
  send_only_non_member = bit_and bits 4 == 4;
}

abbrev pub bits_of_join_state : JoinState → ℕ
bits_of_join_state state = bit_of state.full_member + (2 * bit_of state.non_member + 4 * bit_of state.send_only_non_member)

-- ---- the group that is named, by base and MGID, and a port's record of it
abbrev pub group_named : ℕ → ℕ → List PartitionGroups → Option MulticastGroup
group_named base mgid partitions =
    find (has_mgid mgid) (flat_map (λ partition. partition.groups) (filter (λ partition. partition.base == base) partitions))

abbrev pub bits_of_member : Option Membership → ℕ
bits_of_member (Some membership) = bits_of_join_state membership.join_state
bits_of_member None = 0

-- with the port's GID and its bits
abbrev pub member_record : SubnetPort → ℕ → MulticastGroup → McMemberRecord
member_record own base group = record (group_record_of (record { base = base; group = group })) {
  port_gid = gid_of own.guid;
  join_state = bits_of_member (find (is_of own.guid) group.memberships);
}

abbrev pub member_bytes : SubnetPort → ℕ → Option MulticastGroup → List ℕ
member_bytes own base (Some group) = mc_member_record_bytes (member_record own base group)
member_bytes own base None = []

-- ---- why a join is refused. MGID, PortGID, P_Key and JoinState are required
abbrev pub is_multicast : ℕ → Bool
is_multicast mgid = mgid / 2 ^ 120 == 255

abbrev pub is_join_state : ℕ → Bool
is_join_state bits = nat_le 1 bits && nat_lt bits 8

abbrev pub join_questions : SubnetPort → ℕ → McMemberRecord → List Question
join_questions own mask asked =
    refused_if (not (asks mask (member_mask.mgid + member_mask.port_gid + member_mask.p_key + member_mask.join_state)))
    InsufficientComponents
    ∷ refused_if (not (asked.port_gid == gid_of own.guid)) InvalidGid
    ∷ refused_if (not (is_multicast asked.mgid)) RequestInvalid
    ∷ refused_if (not (is_in own (base_of asked.p_key))) RequestInvalid
    ∷ refused_if (not (is_join_state asked.join_state)) RequestInvalid
    ∷ refused_if (asks mask member_mask.proxy_join && asked.proxy_join) RequestInvalid
    ∷ refused_if (asks_unknown_mtu mask member_mask.mtu asked.mtu) RequestInvalid
    ∷ refused_if (asks_unknown_rate mask member_mask.rate asked.rate) RequestInvalid
    ∷ []

-- to a group that is there: all else that is asked agrees with it, except MLID and ProxyJoin
abbrev pub compared : ℕ
compared =
    member_mask.q_key + member_mask.mtu + member_mask.t_class + member_mask.rate + member_mask.packet_life_time
    + member_mask.sl + member_mask.flow_label + member_mask.hop_limit
    + member_mask.scope

abbrev pub agrees_with : ℕ → McMemberRecord → ℕ → MulticastGroup → Bool
agrees_with mask asked base group =
    mc_member_record_selected (bit_and mask compared) (group_record_of (record { base = base; group = group })) asked

-- to one that is not: it takes the greatest MTU, rate and PacketLifeTime that we have and that satisfies what is asked
abbrev pub mtu_taken : ℕ → McMemberRecord → Option ℕ
mtu_taken mask asked =
    find (λ mtu. not (asks mask member_mask.mtu) || satisfies asked.mtu_selector mtu asked.mtu) (4 ∷ 3 ∷ 2 ∷ 1 ∷ [])

abbrev pub rate_taken : ℕ → McMemberRecord → Option ℕ
rate_taken mask asked =
    find (λ rate. not (asks mask member_mask.rate) || rate_satisfies asked.rate_selector rate asked.rate) (3 ∷ 5 ∷ 2 ∷ [])

abbrev pub life_taken : ℕ → McMemberRecord → Option ℕ
life_taken mask asked =
    find (λ life. not (asks mask member_mask.packet_life_time)
    || satisfies asked.packet_life_time_selector life asked.packet_life_time) (18 ∷ [])

abbrev pub or_zero : Option ℕ → ℕ
or_zero (Some n) = n
or_zero None = 0

-- HopLimit is as asked or 0, Scope as asked or as the MGID has it
abbrev pub parameters_asked : ℕ → McMemberRecord → GroupParameters
parameters_asked mask asked = record {
  q_key = asked.q_key;
  mtu = or_zero (mtu_taken mask asked);
  traffic_class = asked.t_class;
  rate = or_zero (rate_taken mask asked);
  packet_life_time = or_zero (life_taken mask asked);
  service_level = asked.sl;
  flow_label = asked.flow_label;
  hop_limit = if asks mask member_mask.hop_limit then asked.hop_limit else 0;
  scope = if asks mask member_mask.scope then asked.scope else asked.mgid / 2 ^ 112 % 16;
}

abbrev pub join_asked : SubnetPort → ℕ → McMemberRecord → Join
join_asked own mask asked = record {
  port = own.guid;
  base = base_of asked.p_key;
  mgid = asked.mgid;
  join_state = join_state_of asked.join_state;
  parameters = parameters_asked mask asked;
}

abbrev pub has_free_mlid : ℕ → List PartitionGroups → Bool
has_free_mlid base partitions = list_any (λ partition. (partition.base == base) && not (is_none (free_mlid partition))) partitions

-- Q_Key, SL, FlowLabel and TClass are required, and an MLID has to be free
abbrev pub founding_by : List SubnetPort → SubnetPort → ℕ → McMemberRecord → Bool → List Question
founding_by ports own mask asked has_free =
    refused_if (not (may_create ports (join_asked own mask asked))) RequestInvalid
    ∷ refused_if (not (asks mask (member_mask.q_key + member_mask.t_class + member_mask.sl + member_mask.flow_label)))
    InsufficientComponents
    ∷ refused_if (is_none (mtu_taken mask asked)) RequestInvalid
    ∷ refused_if (is_none (rate_taken mask asked)) RequestInvalid
    ∷ refused_if (is_none (life_taken mask asked)) RequestInvalid
    ∷ refused_if (not has_free) NoResources
    ∷ []

abbrev pub group_questions : List SubnetPort → SubnetPort → ℕ → McMemberRecord → List PartitionGroups → Option MulticastGroup
    → List Question
group_questions ports own mask asked partitions (Some group) =
    refused_if (not (agrees_with mask asked (base_of asked.p_key) group)) RequestInvalid ∷ []
group_questions ports own mask asked partitions None =
    founding_by ports own mask asked (has_free_mlid (base_of asked.p_key) partitions)

-- ---- what comes of a join: the reply is the record of the group with the port in it
abbrev pub after_join : List SubnetPort → Join → SaState → SaState
after_join ports join state = record state { partitions = joined ports join state.partitions }

abbrev pub join_done : SubnetPort → Join → SaState → Success
join_done own join state = Success.one_reply (member_bytes own join.base (group_named join.base join.mgid state.partitions)) state

abbrev pub join_refusal : List SubnetPort → SubnetPort → ℕ → McMemberRecord → List PartitionGroups → Option MadStatus
join_refusal ports own mask asked partitions =
    first_refusal (group_questions ports own mask asked partitions (group_named (base_of asked.p_key) asked.mgid partitions))

abbrev pub join_outcome : List SubnetPort → SubnetPort → SaState → ℕ → McMemberRecord → Result Success MadStatus
join_outcome ports own state mask asked =
    unless_status (first_refusal (join_questions own mask asked))
    (unless_status (join_refusal ports own mask asked state.partitions)
    (Ok (join_done own (join_asked own mask asked) (after_join ports (join_asked own mask asked) state))))

-- ---- a leave, in the base that is asked or in each base: its reply has the request's own data
abbrev pub leave_asked : SubnetPort → ℕ → McMemberRecord → Leave
leave_asked own mask asked = record {
  port = own.guid;
  base = if asks mask member_mask.p_key then Some (base_of asked.p_key) else None;
  mgid = asked.mgid;
  join_state = join_state_of asked.join_state;
}

-- some bit of a membership is taken
abbrev pub has_bit_of : JoinState → JoinState → Bool
has_bit_of asked held =
    (held.full_member && asked.full_member)
    || ((held.non_member && asked.non_member) || (held.send_only_non_member && asked.send_only_non_member))

abbrev pub is_taken_from : Leave → ℕ → MulticastGroup → Membership → Bool
is_taken_from leave base group membership = is_left leave base group membership && has_bit_of leave.join_state membership.join_state

abbrev pub takes_some : Leave → List PartitionGroups → Bool
takes_some leave partitions =
    list_any (λ partition. list_any (λ group. list_any (is_taken_from leave partition.base group) group.memberships)
    partition.groups) partitions

-- MGID, PortGID and JoinState are required, and some bit has to be taken
abbrev pub leaving_by : SubnetPort → ℕ → McMemberRecord → Bool → List Question
leaving_by own mask asked takes =
    refused_if (not (asks mask (member_mask.mgid + member_mask.port_gid + member_mask.join_state))) InsufficientComponents
    ∷ refused_if (not (asked.port_gid == gid_of own.guid)) InvalidGid
    ∷ refused_if (asked.join_state == 0) RequestInvalid
    ∷ refused_if (asks mask member_mask.p_key && not (is_in own (base_of asked.p_key))) RequestInvalid
    ∷ refused_if (not takes) RequestInvalid
    ∷ []

abbrev pub leave_questions : SubnetPort → SaState → ℕ → McMemberRecord → List Question
leave_questions own state mask asked = leaving_by own mask asked (takes_some (leave_asked own mask asked) state.partitions)

abbrev pub leave_outcome : List SubnetPort → SubnetPort → SaState → ℕ → McMemberRecord → List ℕ → Result Success MadStatus
leave_outcome ports own state mask asked content =
    unless_status (first_refusal (leave_questions own state mask asked))
    (Ok (Success.one_reply content (record state { partitions = left ports (leave_asked own mask asked) state.partitions })))
