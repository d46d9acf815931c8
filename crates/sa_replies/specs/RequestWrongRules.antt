-- Wrong rules for answers: joins and leaves that do too much or too little, fields that are looked at though the mask does not
-- name them, and requests that are refused too seldom or by another status.
use Rattle.std.specs.Prelude.{ℕ, ◌+◌, ◌==◌, not, bit_and, bit_or, bit_xor, if◌then◌else◌, List, [], filter, map}
use Rattle.mad_layout.specs.Bits.{field, put_field}
use Rattle.mad_layout.specs.declared.method.Method.{Method}
use Rattle.mad_layout.specs.declared.method.Method.TheVariants.{Set, GetTable, Delete}
use Rattle.sa_records.specs.McMemberMask as member_mask
use Rattle.sa_records.specs.PathMask as path_mask
use Rattle.sa_records.specs.ServiceMask as service_mask
use Rattle.subnet_model.specs.declared.subnet_port.SubnetPort.{SubnetPort}
use Rattle.sa_model.specs.Groups.{Creator, MulticastGroup, PartitionGroups}
use Rattle.sa_model.specs.Joining.{is_of}
use Rattle.sa_replies.specs.Answer.{Administration, Answered, answer}
use Rattle.sa_replies.specs.Changed.{asks_for_group}
use Rattle.sa_model.specs.JoinState.{JoinState}
use Rattle.sa_replies.specs.Joins.{join_state_of}
use Rattle.sa_replies.specs.Laws.{AnswerRule, asks_by}
use Rattle.sa_replies.specs.JoinStates.{ReadsJoinStates}
use Rattle.sa_replies.specs.Entered.{EntersAsAsked}
use Rattle.sa_replies.specs.Left.{LeavesAsAsked}
use Rattle.sa_replies.specs.Named.{LooksAtNamedFields}
use Rattle.sa_replies.specs.Refused.{RequestsAreRefusedBy}

-- ---- our answers, but that a request for groups by this method leaves other groups: those that this rule says, of the
-- requester and of what was there before and would be there after it
abbrev pub GroupsRule : Type 0
GroupsRule = SubnetPort → List PartitionGroups → List PartitionGroups → List PartitionGroups

abbrev pub with_partitions : List PartitionGroups → Administration → Administration
with_partitions partitions state = record state { remembered = record state.remembered { partitions = partitions } }

abbrev pub changed_once_more : GroupsRule → SubnetPort → Administration → Answered → Answered
changed_once_more rule own before answered = (
  answered.0,
  with_partitions (rule own before.remembered.partitions answered.1.remembered.partitions) answered.1,
)

abbrev pub answer_leaving : Method → GroupsRule → AnswerRule
answer_leaving method rule ports own payload state =
    if asks_for_group method payload
    then changed_once_more rule own state (answer ports own payload state)
    else answer ports own payload state

abbrev pub each_group : (MulticastGroup → MulticastGroup) → List PartitionGroups → List PartitionGroups
each_group change partitions = map (λ (partition : PartitionGroups). record partition { groups = map change partition.groups }) partitions

-- ---- a JoinState of which NonMember and SendOnlyNonMember are turned round
abbrev pub turned_round : ℕ → JoinState
turned_round bits = record {
  full_member = (join_state_of bits).full_member;
  non_member = (join_state_of bits).send_only_non_member;
  send_only_non_member = (join_state_of bits).non_member;
}

abbrev pub JoinStatesAreInOrder : Type 0
JoinStatesAreInOrder = ReadsJoinStates turned_round → ⊥

-- ---- joins
-- who joins is the maker from then on
abbrev pub joiner_is_maker : GroupsRule
joiner_is_maker own before after = each_group (λ (group : MulticastGroup). record group { creator = Creator.Port own.guid }) after

abbrev pub JoinersAreNoMakers : Type 0
JoinersAreNoMakers = EntersAsAsked (answer_leaving Set joiner_is_maker) → ⊥

-- who joins is alone from then on
abbrev pub others_are_thrown_out : GroupsRule
others_are_thrown_out own before after =
    each_group (λ (group : MulticastGroup). record group { memberships = filter (is_of own.guid) group.memberships }) after

abbrev pub JoinersThrowNobodyOut : Type 0
JoinersThrowNobodyOut = EntersAsAsked (answer_leaving Set others_are_thrown_out) → ⊥

-- the group gets another MLID
abbrev pub is_moved : GroupsRule
is_moved own before after = each_group (λ (group : MulticastGroup). record group { mlid = group.mlid + 1 }) after

abbrev pub JoinsMoveNoGroup : Type 0
JoinsMoveNoGroup = EntersAsAsked (answer_leaving Set is_moved) → ⊥

-- the group gets other parameters
abbrev pub has_other_key : GroupsRule
has_other_key own before after = each_group (λ (group : MulticastGroup). record group { parameters = record group.parameters { q_key = 0 } }) after

abbrev pub JoinsChangeNoParameters : Type 0
JoinsChangeNoParameters = EntersAsAsked (answer_leaving Set has_other_key) → ⊥

-- a new group is the partition file's
abbrev pub is_of_file : GroupsRule
is_of_file own before after = each_group (λ (group : MulticastGroup). record group { creator = Creator.PartitionFile }) after

abbrev pub NewGroupsHaveTheirMaker : Type 0
NewGroupsHaveTheirMaker = EntersAsAsked (answer_leaving Set is_of_file) → ⊥

-- ---- leaves
-- each leave ends each group
abbrev pub ends_all : GroupsRule
ends_all own before after = map (λ (partition : PartitionGroups). record partition { groups = [] }) after

abbrev pub AnchoredGroupsStay : Type 0
AnchoredGroupsStay = LeavesAsAsked (answer_leaving Delete ends_all) → ⊥

-- all leave with the one who does
abbrev pub all_leave : GroupsRule
all_leave own before after = each_group (λ (group : MulticastGroup). record group { memberships = [] }) after

abbrev pub OthersDoNotLeave : Type 0
OthersDoNotLeave = LeavesAsAsked (answer_leaving Delete all_leave) → ⊥

-- who leaves with some bits leaves with all
abbrev pub all_bits_are_taken : GroupsRule
all_bits_are_taken own before after =
    each_group (λ (group : MulticastGroup). record group { memberships = filter (λ membership. not (is_of own.guid membership)) group.memberships }) after

abbrev pub OtherBitsStay : Type 0
OtherBitsStay = LeavesAsAsked (answer_leaving Delete all_bits_are_taken) → ⊥

-- no group ever ends
abbrev pub ends_none : GroupsRule
ends_none own before after =
    each_group (λ (group : MulticastGroup). record group { memberships = filter (λ membership. not (is_of own.guid membership)) group.memberships }) before

abbrev pub GroupsEndWithTheirAnchors : Type 0
GroupsEndWithTheirAnchors = LeavesAsAsked (answer_leaving Delete ends_none) → ⊥

-- ---- our answers, but that a request by this method is answered as if its mask named these bits too
abbrev pub naming : ℕ → List ℕ → List ℕ
naming bits payload = put_field payload 384 64 (bit_or (field payload 384 64) bits)

abbrev pub answer_naming : Method → ℕ → AnswerRule
answer_naming method bits ports own payload state =
    if asks_by method payload then answer ports own (naming bits payload) state else answer ports own payload state

-- a new group's HopLimit and Scope are taken from the data, ProxyJoin is looked at, a service's lease is kept, and paths are
-- counted by NumbPath, whether the mask names them or not
abbrev pub HopLimitsAreNamed : Type 0
HopLimitsAreNamed = LooksAtNamedFields (answer_naming Set member_mask.hop_limit) → ⊥

abbrev pub UnnamedHopLimitsAreZero : Type 0
UnnamedHopLimitsAreZero = EntersAsAsked (answer_naming Set member_mask.hop_limit) → ⊥

abbrev pub ScopesAreNamed : Type 0
ScopesAreNamed = LooksAtNamedFields (answer_naming Set member_mask.scope) → ⊥

abbrev pub ProxiesAreNamed : Type 0
ProxiesAreNamed = LooksAtNamedFields (answer_naming Set member_mask.proxy_join) → ⊥

abbrev pub LeasesAreNamed : Type 0
LeasesAreNamed = LooksAtNamedFields (answer_naming Set service_mask.service_lease) → ⊥

abbrev pub CountsAreNamed : Type 0
CountsAreNamed = LooksAtNamedFields (answer_naming GetTable path_mask.numb_path) → ⊥

-- ---- requests that are answered though they are to be refused: those that lack a required component, or disagree with the group
abbrev pub JoinsNameTheirPort : Type 0
JoinsNameTheirPort = RequestsAreRefusedBy (answer_naming Set member_mask.port_gid) → ⊥

abbrev pub MakersNameTheKey : Type 0
MakersNameTheKey = RequestsAreRefusedBy (answer_naming Set member_mask.q_key) → ⊥

abbrev pub MakersNameTheClass : Type 0
MakersNameTheClass = RequestsAreRefusedBy (answer_naming Set member_mask.t_class) → ⊥

abbrev pub LeavesNameTheirPort : Type 0
LeavesNameTheirPort = RequestsAreRefusedBy (answer_naming Delete member_mask.port_gid) → ⊥

abbrev pub SetsNameTheirGid : Type 0
SetsNameTheirGid = RequestsAreRefusedBy (answer_naming Set service_mask.service_gid) → ⊥

abbrev pub SetsNameTheirPartition : Type 0
SetsNameTheirPartition = RequestsAreRefusedBy (answer_naming Set service_mask.service_p_key) → ⊥

abbrev pub PathsNameTheirSender : Type 0
PathsNameTheirSender = RequestsAreRefusedBy (answer_naming GetTable path_mask.slid) → ⊥

-- as if the mask did not name these bits
abbrev pub not_naming : ℕ → List ℕ → List ℕ
not_naming bits payload = put_field payload 384 64 (bit_xor (field payload 384 64) (bit_and (field payload 384 64) bits))

abbrev pub answer_not_naming : Method → ℕ → AnswerRule
answer_not_naming method bits ports own payload state =
    if asks_by method payload then answer ports own (not_naming bits payload) state else answer ports own payload state

abbrev pub JoinsAreComparedByClass : Type 0
JoinsAreComparedByClass = RequestsAreRefusedBy (answer_not_naming Set member_mask.t_class) → ⊥

abbrev pub JoinsAreComparedByLifeTime : Type 0
JoinsAreComparedByLifeTime = RequestsAreRefusedBy (answer_not_naming Set member_mask.packet_life_time) → ⊥

abbrev pub ProxiesAreRefused : Type 0
ProxiesAreRefused = RequestsAreRefusedBy (answer_not_naming Set member_mask.proxy_join) → ⊥

-- as if an MGID that begins with the byte 0xfe began with 0xff
abbrev pub as_multicast : List ℕ → List ℕ
as_multicast payload = if field payload 448 8 == 0xfe then put_field payload 448 8 0xff else payload

abbrev pub answer_as_multicast : AnswerRule
answer_as_multicast ports own payload state = answer ports own (as_multicast payload) state

abbrev pub MgidsAreMulticast : Type 0
MgidsAreMulticast = RequestsAreRefusedBy answer_as_multicast → ⊥

-- ---- a wrong GID is a request that is invalid, as if the MGID is judged before it
abbrev pub with_other_status : ℕ → ℕ → List ℕ → List ℕ
with_other_status status other mad = if field mad 32 16 == status then put_field mad 32 16 other else mad

abbrev pub answer_by_other_status : ℕ → ℕ → AnswerRule
answer_by_other_status status other ports own payload state =
    (map (with_other_status status other) (answer ports own payload state).0, (answer ports own payload state).1)

abbrev pub GidsAreJudgedFirst : Type 0
GidsAreJudgedFirst = RequestsAreRefusedBy (answer_by_other_status 0x0500 0x0200) → ⊥

-- a Get of several records, the Delete of a service that is not there, and a method that the SA does not know
abbrev pub SeveralAreTooMany : Type 0
SeveralAreTooMany = RequestsAreRefusedBy (answer_by_other_status 0x0400 0) → ⊥

abbrev pub MissingServicesAreNotDeleted : Type 0
MissingServicesAreNotDeleted = RequestsAreRefusedBy (answer_by_other_status 0x0300 0) → ⊥

abbrev pub MethodsAreJudgedFirst : Type 0
MethodsAreJudgedFirst = RequestsAreRefusedBy (answer_by_other_status 0x0008 0x000c) → ⊥
