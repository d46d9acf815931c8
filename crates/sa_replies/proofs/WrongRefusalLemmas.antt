-- Requests that are to be refused, and rules that answer them otherwise.
use Rattle.std.proofs.Common.{ℕ, ◌+◌, Bool, true, false, ◌==◌, List, [], ◌∷◌, length, replicate, ap, refl, sym}
use Rattle.std.specs.Int.Digits.{AllBelowBase}
use Rattle.std.proofs.lemmas.Bool.{false≢true}
use Rattle.mad_layout.specs.Bits.{field, put_field}
use Rattle.rmpp_core.proofs.ReadBackLemmas.{reply_below}
use Rattle.rmpp_core.specs.Reply.{reply_bytes}
use Rattle.rmpp_core.specs.Segments.{segment_of}
use Rattle.sa_records.specs.McMemberMask as member_mask
use Rattle.sa_records.specs.McMemberRecord.{mc_member_record_bytes, mc_member_record_selected, group_in}
use Rattle.sa_records.specs.NodeRecord.{node_in, node_record_bytes, node_record_selected}
use Rattle.sa_records.specs.PathMask as path_mask
use Rattle.sa_records.specs.PathRecord.{path_in, path_record_bytes, path_record_selected}
use Rattle.sa_records.specs.ServiceMask as service_mask
use Rattle.sa_records.specs.ServiceRecord.{service_in, service_record_bytes}
use Rattle.sa_records.specs.Speed.{speed_of}
use Rattle.sa_records.specs.declared.mc_member_record.McMemberRecord.{McMemberRecord}
use Rattle.sa_model.specs.JoinState.{JoinState}
use Rattle.sa_model.specs.QueryExamples.{path_asked}
use Rattle.sa_model.specs.Gid.{gid_of}
use Rattle.sa_replies.specs.Answer.{Administration, answer}
use Rattle.sa_replies.specs.Examples.{asking, group_asked, header_of, making_mask}
use Rattle.sa_replies.specs.Reply.{no_rmpp}
use Rattle.sa_replies.specs.Request.{request_in}
use Rattle.sa_replies.specs.State.{IsStateOf, at_start}
use Rattle.sa_replies.proofs.OpenTableLemmas.{answers_keep_states, starts_are_states}
use Rattle.sa_replies.specs.RequestWrongRules.{GidsAreJudgedFirst, JoinsAreComparedByClass, JoinsAreComparedByLifeTime, JoinsNameTheirPort, LeavesNameTheirPort, MakersNameTheClass, MakersNameTheKey, MethodsAreJudgedFirst, MgidsAreMulticast, MissingServicesAreNotDeleted, OtherBitsStay, PathsNameTheirSender, ProxiesAreRefused, SetsNameTheirGid, SetsNameTheirPartition, SeveralAreTooMany}
use Rattle.sa_replies.proofs.RequestWrongLemmas.{first, made, made_is, second, two, two_is_configured}

abbrev is_answered : List ℕ → Bool
is_answered [] = false
is_answered (status ∷ statuses) = status == 0

-- ---- by this method, mask and record of a group
abbrev about_group : ℕ → ℕ → McMemberRecord → List ℕ
about_group method mask one = asking (header_of method 1 0x38) no_rmpp mask (mc_member_record_bytes one)

group_below : (method mask : ℕ) (one : McMemberRecord) → AllBelowBase 256 (about_group method mask one)
group_below method mask one = reply_below _ _ _

abbrev needed : ℕ
needed = member_mask.mgid + member_mask.port_gid + member_mask.p_key + member_mask.join_state

abbrev without_port : ℕ
without_port =
    member_mask.mgid + member_mask.q_key + member_mask.t_class + member_mask.p_key + member_mask.sl + member_mask.flow_label
    + member_mask.join_state

abbrev without_key : ℕ
without_key =
    member_mask.mgid + member_mask.port_gid + member_mask.t_class + member_mask.p_key + member_mask.sl + member_mask.flow_label
    + member_mask.join_state

abbrev plain : McMemberRecord
plain = group_asked 0x101 0x1234 0xffff

pub joins_name_their_port : JoinsNameTheirPort
unfolding field put_field reply_bytes request_in group_in mc_member_record_bytes mc_member_record_selected speed_of
joins_name_their_port law =
    false≢true (sym (ap is_answered (law.joins two first (about_group 2 without_port plain) (at_start two) two_is_configured refl (starts_are_states two two_is_configured) (group_below 2 without_port plain) refl refl)))

pub makers_name_the_key : MakersNameTheKey
unfolding field put_field reply_bytes request_in group_in mc_member_record_bytes mc_member_record_selected speed_of
makers_name_the_key law =
    false≢true (sym (ap is_answered (law.joins two first (about_group 2 without_key plain) (at_start two) two_is_configured refl (starts_are_states two two_is_configured) (group_below 2 without_key plain) refl refl)))

pub leaves_name_their_port : LeavesNameTheirPort
unfolding field put_field reply_bytes request_in group_in mc_member_record_bytes mc_member_record_selected speed_of
leaves_name_their_port law =
    false≢true (sym (ap is_answered (law.leaves two first (about_group 0x15 (member_mask.mgid + member_mask.join_state) plain) made two_is_configured refl made_is (group_below 0x15 (member_mask.mgid + member_mask.join_state) plain) refl refl)))

pub joins_are_compared_by_class : JoinsAreComparedByClass
unfolding field put_field reply_bytes request_in group_in mc_member_record_bytes mc_member_record_selected speed_of
joins_are_compared_by_class law =
    false≢true (sym (ap is_answered (law.joins two second (about_group 2 (needed + member_mask.t_class) (record (group_asked 0x102 0 0xffff) { t_class = 5 })) made two_is_configured refl made_is (group_below 2 (needed + member_mask.t_class) (record (group_asked 0x102 0 0xffff) { t_class = 5 })) refl refl)))

abbrev without_class : ℕ
without_class =
    member_mask.mgid + member_mask.port_gid + member_mask.q_key + member_mask.p_key + member_mask.sl + member_mask.flow_label
    + member_mask.join_state

pub makers_name_the_class : MakersNameTheClass
unfolding field put_field reply_bytes request_in group_in mc_member_record_bytes mc_member_record_selected speed_of
makers_name_the_class law =
    false≢true (sym (ap is_answered (law.joins two first (about_group 2 without_class plain) (at_start two) two_is_configured refl (starts_are_states two two_is_configured) (group_below 2 without_class plain) refl refl)))

pub joins_are_compared_by_life_time : JoinsAreComparedByLifeTime
unfolding field put_field reply_bytes request_in group_in mc_member_record_bytes mc_member_record_selected speed_of
joins_are_compared_by_life_time law =
    false≢true (sym (ap is_answered (law.joins two second (about_group 2 (needed + member_mask.packet_life_time) (record (group_asked 0x102 0 0xffff) { packet_life_time = 18 })) made two_is_configured refl made_is (group_below 2 (needed + member_mask.packet_life_time) (record (group_asked 0x102 0 0xffff) { packet_life_time = 18 })) refl refl)))

pub proxies_are_refused : ProxiesAreRefused
unfolding field put_field reply_bytes request_in group_in mc_member_record_bytes mc_member_record_selected speed_of
proxies_are_refused law =
    false≢true (sym (ap is_answered (law.joins two second (about_group 2 (needed + member_mask.proxy_join) (record (group_asked 0x102 0 0xffff) { proxy_join = true })) made two_is_configured refl made_is (group_below 2 (needed + member_mask.proxy_join) (record (group_asked 0x102 0 0xffff) { proxy_join = true })) refl refl)))

abbrev wrongly_named : McMemberRecord
wrongly_named = record plain { mgid = 0xfe12000000000000000000000000000a }

pub mgids_are_multicast : MgidsAreMulticast
unfolding field put_field reply_bytes request_in group_in mc_member_record_bytes mc_member_record_selected speed_of
mgids_are_multicast law =
    false≢true (sym (ap is_answered (law.joins two first (about_group 2 making_mask wrongly_named) (at_start two) two_is_configured refl (starts_are_states two two_is_configured) (group_below 2 making_mask wrongly_named) refl refl)))

-- ---- a group whose maker joins with two bits, and leaves with one of them
abbrev with_two_bits : List ℕ
with_two_bits = about_group 2 making_mask (record plain { join_state = 3 })

abbrev made_with_two : Administration
made_with_two = (answer two.ports first with_two_bits (at_start two)).1

made_with_two_is : IsStateOf two made_with_two
made_with_two_is = answers_keep_states two first with_two_bits (at_start two) two_is_configured refl (starts_are_states two two_is_configured)

abbrev leaving_with_one : List ℕ
leaving_with_one = about_group 0x15 (member_mask.mgid + member_mask.port_gid + member_mask.join_state) (record plain { join_state = 2 })

pub other_bits_stay : OtherBitsStay
unfolding field put_field reply_bytes request_in group_in mc_member_record_bytes mc_member_record_selected speed_of
other_bits_stay law =
    false≢true (sym (ap (λ (states : List JoinState). length states == 0)
    ((law two first leaving_with_one made_with_two two_is_configured refl made_with_two_is refl refl).left.taken 0x101 0x7fff 0xff12000000000000000000000000000a refl refl)))

-- ---- a join by another port's GID
abbrev is_invalid : List ℕ → Bool
is_invalid [] = false
is_invalid (status ∷ statuses) = status == 0x0200

pub gids_are_judged_first : GidsAreJudgedFirst
unfolding field put_field reply_bytes request_in group_in mc_member_record_bytes mc_member_record_selected speed_of
gids_are_judged_first law =
    false≢true (sym (ap is_invalid
    (law.joins two second (about_group 2 making_mask plain) (at_start two) two_is_configured refl (starts_are_states two two_is_configured) (group_below 2 making_mask plain) refl refl)))

-- ---- the Set of a service without its P_Key, and a GetTable of paths by nobody
abbrev setting : ℕ → List ℕ
setting mask =
    asking (header_of 2 1 0x31) no_rmpp mask
    (service_record_bytes (record {
      service_id = 1;
      service_gid = gid_of 0x101;
      service_p_key = 0xffff;
      service_lease = 0;
      service_key = 0;
      service_name = replicate 64 0;
      service_data = replicate 64 0;
    }))

setting_below : (mask : ℕ) → AllBelowBase 256 (setting mask)
setting_below mask = reply_below _ _ _

pub sets_name_their_gid : SetsNameTheirGid
unfolding field put_field reply_bytes request_in service_in service_record_bytes
sets_name_their_gid law =
    let mask = service_mask.service_id + service_mask.service_p_key in
    false≢true (sym (ap is_answered (law.sets two first (setting mask) (at_start two) two_is_configured refl (starts_are_states two two_is_configured) (setting_below mask) refl refl)))

pub sets_name_their_partition : SetsNameTheirPartition
unfolding field put_field reply_bytes request_in service_in service_record_bytes
sets_name_their_partition law =
    let mask = service_mask.service_id + service_mask.service_gid in
    false≢true (sym (ap is_answered (law.sets two first (setting mask) (at_start two) two_is_configured refl (starts_are_states two two_is_configured) (setting_below mask) refl refl)))

abbrev paths_wanted : List ℕ
paths_wanted = asking (header_of 0x12 1 0x35) no_rmpp path_mask.dgid (path_record_bytes (record (path_asked 0x101 0x102 0 0 0) { slid = 1 }))

paths_below : AllBelowBase 256 paths_wanted
paths_below = reply_below _ _ _

pub paths_name_their_sender : PathsNameTheirSender
unfolding field put_field reply_bytes segment_of request_in path_in path_record_bytes path_record_selected speed_of
paths_name_their_sender law =
    false≢true (sym (ap is_answered (law.tables two first paths_wanted (at_start two) two_is_configured refl (starts_are_states two two_is_configured) paths_below refl refl)))

-- ---- a Get of the nodes of both ports, the Delete of a service that is not there, and a method that is none
abbrev node_wanted : List ℕ
node_wanted = asking (header_of 1 1 0x11) no_rmpp 0 []

node_below : AllBelowBase 256 node_wanted
node_below = reply_below _ _ _

pub several_are_too_many : SeveralAreTooMany
unfolding field put_field reply_bytes request_in node_in node_record_bytes node_record_selected
several_are_too_many law =
    false≢true (sym (ap is_answered (law.gets two first node_wanted (at_start two) two_is_configured refl (starts_are_states two two_is_configured) node_below refl refl)))

abbrev deletion : List ℕ
deletion =
    asking (header_of 0x15 1 0x31) no_rmpp (service_mask.service_id + service_mask.service_gid + service_mask.service_p_key)
    (service_record_bytes (record {
      service_id = 1;
      service_gid = gid_of 0x101;
      service_p_key = 0xffff;
      service_lease = 0;
      service_key = 0;
      service_name = replicate 64 0;
      service_data = replicate 64 0;
    }))

deletion_below : AllBelowBase 256 deletion
deletion_below = reply_below _ _ _

pub missing_services_are_not_deleted : MissingServicesAreNotDeleted
unfolding field put_field reply_bytes request_in service_in service_record_bytes
missing_services_are_not_deleted law =
    false≢true (sym (ap is_answered (law.deletions two first deletion (at_start two) two_is_configured refl (starts_are_states two two_is_configured) deletion_below refl refl)))

abbrev by_no_method : List ℕ
by_no_method = asking (header_of 0x13 1 0) no_rmpp 0 []

method_below : AllBelowBase 256 by_no_method
method_below = reply_below _ _ _

abbrev is_of_attribute : List ℕ → Bool
is_of_attribute [] = false
is_of_attribute (status ∷ statuses) = status == 0x000c

pub methods_are_judged_first : MethodsAreJudgedFirst
unfolding field put_field reply_bytes request_in
methods_are_judged_first law =
    false≢true (sym (ap is_of_attribute (law.others two first by_no_method (at_start two) two_is_configured refl (starts_are_states two two_is_configured) method_below refl refl)))
