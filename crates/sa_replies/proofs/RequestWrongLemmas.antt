-- Two full members of the default partition: one makes a group, the other joins it, and each may leave it.
use Rattle.std.proofs.Common.{ℕ, Bool, true, false, List, [], ◌∷◌, length, ◌==◌, None, ◌≡◌, ◌∙◌, ap, refl, sym, arith, nat_eq}
use Rattle.std.proofs.lemmas.Bool.{false≢true}
use Rattle.std.proofs.lemmas.List.Elements.{All-from_recursion}
use Rattle.std.proofs.lemmas.Map.Keys.{IsDistinct-cons}
use Rattle.step_results.proofs.DistinctLemmas.{distinct}
use Rattle.step_results.proofs.ListLemmas.{IsDistinct-nil}
use Rattle.mad_layout.specs.Bits.{field, put_field}
use Rattle.rmpp_core.specs.Reply.{reply_bytes}
use Rattle.pkey_rules.specs.KeyTable.{same_base}
use Rattle.sa_records.specs.McMemberRecord.{mc_member_record_bytes, mc_member_record_selected, group_in}
use Rattle.sa_records.specs.Speed.{speed_of}
use Rattle.subnet_model.specs.Configuration.{ConfigurationState}
use Rattle.subnet_model.specs.Configured.{HoldsKnownKeys, IsConfigured, same_guid}
use Rattle.subnet_model.specs.declared.subnet_port.SubnetPort.{SubnetPort}
use Rattle.sa_model.specs.Anchor.{is_by_file}
use Rattle.subnet_model.specs.Examples.{adapter}
use Rattle.sa_model.specs.Groups.{Creator, MulticastGroup}
use Rattle.sa_model.specs.JoinState.{JoinState}
use Rattle.sa_replies.specs.Answer.{Administration, answer}
use Rattle.sa_replies.specs.Examples.{joining, leaving, making}
use Rattle.sa_replies.specs.Request.{request_in}
use Rattle.sa_replies.specs.State.{IsStateOf, at_start}
use Rattle.sa_replies.proofs.OpenTableLemmas.{answers_keep_states, starts_are_states}
use Rattle.sa_replies.specs.RequestWrongRules.{AnchoredGroupsStay, GroupsEndWithTheirAnchors, JoinersAreNoMakers, JoinersThrowNobodyOut, JoinsChangeNoParameters, JoinsMoveNoGroup, NewGroupsHaveTheirMaker, OthersDoNotLeave}

abbrev pub first : SubnetPort
first = adapter 1 0x101 (0xffff ∷ [])

abbrev pub second : SubnetPort
second = adapter 2 0x102 (0xffff ∷ [])

abbrev pub two : ConfigurationState
two = record { ports = first ∷ second ∷ []; partitions = record { base = 0x7fff; name = []; group = None } ∷ [] }

holds_known : (port : SubnetPort) → port.keys ≡ 0xffff ∷ [] → HoldsKnownKeys two.partitions port
holds_known port keys = record { once = rw keys (IsDistinct-cons same_base 0xffff [] tt (IsDistinct-nil same_base)); known = rw keys refl; few = rw keys (omega arith) }

pub two_is_configured : IsConfigured two
two_is_configured = record {
  own_guids = distinct same_guid two.ports refl;
  lids = refl;
  few = omega arith;
  keys = All-from_recursion (HoldsKnownKeys two.partitions) two.ports (holds_known first refl, (holds_known second refl, tt));
  headings = record {
    bases = record { room = omega arith; distinct = IsDistinct-cons nat_eq 0x7fff [] tt (IsDistinct-nil nat_eq); valid = refl; first = refl };
    groups = refl;
  };
}

-- ---- after the first made a group, and after the second joined it
abbrev pub made : Administration
made = (answer two.ports first (making 0x101 0xffff) (at_start two)).1

pub made_is : IsStateOf two made
made_is = answers_keep_states two first (making 0x101 0xffff) (at_start two) two_is_configured refl (starts_are_states two two_is_configured)

abbrev pub joined_too : Administration
joined_too = (answer two.ports second (joining 0x102 0xffff) made).1

joined_too_is : IsStateOf two joined_too
joined_too_is = answers_keep_states two second (joining 0x102 0xffff) made two_is_configured refl made_is

-- ---- what is looked at
abbrev are_by_first : List MulticastGroup → Bool
are_by_first [] = false
are_by_first (group ∷ groups) = is_first group.creator
  where
    is_first : Creator → Bool
    is_first (Creator.Port guid) = guid == 0x101
    is_first Creator.PartitionFile = false

abbrev have_mlid : ℕ → List MulticastGroup → Bool
have_mlid mlid [] = false
have_mlid mlid (group ∷ groups) = group.mlid == mlid

abbrev have_q_key : ℕ → List MulticastGroup → Bool
have_q_key q_key [] = false
have_q_key q_key (group ∷ groups) = group.parameters.q_key == q_key

-- ---- joins
pub joiners_are_no_makers : JoinersAreNoMakers
unfolding field put_field reply_bytes request_in group_in mc_member_record_bytes mc_member_record_selected speed_of
joiners_are_no_makers law =
    false≢true (ap are_by_first ((law two second (joining 0x102 0xffff) made two_is_configured refl made_is refl refl).entered.as_before refl))

pub joiners_throw_nobody_out : JoinersThrowNobodyOut
unfolding field put_field reply_bytes request_in group_in mc_member_record_bytes mc_member_record_selected speed_of
joiners_throw_nobody_out law =
    false≢true (sym (ap (λ (states : List JoinState). length states == 0)
    ((law two second (joining 0x102 0xffff) made two_is_configured refl made_is refl refl).entered.registrations 0x101 0x7fff 0xff12000000000000000000000000000a refl)))

pub joins_move_no_group : JoinsMoveNoGroup
unfolding field put_field reply_bytes request_in group_in mc_member_record_bytes mc_member_record_selected speed_of
joins_move_no_group law =
    false≢true (ap (have_mlid 0xc000) ((law two second (joining 0x102 0xffff) made two_is_configured refl made_is refl refl).entered.as_before refl))

pub joins_change_no_parameters : JoinsChangeNoParameters
unfolding field put_field reply_bytes request_in group_in mc_member_record_bytes mc_member_record_selected speed_of
joins_change_no_parameters law =
    false≢true (ap (have_q_key 0x1234) ((law two second (joining 0x102 0xffff) made two_is_configured refl made_is refl refl).entered.as_before refl))

abbrev are_by_file : List MulticastGroup → Bool
are_by_file [] = false
are_by_file (group ∷ groups) = is_by_file group.creator

pub new_groups_have_their_maker : NewGroupsHaveTheirMaker
unfolding field put_field reply_bytes request_in group_in mc_member_record_bytes mc_member_record_selected speed_of
new_groups_have_their_maker law =
    let new = (law two first (making 0x101 0xffff) (at_start two) two_is_configured refl (starts_are_states two two_is_configured) refl refl).made refl in
    false≢true (sym (ap is_by_file new.maker) ∙ sym (ap are_by_file new.there))

-- ---- leaves: the second keeps the group that the first leaves, and nobody one that the first leaves alone
pub anchored_groups_stay : AnchoredGroupsStay
unfolding field put_field reply_bytes request_in group_in mc_member_record_bytes mc_member_record_selected speed_of
anchored_groups_stay law =
    false≢true ((law two first (leaving 0x101) joined_too two_is_configured refl joined_too_is refl refl).left.there 0x7fff 0xff12000000000000000000000000000a)

pub others_do_not_leave : OthersDoNotLeave
unfolding field put_field reply_bytes request_in group_in mc_member_record_bytes mc_member_record_selected speed_of
others_do_not_leave law =
    false≢true (sym (ap (λ (states : List JoinState). length states == 0)
    ((law two first (leaving 0x101) joined_too two_is_configured refl joined_too_is refl refl).left.registrations 0x102 0x7fff 0xff12000000000000000000000000000a refl refl)))

pub groups_end_with_their_anchors : GroupsEndWithTheirAnchors
unfolding field put_field reply_bytes request_in group_in mc_member_record_bytes mc_member_record_selected speed_of
groups_end_with_their_anchors law =
    false≢true (sym ((law two first (leaving 0x101) made two_is_configured refl made_is refl refl).left.there 0x7fff 0xff12000000000000000000000000000a))
