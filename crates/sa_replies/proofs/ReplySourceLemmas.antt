-- Replies are records that come from near: of a group, to a join; of a service, to its Set.
use Rattle.std.proofs.Common.{ℕ, ◌≡◌, ◌∙◌, ◌==◌, ◌&&◌, Bool, true, false, not, ap, refl, sym, subst, if◌then◌else◌, List, [], ◌∷◌, ◌++◌, filter, find, map, Option, Some, None, Result, Ok, Err}
use Rattle.std.specs.List.{flat_map, list_all}
use Rattle.std.proofs.lemmas.Bool.{and_parts, and_from, eqb-true, or_left, eq-eqb}
use Rattle.std.proofs.lemmas.List.{map-append}
use Rattle.std.proofs.lemmas.List.Folds.{list_all-append}
use Rattle.std.proofs.lemmas.Option.{same_Some}
use Rattle.mad_layout.specs.declared.status.MadStatus.{MadStatus}
use Rattle.mad_layout.specs.declared.status.MadStatus.TheVariants.{NoResources}
use Rattle.pkey_rules.specs.PKey.{base_of}
use Rattle.sa_model.proofs.JoinSoundLemmas.{joined_sound}
use Rattle.sa_model.specs.Groups.{MulticastGroup, PartitionGroups}
use Rattle.sa_model.specs.Joining.{has_mgid}
use Rattle.sa_model.proofs.NearLemmas.{visible_from_near}
use Rattle.sa_model.specs.QueryLaws.{is_source_near}
use Rattle.sa_model.specs.Outcome.{unless_status}
use Rattle.sa_model.specs.Refusals.{first_refusal, refused_if}
use Rattle.sa_model.specs.Shown.{Entry, group_entry}
use Rattle.sa_model.specs.Visible.{GroupOfBase, SaState, groups_of, visible_groups}
use Rattle.sa_model.specs.ServiceChange.{Deed, has_room}
use Rattle.sa_model.specs.Members.{is_in}
use Rattle.subnet_model.specs.Near.{ports_share}
use Rattle.subnet_model.specs.declared.subnet_port.SubnetPort.{SubnetPort}
use Rattle.sa_replies.proofs.AlikeLemmas.{groups_in, join_is_in}
use Rattle.sa_replies.proofs.JoinedLemmas.{join_is_there}
use Rattle.sa_replies.specs.Joins.{after_join, group_named, join_asked, join_questions, join_refusal, member_bytes}
use Rattle.sa_replies.specs.ServiceRequests.{change_asked, owner_questions, service_asked, services_at}
use Rattle.sa_replies.specs.Sources.{JoinRepliesComeFromNear, ServiceRepliesComeFromNear}
use Rattle.sa_replies.specs.Success.{Success}

-- ---- what an outcome that is no refusal says
pub not_refused : (refused : Option MadStatus) (rest : Result Success MadStatus) (success : Success) → unless_status refused rest ≡ Ok success
    → (refused ≡ None) × (rest ≡ Ok success)
not_refused None rest success is = (refl, is)
not_refused (Some status) rest success is = absurd cc

abbrev pub bytes_in : Result Success MadStatus → List ℕ
bytes_in (Ok (Success.one_reply bytes next)) = bytes
bytes_in (Ok (Success.whole_table offset bytes)) = []
bytes_in (Err status) = []

abbrev pub state_in : SaState → Result Success MadStatus → SaState
state_in state (Ok (Success.one_reply bytes next)) = next
state_in state (Ok (Success.whole_table offset bytes)) = state
state_in state (Err status) = state

-- ---- a group that is named
module _ (ports : List SubnetPort) (own : SubnetPort) where
  abbrev near : MulticastGroup → Bool
  near group = is_source_near ports own.guid group.creator

  found_by : (b : Bool) (test : MulticastGroup → Bool) (first : MulticastGroup) (groups : List MulticastGroup) (group : MulticastGroup)
      → near first ≡ true → (find test groups ≡ Some group → near group ≡ true)
      → (if b then Some first else find test groups) ≡ Some group → near group ≡ true
  found_by true test first groups group here more found = subst (λ (g : MulticastGroup). near g ≡ true) (same_Some first group found) here
  found_by false test first groups group here more found = more found

  found_near : (test : MulticastGroup → Bool) (groups : List MulticastGroup) (group : MulticastGroup) → list_all near groups ≡ true
      → find test groups ≡ Some group → near group ≡ true
  found_near test [] group all found = absurd cc
  found_near test (first ∷ groups) group all found =
      let parts = and_parts (near first) (list_all near groups) all in
      found_by (test first) test first groups group parts.0 (found_near test groups group parts.1) found

  -- those of a partition that is shown
  abbrev shown_near : List GroupOfBase → Bool
  shown_near shown = list_all (λ entry. is_source_near ports own.guid entry.source) (map group_entry shown)

  of_one : (base : ℕ) (groups : List MulticastGroup)
      → shown_near (map (λ group. record { base = base; group = group }) groups) ≡ list_all near groups
  of_one base [] = refl
  of_one base (first ∷ groups) = ap (λ (b : Bool). near first && b) (of_one base groups)

  split : (some more : List GroupOfBase) → shown_near (some ++ more) ≡ true → (shown_near some ≡ true) × (shown_near more ≡ true)
  split some more all =
      and_parts (shown_near some) (shown_near more)
      (sym (list_all-append (λ (entry : Entry). is_source_near ports own.guid entry.source) (map group_entry some) (map group_entry more))
      ∙ ap (list_all (λ (entry : Entry). is_source_near ports own.guid entry.source)) (sym (map-append group_entry some more)) ∙ all)

  -- b: whether the partition is that of the base; c: whether it is shown
  named_by : (b c : Bool) (base : ℕ) (partition : PartitionGroups) (partitions : List PartitionGroups) → (b ≡ true → c ≡ true)
      → (shown_near (flat_map groups_of (filter (λ partition. is_in own partition.base) partitions)) ≡ true → list_all near (groups_in base partitions) ≡ true)
      → shown_near (flat_map groups_of (if c then partition ∷ filter (λ partition. is_in own partition.base) partitions else filter (λ partition. is_in own partition.base) partitions)) ≡ true
      → list_all near (flat_map (λ partition. partition.groups) (if b then partition ∷ filter (λ partition. partition.base == base) partitions else filter (λ partition. partition.base == base) partitions)) ≡ true
  named_by true true base partition partitions shown more all =
      let parts = split (groups_of partition) (flat_map groups_of (filter (λ partition. is_in own partition.base) partitions)) all in
      list_all-append near partition.groups (groups_in base partitions)
      ∙ and_from (list_all near partition.groups) (list_all near (groups_in base partitions)) (sym (of_one partition.base partition.groups) ∙ parts.0) (more parts.1)
  named_by true false base partition partitions shown more all = let none = shown refl in absurd cc
  named_by false true base partition partitions shown more all =
      more (split (groups_of partition) (flat_map groups_of (filter (λ partition. is_in own partition.base) partitions)) all).1
  named_by false false base partition partitions shown more all = more all

  named_near : (base : ℕ) (partitions : List PartitionGroups) → is_in own base ≡ true → shown_near (visible_groups own partitions) ≡ true
      → list_all near (groups_in base partitions) ≡ true
  named_near base [] member all = refl
  named_near base (partition ∷ partitions) member all =
      named_by (partition.base == base) (is_in own partition.base) base partition partitions
      (λ same. subst (λ (b : ℕ). is_in own b ≡ true) (sym (eqb-true partition.base base same)) member)
      (named_near base partitions member) all

-- ---- the law
pub join_replies_come_from_near : JoinRepliesComeFromNear
join_replies_come_from_near ports own state next mask asked bytes found sound is =
    let join = join_asked own mask asked in
    let after = after_join ports join state in
    let one = not_refused (first_refusal (join_questions own mask asked)) _ (Success.one_reply bytes next) is in
    let two = not_refused (join_refusal ports own mask asked state.partitions) _ (Success.one_reply bytes next) one.1 in
    let reported : member_bytes own join.base (group_named join.base join.mgid after.partitions) ≡ bytes = ap bytes_in two.1 in
    let then_is : after ≡ next = ap (state_in state) two.1 in
    let there = join_is_there ports own mask asked state.partitions found one.0 two.0 in
    let kept = joined_sound ports join state.partitions sound in
    let all = (visible_from_near ports own after found kept).groups in
    record {
      group = there.group;
      there = ap (λ (s : SaState). group_named join.base join.mgid s.partitions) (sym then_is) ∙ there.found;
      takes_part = there.takes_part;
      encoded = sym reported ∙ ap (member_bytes own join.base) there.found;
      source = found_near ports own (has_mgid join.mgid) (groups_in join.base after.partitions) there.group
          (named_near ports own join.base after.partitions (join_is_in own mask asked one.0) all) there.found;
    }

pub service_replies_come_from_near : ServiceRepliesComeFromNear
service_replies_come_from_near ports own state next mask asked bytes is =
    let one = not_refused (first_refusal (owner_questions own mask asked)) _ (Success.one_reply bytes next) is in
    let service = service_asked mask asked in
    let change = change_asked own asked (Deed.sets service) in
    let two = not_refused (first_refusal (refused_if (not (has_room service.service_id (services_at change state.services))) NoResources ∷ [])) _
    (Success.one_reply bytes next) one.1 in
    record {
      service = record { port = own.guid; base = base_of asked.service_p_key; service = service };
      encoded = sym (ap bytes_in two.1);
      source = or_left (own.guid == own.guid) (ports_share ports own.guid own.guid) (eq-eqb own.guid own.guid refl);
    }
