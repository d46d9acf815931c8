use Rattle.std.proofs.Common.{◌≡◌, ◌∙◌, List, None, Some, ap, is_some, map, refl, subst, sym}
use Rattle.std.proofs.lemmas.Bool.{false≢true}
use Rattle.pkey_rules.specs.PKey.{base_of}
use Rattle.subnet_model.specs.Delivery.{port_with_guid}
use Rattle.sa_model.specs.Changes.{Change, partition_of}
use Rattle.sa_model.specs.Groups.{PartitionGroups}
use Rattle.sa_model.specs.Joining.{Join, joined}
use Rattle.sa_model.specs.Members.{is_in}
use Rattle.sa_model.proofs.ChangeLemmas.{partitions_stay}
use Rattle.sa_replies.specs.Joins.{group_named, join_asked, join_questions, member_bytes}
use Rattle.sa_replies.proofs.AlikeLemmas.{join_is_in}
use Rattle.sa_model.specs.Refusals.{first_refusal}
use Rattle.sa_store.specs.Members.{CanJoin, place_with_base}
use Rattle.sa_store.specs.Registry.{RegistryState, with_partitions}
use Rattle.sa_answer.specs.Replying.{padded}
use Rattle.sa_answer.proofs.AnswerLemmas.{guid_of_found}
use Rattle.sa_store.proofs.MemberLemmas.{same_place}
use Rattle.sa_answer.proofs.JoinLemmas.{can_join, join_is_done, join_not_allowed}
use Rattle.sa_answer.proofs.MembershipLemmas.{asked_by}
use Rattle.sa_answer.proofs.group_requests.group_joined.Goals as goal

pub unreachable-requires : goal.unreachable-requires
unreachable-requires c =
    let ports = c.args.store.now.configuration.ports in
    let own = c.kept_at.result.now.port in
    let found : port_with_guid ports c.args.requester.guid ≡ Some own = sym c.kept_at.ensures in
    let guid = guid_of_found ports c.args.requester.guid own found in
    let listed : port_with_guid ports own.guid ≡ Some own = ap (port_with_guid ports) guid ∙ found in
    let reported = rw c.port.ensures at c.join_refusal.ensures in
    let none : first_refusal (join_questions own c.args.mask c.args.asked.now) ≡ None = sym reported ∙ c.in_default.is in
    let there = c.partition_of.ensures.there own listed (ap (is_in own) c.base_of.ensures.value ∙ join_is_in own c.args.mask c.args.asked.now none) in
    false≢true (sym (ap is_some c.in_default-partition_of.is) ∙ there)

pub join_refused-requires : goal.join_refused-requires
join_refused-requires c =
    record {
      place = ap (place_with_base c.args.store.now.administration.remembered.partitions) (sym c.base_of.ensures.value) ∙ sym c.in-Some-partition_of.ensures.value;
    }

pub returns-in-Some-join_refused-clause-brings : goal.returns-in-Some-join_refused-clause-brings
returns-in-Some-join_refused-clause-brings c own found =
    let state = c.args.store.now.administration.remembered in
    let ports = c.args.store.now.configuration.ports in
    let mask = c.args.mask in
    let asked = c.args.asked.now in
    let reported = rw c.port.ensures at c.join_refusal.ensures in
    let none = sym (asked_by (λ one. join_questions one mask asked) c.join_refusal.result c.kept_at.result.now.port own _ c.kept_at.ensures found reported) ∙ c.in_default.is in
    let join = c.join_asked-join.ensures own (guid_of_found ports c.args.requester.guid own found) in
    rw (join_not_allowed ports own state mask asked c.in-Some-join_refused.status none (sym (c.join_refused.ensures own join) ∙ c.in-Some-join_refused.is)) (refl, refl)

pub join-requires : goal.join-requires
join-requires c =
    let partitions = c.args.store.now.administration.remembered.partitions in
    let ports = c.args.store.now.configuration.ports in
    let mask = c.args.mask in
    let asked = c.args.asked.now in
    let own = c.kept_at.result.now.port in
    let found : port_with_guid ports c.args.requester.guid ≡ Some own = sym c.kept_at.ensures in
    let guid = guid_of_found ports c.args.requester.guid own found in
    let listed : port_with_guid ports own.guid ≡ Some own = ap (port_with_guid ports) guid ∙ found in
    let reported = rw c.port.ensures at c.join_refusal.ensures in
    let none : first_refusal (join_questions own mask asked) ≡ None = sym reported ∙ c.in_default.is in
    let join = c.join_asked-join.ensures own guid in
    let place : place_with_base partitions (base_of asked.p_key) ≡ Some c.in-Some-partition_of.place =
    ap (place_with_base partitions) (sym c.base_of.ensures.value) ∙ sym c.in-Some-partition_of.ensures.value in
    let allowed = sym (c.join_refused.ensures own join) ∙ c.in_default-join_refused.is in
    subst (λ (one : Join). CanJoin ports one partitions c.in-Some-partition_of.place) (sym join)
    (can_join ports own mask asked partitions c.in-Some-partition_of.place listed none allowed c.requires.fit place)

pub returns-clause-brings : goal.returns-clause-brings
returns-clause-brings c own found =
    let state = c.args.store.now.administration.remembered in
    let partitions = state.partitions in
    let ports = c.args.store.now.configuration.ports in
    let mask = c.args.mask in
    let asked = c.args.asked.now in
    let guid = guid_of_found ports c.args.requester.guid own found in
    let reported = rw c.port.ensures at c.join_refusal.ensures in
    let none = sym (asked_by (λ one. join_questions one mask asked) c.join_refusal.result c.kept_at.result.now.port own _ c.kept_at.ensures found reported) ∙ c.in_default.is in
    let join = c.join_asked-join.ensures own guid in
    let place : place_with_base partitions (base_of asked.p_key) ≡ Some c.in-Some-partition_of.place =
    ap (place_with_base partitions) (sym c.base_of.ensures.value) ∙ sym c.in-Some-partition_of.ensures.value in
    let allowed = sym (c.join_refused.ensures own join) ∙ c.in_default-join_refused.is in
    let next : c.join.new.self ≡ with_partitions (joined ports (join_asked own mask asked) partitions) c.args.store.now =
    c.in_ok-numbers.ensures.next ∙ ap (λ (one : Join). with_partitions (joined ports one partitions) c.args.store.now) join in
    let after : c.join.new.self.administration.remembered.partitions ≡ joined ports (join_asked own mask asked) partitions =
    ap (λ (s : RegistryState). s.administration.remembered.partitions) next in
    let stay = ap (map partition_of) after ∙ partitions_stay ports partitions (Change.joins (join_asked own mask asked)) in
    let there = same_place (base_of asked.p_key) partitions c.join.new.self.administration.remembered.partitions stay ∙ place in
    rw (join_is_done ports own state mask asked none allowed) (
      c.member_data.ensures own (base_of asked.p_key) guid there
          ∙ ap (λ (some : List PartitionGroups). padded (member_bytes own (base_of asked.p_key) (group_named (base_of asked.p_key) asked.mgid some))) after,
      (next, c.in_ok-numbers.ensures.numbers),
    )
