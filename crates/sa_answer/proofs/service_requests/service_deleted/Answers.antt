use Rattle.std.proofs.Common.{◌≡◌, true, false, sym, ◌∙◌, ap, refl}
use Rattle.std.specs.List.{list_any}
use Rattle.sa_model.specs.Members.{is_in}
use Rattle.sa_model.specs.ServiceChange.{Deed, ServiceChange, has_id}
use Rattle.sa_replies.specs.ServiceRequests.{after_change, change_asked, services_at}
use Rattle.sa_store.specs.Registry.{deleted_by}
use Rattle.sa_answer.proofs.AnswerLemmas.{guid_of_found}
use Rattle.sa_answer.proofs.MembershipLemmas.{services_alone}
use Rattle.sa_store.proofs.KeyLemmas.{holds_base}
use Rattle.sa_answer.proofs.RequestLemmas.{deleted_done, deleted_none, is_member, may, whole_content}
use Rattle.sa_answer.proofs.service_requests.service_deleted.Goals as goal

pub delete_service-requires-clause-member : goal.delete_service-requires-clause-member
delete_service-requires-clause-member c own found =
    let reported = rw c.port.ensures at c.owner_refusal.ensures in
    let none = may c.owner_refusal.result c.kept_at.result.now.port own _ c.args.mask c.args.asked.now c.kept_at.ensures found reported c.in_default.is in
    holds_base own c.base_of-base.result c.base_of-base.ensures.within
    (ap (is_in own) c.base_of-base.ensures.value ∙ is_member own c.args.mask c.args.asked.now none)

pub returns-then-not-delete_service-clause-brings : goal.returns-then-not-delete_service-clause-brings
returns-then-not-delete_service-clause-brings c own found =
    let state = c.args.store.now.administration.remembered in
    let asked = c.args.asked.now in
    let reported = rw c.port.ensures at c.owner_refusal.ensures in
    let none = may c.owner_refusal.result c.kept_at.result.now.port own _ c.args.mask c.args.asked.now c.kept_at.ensures found reported c.in_default.is in
    let guid : own.guid ≡ c.args.requester.guid = guid_of_found _ c.args.requester.guid own found in
    let change : deleted_by c.args.requester.guid c.base_of-base.result asked.service_id ≡ change_asked own asked (Deed.deletes asked.service_id) =
    λ i. record { port = sym guid i; base = c.base_of-base.ensures.value i; deed = Deed.deletes asked.service_id } in
    let absent : list_any (has_id asked.service_id) (services_at (change_asked own asked (Deed.deletes asked.service_id)) state.services) ≡ false =
    ap (λ (one : ServiceChange). list_any (has_id asked.service_id) (services_at one state.services)) (sym change)
    ∙ sym c.delete_service.ensures.found ∙ c.if-not-delete_service.true in
    rw (deleted_none own state c.args.mask asked c.args.content.now none absent) (refl, c.delete_service.ensures.none c.if-not-delete_service.true)

pub returns-clause-brings : goal.returns-clause-brings
returns-clause-brings c own found =
    let state = c.args.store.now.administration.remembered in
    let asked = c.args.asked.now in
    let reported = rw c.port.ensures at c.owner_refusal.ensures in
    let none = may c.owner_refusal.result c.kept_at.result.now.port own _ c.args.mask c.args.asked.now c.kept_at.ensures found reported c.in_default.is in
    let guid : own.guid ≡ c.args.requester.guid = guid_of_found _ c.args.requester.guid own found in
    let change : deleted_by c.args.requester.guid c.base_of-base.result asked.service_id ≡ change_asked own asked (Deed.deletes asked.service_id) =
    λ i. record { port = sym guid i; base = c.base_of-base.ensures.value i; deed = Deed.deletes asked.service_id } in
    let there : list_any (has_id asked.service_id) (services_at (change_asked own asked (Deed.deletes asked.service_id)) state.services) ≡ true =
    ap (λ (one : ServiceChange). list_any (has_id asked.service_id) (services_at one state.services)) (sym change)
    ∙ sym c.delete_service.ensures.found ∙ c.if-not-delete_service.false in
    let next = rw change at c.delete_service.ensures.next in
    rw (deleted_done own state c.args.mask asked c.args.content.now none there) (
      c.of_no_receivers.ensures.reply ∙ sym (whole_content c.args.content.now c.told-content),
      (
        next,
        c.of_no_receivers.ensures.numbers
            ∙ services_alone c.args.store.now c.delete_service.new.self (after_change state (change_asked own asked (Deed.deletes asked.service_id))) next refl,
      ),
    )
