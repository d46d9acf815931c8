use Rattle.std.proofs.Common.{◌≡◌, true, false, sym, ◌∙◌, ap, refl}
use Rattle.sa_model.specs.Members.{is_in}
use Rattle.sa_model.specs.ServiceChange.{Deed, has_room}
use Rattle.sa_replies.specs.ServiceRequests.{after_change, change_asked, service_asked, services_at, shown_bytes}
use Rattle.sa_store.specs.Registry.{set_by}
use Rattle.sa_answer.specs.Replying.{padded}
use Rattle.sa_answer.proofs.AnswerLemmas.{guid_of_found}
use Rattle.sa_answer.proofs.MembershipLemmas.{services_alone}
use Rattle.sa_store.proofs.KeyLemmas.{holds_base}
use Rattle.sa_answer.proofs.RequestLemmas.{is_member, may, set_done, set_full}
use Rattle.sa_answer.proofs.service_requests.service_set.Goals as goal

pub set_service-requires-clause-member : goal.set_service-requires-clause-member
set_service-requires-clause-member c own found =
    let reported = rw c.port.ensures at c.owner_refusal.ensures in
    let none = may c.owner_refusal.result c.kept_at.result.now.port own _ c.args.mask c.args.asked.now c.kept_at.ensures found reported c.in_default.is in
    holds_base own c.base_of-base.result c.base_of-base.ensures.within
    (ap (is_in own) c.base_of-base.ensures.value ∙ is_member own c.args.mask c.args.asked.now none)

pub returns-then-not-branch-clause-brings : goal.returns-then-not-branch-clause-brings
returns-then-not-branch-clause-brings c own found =
    let state = c.args.store.now.administration.remembered in
    let asked = c.args.asked.now in
    let service = service_asked c.args.mask asked in
    let reported = rw c.port.ensures at c.owner_refusal.ensures in
    let none = may c.owner_refusal.result c.kept_at.result.now.port own _ c.args.mask c.args.asked.now c.kept_at.ensures found reported c.in_default.is in
    let guid : own.guid ≡ c.args.requester.guid = guid_of_found _ c.args.requester.guid own found in
    let change : set_by c.args.requester.guid c.base_of-base.result c.service_asked-service.result ≡ change_asked own asked (Deed.sets service) =
    λ i. record { port = sym guid i; base = c.base_of-base.ensures.value i; deed = Deed.sets (c.service_asked-service.ensures.value i) } in
    let room : has_room service.service_id (services_at (change_asked own asked (Deed.sets service)) state.services) ≡ false =
    (λ i. has_room (sym c.service_asked-service.ensures.value i).service_id (services_at (sym change i) state.services))
    ∙ sym c.in_ok-set_service.ensures.room ∙ c.if-not-branch.true in
    rw (set_full own state c.args.mask asked none room) (refl, c.in_ok-set_service.ensures.full c.if-not-branch.true)

pub returns-clause-brings : goal.returns-clause-brings
returns-clause-brings c own found =
    let state = c.args.store.now.administration.remembered in
    let asked = c.args.asked.now in
    let service = service_asked c.args.mask asked in
    let reported = rw c.port.ensures at c.owner_refusal.ensures in
    let none = may c.owner_refusal.result c.kept_at.result.now.port own _ c.args.mask c.args.asked.now c.kept_at.ensures found reported c.in_default.is in
    let guid : own.guid ≡ c.args.requester.guid = guid_of_found _ c.args.requester.guid own found in
    let change : set_by c.args.requester.guid c.base_of-base.result c.service_asked-service.result ≡ change_asked own asked (Deed.sets service) =
    λ i. record { port = sym guid i; base = c.base_of-base.ensures.value i; deed = Deed.sets (c.service_asked-service.ensures.value i) } in
    let room : has_room service.service_id (services_at (change_asked own asked (Deed.sets service)) state.services) ≡ true =
    (λ i. has_room (sym c.service_asked-service.ensures.value i).service_id (services_at (sym change i) state.services))
    ∙ sym c.in_ok-set_service.ensures.room ∙ c.if-not-branch.false in
    let shown : c.data_of-data.result ≡ padded (shown_bytes own asked service) =
    rw (c.service_record.ensures, c.service_asked-service.ensures.value, c.base_of-base.ensures.value, ← guid) at c.data_of-data.ensures in
    let next = rw change at c.in_ok-set_service.ensures.next in
    rw (set_done own state c.args.mask asked none room) (
      c.of_no_receivers.ensures.reply ∙ shown,
      (
        next,
        c.of_no_receivers.ensures.numbers
            ∙ services_alone c.args.store.now c.set_service.new.self (after_change state (change_asked own asked (Deed.sets service))) next refl,
      ),
    )
