use Rattle.std.proofs.Common.{◌≡◌, ℕ, Bool, true, List, Some, get_or, set, sym, subst, ◌∙◌, ap, Option, Result, Ok, Err, OnOk, OnErr}
use Rattle.std.proofs.lemmas.Result.{IfOk-weaker, on_ok_weaker}
use Rattle.partition_file.specs.declared.heading.Heading.{Heading}
use Rattle.pkey_rules.specs.KeyTable.{has_base}
use Rattle.subnet_model.specs.Delivery.{port_with_guid}
use Rattle.sa_model.specs.Groups.{PartitionGroups}
use Rattle.sa_model.specs.ServiceChange.{Deed}
use Rattle.sa_model.specs.Services.{Service}
use Rattle.sa_replies.specs.ServiceRequests.{services_at}
use Rattle.sa_replies.specs.State.{is_fit_service}
use Rattle.sa_store.specs.Deeds.{CanChange, services_in, with_deed}
use Rattle.sa_store.specs.Kept.{KeptPort, ports_of, services_of}
use Rattle.sa_store.specs.Registry.{IsRegistry, RegistryState, place_with_guid, set_by}
use Rattle.sa_store.proofs.PlaceLemmas.{IsAt, found_at, is_at}
use Rattle.sa_store.proofs.RegistryLemmas.{deed_registry, deed_state, can_change, same_kept, services_here}
use Rattle.sa_store.proofs.store.Store.set_service.Goals as goal

-- the place of the port, and what stands there
at_place : (c : goal.After-self-1) → IsAt c.args.requester.guid c.self.inside.kept.items c.args.requester.place c.index_mut.result.now
at_place c =
    let kept = c.self.inside.kept.items in
    let ports : ports_of kept ≡ c.args.self.now.configuration.ports = ap (λ (s : RegistryState). s.configuration.ports) c.self.view_is in
    let place : place_with_guid (ports_of kept) c.args.requester.guid ≡ Some c.args.requester.place = rw ports c.requires.place in
    is_at c.args.requester.guid kept c.args.requester.place c.index_mut.result.now c.self.invariant.configured.own_guids place

pub set_service-requires : goal.set_service-requires
set_service-requires c =
    let kept = c.self.inside.kept.items in
    let d = c.index_mut.result.now in
    let ports : ports_of kept ≡ c.args.self.now.configuration.ports = ap (λ (s : RegistryState). s.configuration.ports) c.self.view_is in
    let place : place_with_guid (ports_of kept) c.args.requester.guid ≡ Some c.args.requester.place = rw ports c.requires.place in
    let at = is_at c.args.requester.guid kept c.args.requester.place d c.self.invariant.configured.own_guids place in
    let found : port_with_guid c.args.self.now.configuration.ports c.args.requester.guid ≡ Some (get_or kept c.args.requester.place d).port =
    rw ports at (found_at c.args.requester.guid kept c.args.requester.place d at) in
    let held : has_base c.args.base (get_or kept c.args.requester.place d).port.keys ≡ true = c.requires.member (get_or kept c.args.requester.place d).port found in
    let can = can_change c.args.base kept c.args.requester.place d c.self.inside.headings.items c.self.inside.partitions.items _ c.self.invariant at.within held in
    subst (λ (one : KeptPort). CanChange c.args.base one) (sym c.index_mut.ensures.value) can

-- with the service, or as it was
either : {E : Type 0} (result : Result Bool E) (guid base : ℕ) (service : Service) (kept : List KeptPort) (i : ℕ) (d new : KeptPort) (headings : List Heading)
    (partitions : List PartitionGroups) (place_of : ℕ → Option ℕ) → is_fit_service service ≡ true → IsAt guid kept i d → d ≡ get_or kept i d
    → OnOk result (new ≡ with_deed base (Deed.sets service) d) → OnErr result (new ≡ d) → IsRegistry kept headings partitions place_of
    → IsRegistry (set kept i new) headings partitions place_of
either (Ok stored) guid base service kept i d new headings partitions place_of fit at value next err is =
    rw (next ∙ ap (with_deed base (Deed.sets service)) value) (deed_registry guid base (Deed.sets service) kept i d headings partitions place_of fit at is)
either (Err error) guid base service kept i d new headings partitions place_of fit at value next err is =
    let same = same_kept kept i d at.within in
    rw (err ∙ value, same) is

pub invariant_of-self : goal.invariant_of-self
invariant_of-self c =
    either c.set_service.result c.args.requester.guid c.args.base c.args.service c.self.inside.kept.items c.args.requester.place c.index_mut.result.now c.set_service.new.self
    c.self.inside.headings.items c.self.inside.partitions.items _ c.requires.fit (at_place c) c.index_mut.ensures.value c.set_service.ensures.next c.set_service.ensures.err c.self.invariant

pub returns-clause-room : goal.returns-clause-room
returns-clause-room c =
    let kept = c.self.inside.kept.items in
    let d = c.index_mut.result.now in
    let change = set_by c.args.requester.guid c.args.base c.args.service in
    let services : services_of kept ≡ c.args.self.now.administration.remembered.services =
    ap (λ (s : RegistryState). s.administration.remembered.services) c.self.view_is in
    let here : services_in c.args.base (get_or kept c.args.requester.place d).services ≡ services_at change c.args.self.now.administration.remembered.services =
    sym (services_here change kept c.args.requester.place d (at_place c)) ∙ ap (services_at change) services in
    rw (c.index_mut.ensures.value, here) at c.set_service.ensures.room

pub returns-clause-next : goal.returns-clause-next
returns-clause-next c =
    on_ok_weaker c.set_service.result (λ next.
    let then : c.set_service.new.self ≡ with_deed c.args.base (Deed.sets c.args.service) (get_or c.self.inside.kept.items c.args.requester.place c.index_mut.result.now) =
    next ∙ ap (with_deed c.args.base (Deed.sets c.args.service)) c.index_mut.ensures.value in
    rw then
    (deed_state c.args.requester.guid c.args.base (Deed.sets c.args.service) c.self.inside.kept.items c.args.requester.place c.index_mut.result.now c.self.inside.headings.items
    c.self.inside.partitions.items c.self.inside.is_broken c.args.self.now (at_place c) c.self.view_is)) c.set_service.ensures.next

pub returns-clause-full : goal.returns-clause-full
returns-clause-full c =
    let kept = c.self.inside.kept.items in
    IfOk-weaker c.set_service.result _ _ (λ stored full not.
    let new : c.set_service.new.self ≡ get_or kept c.args.requester.place c.index_mut.result.now = full not ∙ c.index_mut.ensures.value in
    rw (new, same_kept kept c.args.requester.place c.index_mut.result.now (at_place c).within) c.self.view_is) c.set_service.ensures.full
