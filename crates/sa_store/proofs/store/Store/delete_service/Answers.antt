use Rattle.std.proofs.Common.{◌≡◌, true, List, Some, get_or, sym, subst, ◌∙◌, ap}
use Rattle.std.specs.List.{list_any}
use Rattle.pkey_rules.specs.KeyTable.{has_base}
use Rattle.subnet_model.specs.Delivery.{port_with_guid}
use Rattle.sa_model.specs.ServiceChange.{Deed, has_id}
use Rattle.sa_model.specs.Services.{Service}
use Rattle.sa_replies.specs.ServiceRequests.{services_at}
use Rattle.sa_store.specs.Deeds.{CanChange, services_in, with_deed}
use Rattle.sa_store.specs.Kept.{KeptPort, ports_of, services_of}
use Rattle.sa_store.specs.Registry.{RegistryState, deleted_by, place_with_guid}
use Rattle.sa_store.proofs.PlaceLemmas.{IsAt, found_at, is_at}
use Rattle.sa_store.proofs.RegistryLemmas.{deed_registry, deed_state, can_change, same_kept, services_here}
use Rattle.sa_store.proofs.store.Store.delete_service.Goals as goal

-- the place of the port, and what stands there
at_place : (c : goal.After-self-1) → IsAt c.args.requester.guid c.self.inside.kept.items c.args.requester.place c.index_mut.result.now
at_place c =
    let kept = c.self.inside.kept.items in
    let ports : ports_of kept ≡ c.args.self.now.configuration.ports = ap (λ (s : RegistryState). s.configuration.ports) c.self.view_is in
    let place : place_with_guid (ports_of kept) c.args.requester.guid ≡ Some c.args.requester.place = rw ports c.requires.place in
    is_at c.args.requester.guid kept c.args.requester.place c.index_mut.result.now c.self.invariant.configured.own_guids place

then_there : (c : goal.After-self-1)
    → c.delete_service.new.self ≡ with_deed c.args.base (Deed.deletes c.args.id) (get_or c.self.inside.kept.items c.args.requester.place c.index_mut.result.now)
then_there c = c.delete_service.ensures.next ∙ ap (with_deed c.args.base (Deed.deletes c.args.id)) c.index_mut.ensures.value

pub delete_service-requires : goal.delete_service-requires
delete_service-requires c =
    let kept = c.self.inside.kept.items in
    let d = c.index_mut.result.now in
    let ports : ports_of kept ≡ c.args.self.now.configuration.ports = ap (λ (s : RegistryState). s.configuration.ports) c.self.view_is in
    let place : place_with_guid (ports_of kept) c.args.requester.guid ≡ Some c.args.requester.place = rw ports c.requires.place in
    let at = is_at c.args.requester.guid kept c.args.requester.place d c.self.invariant.configured.own_guids place in
    let found : port_with_guid c.args.self.now.configuration.ports c.args.requester.guid ≡ Some (get_or kept c.args.requester.place d).port =
    rw ports at (found_at c.args.requester.guid kept c.args.requester.place d at) in
    let held : has_base c.args.base (get_or kept c.args.requester.place d).port.keys ≡ true = c.requires.member (get_or kept c.args.requester.place d).port found in
    let can = can_change c.args.base kept c.args.requester.place d c.self.inside.headings.items c.self.inside.partitions.items _ c.self.invariant at.within held in
    subst (λ (one : KeptPort). CanChange c.args.base one) (sym c.index_mut.ensures.value) can

pub invariant_of-self : goal.invariant_of-self
invariant_of-self c =
    rw (then_there c)
    (deed_registry c.args.requester.guid c.args.base (Deed.deletes c.args.id) c.self.inside.kept.items c.args.requester.place c.index_mut.result.now c.self.inside.headings.items
    c.self.inside.partitions.items _ tt (at_place c) c.self.invariant)

pub returns-clause-found : goal.returns-clause-found
returns-clause-found c =
    let kept = c.self.inside.kept.items in
    let d = c.index_mut.result.now in
    let change = deleted_by c.args.requester.guid c.args.base c.args.id in
    let services : services_of kept ≡ c.args.self.now.administration.remembered.services =
    ap (λ (s : RegistryState). s.administration.remembered.services) c.self.view_is in
    c.delete_service.ensures.found ∙ ap (λ (one : KeptPort). list_any (has_id c.args.id) (services_in c.args.base one.services)) c.index_mut.ensures.value
    ∙ ap (λ (some : List Service). list_any (has_id c.args.id) some) (sym (services_here change kept c.args.requester.place d (at_place c)))
    ∙ ap (λ (all : List _). list_any (has_id c.args.id) (services_at change all)) services

pub returns-clause-next : goal.returns-clause-next
returns-clause-next c =
    rw (then_there c)
    (deed_state c.args.requester.guid c.args.base (Deed.deletes c.args.id) c.self.inside.kept.items c.args.requester.place c.index_mut.result.now c.self.inside.headings.items
    c.self.inside.partitions.items c.self.inside.is_broken c.args.self.now (at_place c) c.self.view_is)

pub returns-clause-none : goal.returns-clause-none
returns-clause-none c nothing =
    let kept = c.self.inside.kept.items in
    let new : c.delete_service.new.self ≡ get_or kept c.args.requester.place c.index_mut.result.now = c.delete_service.ensures.none nothing ∙ c.index_mut.ensures.value in
    rw (new, same_kept kept c.args.requester.place c.index_mut.result.now (at_place c).within) c.self.view_is
