use Rattle.std.proofs.Common.{◌≡◌, Some, get_or, sym, ◌∙◌, ap}
use Rattle.sa_replies.specs.Transfers.{table_of}
use Rattle.sa_store.specs.Kept.{KeptPort, ports_of}
use Rattle.sa_store.specs.Registry.{RegistryState, place_with_guid}
use Rattle.sa_store.proofs.PlaceLemmas.{IsAt, is_at, open_at, replaced, stays_registry, with_open}
use Rattle.sa_store.proofs.store.Store.replace_table.Goals as goal

-- the place of the port, and what stands there then
at_place : (c : goal.After-self-1) → IsAt c.args.requester.guid c.self.inside.kept.items c.args.requester.place c.index_mut.result.now
at_place c =
    let kept = c.self.inside.kept.items in
    let ports : ports_of kept ≡ c.args.self.now.configuration.ports = ap (λ (s : RegistryState). s.configuration.ports) c.self.view_is in
    let place : place_with_guid (ports_of kept) c.args.requester.guid ≡ Some c.args.requester.place = rw ports c.requires in
    is_at c.args.requester.guid kept c.args.requester.place c.index_mut.result.now c.self.invariant.configured.own_guids place

then_there : (c : goal.After-self-1) → c.replace_table.new.self ≡ with_open c.args.table (get_or c.self.inside.kept.items c.args.requester.place c.index_mut.result.now)
then_there c = c.replace_table.ensures.next ∙ ap (λ (one : KeptPort). with_open c.args.table one) c.index_mut.ensures.value

pub invariant_of-self : goal.invariant_of-self
invariant_of-self c =
    let kept = c.self.inside.kept.items in
    rw (then_there c) (stays_registry c.args.table kept c.args.requester.place c.index_mut.result.now c.self.inside.headings.items c.self.inside.partitions.items _ (at_place c).within c.self.invariant)

pub returns-clause-was : goal.returns-clause-was
returns-clause-was c =
    let kept = c.self.inside.kept.items in
    c.replace_table.ensures.was ∙ ap (λ (one : KeptPort). one.open_table) c.index_mut.ensures.value
    ∙ sym (open_at c.args.requester.guid kept c.args.requester.place c.index_mut.result.now (at_place c))
    ∙ ap (λ (s : RegistryState). table_of c.args.requester.guid s.administration.transfers) c.self.view_is

pub returns-clause-next : goal.returns-clause-next
returns-clause-next c =
    let kept = c.self.inside.kept.items in
    rw (then_there c)
    (replaced c.args.requester.guid c.args.table kept c.args.requester.place c.index_mut.result.now c.self.inside.headings.items c.self.inside.partitions.items c.self.inside.is_broken c.args.self.now (at_place c) c.self.view_is)
