use Rattle.std.proofs.Common.{◌≡◌, ◌∙◌, ◌∷◌, ◌&&◌, if◌then◌else◌, ap, get_or, set, subst, sym, []}
use Rattle.sa_model.specs.Groups.{PartitionGroups}
use Rattle.sa_model.specs.Receivers.{changed_numbers}
use Rattle.sa_store.specs.Joined.{entered}
use Rattle.sa_store.specs.Kept.{ports_of}
use Rattle.sa_store.specs.Members.{CanJoin, receives_anew}
use Rattle.sa_store.specs.Receiving.{is_adapter}
use Rattle.sa_store.specs.Registry.{RegistryState}
use Rattle.sa_store.proofs.LeaveLemmas.{are_in_order}
use Rattle.sa_store.proofs.MemberLemmas.{join_numbers, join_registry, join_state, of_base, sound_at}
use Rattle.sa_store.proofs.store.Store.join.Goals as goal

pub enter-requires-clause-order : goal.enter-requires-clause-order
enter-requires-clause-order c =
    let kept = c.self.inside.kept.items in
    let partitions = c.self.inside.partitions.items in
    let d = c.index_mut-partition.result.now in
    let can : CanJoin (ports_of kept) c.args.join.now partitions c.args.place =
    subst (λ (s : RegistryState). CanJoin s.configuration.ports c.args.join.now s.administration.remembered.partitions c.args.place) (sym c.self.view_is) c.requires in
    let at = of_base kept c.self.inside.headings.items partitions _ c.args.join.now.base c.args.place d c.self.invariant can.there in
    let sound = sound_at kept c.self.inside.headings.items partitions _ c.args.place d c.self.invariant at.within in
    rw c.index_mut-partition.ensures.value (are_in_order (ports_of kept) (get_or partitions c.args.place d) sound)

pub invariant_of-self-2 : goal.invariant_of-self-2
invariant_of-self-2 c =
    let kept = c.self.inside.kept.items in
    let partitions = c.self.inside.partitions.items in
    let join = c.args.join.now in
    let d = c.index_mut-partition.result.now in
    let can : CanJoin (ports_of kept) join partitions c.args.place =
    subst (λ (s : RegistryState). CanJoin s.configuration.ports join s.administration.remembered.partitions c.args.place) (sym c.self.view_is) c.requires in
    let next : c.enter.new.self ≡ entered join (get_or partitions c.args.place d) = c.in_ok-enter.ensures.next ∙ ap (entered join) c.index_mut-partition.ensures.value in
    join_registry join kept c.self.inside.headings.items partitions _ c.args.place d c.enter.new.self c.self.invariant can next

pub returns-clause-next : goal.returns-clause-next
returns-clause-next c =
    let kept = c.self.inside.kept.items in
    let partitions = c.self.inside.partitions.items in
    let join = c.args.join.now in
    let d = c.index_mut-partition.result.now in
    let can : CanJoin (ports_of kept) join partitions c.args.place =
    subst (λ (s : RegistryState). CanJoin s.configuration.ports join s.administration.remembered.partitions c.args.place) (sym c.self.view_is) c.requires in
    let next : c.enter.new.self ≡ entered join (get_or partitions c.args.place d) = c.in_ok-enter.ensures.next ∙ ap (entered join) c.index_mut-partition.ensures.value in
    join_state join kept c.self.inside.headings.items partitions _ c.args.place d c.enter.new.self c.self.inside.is_broken c.args.self.now c.self.invariant can next c.self.view_is

pub returns-clause-numbers : goal.returns-clause-numbers
returns-clause-numbers c =
    let kept = c.self.inside.kept.items in
    let partitions = c.self.inside.partitions.items in
    let join = c.args.join.now in
    let d = c.index_mut-partition.result.now in
    let can : CanJoin (ports_of kept) join partitions c.args.place =
    subst (λ (s : RegistryState). CanJoin s.configuration.ports join s.administration.remembered.partitions c.args.place) (sym c.self.view_is) c.requires in
    let next : c.enter.new.self ≡ entered join (get_or partitions c.args.place d) = c.in_ok-enter.ensures.next ∙ ap (entered join) c.index_mut-partition.ensures.value in
    let anew : c.receives_anew-is_new.result ≡ (receives_anew join (get_or partitions c.args.place d) && is_adapter (ports_of kept) join.port) =
    subst (λ (s : RegistryState). c.receives_anew-is_new.result
    ≡ (receives_anew join (get_or s.administration.remembered.partitions c.args.place d) && is_adapter s.configuration.ports join.port)) (sym c.self.view_is)
    (c.receives_anew-is_new.ensures d) in
    let number : c.number.result ≡ (get_or partitions c.args.place d).number = c.number.ensures ∙ ap (λ (partition : PartitionGroups). partition.number) next in
    subst (λ (s : RegistryState). c.only_if.result.items
    ≡ changed_numbers s.configuration.ports s.administration.remembered.partitions (set partitions c.args.place c.enter.new.self)) c.self.view_is
    (c.only_if.ensures
    ∙ (λ i. if anew i then number i ∷ [] else [])
    ∙ sym (join_numbers join kept c.self.inside.headings.items partitions _ c.args.place d c.enter.new.self c.self.invariant can next))
