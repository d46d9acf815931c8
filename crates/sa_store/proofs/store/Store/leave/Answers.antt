use Rattle.std.proofs.Common.{◌≡◌, ◌∙◌, ◌++◌, ap, drop, length, subst, sym, take}
use Rattle.std.proofs.lemmas.List.{length-map}
use Rattle.sa_model.specs.Leaving.{left, left_in}
use Rattle.sa_model.specs.Receivers.{changed_numbers}
use Rattle.sa_store.specs.Kept.{ports_of}
use Rattle.sa_store.specs.Receiving.{numbers_changed}
use Rattle.sa_store.specs.Registry.{RegistryState}
use Rattle.sa_store.proofs.MemberLemmas.{all_written, few_partitions, leave_numbers, leave_registry}
use Rattle.sa_store.proofs.store.Store.leave.Goals as goal

pub leave_partitions-requires-clause-room : goal.leave_partitions-requires-clause-room
leave_partitions-requires-clause-room c =
    rw c.deref_mut.ensures.value (few_partitions c.self.inside.kept.items c.self.inside.headings.items c.self.inside.partitions.items _ c.self.invariant)

pub invariant_of-self : goal.invariant_of-self
invariant_of-self c =
    let kept = c.self.inside.kept.items in
    let partitions = c.self.inside.partitions.items in
    let new = c.leave_partitions.new.partitions in
    let next : new ≡ left (ports_of kept) c.args.leave.now partitions = rw (c.deref.ensures.value, c.deref_mut.ensures.value) at c.leave_partitions.ensures.next in
    let long : length new ≡ c.self.inside.partitions.len =
    ap length next ∙ length-map partitions (left_in (ports_of kept) c.args.leave.now) ∙ sym (ap length c.deref_mut.ensures.value) ∙ c.deref_mut.ensures.len in
    let written = all_written c.self.inside.partitions.len new partitions long in
    rw written (leave_registry c.args.leave.now kept c.self.inside.headings.items partitions new _ c.self.invariant next)

pub returns-clause-numbers : goal.returns-clause-numbers
returns-clause-numbers c =
    let kept = c.self.inside.kept.items in
    let partitions = c.self.inside.partitions.items in
    let new = c.leave_partitions.new.partitions in
    let next : new ≡ left (ports_of kept) c.args.leave.now partitions = rw (c.deref.ensures.value, c.deref_mut.ensures.value) at c.leave_partitions.ensures.next in
    let long : length new ≡ c.self.inside.partitions.len =
    ap length next ∙ length-map partitions (left_in (ports_of kept) c.args.leave.now) ∙ sym (ap length c.deref_mut.ensures.value) ∙ c.deref_mut.ensures.len in
    let written = all_written c.self.inside.partitions.len new partitions long in
    let numbers : c.leave_partitions.result.items ≡ numbers_changed (ports_of kept) partitions new =
    rw (c.deref.ensures.value, c.deref_mut.ensures.value) at c.leave_partitions.ensures.numbers in
    subst (λ (s : RegistryState). c.leave_partitions.result.items
    ≡ changed_numbers s.configuration.ports s.administration.remembered.partitions (take c.self.inside.partitions.len (new ++ drop (length new) partitions))) c.self.view_is
    (numbers
    ∙ sym (leave_numbers c.args.leave.now kept c.self.inside.headings.items partitions new _ c.self.invariant next)
    ∙ ap (changed_numbers (ports_of kept) partitions) (sym written))
