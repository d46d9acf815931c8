use Rattle.std.proofs.Common.{◌≡◌, ◌∙◌, None, Some, ap, get_or, is_some, length-set, position, sym}
use Rattle.std.proofs.lemmas.Result.{on_ok_weaker}
use Rattle.std.proofs.lemmas.List.Quantifiers.{position-Some}
use Rattle.sa_model.specs.Groups.{PartitionGroups}
use Rattle.sa_model.specs.Joining.{Join}
use Rattle.sa_store.specs.Joined.{holds_mgid, joined_slot}
use Rattle.sa_store.proofs.SlotLemmas.{free_stays, partition_joined, partition_left_alone, slot_in_order}
use Rattle.sa_model.specs.Groups.{first_mlid}
use Rattle.sa_store.proofs.mlid_range.MlidRange.join.Goals as goal

pub enter_slot-requires : goal.enter_slot-requires
enter_slot-requires c =
    let slots = c.self.inside.slots.items in
    let groups = ap (λ (partition : PartitionGroups). partition.groups) c.self.view_is in
    let place : position (holds_mgid c.join.inside.mgid) slots ≡ Some c.in-Some.place = rw c.deref.ensures.value at (sym c.in-Some.ensures) in
    let at = position-Some (holds_mgid c.join.inside.mgid) slots c.in-Some.place c.index_mut.result.now place in
    rw c.index_mut.ensures.value (slot_in_order (first_mlid c.self.inside.number) slots c.in-Some.place c.index_mut.result.now at.0 (rw groups c.requires.order))

pub invariant_of-self : goal.invariant_of-self
invariant_of-self c =
    let slots = c.self.inside.slots.items in
    let place : position (holds_mgid c.join.inside.mgid) slots ≡ Some c.in-Some.place = rw c.deref.ensures.value at (sym c.in-Some.ensures) in
    let at = position-Some (holds_mgid c.join.inside.mgid) slots c.in-Some.place c.index_mut.result.now place in
    let full = c.enter_slot.ensures.full ∙ ap is_some c.index_mut.ensures.value in
    record {
      numbered = c.self.invariant.numbered;
      based = c.self.invariant.based;
      all = length-set slots c.in-Some.place c.enter_slot.new.slot ∙ c.self.invariant.all;
      reported = c.self.invariant.reported ∙ sym (free_stays slots c.in-Some.place c.index_mut.result.now c.enter_slot.new.slot at.0 full);
    }

pub returns-in-Some-clause-next : goal.returns-in-Some-clause-next
returns-in-Some-clause-next c =
    let join = c.args.join.now in
    let slots = c.self.inside.slots.items in
    let place : position (holds_mgid join.mgid) slots ≡ Some c.in-Some.place =
    rw (c.deref.ensures.value, ap (λ (one : Join). one.mgid) c.join.view_is) at (sym c.in-Some.ensures) in
    on_ok_weaker c.enter_slot.result (λ new.
    let put : c.enter_slot.new.slot ≡ joined_slot join (get_or slots c.in-Some.place c.index_mut.result.now) = new ∙ ap (joined_slot join) c.index_mut.ensures.value in
    rw put (partition_joined join c.self.inside.number c.self.inside.base slots c.in-Some.place c.index_mut.result.now c.args.self.now c.self.view_is place c.requires.own)) c.enter_slot.ensures.next

pub returns-in-None-clause-next : goal.returns-in-None-clause-next
returns-in-None-clause-next c =
    let join = c.args.join.now in
    let slots = c.self.inside.slots.items in
    let none : position (holds_mgid join.mgid) slots ≡ None =
    rw (c.deref.ensures.value, ap (λ (one : Join). one.mgid) c.join.view_is) at (sym c.in-None.ensures) in
    partition_left_alone join c.self.inside.number c.self.inside.base slots c.args.self.now c.self.view_is none
