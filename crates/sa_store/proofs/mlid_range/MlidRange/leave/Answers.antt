use Rattle.std.proofs.Common.{◌≡◌, ◌∙◌, ℕ, None, Some, ap, false, get_or, is_some, length-set, not, position, sym, true}
use Rattle.std.proofs.lemmas.List.Quantifiers.{position-Some}
use Rattle.sa_model.specs.Groups.{PartitionGroups, first_mlid}
use Rattle.sa_model.specs.Leaving.{Leave, names_base}
use Rattle.sa_store.specs.Joined.{holds_mgid}
use Rattle.sa_store.specs.Left.{left_slot}
use Rattle.sa_store.specs.Receiving.{slot_changes}
use Rattle.sa_store.proofs.LeaveLemmas.{bit_freed, holds_some, not_named, not_there, partition_left, slot_settled}
use Rattle.sa_store.proofs.LostLemmas.{partition_changed, written}
use Rattle.sa_store.proofs.ReceiverLemmas.{unchanged}
use Rattle.sa_store.proofs.SlotLemmas.{free_stays}
use Rattle.sa_store.proofs.mlid_range.MlidRange.leave.Goals as goal

pub returns-then-not-names_base-clause-next : goal.returns-then-not-names_base-clause-next
returns-then-not-names_base-clause-next g c ports reports kept =
    let leave = c.args.leave.now in
    let other : names_base leave.base c.args.self.now.base ≡ false = rw c.base.ensures.value at (sym c.names_base.ensures ∙ c.if-not-names_base.true) in
    not_named ports leave c.args.self.now other (record { own = c.requires.own; settled = c.requires.settled; kept = kept })

pub returns-then-not-names_base-clause-changed : goal.returns-then-not-names_base-clause-changed
returns-then-not-names_base-clause-changed g c ports reports adapters lids own = sym (unchanged ports c.args.self.now)

pub returns-in_default-clause-next : goal.returns-in_default-clause-next
returns-in_default-clause-next g c ports reports kept =
    let leave = c.args.leave.now in
    let mgid = ap (λ (leave : Leave). leave.mgid) c.leave.view_is in
    let none : position (holds_mgid leave.mgid) c.self.inside.slots.items ≡ None = rw (c.deref.ensures.value, mgid) at (sym c.place_of.ensures ∙ c.in_default.is) in
    not_there ports leave c.self.inside.number c.self.inside.base c.self.inside.slots.items c.args.self.now c.self.view_is none
    (record { own = c.requires.own; settled = c.requires.settled; kept = kept })

pub returns-in_default-clause-changed : goal.returns-in_default-clause-changed
returns-in_default-clause-changed g c ports reports adapters lids own = sym (unchanged ports c.args.self.now)

pub leave_slot-changes-requires-clause-settled : goal.leave_slot-changes-requires-clause-settled
leave_slot-changes-requires-clause-settled g c =
    let slots = c.self.inside.slots.items in
    let groups = ap (λ (partition : PartitionGroups). partition.groups) c.self.view_is in
    let place : position (holds_mgid c.leave.inside.mgid) slots ≡ Some c.in-Some.place = rw c.deref.ensures.value at (sym c.in-Some.ensures) in
    let at = position-Some (holds_mgid c.leave.inside.mgid) slots c.in-Some.place c.index_mut.result.now place in
    rw c.index_mut.ensures.value (slot_settled (first_mlid c.self.inside.number) slots c.in-Some.place c.index_mut.result.now at.0 (rw groups c.requires.settled))

pub invariant_of-self : goal.invariant_of-self
invariant_of-self g c =
    let slots = c.self.inside.slots.items in
    let i = c.in-Some.place in
    let d = c.index_mut.result.now in
    let new = c.leave_slot-changes.new.slot in
    let place : position (holds_mgid c.leave.inside.mgid) slots ≡ Some i = rw c.deref.ensures.value at (sym c.in-Some.ensures) in
    let at = position-Some (holds_mgid c.leave.inside.mgid) slots i d place in
    let none : is_some new ≡ false = written slots i new c.index.result.now at.0 c.index.ensures ∙ c.is_none.ensures ∙ ap not c.if-is_none.true in
    let reported = c.self.invariant.reported in
    record {
      numbered = c.self.invariant.numbered;
      based = c.self.invariant.based;
      all = length-set slots i new ∙ c.self.invariant.all;
      reported = rw reported (bit_freed slots i d new c.self.invariant.all at.0 (holds_some c.leave.inside.mgid (get_or slots i d) at.1) none);
    }

pub invariant_of-self-else-is_none : goal.invariant_of-self-else-is_none
invariant_of-self-else-is_none g c =
    let slots = c.self.inside.slots.items in
    let i = c.in-Some.place in
    let d = c.index_mut.result.now in
    let new = c.leave_slot-changes.new.slot in
    let place : position (holds_mgid c.leave.inside.mgid) slots ≡ Some i = rw c.deref.ensures.value at (sym c.in-Some.ensures) in
    let at = position-Some (holds_mgid c.leave.inside.mgid) slots i d place in
    let full : is_some new ≡ true = written slots i new c.index.result.now at.0 c.index.ensures ∙ c.is_none.ensures ∙ ap not c.if-is_none.false in
    record {
      numbered = c.self.invariant.numbered;
      based = c.self.invariant.based;
      all = length-set slots i new ∙ c.self.invariant.all;
      reported = c.self.invariant.reported ∙ sym (free_stays slots i d new at.0 (full ∙ sym (holds_some c.leave.inside.mgid (get_or slots i d) at.1)));
    }

pub returns-then-is_none-clause-next : goal.returns-then-is_none-clause-next
returns-then-is_none-clause-next g c ports reports kept =
    let leave = c.args.leave.now in
    let slots = c.self.inside.slots.items in
    let i = c.in-Some.place in
    let d = c.index_mut.result.now in
    let mgid = ap (λ (leave : Leave). leave.mgid) c.leave.view_is in
    let base = ap (λ (partition : PartitionGroups). partition.base) c.self.view_is in
    let place : position (holds_mgid leave.mgid) slots ≡ Some i = rw (c.deref.ensures.value, mgid) at (sym c.in-Some.ensures) in
    let named : names_base leave.base c.self.inside.base ≡ true =
    ap (names_base leave.base) base ∙ rw c.base.ensures.value at (sym c.names_base.ensures ∙ c.if-not-names_base.false) in
    let new : c.leave_slot-changes.new.slot ≡ left_slot ports c.self.inside.base leave (get_or slots i d) =
    c.leave_slot-changes.ensures.next ports c.args.self.now.base reports ∙ ap (left_slot ports c.args.self.now.base leave) c.index_mut.ensures.value
    ∙ ap (λ (base : ℕ). left_slot ports base leave (get_or slots i d)) (sym base) in
    rw new (partition_left ports leave c.self.inside.number c.self.inside.base slots i d c.args.self.now c.self.view_is place named
    (record { own = c.requires.own; settled = c.requires.settled; kept = kept }))

pub returns-then-is_none-clause-changed : goal.returns-then-is_none-clause-changed
returns-then-is_none-clause-changed g c ports reports adapters lids own =
    let leave = c.args.leave.now in
    let slots = c.self.inside.slots.items in
    let i = c.in-Some.place in
    let d = c.index_mut.result.now in
    let mgid = ap (λ (leave : Leave). leave.mgid) c.leave.view_is in
    let base = ap (λ (partition : PartitionGroups). partition.base) c.self.view_is in
    let place : position (holds_mgid leave.mgid) slots ≡ Some i = rw (c.deref.ensures.value, mgid) at (sym c.in-Some.ensures) in
    let new : c.leave_slot-changes.new.slot ≡ left_slot ports c.self.inside.base leave (get_or slots i d) =
    c.leave_slot-changes.ensures.next ports c.args.self.now.base reports ∙ ap (left_slot ports c.args.self.now.base leave) c.index_mut.ensures.value
    ∙ ap (λ (base : ℕ). left_slot ports base leave (get_or slots i d)) (sym base) in
    let reported : c.leave_slot-changes.result ≡ slot_changes ports c.self.inside.base leave (get_or slots i d) =
    c.leave_slot-changes.ensures.changed ports c.args.self.now.base reports adapters
    ∙ ap (slot_changes ports c.args.self.now.base leave) c.index_mut.ensures.value
    ∙ ap (λ (base : ℕ). slot_changes ports base leave (get_or slots i d)) (sym base) in
    rw new (reported ∙ partition_changed ports c.self.inside.number c.self.inside.base leave slots i d c.args.self.now c.self.view_is place c.requires.settled lids own)

pub returns-else-is_none-clause-next : goal.returns-else-is_none-clause-next
returns-else-is_none-clause-next g c ports reports kept =
    let leave = c.args.leave.now in
    let slots = c.self.inside.slots.items in
    let i = c.in-Some.place in
    let d = c.index_mut.result.now in
    let mgid = ap (λ (leave : Leave). leave.mgid) c.leave.view_is in
    let base = ap (λ (partition : PartitionGroups). partition.base) c.self.view_is in
    let place : position (holds_mgid leave.mgid) slots ≡ Some i = rw (c.deref.ensures.value, mgid) at (sym c.in-Some.ensures) in
    let named : names_base leave.base c.self.inside.base ≡ true =
    ap (names_base leave.base) base ∙ rw c.base.ensures.value at (sym c.names_base.ensures ∙ c.if-not-names_base.false) in
    let new : c.leave_slot-changes.new.slot ≡ left_slot ports c.self.inside.base leave (get_or slots i d) =
    c.leave_slot-changes.ensures.next ports c.args.self.now.base reports ∙ ap (left_slot ports c.args.self.now.base leave) c.index_mut.ensures.value
    ∙ ap (λ (base : ℕ). left_slot ports base leave (get_or slots i d)) (sym base) in
    rw new (partition_left ports leave c.self.inside.number c.self.inside.base slots i d c.args.self.now c.self.view_is place named
    (record { own = c.requires.own; settled = c.requires.settled; kept = kept }))

pub returns-else-is_none-clause-changed : goal.returns-else-is_none-clause-changed
returns-else-is_none-clause-changed g c ports reports adapters lids own =
    let leave = c.args.leave.now in
    let slots = c.self.inside.slots.items in
    let i = c.in-Some.place in
    let d = c.index_mut.result.now in
    let mgid = ap (λ (leave : Leave). leave.mgid) c.leave.view_is in
    let base = ap (λ (partition : PartitionGroups). partition.base) c.self.view_is in
    let place : position (holds_mgid leave.mgid) slots ≡ Some i = rw (c.deref.ensures.value, mgid) at (sym c.in-Some.ensures) in
    let new : c.leave_slot-changes.new.slot ≡ left_slot ports c.self.inside.base leave (get_or slots i d) =
    c.leave_slot-changes.ensures.next ports c.args.self.now.base reports ∙ ap (left_slot ports c.args.self.now.base leave) c.index_mut.ensures.value
    ∙ ap (λ (base : ℕ). left_slot ports base leave (get_or slots i d)) (sym base) in
    let reported : c.leave_slot-changes.result ≡ slot_changes ports c.self.inside.base leave (get_or slots i d) =
    c.leave_slot-changes.ensures.changed ports c.args.self.now.base reports adapters
    ∙ ap (slot_changes ports c.args.self.now.base leave) c.index_mut.ensures.value
    ∙ ap (λ (base : ℕ). slot_changes ports base leave (get_or slots i d)) (sym base) in
    rw new (reported ∙ partition_changed ports c.self.inside.number c.self.inside.base leave slots i d c.args.self.now c.self.view_is place c.requires.settled lids own)
