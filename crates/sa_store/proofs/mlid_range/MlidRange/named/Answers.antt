use Rattle.std.proofs.Common.{◌≡◌, ◌+◌, ◌∙◌, None, Some, ap, find, get_or, option_map, position, refl, sym, true}
use Rattle.std.proofs.lemmas.Bool.{false≢true}
use Rattle.std.proofs.lemmas.List.Quantifiers.{position-Some}
use Rattle.sa_model.specs.Groups.{PartitionGroups, first_mlid}
use Rattle.sa_model.specs.Joining.{has_mgid}
use Rattle.sa_store.specs.Joined.{holds_mgid}
use Rattle.sa_store.specs.MlidRange.{groups_in, with_mlid}
use Rattle.sa_store.proofs.MemberLemmas.{found_in_none, found_in_slot}
use Rattle.sa_store.proofs.mlid_range.MlidRange.named.Goals as goal

pub returns-in_err-place : goal.returns-in_err-place
returns-in_err-place c =
    let slots = c.self.inside.slots.items in
    let groups : groups_in (first_mlid c.self.inside.number) slots ≡ c.args.self.now.groups = ap (λ (partition : PartitionGroups). partition.groups) c.self.view_is in
    let none : position (holds_mgid c.args.mgid) slots ≡ None = rw c.deref.ensures.value at (sym c.in_err-place.ensures) in
    let found : find (has_mgid c.args.mgid) c.args.self.now.groups ≡ None = rw groups at (found_in_none c.args.mgid (first_mlid c.self.inside.number) slots none) in
    rw (c.from_residual.ensures, found) refl

pub returns-in_err-group : goal.returns-in_err-group
returns-in_err-group c =
    let slots = c.self.inside.slots.items in
    let place : position (holds_mgid c.args.mgid) slots ≡ Some c.in_ok-place.place = rw c.deref.ensures.value at (sym c.in_ok-place.ensures) in
    let at = position-Some (holds_mgid c.args.mgid) slots c.in_ok-place.place c.index.result.now place in
    let here : holds_mgid c.args.mgid c.index.result.now ≡ true = ap (holds_mgid c.args.mgid) c.index.ensures ∙ at.1 in
    absurd (false≢true (ap (holds_mgid c.args.mgid) c.in_err-group.ensures.value ∙ here))

pub returns : goal.returns
returns c =
    let slots = c.self.inside.slots.items in
    let number = ap (λ (partition : PartitionGroups). partition.number) c.self.view_is in
    let groups : groups_in (first_mlid c.self.inside.number) slots ≡ c.args.self.now.groups = ap (λ (partition : PartitionGroups). partition.groups) c.self.view_is in
    let place : position (holds_mgid c.args.mgid) slots ≡ Some c.in_ok-place.place = rw c.deref.ensures.value at (sym c.in_ok-place.ensures) in
    let found = found_in_slot c.args.mgid (first_mlid c.self.inside.number) slots c.in_ok-place.place c.index.result.now place in
    let mlid : c.mlid_of.result ≡ first_mlid c.self.inside.number + c.in_ok-place.place = rw (sym number) at c.mlid_of.ensures in
    let slot : Some c.in_ok-group.group.now ≡ get_or slots c.in_ok-place.place c.index.result.now = c.in_ok-group.ensures.value ∙ c.index.ensures in
    ap (option_map (with_mlid c.mlid_of.result)) slot
    ∙ (λ i. option_map (with_mlid (mlid i)) (get_or slots c.in_ok-place.place c.index.result.now))
    ∙ sym found
    ∙ ap (find (has_mgid c.args.mgid)) groups
