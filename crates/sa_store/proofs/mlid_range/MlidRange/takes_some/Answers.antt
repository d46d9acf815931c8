use Rattle.std.proofs.Common.{◌≡◌, ◌∙◌, List, ap, false, sym, true}
use Rattle.std.specs.List.{list_any}
use Rattle.sa_model.specs.Groups.{MulticastGroup, PartitionGroups, first_mlid}
use Rattle.sa_model.specs.Leaving.{names_base}
use Rattle.sa_replies.specs.Joins.{is_taken_from}
use Rattle.sa_store.specs.Left.{takes_from}
use Rattle.sa_store.proofs.LeaveLemmas.{any_taken, nothing_taken}
use Rattle.sa_store.proofs.mlid_range.MlidRange.takes_some.Goals as goal

pub returns-then-names_base : goal.returns-then-names_base
returns-then-names_base c =
    let leave = c.args.leave.now in
    let base = c.args.self.now.base in
    let slots = c.self.inside.slots.items in
    let groups = ap (λ (partition : PartitionGroups). partition.groups) c.self.view_is in
    let named : names_base leave.base base ≡ true = rw c.base.ensures.value at (sym c.names_base.ensures ∙ c.if-names_base.true) in
    let some : c.some_takes.result ≡ list_any (takes_from leave) slots = rw c.deref.ensures.value at c.some_takes.ensures in
    some ∙ sym (any_taken leave base (first_mlid c.self.inside.number) slots named)
    ∙ ap (λ (some : List MulticastGroup). list_any (λ (group : MulticastGroup). list_any (is_taken_from leave base group) group.memberships) some) groups

pub returns-else-names_base : goal.returns-else-names_base
returns-else-names_base c =
    let leave = c.args.leave.now in
    let base = c.args.self.now.base in
    let other : names_base leave.base base ≡ false = rw c.base.ensures.value at (sym c.names_base.ensures ∙ c.if-names_base.false) in
    c.if-names_base.false ∙ sym (nothing_taken leave base c.args.self.now.groups other)
