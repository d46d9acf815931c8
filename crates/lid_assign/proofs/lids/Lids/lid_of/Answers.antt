use Rattle.std.proofs.Common.{Err, Ok, subst, sym}
use Rattle.std.specs.List.Sorted.{IsBinarySearchResult}
use Rattle.std.specs.Ordering.{nat_cmp}
use Rattle.lid_assign.proofs.LidLemmas.{lid_found, lid_not_found}
use Rattle.lid_assign.proofs.lids.Lids.lid_of.Goals as goal

pub returns-in-Ok : goal.returns-in-Ok
returns-in-Ok c =
    let found = subst (λ xs. IsBinarySearchResult (λ y. nat_cmp y c.args.guid) xs (Ok c.in-Ok.place)) c.deref.ensures.value c.in-Ok.ensures.position in
    rw (← c.self.view_is)
    (sym (lid_found c.self.inside.manager c.args.guid c.in-Ok.place c.self.inside.others.items c.if-guid-self.false c.self.invariant.rising found))

pub returns-in-Err : goal.returns-in-Err
returns-in-Err c =
    let found = subst (λ xs. IsBinarySearchResult (λ y. nat_cmp y c.args.guid) xs (Err c.in-Err.field-0)) c.deref.ensures.value c.in-Err.ensures.position in
    rw (← c.self.view_is)
    (sym (lid_not_found c.self.inside.manager c.args.guid c.in-Err.field-0 c.self.inside.others.items c.if-guid-self.false c.self.invariant.rising found))
