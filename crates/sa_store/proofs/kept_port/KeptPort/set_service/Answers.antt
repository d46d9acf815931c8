use Rattle.std.proofs.Common.{◌≡◌, ◌<◌, length, arith, Some, None, get_or, ap, refl, sym, ◌∙◌}
use Rattle.std.proofs.lemmas.Result.{IfOk-weaker, on_ok_weaker}
use Rattle.std.proofs.Common.{Bool, List, Ok, Err, Result, OnOk, OnErr}
use Rattle.std.specs.List.{position}
use Rattle.sa_model.specs.ServiceChange.{Deed, after_deed}
use Rattle.sa_model.specs.Services.{Service}
use Rattle.sa_store.specs.Deeds.{is_of_base, services_in}
use Rattle.sa_store.specs.Kept.{KeptPort, ServicesOfBase}
use Rattle.sa_store.proofs.BaseLemmas.{IsAtBase, at_base, bases_stay, has_place, in_at, never_none, same_places, set_at}
use Rattle.sa_store.proofs.kept_port.KeptPort.set_service.Goals as goal

pub unreachable-requires : goal.unreachable-requires
unreachable-requires c =
    let same = ap (λ (one : KeptPort). one.services) c.self.view_is in
    let none : position (is_of_base c.args.base) c.args.self.now.services ≡ None = rw (c.deref.ensures.value, same) at (sym c.place_of_base.ensures ∙ c.in_default.is) in
    let port = ap (λ (one : KeptPort). one.port) c.self.view_is in
    let has = has_place c.args.base c.args.self.now (rw (same, port) at c.self.invariant.places_stand) c.requires in
    never_none c.args.base c.args.self.now.services has none

pub returns-clause-room : goal.returns-clause-room
returns-clause-room c =
    let places = c.args.self.now.services in
    let same = ap (λ (one : KeptPort). one.services) c.self.view_is in
    let place : position (is_of_base c.args.base) places ≡ Some c.in-Some.place = rw (c.deref.ensures.value, same) at (sym c.in-Some.ensures) in
    let port = ap (λ (one : KeptPort). one.port) c.self.view_is in
    let has = has_place c.args.base c.args.self.now (rw (same, port) at c.self.invariant.places_stand) c.requires in
    let at : IsAtBase c.args.base places c.in-Some.place c.index_mut.result.now = at_base c.args.base places c.in-Some.place c.index_mut.result.now has place in
    let item : c.index_mut.result.now ≡ get_or places c.in-Some.place c.index_mut.result.now = rw same at c.index_mut.ensures.value in
    let held : (get_or places c.in-Some.place c.index_mut.result.now).services ≡ services_in c.args.base places =
    sym (in_at c.args.base places c.in-Some.place c.index_mut.result.now at) in
    rw (item, held) at c.set.ensures.room

pub returns-clause-next : goal.returns-clause-next
returns-clause-next c =
    let places = c.args.self.now.services in
    let same = ap (λ (one : KeptPort). one.services) c.self.view_is in
    let place : position (is_of_base c.args.base) places ≡ Some c.in-Some.place = rw (c.deref.ensures.value, same) at (sym c.in-Some.ensures) in
    let port = ap (λ (one : KeptPort). one.port) c.self.view_is in
    let has = has_place c.args.base c.args.self.now (rw (same, port) at c.self.invariant.places_stand) c.requires in
    let at : IsAtBase c.args.base places c.in-Some.place c.index_mut.result.now = at_base c.args.base places c.in-Some.place c.index_mut.result.now has place in
    let item : c.index_mut.result.now ≡ get_or places c.in-Some.place c.index_mut.result.now = rw same at c.index_mut.ensures.value in
    let table = ap (λ (one : KeptPort). one.open_table) c.self.view_is in
    on_ok_weaker c.set.result (λ next.
    let new = next ∙ ap (λ (one : ServicesOfBase). record one { services = after_deed (Deed.sets c.args.service) one.services }) item in
    rw (new, same, port, table, set_at c.args.base (Deed.sets c.args.service) places c.in-Some.place c.index_mut.result.now at) refl) c.set.ensures.next

pub returns-clause-full : goal.returns-clause-full
returns-clause-full c =
    let places = c.args.self.now.services in
    let same = ap (λ (one : KeptPort). one.services) c.self.view_is in
    let place : position (is_of_base c.args.base) places ≡ Some c.in-Some.place = rw (c.deref.ensures.value, same) at (sym c.in-Some.ensures) in
    let port = ap (λ (one : KeptPort). one.port) c.self.view_is in
    let has = has_place c.args.base c.args.self.now (rw (same, port) at c.self.invariant.places_stand) c.requires in
    let at : IsAtBase c.args.base places c.in-Some.place c.index_mut.result.now = at_base c.args.base places c.in-Some.place c.index_mut.result.now has place in
    let item : c.index_mut.result.now ≡ get_or places c.in-Some.place c.index_mut.result.now = rw same at c.index_mut.ensures.value in
    let table = ap (λ (one : KeptPort). one.open_table) c.self.view_is in
    IfOk-weaker c.set.result _ _ (λ stored full not.
    let new : c.set.new.self ≡ get_or places c.in-Some.place c.index_mut.result.now = full not ∙ item in
    rw (new, same, port, table, same_places places c.in-Some.place c.index_mut.result.now at.within) refl) c.set.ensures.full

same_base : {E : Type 0} (result : Result Bool E) (old new : ServicesOfBase) (services : List Service) → OnOk result (new ≡ record old { services = services })
    → OnErr result (new ≡ old) → new.base ≡ old.base
same_base (Ok stored) old new services next err = ap (λ (one : ServicesOfBase). one.base) next
same_base (Err error) old new services next err = ap (λ (one : ServicesOfBase). one.base) err

pub invariant_of-self : goal.invariant_of-self
invariant_of-self c =
    let places = c.args.self.now.services in
    let same = ap (λ (one : KeptPort). one.services) c.self.view_is in
    let place : position (is_of_base c.args.base) places ≡ Some c.in-Some.place = rw (c.deref.ensures.value, same) at (sym c.in-Some.ensures) in
    let port = ap (λ (one : KeptPort). one.port) c.self.view_is in
    let has = has_place c.args.base c.args.self.now (rw (same, port) at c.self.invariant.places_stand) c.requires in
    let at : IsAtBase c.args.base places c.in-Some.place c.index_mut.result.now = at_base c.args.base places c.in-Some.place c.index_mut.result.now has place in
    let item : c.index_mut.result.now ≡ get_or places c.in-Some.place c.index_mut.result.now = rw same at c.index_mut.ensures.value in
    let base = same_base c.set.result c.index_mut.result.now c.set.new.self _ c.set.ensures.next c.set.ensures.err ∙ ap (λ (one : ServicesOfBase). one.base) c.index_mut.ensures.value in
    let within : c.in-Some.place < length c.self.inside.services.items = omega (arith, at.within, ap length same) in
    record {
      keys_stand = c.self.invariant.keys_stand;
      node = c.self.invariant.node;
      encoded = c.self.invariant.encoded;
      places_stand = bases_stay c.self.inside.services.items c.in-Some.place c.index_mut.result.now c.set.new.self within base ∙ c.self.invariant.places_stand;
    }
