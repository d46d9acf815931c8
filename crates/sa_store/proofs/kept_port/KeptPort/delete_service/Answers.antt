use Rattle.std.proofs.Common.{◌≡◌, ◌<◌, length, arith, List, Some, None, get_or, ap, refl, sym, ◌∙◌}
use Rattle.std.specs.List.{list_any, position}
use Rattle.sa_model.specs.ServiceChange.{Deed, after_deed, has_id}
use Rattle.sa_model.specs.Services.{Service}
use Rattle.sa_store.specs.Deeds.{is_of_base}
use Rattle.sa_store.specs.Kept.{KeptPort, ServicesOfBase}
use Rattle.sa_store.proofs.BaseLemmas.{IsAtBase, at_base, bases_stay, has_place, in_at, never_none, same_places, set_at}
use Rattle.sa_store.proofs.kept_port.KeptPort.delete_service.Goals as goal

pub unreachable-requires : goal.unreachable-requires
unreachable-requires c =
    let same = ap (λ (one : KeptPort). one.services) c.self.view_is in
    let none : position (is_of_base c.args.base) c.args.self.now.services ≡ None = rw (c.deref.ensures.value, same) at (sym c.place_of_base.ensures ∙ c.in_default.is) in
    let port = ap (λ (one : KeptPort). one.port) c.self.view_is in
    let has = has_place c.args.base c.args.self.now (rw (same, port) at c.self.invariant.places_stand) c.requires in
    never_none c.args.base c.args.self.now.services has none

pub returns-clause-found : goal.returns-clause-found
returns-clause-found c =
    let places = c.args.self.now.services in
    let same = ap (λ (one : KeptPort). one.services) c.self.view_is in
    let place : position (is_of_base c.args.base) places ≡ Some c.in-Some.place = rw (c.deref.ensures.value, same) at (sym c.in-Some.ensures) in
    let port = ap (λ (one : KeptPort). one.port) c.self.view_is in
    let has = has_place c.args.base c.args.self.now (rw (same, port) at c.self.invariant.places_stand) c.requires in
    let at : IsAtBase c.args.base places c.in-Some.place c.index_mut.result.now = at_base c.args.base places c.in-Some.place c.index_mut.result.now has place in
    let item : c.index_mut.result.now ≡ get_or places c.in-Some.place c.index_mut.result.now = rw same at c.index_mut.ensures.value in
    c.delete.ensures.found ∙ ap (λ (one : ServicesOfBase). list_any (has_id c.args.id) one.services) item
    ∙ ap (λ (some : List Service). list_any (has_id c.args.id) some) (sym (in_at c.args.base places c.in-Some.place c.index_mut.result.now at))

pub returns-clause-next : goal.returns-clause-next
returns-clause-next c =
    let places = c.args.self.now.services in
    let same = ap (λ (one : KeptPort). one.services) c.self.view_is in
    let place : position (is_of_base c.args.base) places ≡ Some c.in-Some.place = rw (c.deref.ensures.value, same) at (sym c.in-Some.ensures) in
    let port = ap (λ (one : KeptPort). one.port) c.self.view_is in
    let has = has_place c.args.base c.args.self.now (rw (same, port) at c.self.invariant.places_stand) c.requires in
    let at : IsAtBase c.args.base places c.in-Some.place c.index_mut.result.now = at_base c.args.base places c.in-Some.place c.index_mut.result.now has place in
    let item : c.index_mut.result.now ≡ get_or places c.in-Some.place c.index_mut.result.now = rw same at c.index_mut.ensures.value in
    let table = ap (λ (one : KeptPort). one.open_table) c.self.view_is in
    let new = c.delete.ensures.next ∙ ap (λ (one : ServicesOfBase). record one { services = after_deed (Deed.deletes c.args.id) one.services }) item in
    rw (new, same, port, table, set_at c.args.base (Deed.deletes c.args.id) places c.in-Some.place c.index_mut.result.now at) refl

pub returns-clause-none : goal.returns-clause-none
returns-clause-none c nothing =
    let places = c.args.self.now.services in
    let same = ap (λ (one : KeptPort). one.services) c.self.view_is in
    let place : position (is_of_base c.args.base) places ≡ Some c.in-Some.place = rw (c.deref.ensures.value, same) at (sym c.in-Some.ensures) in
    let port = ap (λ (one : KeptPort). one.port) c.self.view_is in
    let has = has_place c.args.base c.args.self.now (rw (same, port) at c.self.invariant.places_stand) c.requires in
    let at : IsAtBase c.args.base places c.in-Some.place c.index_mut.result.now = at_base c.args.base places c.in-Some.place c.index_mut.result.now has place in
    let item : c.index_mut.result.now ≡ get_or places c.in-Some.place c.index_mut.result.now = rw same at c.index_mut.ensures.value in
    let table = ap (λ (one : KeptPort). one.open_table) c.self.view_is in
    let new : c.delete.new.self ≡ get_or places c.in-Some.place c.index_mut.result.now = c.delete.ensures.none nothing ∙ item in
    rw (new, same, port, table, same_places places c.in-Some.place c.index_mut.result.now at.within) refl

pub invariant_of-self : goal.invariant_of-self
invariant_of-self c =
    let places = c.args.self.now.services in
    let same = ap (λ (one : KeptPort). one.services) c.self.view_is in
    let place : position (is_of_base c.args.base) places ≡ Some c.in-Some.place = rw (c.deref.ensures.value, same) at (sym c.in-Some.ensures) in
    let port = ap (λ (one : KeptPort). one.port) c.self.view_is in
    let has = has_place c.args.base c.args.self.now (rw (same, port) at c.self.invariant.places_stand) c.requires in
    let at : IsAtBase c.args.base places c.in-Some.place c.index_mut.result.now = at_base c.args.base places c.in-Some.place c.index_mut.result.now has place in
    let item : c.index_mut.result.now ≡ get_or places c.in-Some.place c.index_mut.result.now = rw same at c.index_mut.ensures.value in
    let base = ap (λ (one : ServicesOfBase). one.base) c.delete.ensures.next ∙ ap (λ (one : ServicesOfBase). one.base) c.index_mut.ensures.value in
    let within : c.in-Some.place < length c.self.inside.services.items = omega (arith, at.within, ap length same) in
    record {
      keys_stand = c.self.invariant.keys_stand;
      node = c.self.invariant.node;
      encoded = c.self.invariant.encoded;
      places_stand = bases_stay c.self.inside.services.items c.in-Some.place c.index_mut.result.now c.delete.new.self within base ∙ c.self.invariant.places_stand;
    }
