use Rattle.std.proofs.Common.{◌≡◌, ◌<◌, ◌≤◌, length, ap, refl, sym, ◌∙◌, arith}
use Rattle.sa_model.specs.ServiceChange.{most_services}
use Rattle.sa_model.specs.Services.{Service}
use Rattle.sa_store.specs.Kept.{ServicesOfBase}
use Rattle.sa_store.proofs.DeedLemmas.{found_there, inserted_there, is_at, no_room, none_there, place_for, room_behind, room_of_its_own, set_there}
use Rattle.sa_store.proofs.services.ServicesOfBase.set.Goals as goal

pub returns-then-is_at-clause-room : goal.returns-then-is_at-clause-room
returns-then-is_at-clause-room c =
    let id = c.args.service.service_id in
    let own = ap (λ (s : Service). s.service_id) c.service.view_is in
    let same = ap (λ (s : ServicesOfBase). s.services) c.self.view_is in
    let at : c.is_at.result ≡ is_at id c.args.self.now.services = rw (c.place_for-place.ensures.value, c.deref.ensures.value, c.deref-2.ensures.value, same, own) at c.is_at.ensures in
    sym (room_of_its_own id c.args.self.now.services (found_there id c.args.self.now.services (sym at ∙ c.if-is_at.true)))

pub returns-then-is_at-clause-next : goal.returns-then-is_at-clause-next
returns-then-is_at-clause-next c =
    let id = c.args.service.service_id in
    let own = ap (λ (s : Service). s.service_id) c.service.view_is in
    let same = ap (λ (s : ServicesOfBase). s.services) c.self.view_is in
    let base = ap (λ (s : ServicesOfBase). s.base) c.self.view_is in
    let at : c.is_at.result ≡ is_at id c.args.self.now.services = rw (c.place_for-place.ensures.value, c.deref.ensures.value, c.deref-2.ensures.value, same, own) at c.is_at.ensures in
    let place : c.place_for-place.result ≡ place_for id c.args.self.now.services = rw (c.deref.ensures.value, same, own) at c.place_for-place.ensures.value in
    let there = sym at ∙ c.if-is_at.true in
    let room = room_of_its_own id c.args.self.now.services (found_there id c.args.self.now.services there) in
    let set = set_there c.args.service c.args.self.now.services c.requires there in
    rw (room, base, same, place, set) refl

pub returns-then-len-ge-MOST_SERVICES-clause-room : goal.returns-then-len-ge-MOST_SERVICES-clause-room
returns-then-len-ge-MOST_SERVICES-clause-room c =
    let id = c.args.service.service_id in
    let own = ap (λ (s : Service). s.service_id) c.service.view_is in
    let same = ap (λ (s : ServicesOfBase). s.services) c.self.view_is in
    let at : c.is_at.result ≡ is_at id c.args.self.now.services = rw (c.place_for-place.ensures.value, c.deref.ensures.value, c.deref-2.ensures.value, same, own) at c.is_at.ensures in
    let full : most_services ≤ length c.args.self.now.services = omega (arith, c.if-len-ge-MOST_SERVICES.true, c.len.ensures, ap length same) in
    sym (no_room id c.args.self.now.services (none_there id c.args.self.now.services c.requires (sym at ∙ c.if-is_at.false)) full)

pub returns-then-len-ge-MOST_SERVICES-clause-next : goal.returns-then-len-ge-MOST_SERVICES-clause-next
returns-then-len-ge-MOST_SERVICES-clause-next c =
    let id = c.args.service.service_id in
    let own = ap (λ (s : Service). s.service_id) c.service.view_is in
    let same = ap (λ (s : ServicesOfBase). s.services) c.self.view_is in
    let at : c.is_at.result ≡ is_at id c.args.self.now.services = rw (c.place_for-place.ensures.value, c.deref.ensures.value, c.deref-2.ensures.value, same, own) at c.is_at.ensures in
    let full : most_services ≤ length c.args.self.now.services = omega (arith, c.if-len-ge-MOST_SERVICES.true, c.len.ensures, ap length same) in
    let room = no_room id c.args.self.now.services (none_there id c.args.self.now.services c.requires (sym at ∙ c.if-is_at.false)) full in
    rw room refl

pub returns-clause-next : goal.returns-clause-next
returns-clause-next c =
    let id = c.args.service.service_id in
    let own = ap (λ (s : Service). s.service_id) c.service.view_is in
    let same = ap (λ (s : ServicesOfBase). s.services) c.self.view_is in
    let base = ap (λ (s : ServicesOfBase). s.base) c.self.view_is in
    let at : c.is_at.result ≡ is_at id c.args.self.now.services = rw (c.place_for-place.ensures.value, c.deref.ensures.value, c.deref-2.ensures.value, same, own) at c.is_at.ensures in
    let place : c.place_for-place.result ≡ place_for id c.args.self.now.services = rw (c.deref.ensures.value, same, own) at c.place_for-place.ensures.value in
    let few : length c.args.self.now.services < most_services = omega (arith, c.if-len-ge-MOST_SERVICES.false, c.len.ensures, ap length same) in
    let room = room_behind id c.args.self.now.services few in
    let put = inserted_there c.args.service c.args.self.now.services c.requires (sym at ∙ c.if-is_at.false) in
    rw (room, base, c.in_ok-insert.ensures.items, same, place, put) refl
