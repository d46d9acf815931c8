use Rattle.std.proofs.Common.{◌≡◌, length, ap, refl, sym, ◌∙◌, arith}
use Rattle.sa_store.specs.Kept.{ServicesOfBase}
use Rattle.sa_store.proofs.DeedLemmas.{found_there, is_at, none_there, nothing_deleted, place_for, removed_there, within_there}
use Rattle.sa_store.proofs.services.ServicesOfBase.delete.Goals as goal

pub returns-then-not-is_at-clause-found : goal.returns-then-not-is_at-clause-found
returns-then-not-is_at-clause-found c =
    let same = ap (λ (s : ServicesOfBase). s.services) c.self.view_is in
    let at : c.is_at.result ≡ is_at c.args.id c.args.self.now.services = rw (c.place_for-place.ensures.value, c.deref.ensures.value, c.deref-2.ensures.value, same) at c.is_at.ensures in
    sym (none_there c.args.id c.args.self.now.services c.requires (sym at ∙ c.if-not-is_at.true))

pub returns-then-not-is_at-clause-next : goal.returns-then-not-is_at-clause-next
returns-then-not-is_at-clause-next c =
    let same = ap (λ (s : ServicesOfBase). s.services) c.self.view_is in
    let at : c.is_at.result ≡ is_at c.args.id c.args.self.now.services = rw (c.place_for-place.ensures.value, c.deref.ensures.value, c.deref-2.ensures.value, same) at c.is_at.ensures in
    let none = none_there c.args.id c.args.self.now.services c.requires (sym at ∙ c.if-not-is_at.true) in
    rw (nothing_deleted c.args.id c.args.self.now.services none) refl

pub remove-requires : goal.remove-requires
remove-requires c =
    let same = ap (λ (s : ServicesOfBase). s.services) c.self.view_is in
    let at : c.is_at.result ≡ is_at c.args.id c.args.self.now.services = rw (c.place_for-place.ensures.value, c.deref.ensures.value, c.deref-2.ensures.value, same) at c.is_at.ensures in
    let place : c.place_for-place.result ≡ place_for c.args.id c.args.self.now.services = rw (c.deref.ensures.value, same) at c.place_for-place.ensures.value in
    let within = within_there c.args.id c.args.self.now.services (sym at ∙ c.if-not-is_at.false) in
    omega (arith, within, place, ap length same)

pub returns-clause-found : goal.returns-clause-found
returns-clause-found c =
    let same = ap (λ (s : ServicesOfBase). s.services) c.self.view_is in
    let at : c.is_at.result ≡ is_at c.args.id c.args.self.now.services = rw (c.place_for-place.ensures.value, c.deref.ensures.value, c.deref-2.ensures.value, same) at c.is_at.ensures in
    sym (found_there c.args.id c.args.self.now.services (sym at ∙ c.if-not-is_at.false))

pub returns-clause-next : goal.returns-clause-next
returns-clause-next c =
    let same = ap (λ (s : ServicesOfBase). s.services) c.self.view_is in
    let base = ap (λ (s : ServicesOfBase). s.base) c.self.view_is in
    let at : c.is_at.result ≡ is_at c.args.id c.args.self.now.services = rw (c.place_for-place.ensures.value, c.deref.ensures.value, c.deref-2.ensures.value, same) at c.is_at.ensures in
    let place : c.place_for-place.result ≡ place_for c.args.id c.args.self.now.services = rw (c.deref.ensures.value, same) at c.place_for-place.ensures.value in
    let gone = removed_there c.args.id c.args.self.now.services c.requires (sym at ∙ c.if-not-is_at.false) in
    rw (base, c.remove.ensures.items, same, place, gone) refl
