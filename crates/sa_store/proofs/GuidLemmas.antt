-- What is reported of a port by its GUID, at its place.
use Rattle.std.proofs.Common.{◌≡◌, ℕ, zero, suc, ◌+◌, ◌==◌, Bool, true, false, ◌&&◌, ◌||◌, List, [], ◌∷◌, get_or, None, Some, refl, sym, ◌∙◌, inl, inr, arith}
use Rattle.std.specs.List.{list_any, position_from}
use Rattle.std.proofs.lemmas.Bool.{cases_Bool}
use Rattle.subnet_model.specs.declared.subnet_port.SubnetPort.{SubnetPort}
use Rattle.sa_store.specs.Kept.{KeptPort, ports_of}
use Rattle.sa_store.specs.Registry.{place_with_guid}
use Rattle.sa_store.proofs.PlaceLemmas.{AreOthers, IsAt, further, place_is, rest_others}

-- the port of the GUID passes a test
abbrev pub passes : (SubnetPort → Bool) → ℕ → List KeptPort → Bool
passes test guid kept = list_any (λ port. (port.guid == guid) && test port) (ports_of kept)

no_port : (test : SubnetPort → Bool) (guid : ℕ) (kept : List KeptPort) → AreOthers guid kept → passes test guid kept ≡ false
no_port test guid [] others = refl
no_port test guid (one ∷ kept) others = rw others.0 (no_port test guid kept others.1)

pub passes_at : (test : SubnetPort → Bool) (guid : ℕ) (kept : List KeptPort) (i : ℕ) (d : KeptPort) → IsAt guid kept i d
    → test (get_or kept i d).port ≡ passes test guid kept
passes_at test guid [] i d at = absurd (let w = at.within in omega arith)
passes_at test guid (one ∷ kept) zero d at = rw (at.is, no_port test guid kept (rest_others guid one kept d at)) (alone _)
  where
    alone : (b : Bool) → b ≡ b || false
    alone true = refl
    alone false = refl
passes_at test guid (one ∷ kept) (suc i) d at = let on = further guid one kept i d at in rw on.0 (passes_at test guid kept i d on.1)

pub never_passes : (test : SubnetPort → Bool) (guid : ℕ) (kept : List KeptPort) → place_with_guid (ports_of kept) guid ≡ None → passes test guid kept ≡ false
never_passes test guid kept none = from 0 kept (sym (place_is guid kept) ∙ none)
  where
    from : (k : ℕ) (some : List KeptPort) → position_from (λ (one : KeptPort). one.port.guid == guid) k some ≡ None → passes test guid some ≡ false
    from k [] none = refl
    from k (one ∷ some) none = elim (cases_Bool (one.port.guid == guid)) [
      | inl here ↦ absurd (let e : Some k ≡ None = rw here at none in cc)
      | inr other ↦ rw other (from (k + 1) some (rw other at none))
    ]
