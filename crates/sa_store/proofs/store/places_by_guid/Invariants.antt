use Rattle.std.proofs.Common.{◌≡◌, ℕ, ◌==◌, drop, nat_eq}
use Rattle.std.specs.List.{position_from}
use Rattle.indexmap.specs.IndexMap.{get}
use Rattle.sa_store.proofs.store.places_by_guid.Given as goal

abbrev pub invariant-loop-place : goal.invariant-loop-place
invariant-loop-place l = (guid : ℕ) → get nat_eq l.places guid ≡ position_from (λ one. one.port.guid == guid) l.place (drop l.place l.kept)
