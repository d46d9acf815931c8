use Rattle.std.proofs.Common.{◌≡◌, ℕ, drop, nat_eq}
use Rattle.indexmap.specs.IndexMap.{get}
use Rattle.subnet_model.specs.Delivery.{port_with_guid}
use Rattle.subnet_core.specs.Lookup.{found_in}
use Rattle.subnet_core.proofs.lookup.places_by_guid.Given as goal

abbrev pub invariant-loop-place : goal.invariant-loop-place
invariant-loop-place l = (guid : ℕ) → found_in l.ports (get nat_eq l.places) guid ≡ port_with_guid (drop l.place l.ports) guid
