use Rattle.std.proofs.Common.{◌≡◌, map, take}
use Rattle.sa_store.specs.Kept.{no_place}
use Rattle.sa_store.proofs.services.no_services.Given as goal

abbrev pub invariant-loop-key : goal.invariant-loop-key
invariant-loop-key l = l.places.items ≡ map no_place (take l.key-index l.keys)
