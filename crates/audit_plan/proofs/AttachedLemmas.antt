-- Whether one of the ports that are left leads to an adapter.
use Rattle.std.proofs.Common.{◌≡◌, ℕ, suc, ◌+◌, ◌-◌, ◌<◌, Bool, ◌||◌, map, refl, arith}
use Rattle.std.specs.List.{list_any, range_with_len}
use Rattle.fabric_parts.specs.Cable.{port}
use Rattle.fabric_parts.specs.declared.cable.PortRef.{PortRef}

abbrev pub some_left : (PortRef → Bool) → ℕ → ℕ → ℕ → Bool
some_left test place number ports = list_any test (map (port place) (range_with_len (number + 1) (ports - number)))

pub next_left : (test : PortRef → Bool) (place number ports : ℕ) → number < ports
    → some_left test place number ports ≡ (test (port place (number + 1)) || some_left test place (number + 1) ports)
next_left test place number ports less =
    let one : ports - number ≡ suc (ports - (number + 1)) = omega (arith, less) in
    rw one refl
