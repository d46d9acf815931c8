-- How ports are looked at, one by one. No definition of the subject stands on these.
use Rattle.std.specs.Prelude.{ℕ, ◌+◌, ◌==◌, ◌&&◌, not, List, [], ◌∷◌, if◌then◌else◌}
use Rattle.fabric_parts.specs.Cable.{port}
use Rattle.fabric_parts.specs.declared.cable.PortRef.{PortRef}
use Rattle.audit_net.specs.Net.{NetState}
use Rattle.audit_multicast.specs.Cuts.{is_member}
use Rattle.audit_multicast.specs.Ways.{leaves}

-- the port behind this number, if what comes in by `here` leaves by it
abbrev pub out_behind : NetState → List (List ℕ) → PortRef → ℕ → List PortRef
out_behind net masks here before =
    if not (here.port == before + 1) && leaves net masks (port here.node (before + 1)) then port here.node (before + 1) ∷ [] else []

-- the port behind this number, if it is a member's
abbrev pub member_behind : NetState → List (List ℕ) → (place before : ℕ) → List PortRef
member_behind net masks place before = if is_member net masks (port place (before + 1)) then port place (before + 1) ∷ [] else []
