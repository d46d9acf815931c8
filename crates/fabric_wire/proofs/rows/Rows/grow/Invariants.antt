use Rattle.std.proofs.Common.{◌+◌, ◌-◌, ◌≡◌}
use Rattle.fabric_parts.specs.declared.cable.PortRef.{PortRef}
use Rattle.fabric_wire.specs.Cabling.{has_place}
use Rattle.fabric_wire.specs.Rows.{far_in}
use Rattle.fabric_wire.proofs.rows.Rows.grow.Given as goal

abbrev pub invariant-loop-self : goal.invariant-loop-self
invariant-loop-self l =
    ((port : PortRef) → far_in l.self-inside.rows.items port ≡ far_in l.initial.self-inside.rows.items port)
    × ((port : PortRef) → has_place l.self-inside.rows.items port ≡ has_place l.initial.self-inside.rows.items port)

abbrev pub decreases-loop-self : goal.decreases-loop-self
decreases-loop-self l = l.node + 1 - l.self-inside.rows.len
