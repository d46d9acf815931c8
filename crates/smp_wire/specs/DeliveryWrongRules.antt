-- Masks that lead to each port that receives, and to switches besides beyond which none does.
use Rattle.std.specs.Prelude.{[], ◌∷◌}
use Rattle.smp_wire.specs.DeliveryExamples.{received_by, two_switches_with}
use Rattle.smp_wire.specs.Groups.{HasNoIdleBits}

-- h0 and h1 alone are members, both on A; A has the bits of their ports, and that of port 3, which leads to B. All that
-- receive are reached, and nobody else is
abbrev pub BitsTowardsNobodyAreIdle : Type 0
BitsTowardsNobodyAreIdle = HasNoIdleBits (two_switches_with 0b1110 0) (received_by (0x101 ∷ 0x111 ∷ [])) → ⊥
