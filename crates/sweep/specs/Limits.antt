-- When a fabric is too big for a graph.
use Rattle.std.specs.Prelude.{ℕ, ◌≡◌, ◌<◌, ◌==◌, ◌&&◌, ◌⊎◌, not, Bool, true, List, length}
use Rattle.std.specs.List.{IsDistinct, list_all}
use Rattle.fabric_parts.specs.Cable.{is_cabled, is_same_port}
use Rattle.fabric_parts.specs.declared.cable.PortRef.{PortRef}
use Rattle.smp_wire.specs.FabricState.{FabricState, is_switch_at}
use Rattle.fabric_parts.specs.declared.limits.TheConstants.{ADAPTER_PORTS, SWITCHES}

-- more than so many are of a kind
pub record AreOver {X : Type 0} (limit : ℕ) (same : X → X → Bool) (kind : X → Bool) : Type 0 where
  pub some : List X
  pub once : IsDistinct same some
  pub are : list_all kind some ≡ true
  pub many : limit < length some

-- a port of an adapter, with a cable
abbrev pub is_adapter_port : FabricState → PortRef → Bool
is_adapter_port fabric at = not (is_switch_at fabric.nodes at.node) && is_cabled fabric.cables at

-- more switches than a graph holds, or more ports of adapters with a cable
abbrev pub IsTooBig : FabricState → Type 0
IsTooBig fabric =
    AreOver SWITCHES (λ a b. a == b) (is_switch_at fabric.nodes)
    ⊎ AreOver ADAPTER_PORTS is_same_port (is_adapter_port fabric)
