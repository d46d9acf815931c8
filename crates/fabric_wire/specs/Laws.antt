-- What holds of every fabric of a topology, and of every exchange hop by hop.
use Rattle.std.specs.Prelude.{ℕ, ◌≡◌, Bool, List, length}
use Rattle.std.specs.Int.Digits.{AllBelowBase}
use Rattle.fabric_parts.specs.declared.cable.PortRef.{PortRef}
use Rattle.topo_file.specs.Sound.{IsSound}
use Rattle.topo_file.specs.Topology.{TopologyState}
use Rattle.smp_wire.specs.FabricState.{FabricState}
use Rattle.smp_wire.specs.Good.{IsGood, ShowsLinks, SwitchesJoined}
use Rattle.fabric_wire.specs.HopByHop.{GoesByHops}
use Rattle.fabric_wire.specs.OfTopology.{fabric_of}
use Rattle.fabric_wire.specs.Recabling.{recabled}

-- the walk that answers an SMP in a good fabric is the way that the hop rules take it
abbrev pub ExchangesGoByHops : Type 0
ExchangesGoByHops =
    (fabric : FabricState) (smp : List ℕ) → IsGood fabric → length smp ≡ 256 → AllBelowBase 256 smp → GoesByHops fabric smp

-- at power-up the fabric of a topology is good
abbrev pub TopologiesGiveGood : Type 0
TopologiesGiveGood = (plan : TopologyState) → IsSound plan → IsGood (fabric_of plan)

-- its switches are joined
abbrev pub TopologiesAreJoined : Type 0
TopologiesAreJoined = (plan : TopologyState) → IsSound plan → SwitchesJoined (fabric_of plan)

-- and its links show, whether the plan is sound or not
abbrev pub TopologiesShowLinks : Type 0
TopologiesShowLinks = (plan : TopologyState) → ShowsLinks (fabric_of plan)

-- whatever cable is cut or mended, a good fabric stays good
abbrev pub CablesKeepGood : Type 0
CablesKeepGood = (fabric : FabricState) (a b : PortRef) (up : Bool) → IsGood fabric → IsGood (recabled a b up fabric)

-- and its links show
abbrev pub CablesKeepLinks : Type 0
CablesKeepLinks =
    (fabric : FabricState) (a b : PortRef) (up : Bool) → IsGood fabric → ShowsLinks fabric → ShowsLinks (recabled a b up fabric)
