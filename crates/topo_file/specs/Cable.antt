-- Which ports there are, and which nodes a cable may join.
use Rattle.std.specs.Prelude.{ℕ, Bool, not, ◌==◌, ◌&&◌, ◌||◌, List, Option}
use Rattle.fabric_parts.specs.Cable.{port_within}
use Rattle.fabric_parts.specs.declared.cable.PortRef.{PortRef}
use Rattle.topo_file.specs.declared.node.Node.{Node}
use Rattle.topo_file.specs.Node.{is_switch_at, ports_at}

-- the port of this number at the node there; ports count from 1
abbrev pub port_at : List Node → ℕ → ℕ → Option PortRef
port_at nodes place number = port_within (ports_at nodes place) place number

-- a cable joins two different switches, or a switch and an adapter
abbrev pub may_join : List Node → ℕ → ℕ → Bool
may_join nodes a b = not (a == b) && (is_switch_at nodes a || is_switch_at nodes b)
