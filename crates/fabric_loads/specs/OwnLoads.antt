-- What is printed of the loads of a subnet's fabric: by the LFTs that its switches hold, over the cables that are up, and by the
-- P_Keys of its end ports.
use Rattle.std.specs.Prelude.{ℕ, Bool, if◌then◌else◌, List, [], ◌∷◌, filter, find, flat_map, map, Option, Some, None, is_some, option_map}
use Rattle.std.specs.Option.{option_map_or}
use Rattle.audit_loads.specs.declared.talk.PortKeys.{PortKeys}
use Rattle.audit_loads.specs.Talk.{may_talk}
use Rattle.audit_loads.specs.Text.{load_of_plan, loads_of_plan}
use Rattle.audit_loads.specs.declared.loaded.Loaded.{Loaded}
use Rattle.cable_looks.specs.declared.looks.Look.{Look}
use Rattle.cable_looks.specs.declared.looks.Look.TheVariants.{Loaded as LoadedLook, Plain}
use Rattle.fabric_parts.specs.Cable.{far_end, is_same_port, port}
use Rattle.fabric_parts.specs.declared.cable.Cable.{Cable}
use Rattle.fabric_parts.specs.declared.cable.PortRef.{PortRef}
use Rattle.audit_plan.specs.Plan.{PlanState, plan_of}
use Rattle.smp_wire.specs.FabricState.{FabricState}
use Rattle.subnet_model.specs.declared.subnet_port.SubnetPort.{SubnetPort}
use Rattle.topo_file.specs.Node.{place_of}
use Rattle.topo_file.specs.Topology.{TopologyState}
use Rattle.topo_file.specs.declared.node.Node.{Node}
use Rattle.fabric_loads.specs.OwnDump.{own_dump}

-- ---- the P_Keys of end ports, which are found by the names of their nodes
abbrev pub port_keys : List Node → SubnetPort → List PortKeys
port_keys nodes one = option_map_or (λ place. record { at = port place one.number; keys = one.keys } ∷ []) (place_of one.node_name nodes) []

abbrev pub keys_of : List Node → List SubnetPort → List PortKeys
keys_of nodes ports = flat_map (port_keys nodes) ports

-- those that share a partition talk to one another, or, if all are asked for, all
abbrev pub talk_of : List Node → List SubnetPort → (all : Bool) → Option (List PortKeys)
talk_of nodes ports all = if all then None else Some (keys_of nodes ports)

-- ---- the cables of the topology over which packets go in the fabric
abbrev pub is_up : FabricState → Cable → Bool
is_up fabric cable = is_some (far_end fabric.cables cable.first)

abbrev pub over_cables_up : FabricState → TopologyState → TopologyState
over_cables_up fabric plan = record plan { cables = filter (is_up fabric) plan.cables }

abbrev pub plan_up : FabricState → TopologyState → PlanState
plan_up fabric plan = plan_of (over_cables_up fabric plan)

-- ---- end ports have these GUIDs, from LID 1 on
abbrev pub own_load_text : TopologyState → List SubnetPort → (lids : List ℕ) → FabricState → (all : Bool) → List ℕ
own_load_text plan ports lids fabric all = load_of_plan (plan_up fabric plan) (own_dump plan lids fabric) (may_talk (talk_of plan.nodes ports all))

abbrev pub own_loads : TopologyState → List SubnetPort → (lids : List ℕ) → FabricState → (all : Bool) → List Loaded
own_loads plan ports lids fabric all = loads_of_plan (plan_up fabric plan) (own_dump plan lids fabric) (may_talk (talk_of plan.nodes ports all))

-- ---- how a picture shows them: a cable has a load if packets go over it from one switch to another
abbrev pub load_at : List Loaded → PortRef → Option ℕ
load_at all at = option_map (λ one. one.load) (find (λ one. is_same_port one.at at) all)

abbrev pub both : Option ℕ → Option ℕ → Look
both (Some forth) (Some back) = LoadedLook (record { forth = forth; back = back })
both _ _ = Plain

abbrev pub cable_look : List Loaded → Cable → Look
cable_look all cable = both (load_at all cable.first) (load_at all cable.second)

-- by the places of cables in the topology
abbrev pub own_looks : TopologyState → List SubnetPort → (lids : List ℕ) → FabricState → (all : Bool) → List Look
own_looks plan ports lids fabric all = map (cable_look (own_loads plan ports lids fabric all)) plan.cables
