-- The end ports and hosts of a fabric, in examples.
use Rattle.std.specs.Prelude.{ℕ, true, false, List, ◌≡◌, [], ◌∷◌, ◌++◌, codes, Some, None}
use Rattle.netdiscover_file.specs.declared.kind.NodeKind.TheVariants as kinds
use Rattle.netdiscover_file.specs.declared.node.Node.{Node as FoundNode}
use Rattle.netdiscover_file.specs.Discovery.{DiscoveryState}
use Rattle.audit_plan.specs.declared.ends.EndGuid.{EndGuid}
use Rattle.fabric_parts.specs.declared.node_type.NodeType.TheVariants.{Switch, ChannelAdapter}
use Rattle.text_words.specs.Parts.{guid_text}
use Rattle.topo_file.specs.declared.node.Node.{Node}
use Rattle.fabric_parts.specs.Cable.{port}
use Rattle.audit_plan.specs.Attached.{carries_host}
use Rattle.audit_plan.specs.Plan.{ends_of, found_ends, found_nodes, is_host, is_unicast, plan_found, port_of, PlanState}
use Rattle.audit_plan.specs.WrongRules.{far_at, found_at, leads, one_leaf}

abbrev pub a_switch : List ℕ → ℕ → Node
a_switch name guid = record { name = name; node_type = Switch; guid = guid; ports = 2 }

-- ---- ports by their GUIDs
abbrev an_adapter : ℕ → ℕ → Node
an_adapter guid ports = record { name = codes "k"; node_type = ChannelAdapter; guid = guid; ports = ports }

abbrev a_few : List Node
a_few = a_switch (codes "A") 16 ∷ an_adapter 256 2 ∷ an_adapter 512 1 ∷ []

pub record PortsAreFound : Type 0 where
  pub switch : port_of (ends_of a_few) 16 ≡ Some (port 0 0)
  pub port_of_a_switch : port_of (ends_of a_few) 17 ≡ None
  pub node : port_of (ends_of a_few) 256 ≡ None
  pub first : port_of (ends_of a_few) 257 ≡ Some (port 1 1)
  pub last : port_of (ends_of a_few) 258 ≡ Some (port 1 2)
  pub past : port_of (ends_of a_few) 259 ≡ None
  pub of_another : port_of (ends_of a_few) 513 ≡ Some (port 2 1)

-- ---- hosts: neither switches nor aggregation nodes
abbrev with_aggregation : PlanState
with_aggregation = record { nodes = a_few; cables = []; apart = []; ends = []; aggregation = false ∷ false ∷ true ∷ []; lids = [] }

pub record HostsAreFound : Type 0 where
  pub switch : is_host with_aggregation 0 ≡ false
  pub adapter : is_host with_aggregation 1 ≡ true
  pub aggregation : is_host with_aggregation 2 ≡ false

-- ---- a host is attached to the first switch, and none to the second
pub record AttachedAreReported : Type 0 where
  pub first : carries_host one_leaf 0 ≡ true
  pub second : carries_host one_leaf 1 ≡ false

-- ---- of a discovery: two switches of one description, of which the second reports the GUID of its port 0, an adapter without a
-- description, a router, and an aggregation node
abbrev some_found : List FoundNode
some_found =
    record (found_at kinds.Switch 16) { name = codes "leaf" }
    ∷ record (found_at kinds.Switch 32) { name = codes "leaf"; port_guid = Some 33 }
    ∷ found_at kinds.ChannelAdapter 48
    ∷ record (found_at kinds.Router 64) { name = codes "gate" }
    ∷ record (found_at kinds.ChannelAdapter 80) { name = codes "Mellanox Technologies Aggregation Node" }
    ∷ []

-- the router has a cable to the first switch, and the adapter one to the second
abbrev a_discovery : DiscoveryState
a_discovery = record {
  nodes = some_found;
  ports =
      leads 0 1 None (far_at kinds.Router 64 1 (Some 65)) ∷ leads 1 2 None (far_at kinds.ChannelAdapter 48 1 (Some 49))
      ∷ leads 2 1 (Some 49) (far_at kinds.Switch 32 2 None) ∷ leads 3 1 (Some 65) (far_at kinds.Switch 16 1 None) ∷ [];
  initiator = None;
}

abbrev end_found : ℕ → ℕ → ℕ → EndGuid
end_found guid place number = record { guid = guid; port = port place number }

-- a description that two nodes have, or that is empty, does not name a node; a router forwards nothing
pub record DiscoveriesAreTaken : Type 0 where
  pub nodes : found_nodes some_found
      ≡ a_switch (codes "leaf " ++ guid_text 16) 16 ∷ a_switch (codes "leaf " ++ guid_text 32) 32
      ∷ record (an_adapter 48 2) { name = guid_text 48 } ∷ record (an_adapter 64 2) { name = codes "gate" }
      ∷ record (an_adapter 80 2) { name = codes "Mellanox Technologies Aggregation Node" } ∷ []
  pub ends : found_ends a_discovery ≡ end_found 16 0 0 ∷ end_found 33 1 0 ∷ end_found 49 2 1 ∷ end_found 65 3 1 ∷ []
  -- each cable once
  pub cables : (plan_found a_discovery).cables
      ≡ record { first = port 0 1; second = port 3 1 } ∷ record { first = port 1 2; second = port 2 1 } ∷ []
  pub adapter : is_host (plan_found a_discovery) 2 ≡ true
  pub router : is_host (plan_found a_discovery) 3 ≡ true
  pub aggregation : is_host (plan_found a_discovery) 4 ≡ false
  -- unicast LIDs are those from 1 to 0xbfff
  pub lid_0 : is_unicast 0 ≡ false
  pub first_lid : is_unicast 1 ≡ true
  pub last_lid : is_unicast 49151 ≡ true
  pub first_mlid : is_unicast 49152 ≡ false
