-- How far a sweep over a fabric has come: which switches were found, and that what was noted is what stands there.
use Rattle.std.specs.Prelude.{ℕ, ◌≡◌, ◌≤◌, ◌<◌, ◌+◌, ◌==◌, ◌&&◌, ◌⊎◌, nat_le, Bool, true, false, List, ◌++◌, map, take, length, slice_get, Some}
use Rattle.std.specs.List.{All, IsDistinct, list_all, list_any}
use Rattle.fabric_parts.specs.Cable.{far_end, is_same_port, port}
use Rattle.fabric_parts.specs.declared.cable.PortRef.{PortRef}
use Rattle.smp_wire.specs.FabricState.{FabricState, is_port, is_switch_at}
use Rattle.sweep.specs.Hops.{IsWithin}
use Rattle.sweep.specs.OfFabric.{Found, Leads, is_among, links_up_to, node_at, nodes_of, ports_at, ports_before, ports_up_to, row_of, switch_of}
use Rattle.sweep.specs.Seen.{seen_at}
use Rattle.sweep.specs.Survey.{SurveyState}
use Rattle.sweep.specs.declared.graph.GraphPort.{GraphPort}
use Rattle.sweep.specs.declared.graph.GraphLink.{GraphLink}
use Rattle.sweep.specs.declared.seen.Seen.{Seen}
use Rattle.sweep.specs.declared.path.TheConstants.{PATH_HOPS}
use Rattle.fabric_parts.specs.declared.limits.TheConstants.{ADAPTER_PORTS, SWITCHES}

-- a switch was found, by a path of so many hops or less
abbrev pub is_found : List Found → ℕ → ℕ → Bool
is_found found hops node = list_any (λ one. (one.node == node) && nat_le (length one.path) hops) found

-- that one was found at that place
abbrev pub StandsAt : List Found → ℕ → Found → Type 0
StandsAt found k one = slice_get found k ≡ Some one

-- what is known of the first ports of a switch: the switches behind them were found, one hop further away at most; and
-- if that is further than an SMP goes, so were the switches at the other ends of their cables, near enough
pub record IsKnownBehind (fabric : FabricState) (found : List Found) (one : Found) (count : ℕ) : Type 0 where
  pub found_behind : (number : ℕ) (there : PortRef) → 1 ≤ number → number ≤ count
      → far_end fabric.cables (port one.node number) ≡ Some there → is_switch_at fabric.nodes there.node ≡ true
      → is_found found (length one.path + 1) there.node ≡ true
  pub near_behind : (number : ℕ) (there : PortRef) → 1 ≤ number → number ≤ count
      → far_end fabric.cables (port one.node number) ≡ Some there → PATH_HOPS ≤ length one.path
      → IsWithin fabric 62 there.node

-- a cable joins a switch to one of these
pub record HasNeighbour (fabric : FabricState) (earlier : List ℕ) (node : ℕ) : Type 0 where
  pub number : ℕ
  pub there : PortRef
  pub cable : far_end fabric.cables (port node number) ≡ Some there
  pub among : is_among earlier there.node ≡ true

-- ---- what was found: whatever was asked of it
pub record IsDiscovery (fabric : FabricState) (found : List Found) : Type 0 where
  pub once : IsDistinct (λ a b. a == b) (nodes_of found)
  pub are : list_all (is_switch_at fabric.nodes) (nodes_of found) ≡ true
  pub few : length found ≤ SWITCHES
  pub lead : All (Leads fabric) found
  -- the first switch is the one that the SM port is attached to
  pub first : PortRef
  pub first_cable : far_end fabric.cables fabric.manager ≡ Some first
  pub first_found : is_found found 1 first.node ≡ true
  -- each other is attached to one that was found earlier
  pub joined : (k : ℕ) (one : Found) → 1 ≤ k → StandsAt found k one → HasNeighbour fabric (take k (nodes_of found)) one.node
  -- they stand in order of their distances
  pub sorted : (j k : ℕ) (near far : Found) → j ≤ k → StandsAt found j near → StandsAt found k far
      → length near.path ≤ length far.path

-- ---- what was asked: all ports of the switches before the i-th, and of that the first `count`
pub record IsAsked (fabric : FabricState) (found : List Found) (i count : ℕ) : Type 0 where
  pub before : (k : ℕ) (one : Found) → k < i → StandsAt found k one → IsKnownBehind fabric found one (ports_at fabric one.node)
  pub here : (one : Found) → StandsAt found i one → IsKnownBehind fabric found one count
  -- nobody is further away than one hop behind the i-th
  pub ahead : (k : ℕ) (one last : Found) → StandsAt found i one → StandsAt found k last → length last.path ≤ length one.path + 1

-- ---- ports of adapters that were met: each with the port of the fabric that it is
pub record Met : Type 0 where
  pub end : PortRef
  pub port : GraphPort

-- it is what is seen there
pub record IsShownAt (fabric : FabricState) (met : Met) : Type 0 where
  pub seen : Seen
  pub is : seen_at fabric met.end ≡ Some seen
  pub node_guid : met.port.node_guid ≡ seen.node_guid
  pub port_guid : met.port.port_guid ≡ seen.port_guid
  pub number : met.port.number ≡ seen.local_port_num
  pub count : met.port.num_ports ≡ seen.num_ports
  pub adapter : is_switch_at fabric.nodes met.end.node ≡ false
  pub there : is_port fabric.nodes met.end ≡ true

-- the port was asked
abbrev pub WasAsked : List Found → ℕ → ℕ → PortRef → Type 0
WasAsked found i count at =
    ((at.node < i) ⊎ ((at.node ≡ i) × (at.port ≤ count))) × ((1 ≤ at.port) × (at.node < length found))

-- it is attached to a port that was asked
pub record WasMet (fabric : FabricState) (found : List Found) (i count : ℕ) (met : Met) : Type 0 where
  pub asked : WasAsked found i count met.port.at
  pub cable : far_end fabric.cables (port (node_at found met.port.at.node) met.port.at.port) ≡ Some met.end
  pub within : met.port.at.port ≤ ports_at fabric (node_at found met.port.at.node)

abbrev pub ends_met : List Met → List PortRef
ends_met some = map (λ met. met.end) some

pub record AreMet (fabric : FabricState) (found : List Found) (i count : ℕ) (ports : List GraphPort) : Type 0 where
  pub met : List Met
  pub ports_are : ports ≡ map (λ one. one.port) met
  pub once : IsDistinct is_same_port (ends_met met)
  pub shown : All (IsShownAt fabric) met
  pub asked : All (WasMet fabric found i count) met

-- ---- what was noted
pub record IsNoted (fabric : FabricState) (found : List Found) (i count : ℕ) (survey : SurveyState) (row : List GraphLink) : Type 0 where
  pub switches : survey.switches ≡ map (switch_of fabric) found
  pub rows : survey.rows ≡ map (λ one. row_of fabric (nodes_of found) one.node) (take i found)
  pub links : row ≡ links_up_to fabric (nodes_of found) (node_at found i) count
  pub ports : survey.ports ≡ ports_before fabric found i ++ ports_up_to fabric i (node_at found i) count
  pub few_ports : length survey.ports ≤ ADAPTER_PORTS
  pub met : AreMet fabric found i count survey.ports

pub record IsProgress (fabric : FabricState) (found : List Found) (i count : ℕ) (survey : SurveyState) (row : List GraphLink) : Type 0 where
  pub discovery : IsDiscovery fabric found
  pub within : i ≤ length found
  pub asked : IsAsked fabric found i count
  pub noted : IsNoted fabric found i count survey row
