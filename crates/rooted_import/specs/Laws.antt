-- What is so of each text that is returned.
use Rattle.std.specs.Prelude.{ℕ, ◌≡◌, Bool, true, List, Option, Ok}
use Rattle.fabric_parts.specs.declared.limits.Limits.TheVariants.{Large}
use Rattle.netdiscover_file.specs.Discovery.{DiscoveryState}
use Rattle.topo_file.specs.Node.{guid_at, is_switch_at}
use Rattle.topo_file.specs.Topology.{TopologyState, is_root, topology_within}
use Rattle.topology_import.specs.Laws.{IsGiven}
use Rattle.rooted_import.specs.Agreement.{has_root, is_rooted}
use Rattle.rooted_import.specs.Roots.{is_among, top_guids}

-- the same nodes, cables and SM port; and the roots are the switches of these GUIDs, all of them and no others
pub record HasRoots (guids : List ℕ) (plan again : TopologyState) : Type 0 where
  pub nodes : plan.nodes ≡ again.nodes
  pub cables : plan.cables ≡ again.cables
  pub manager : plan.sm ≡ again.sm
  pub switches : (root : ℕ) → is_root again.roots root ≡ true → is_switch_at plan.nodes root ≡ true
  pub only : (root : ℕ) → is_root again.roots root ≡ true → is_among guids (guid_at plan.nodes root) ≡ true
  pub all : (guid : ℕ) → is_among guids guid ≡ true → has_root plan.nodes again.roots guid ≡ true

-- if this test lets a topology pass, it is so
abbrev pub ReportsOthers : ((guids : List ℕ) → (plan again : TopologyState) → Bool) → Type 0
ReportsOthers test = (guids : List ℕ) (plan again : TopologyState) → test guids plan again ≡ true → HasRoots guids plan again

abbrev pub RootsAreTopSwitches : Type 0
RootsAreTopSwitches = ReportsOthers is_rooted

-- a text that is returned is read as the topology of the discovery with its top switches as roots
pub record IsGivenRoots (discovery : DiscoveryState) (manager : Option ℕ) (rooted : List ℕ) : Type 0 where
  pub text : List ℕ
  pub given : IsGiven discovery manager text
  pub plan : TopologyState
  pub read : topology_within Large rooted ≡ Ok plan
  pub roots : HasRoots (top_guids discovery) given.plan plan
