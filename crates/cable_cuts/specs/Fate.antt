-- What becomes of the fabric of a topology: it comes up, and packets go by these routes, or it does not, and why.
use Rattle.std.specs.Prelude.{ℕ, ◌≡◌, true, false, List}
use Rattle.fabric_wire.specs.OfTopology.{fabric_of}
use Rattle.smp_wire.specs.FabricState.{FabricState}
use Rattle.subnet_fabric.specs.BringUp.{HasNoPath, IsBroughtUpBy, root_guids}
use Rattle.subnet_fabric.specs.Planning.{ArePlannedOver}
use Rattle.subnet_fabric.specs.Standing.{CanComeUp}
use Rattle.sweep.specs.Hops.{IsTooFar}
use Rattle.topo_file.specs.Connectivity.{is_connected}
use Rattle.topo_file.specs.Topology.{TopologyState}
use Rattle.updn_routes.specs.Subnet.{RoutesState}
use Rattle.cable_cuts.specs.declared.fate.Cut.{Cut}
use Rattle.cable_cuts.specs.declared.fate.Cut.TheVariants.{Keeps, Stops}
use Rattle.cable_cuts.specs.declared.fate.Stop.{Stop}
use Rattle.cable_cuts.specs.declared.fate.Stop.TheVariants.{Apart, TooFar, NoLegalPath}
use Rattle.subnet_fabric.specs.SetUp.{IsByRule}
use Rattle.updn_routes.specs.declared.tie_rule.TieRule.{TieRule}

-- ---- routes
-- these brought the fabric up, with whatever keys
pub record HaveBroughtUp (plan : TopologyState) (routes : RoutesState) : Type 0 where
  pub keys : List (List ℕ)
  pub fabric : FabricState
  pub by : IsBroughtUpBy plan keys routes fabric

-- and these are those of a layout of it
abbrev pub ArePlannedFor : TopologyState → RoutesState → Type 0
ArePlannedFor plan routes = ArePlannedOver (fabric_of plan) (root_guids plan) routes

-- ---- fates
-- cables do not join all switches; or they do, and one is too far; or none is, and a pair has no up/down path
abbrev pub IsStop : TopologyState → Stop → Type 0
IsStop plan Apart = is_connected plan.nodes plan.cables ≡ false
IsStop plan TooFar = (is_connected plan.nodes plan.cables ≡ true) × IsTooFar (fabric_of plan)
IsStop plan (NoLegalPath switch port) = HasNoPath plan switch port

-- routes are by that rule of ties
abbrev pub IsFate : TieRule → TopologyState → Cut → Type 0
IsFate rule plan (Keeps routes) = CanComeUp plan × ArePlannedFor plan routes × IsByRule rule routes
IsFate rule plan (Stops stop) = IsStop plan stop
