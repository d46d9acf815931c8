-- What is pushed by two routes over one fabric: the statements of the laws of `src/order_laws.rt`.
use Rattle.std.specs.Prelude.{ℕ, ◌≡◌, Bool, List}
use Rattle.smp_wire.specs.FabricState.{FabricState}
use Rattle.smp_wire.specs.Good.{IsGood}
use Rattle.sweep.specs.OfFabric.{IsGraphOf}
use Rattle.table_push.specs.BroughtUp.{RoutesLeadHome}
use Rattle.table_push.specs.Masks.{all_masks_pushed}
use Rattle.table_push.specs.Pushed.{all_pushed}
use Rattle.updn_routes.specs.Routes.{AreRoutesOf}
use Rattle.updn_routes.specs.Subnet.{RoutesState, guids_of, homes_of, rows_of}

-- these are routes of the fabric: over a graph of it, from these roots, by a rule of ties
pub record AreRoutesIn (fabric : FabricState) (roots : List ℕ) (routes : RoutesState) : Type 0 where
  pub graph : IsGraphOf routes.graph fabric
  pub home : RoutesLeadHome routes
  pub made : AreRoutesOf (rows_of routes.graph) (guids_of routes.graph) roots (homes_of routes.graph routes.lids) routes.between

-- two of them, by the same LIDs and by one rule of ties, make one fabric of any
abbrev pub PushesAreTheFabrics : Type 0
PushesAreTheFabrics =
    (fabric : FabricState) (roots : List ℕ) (one other : RoutesState) (keys : List (List ℕ)) (to : FabricState) → IsGood fabric
    → AreRoutesIn fabric roots one → AreRoutesIn fabric roots other → other.lids ≡ one.lids → other.between.rule ≡ one.between.rule
    → all_pushed other keys to ≡ all_pushed one keys to

-- the masks of whoever receives do not depend on that rule
abbrev pub MasksAreTheFabrics : Type 0
MasksAreTheFabrics =
    (fabric : FabricState) (roots : List ℕ) (one other : RoutesState) (receives : ℕ → ℕ → Bool) (to : FabricState) → IsGood fabric
    → AreRoutesIn fabric roots one → AreRoutesIn fabric roots other → other.lids ≡ one.lids
    → all_masks_pushed other receives to ≡ all_masks_pushed one receives to
