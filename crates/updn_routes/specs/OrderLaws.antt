-- What cablings that are alike share: the statements of the laws of `src/order_laws.rt`.
use Rattle.std.specs.Prelude.{ℕ, ◌≡◌, ◌≢◌, ◌<◌, true, List, get_or, length, Option, option_map}
use Rattle.lid_assign.specs.Lids.{AreLids, end_ports}
use Rattle.smp_wire.specs.FabricState.{FabricState}
use Rattle.smp_wire.specs.Good.{IsGood}
use Rattle.sweep.specs.Graph.{GraphState}
use Rattle.sweep.specs.OfFabric.{IsLayoutOf}
use Rattle.updn_routes.specs.Cabling.{is_cabling}
use Rattle.updn_routes.specs.Choice.{AllChosen}
use Rattle.updn_routes.specs.Fault.{IsRefused}
use Rattle.updn_routes.specs.Order.{AreRanks, IsOrder, precedes}
use Rattle.updn_routes.specs.Places.{placed_link}
use Rattle.updn_routes.specs.Routes.{AllReached, LegalPath}
use Rattle.updn_routes.specs.Subnet.{RoutesState}
use Rattle.updn_routes.specs.Tree.{AreDepths, tree_link}
use Rattle.updn_routes.specs.Alike.{AreAlike, Layout, layout_of}
use Rattle.updn_routes.specs.NextHops.{AreChosenFrom, hop_by}

-- a switch has one rank, wherever it stands
abbrev pub RanksAreAlike : Type 0
RanksAreAlike =
    (one other : Layout) (roots ranks other_ranks : List ℕ) (s : ℕ) → (alike : AreAlike one other)
    → AreRanks one.rows one.guids roots ranks → AreRanks other.rows other.guids roots other_ranks
    → s < length one.rows → get_or other_ranks (alike.place s) 0 ≡ get_or ranks s 0

-- and one depth in the spanning tree
abbrev pub DepthsAreAlike : Type 0
DepthsAreAlike =
    (one other : Layout) (roots depths other_depths : List ℕ) (s : ℕ) → (alike : AreAlike one other)
    → AreDepths one.rows one.guids roots depths → AreDepths other.rows other.guids roots other_depths
    → s < length one.rows → get_or other_depths (alike.place s) 0 ≡ get_or depths s 0

-- whose link to its parent is by the same port, to the same switch
abbrev pub TreesAreAlike : Type 0
TreesAreAlike =
    (one other : Layout) (roots depths other_depths : List ℕ) (s : ℕ) → (alike : AreAlike one other)
    → AreDepths one.rows one.guids roots depths → AreDepths other.rows other.guids roots other_depths
    → s < length one.rows
    → tree_link other.rows other_depths (alike.place s) ≡ option_map (placed_link alike.place) (tree_link one.rows depths s)

-- if an up/down path leads from switch to switch in the one, one leads between their places in the other
abbrev pub LegalPathsAreAlike : Type 0
LegalPathsAreAlike =
    (one other : Layout) (roots ranks other_ranks : List ℕ) (s d : ℕ) → (alike : AreAlike one other)
    → AreRanks one.rows one.guids roots ranks → AreRanks other.rows other.guids roots other_ranks
    → s < length one.rows → LegalPath one.rows (precedes ranks one.guids) s d
    → LegalPath other.rows (precedes other_ranks other.guids) (alike.place s) (alike.place d)

-- if a pair of the one has no up/down path, not every pair of the other has one
abbrev pub NoneIsReachedAndRefused : Type 0
NoneIsReachedAndRefused =
    (one other : Layout) (roots ranks : List ℕ) (a b : ℕ) → AreAlike one other → IsRefused one.rows one.guids roots one.homes a b
    → AreRanks other.rows other.guids roots ranks → ¬ (AllReached other.rows (precedes ranks other.guids) other.homes)

-- the first pair with no up/down path is one pair of LIDs
abbrev pub OnePairIsRefused : Type 0
OnePairIsRefused =
    (one other : Layout) (roots : List ℕ) (a b c d : ℕ) → AreAlike one other → IsRefused one.rows one.guids roots one.homes a b
    → IsRefused other.rows other.guids roots other.homes c d → (a ≡ c) × (b ≡ d)

-- a switch chooses one port towards another, wherever the two stand, if its rule of ties is the same
abbrev pub ChoicesAreAlike : Type 0
ChoicesAreAlike =
    (one other : Layout) (roots ranks other_ranks : List ℕ) (pick other_pick : ℕ → ℕ → ℕ) (next other_next : ℕ → Option ℕ) (s d : ℕ)
    → (alike : AreAlike one other) → ((t ties : ℕ) → t < length one.rows → other_pick (alike.place t) ties ≡ pick t ties)
    → AreRanks one.rows one.guids roots ranks → AreRanks other.rows other.guids roots other_ranks
    → is_cabling one.rows ≡ true → IsOrder (length one.rows) (precedes ranks one.guids)
    → AllChosen one.rows (precedes ranks one.guids) pick next d
    → AllChosen other.rows (precedes other_ranks other.guids) other_pick other_next (alike.place d)
    → s < length one.rows → d < length one.rows → s ≢ d → other_next (alike.place s) ≡ next s

-- ---- graphs of one fabric
-- two of them are alike, by one list of LIDs
abbrev pub GraphsOfOneFabricAreAlike : Type 0
GraphsOfOneFabricAreAlike =
    (fabric : FabricState) (one other : GraphState) (guids : List ℕ) → IsGood fabric → IsLayoutOf one fabric → IsLayoutOf other fabric
    → AreLids (end_ports one) guids → AreLids (end_ports other) guids → AreAlike (layout_of one guids) (layout_of other guids)

-- by both, with the same LIDs, roots and rule of ties, each switch sends what is for a LID by the same port: next hops are a matter
-- of the fabric, and not of the order in which a sweep found its switches
abbrev pub NextHopsAreTheFabrics : Type 0
NextHopsAreTheFabrics =
    (fabric : FabricState) (one other : RoutesState) (roots : List ℕ) (guid lid : ℕ) → IsGood fabric
    → IsLayoutOf one.graph fabric → IsLayoutOf other.graph fabric → AreChosenFrom roots one → AreChosenFrom roots other
    → other.lids ≡ one.lids → other.between.rule ≡ one.between.rule → hop_by other guid lid ≡ hop_by one guid lid
