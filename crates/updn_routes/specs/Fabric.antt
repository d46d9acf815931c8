-- What routes are of: the cabling of switches that are joined, their GUIDs, and the roots that are named.
use Rattle.std.specs.Prelude.{ℕ, ◌≡◌, ◌==◌, ◌<◌, true, List, length, Option}
use Rattle.std.specs.List.{list_all, list_any, IsDistinct}
use Rattle.updn_routes.specs.declared.link.Link.{Link}
use Rattle.updn_routes.specs.Cabling.{AllJoined, is_cabling}
use Rattle.updn_routes.specs.Choice.{AllChosen, IsRule}
use Rattle.updn_routes.specs.Order.{AreRanks, IsOrder, precedes}
use Rattle.updn_routes.specs.Tree.{AreDepths}

-- there is a switch, each has a GUID of its own, and each root that is named is one of these
pub record IsFabric (rows : List (List Link)) (guids roots : List ℕ) : Type 0 where
  pub cabling : is_cabling rows ≡ true
  pub joined : AllJoined rows
  pub some : 0 < length rows
  pub count : length guids ≡ length rows
  pub own : IsDistinct (λ a b. a == b) guids
  pub named : list_all (λ root. list_any (λ guid. guid == root) guids) roots ≡ true

-- its ranks and depths, an order of its switches, and choices towards each, for each rule of ties
pub record HasRoutes (rows : List (List Link)) (guids roots : List ℕ) : Type 0 where
  pub ranks : List ℕ
  pub ranks_are : AreRanks rows guids roots ranks
  pub order : IsOrder (length rows) (precedes ranks guids)
  pub depths : List ℕ
  pub depths_are : AreDepths rows guids roots depths
  pub choices : (pick : ℕ → ℕ → ℕ) (d : ℕ) → IsRule pick → d < length rows
      → (next : ℕ → Option ℕ) × AllChosen rows (precedes ranks guids) pick next d
