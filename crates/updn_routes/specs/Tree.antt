-- The spanning tree, over which multicast packets go.
use Rattle.std.specs.Prelude.{ℕ, ◌+◌, ◌==◌, List, find, get_or, Option, option_map}
use Rattle.updn_routes.specs.declared.link.Link.{Link}
use Rattle.updn_routes.specs.Cabling.{links_of}
use Rattle.updn_routes.specs.Order.{AreDistances, is_first_root}

-- a switch's depth is its distance from the first root
abbrev pub AreDepths : List (List Link) → List ℕ → List ℕ → List ℕ → Type 0
AreDepths rows guids roots depths = AreDistances rows (is_first_root guids roots) depths

-- the first link of the row, and so the one of the least port, to a switch of depth one less
abbrev pub tree_link : List (List Link) → List ℕ → ℕ → Option Link
tree_link rows depths s = find (λ link. get_or depths link.to 0 + 1 == get_or depths s 0) (links_of rows s)

-- its port
abbrev pub tree_port : List (List Link) → List ℕ → ℕ → Option ℕ
tree_port rows depths s = option_map (λ link. link.port) (tree_link rows depths s)
