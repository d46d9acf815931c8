-- What each step of the computation of masks along the tree comes to: the clauses of `src/trees.rt`.
use Rattle.std.specs.Prelude.{ℕ, zero, suc, ◌≡◌, ◌+◌, ◌<◌, ◌^◌, ◌==◌, ◌&&◌, ◌||◌, not, bit_and, Bool, if◌then◌else◌}
use Rattle.std.specs.Prelude.{List, [], find, get_or, length, map, Option, Some, None, option_map}
use Rattle.std.specs.Int.{bit_at}
use Rattle.std.specs.List.{list_any, range_with_len}
use Rattle.sweep.specs.declared.graph.GraphLink.{GraphLink}
use Rattle.table_push.specs.Masks.{tree_end, wanted_range}
use Rattle.table_push.specs.MaskSteps.{AreBits, is_that_port, words_at}
use Rattle.table_push.specs.declared.trees.Tree.{Tree}
use Rattle.updn_routes.specs.Sides.{above, is_below, parent}
use Rattle.updn_routes.specs.Subnet.{RoutesState}
use Rattle.updn_routes.specs.Tree.{tree_port}

-- some bit is set in both
abbrev pub meets : (a b : ℕ) → Bool
meets a b = not (bit_and a b == 0)

-- ---- the links of the graph that join switches to the tree
abbrev pub graph_link : RoutesState → ℕ → Option GraphLink
graph_link routes s =
    find (λ link. get_or routes.between.depths link.to.node 0 + 1 == get_or routes.between.depths s 0) (get_or routes.graph.rows s [])

-- by such links, by places, the switch next above one
abbrev pub parent_in : List (Option GraphLink) → ℕ → Option ℕ
parent_in links s = option_map (λ link. link.to.node) (get_or links s None)

abbrev pub AreParents : RoutesState → List (Option GraphLink) → Type 0
AreParents routes links = (s : ℕ) → parent_in links s ≡ parent routes.between.rows routes.between.depths s

-- ---- what is kept of the tree, of each switch by its place
abbrev pub IsBelowSet : RoutesState → (s set : ℕ) → Type 0
IsBelowSet routes s set =
    (t : ℕ) → t < 64 → (bit_at set t == 1) ≡ is_below routes.between.rows routes.between.depths s t

-- a bit is put into the sets of those switches that pass the test
abbrev pub ArePut : (ℕ → Bool) → (bit : ℕ) → (before after : List ℕ) → Type 0
ArePut passes bit before after =
    (length after ≡ length before) × ((s t : ℕ) → s < 64
    → (bit_at (get_or after s 0) t == 1) ≡ ((bit_at (get_or before s 0) t == 1) || (passes s && (bit == t))))

-- of a switch s: t, or one of the first so many above t
unfoldable pub is_up_to : RoutesState → (count t s : ℕ) → Bool
is_up_to routes zero t s = t == s
is_up_to routes (suc count) t s =
    is_up_to routes count t s || is_that_port (above routes.between.rows routes.between.depths (suc count) t) s

abbrev pub IsOutsideSet : RoutesState → (s set : ℕ) → Type 0
IsOutsideSet routes s set =
    (t : ℕ) → t < 64 → (bit_at set t == 1) ≡ not (is_below routes.between.rows routes.between.depths s t)

abbrev pub IsParent : RoutesState → ℕ → Option ℕ → Type 0
IsParent routes c of = (s : ℕ) → s < 64 → is_that_port of s ≡ is_that_port (parent routes.between.rows routes.between.depths c) s

abbrev pub IsLow : Option ℕ → Type 0
IsLow of = (p : ℕ) → of ≡ Some p → p < 64

pub record IsNode (routes : RoutesState) (s below outside : ℕ) (of : Option ℕ) (up end : ℕ) : Type 0 where
  pub is_below : IsBelowSet routes s below
  pub is_outside : IsOutsideSet routes s outside
  pub below_fits : below < 2 ^ 64
  pub outside_fits : outside < 2 ^ 64
  pub is_parent : IsParent routes s of
  pub is_low : IsLow of
  -- the tree port's bit, and that of the port at the other end
  pub is_up : AreBits up (is_that_port (tree_port routes.between.rows routes.between.depths s))
  pub is_end : AreBits end (is_that_port (option_map (λ at. at.port) (tree_end routes s)))

abbrev pub IsTree : RoutesState → Tree → (count : ℕ) → Type 0
IsTree routes tree count =
    (s : ℕ) → s < count → IsNode routes s (get_or tree.below s 0) (get_or tree.outside s 0) (get_or tree.parents s None)
    (get_or tree.ups s 0) (get_or tree.ends s 0)

-- ---- one multicast LID
-- these bits, if some switch of the set is marked
abbrev pub where_meets : (switches set bits : ℕ) → ℕ
where_meets switches set bits = if meets switches set then bits else 0

-- the bit of a port of a switch that leads to one next below it
abbrev pub leads_down : Tree → (switches s number c : ℕ) → Bool
leads_down tree switches s number c =
    is_that_port (get_or tree.parents c None) s
    && (meets switches (get_or tree.below c 0) && (bit_at (get_or tree.ends c 0) number == 1))

unfoldable pub some_lead_down : Tree → (count switches s number : ℕ) → Bool
some_lead_down tree count switches s number = list_any (leads_down tree switches s number) (range_with_len 0 count)

abbrev pub leads_up : Tree → (switches s number : ℕ) → Bool
leads_up tree switches s number = meets switches (get_or tree.outside s 0) && (bit_at (get_or tree.ups s 0) number == 1)

-- a switch's own ports, its tree port where receivers are attached outside of what is below it, and so for each switch next below it
abbrev pub IsSpread : Tree → (row : List ℕ) → (switches : ℕ) → List ℕ → Type 0
IsSpread tree row switches masks =
    (s number : ℕ) → s < 64 → (bit_at (get_or masks s 0) number == 1)
    ≡ (((bit_at (get_or row s 0) number == 1) || leads_up tree switches s number) || some_lead_down tree 64 switches s number)

abbrev pub AreSpread : Tree → (ports : List (List ℕ)) → (switches : List ℕ) → (count : ℕ) → List (List ℕ) → Type 0
AreSpread tree ports switches count masks =
    (i : ℕ) → i < count → IsSpread tree (get_or ports i []) (get_or switches i 0) (get_or masks i [])

-- ---- the blocks of a switch
abbrev pub blocks_of : (masks : List (List ℕ)) → (place : ℕ) → List (List ℕ)
blocks_of masks place = map (λ position. words_at position (map (λ row. get_or row place 0) masks)) (range_with_len 0 3)

-- such masks give each switch of the graph the MLID range that it is to have
abbrev pub AreMasksOf : RoutesState → (partition : ℕ) → (receives : ℕ → ℕ → Bool) → (masks : List (List ℕ)) → Type 0
AreMasksOf routes partition receives masks =
    (place : ℕ) → place < length routes.graph.switches → blocks_of masks place ≡ wanted_range routes partition receives place
