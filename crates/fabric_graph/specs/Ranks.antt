-- The ranks of switches in DOT: those of one rank stand side by side, the roots on top.
use Rattle.std.specs.Prelude.{ℕ, ◌==◌, Bool, false, if◌then◌else◌, List, [], ◌∷◌, ◌++◌, codes, decimal, filter, flat_map, get_or, length, map, Option}
use Rattle.std.specs.Prelude.{None, option_map}
use Rattle.std.specs.List.{range_with_len}
use Rattle.std.specs.Option.{option_map_or}
use Rattle.text_words.specs.Parts.{quoted}
use Rattle.topo_file.specs.Node.{is_switch, name_at}
use Rattle.topo_file.specs.declared.node.Node.{Node}
use Rattle.updn_routes.specs.Subnet.{RoutesState, place_of}

-- how far a switch is from the nearest root, if routes know it by its GUID; a channel adapter has no rank
abbrev pub rank_of : RoutesState → Node → Option ℕ
rank_of routes node =
    if is_switch node
    then option_map (λ place. get_or routes.between.ranks place 0) (place_of routes.graph.switches node.guid)
    else None

-- how many ranks have rows: each is less than the number of switches, as a law says
abbrev pub rank_count : RoutesState → ℕ
rank_count routes = length routes.graph.switches

-- by the places of nodes
abbrev pub ranks_of : RoutesState → List Node → List (Option ℕ)
ranks_of routes nodes = map (rank_of routes) nodes

abbrev pub rank_at : List (Option ℕ) → ℕ → Option ℕ
rank_at ranks place = get_or ranks place None

-- ---- rows
abbrev pub has_rank : List (Option ℕ) → (rank : ℕ) → ℕ → Bool
has_rank ranks rank place = option_map_or (λ own. own == rank) (rank_at ranks place) false

-- the places of the switches of that rank
unfoldable pub row_of : List (Option ℕ) → ℕ → List ℕ
row_of ranks rank = filter (has_rank ranks rank) (range_with_len 0 (length ranks))

-- `min` is the top row, and `same` some row
abbrev pub row_words : ℕ → List ℕ
row_words rank = if rank == 0 then codes "min" else codes "same"

-- a row at which a thick edge ends is a box, to which DOT says cluster
abbrev pub row_head : (boxed : Bool) → ℕ → List ℕ
row_head boxed rank = if boxed then codes "  subgraph cluster_rank" ++ decimal rank ++ codes " { rank=same" else codes "  { rank=" ++ row_words rank

abbrev pub member : List Node → ℕ → List ℕ
member nodes place = codes "; " ++ quoted (name_at nodes place)

-- the switches at these places, as `{ rank=same; "L1"; "L2" }`, or `subgraph cluster_rank1 { rank=same; "L1"; "L2" }`
unfoldable pub row : List Node → (boxed : Bool) → ℕ → List ℕ → List ℕ
row nodes boxed rank places = row_head boxed rank ++ flat_map (member nodes) places ++ codes " }\n"

-- nothing if there is none
abbrev pub row_if : List Node → (boxed : Bool) → ℕ → List ℕ → List ℕ
row_if nodes boxed rank [] = []
row_if nodes boxed rank (place ∷ others) = row nodes boxed rank (place ∷ others)

abbrev pub rank_line : List Node → List (Option ℕ) → (boxed : Bool) → ℕ → List ℕ
rank_line nodes ranks boxed rank = row_if nodes boxed rank (row_of ranks rank)
