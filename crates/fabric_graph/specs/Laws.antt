-- What holds of every drawing: the statements of the laws of `src/laws.rt`.
use Rattle.std.specs.Prelude.{ℕ, ◌≡◌, ◌⊎◌, ◌==◌, ◌<◌, ◌≤◌, ◌+◌, ◌&&◌, ◌||◌, Bool, true, false, if◌then◌else◌, List, []}
use Rattle.std.specs.Prelude.{◌∷◌, filter, flat_map, get_or, length, slice_get, Option, Some}
use Rattle.std.specs.List.{Contains, list_any, range_with_len}
use Rattle.std.specs.Option.{option_map_or}
use Rattle.fabric_graph.specs.Cables.{is_cut}
use Rattle.fabric_graph.specs.Graph.{is_edge, ranks_drawn}
use Rattle.fabric_graph.specs.Lists.{AttachmentState, drawn_at, listed_attachment, places, attachments_of}
use Rattle.cable_looks.specs.Looks.{look_at}
use Rattle.fabric_graph.specs.Ranks.{rank_at, rank_count, rank_of, ranks_of, row_of}
use Rattle.fabric_graph.specs.Rows.{Picture, is_counted, picture_with, thick_edges}
use Rattle.cable_looks.specs.declared.looks.Look.{Look}
use Rattle.cable_looks.specs.declared.looks.Look.TheVariants.{Plain}
use Rattle.fabric_parts.specs.Cable.{is_same_port, port}
use Rattle.fabric_parts.specs.declared.cable.Cable.{Cable}
use Rattle.fabric_parts.specs.declared.cable.PortRef.{PortRef}
use Rattle.smp_wire.specs.FabricState.{FabricState}
use Rattle.subnet_model.specs.Configuration.{ConfigurationState}
use Rattle.topo_file.specs.Connectivity.{joins as joins_nodes}
use Rattle.topo_file.specs.Sound.{AreSound}
use Rattle.topo_file.specs.Topology.{TopologyState}
use Rattle.topo_file.specs.declared.node.Node.{Node}
use Rattle.updn_routes.specs.Order.{AreRanks}
use Rattle.updn_routes.specs.Routes.{AreRoutes}
use Rattle.updn_routes.specs.Subnet.{AreOfGraph, RoutesState}

-- a switch that has a rank stands in a row: whatever roots the ranks are of, there are rows enough
abbrev pub EachRankHasARow : Type 0
EachRankHasARow =
    (routes : RoutesState) (roots : List ℕ) (node : Node) (rank : ℕ)
    → AreOfGraph routes → AreRoutes routes.between → AreRanks routes.between.rows routes.between.guids roots routes.between.ranks
    → rank_of routes node ≡ Some rank → Contains (ranks_drawn routes) rank

-- of all nodes that are drawn, by themselves or in lists, each is one, and no more than one
abbrev pub EachNodeIsDrawnOnce : Type 0
EachNodeIsDrawnOnce =
    (attachments : List (Option AttachmentState)) (place : ℕ) → place < length attachments
    → filter (λ drawn. drawn == place) (flat_map (drawn_at attachments) (places attachments)) ≡ place ∷ []

-- the cable joins these two ports
abbrev pub joins : PortRef → PortRef → Cable → Bool
joins a b cable =
    (is_same_port cable.first a && is_same_port cable.second b) || (is_same_port cable.first b && is_same_port cable.second a)

-- the adapter of that place stands in a list, and its line shows this cable
abbrev pub shows_cable : List (Option AttachmentState) → Cable → ℕ → Bool
shows_cable attachments cable place =
    option_map_or (λ attachment. joins (port place 1) (port attachment.switch attachment.port) cable) (listed_attachment attachments place) false

-- whether a cable is an edge of its own, and whether the thick edge of that rank counts the cable at that place
abbrev pub EdgeRule : Type 0
EdgeRule = List (Option AttachmentState) → (thick : List ℕ) → Picture → Look → Cable → Bool

abbrev pub CountRule : Type 0
CountRule = Picture → (rank place : ℕ) → Bool

-- as the line of an adapter in a list, as an edge of its own, or as one of those for which a thick edge stands
abbrev pub times_drawn : EdgeRule → CountRule → List (Option AttachmentState) → (thick : List ℕ) → Picture → (ranks : List ℕ) → (place : ℕ) → Cable → ℕ
times_drawn is_edge counts attachments thick picture ranks place cable =
    length (filter (shows_cable attachments cable) (places attachments))
    + (if is_edge attachments thick picture (look_at picture.looks place) cable then 1 else 0)
    + length (filter (λ rank. counts picture rank place) ranks)

-- each cable is drawn once, whatever number of cables makes a picture crowded
abbrev pub DrawsCablesOnce : EdgeRule → CountRule → Type 0
DrawsCablesOnce is_edge counts =
    (plan : TopologyState) (subnet : ConfigurationState) (routes : RoutesState) (fabric : FabricState) (looks : List Look) (crowded : Bool)
    (k : ℕ) (cable : Cable) → AreSound plan.nodes plan.cables → slice_get plan.cables k ≡ Some cable
    → let picture = picture_with crowded plan (ranks_of routes plan.nodes) fabric looks in
    times_drawn is_edge counts (attachments_of plan subnet) (thick_edges picture (rank_count routes)) picture (ranks_drawn routes) k cable ≡ 1

abbrev pub EachCableIsDrawnOnce : Type 0
EachCableIsDrawnOnce = DrawsCablesOnce is_edge is_counted

-- ---- thick edges
-- the cable joins a switch of that rank and one of the next
abbrev pub LeadsFrom : Picture → (rank : ℕ) → Cable → Type 0
LeadsFrom picture rank cable =
    let one = rank_at picture.ranks cable.first.node in
    let other = rank_at picture.ranks cable.second.node in
    ((one ≡ Some rank) × (other ≡ Some (rank + 1))) ⊎ ((other ≡ Some rank) × (one ≡ Some (rank + 1)))

-- each switch of that rank is cabled to each of the next
abbrev pub AreJoined : Picture → (rank : ℕ) → Type 0
AreJoined picture rank =
    (upper lower : ℕ) → rank_at picture.ranks upper ≡ Some rank → rank_at picture.ranks lower ≡ Some (rank + 1)
    → list_any (joins_nodes upper lower) picture.cables ≡ true

-- if the thick edge of a rank counts a cable, this is so
pub record CountsJoinedRows (counts : CountRule) : Type 0 where
  pub crowded : (picture : Picture) (rank k : ℕ) → counts picture rank k ≡ true → picture.crowded ≡ true
  pub ends : (picture : Picture) (rank k : ℕ) (cable : Cable) → counts picture rank k ≡ true → slice_get picture.cables k ≡ Some cable
      → LeadsFrom picture rank cable
  -- it is not cut, and nothing is shown of it
  pub whole : (picture : Picture) (rank k : ℕ) (cable : Cable) → counts picture rank k ≡ true → slice_get picture.cables k ≡ Some cable
      → is_cut picture.fabric cable ≡ false
  pub plain : (picture : Picture) (rank k : ℕ) → counts picture rank k ≡ true → look_at picture.looks k ≡ Plain
  -- each rank has two switches or more, and each of the upper ones is cabled to each of the lower
  pub several : (picture : Picture) (rank k : ℕ) → counts picture rank k ≡ true
      → (2 ≤ length (row_of picture.ranks rank)) × (2 ≤ length (row_of picture.ranks (rank + 1)))
  pub all_to_all : (picture : Picture) (rank k : ℕ) → counts picture rank k ≡ true → AreJoined picture rank

abbrev pub ThickEdgesJoinAllToAll : Type 0
ThickEdgesJoinAllToAll = CountsJoinedRows is_counted

-- and if all that is so, the thick edge of the rank counts the cable
abbrev pub CountsAllJoined : CountRule → Type 0
CountsAllJoined counts =
    (picture : Picture) (rank k : ℕ) (cable : Cable) → picture.crowded ≡ true → slice_get picture.cables k ≡ Some cable
    → LeadsFrom picture rank cable → is_cut picture.fabric cable ≡ false → look_at picture.looks k ≡ Plain
    → 2 ≤ length (row_of picture.ranks rank) → 2 ≤ length (row_of picture.ranks (rank + 1)) → AreJoined picture rank
    → counts picture rank k ≡ true

abbrev pub JoinedRowsHaveThickEdges : Type 0
JoinedRowsHaveThickEdges = CountsAllJoined is_counted

-- the number that the thick edge of a rank shows, and by which it is drawn at all, is that of the cables of the topology that it counts
abbrev pub NumbersCables : (thick : Picture → (ranks : ℕ) → List ℕ) → CountRule → Type 0
NumbersCables thick counts =
    (picture : Picture) (ranks rank : ℕ) → rank < ranks
    → get_or (thick picture ranks) rank 0 ≡ length (filter (counts picture rank) (range_with_len 0 (length picture.cables)))

abbrev pub ThickEdgesShowNumbers : Type 0
ThickEdgesShowNumbers = NumbersCables thick_edges is_counted
