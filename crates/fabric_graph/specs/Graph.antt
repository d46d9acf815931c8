-- The fabric of a subnet as a text in DOT, the language of Graphviz.
use Rattle.std.specs.Prelude.{ℕ, ◌&&◌, Bool, not, if◌then◌else◌, List, [], ◌++◌, codes, flat_map, length, slice_get, Option}
use Rattle.std.specs.Option.{option_map_or}
use Rattle.std.specs.List.{range_with_len}
use Rattle.fabric_graph.specs.Cables.{cable_line}
use Rattle.cable_looks.specs.declared.looks.Look.{Look}
use Rattle.cable_looks.specs.Legend.{legend_of}
use Rattle.cable_looks.specs.Looks.{look_at, most_of}
use Rattle.fabric_graph.specs.Lists.{AttachmentState, is_in_list, place_text, places, attachments_of, spacing}
use Rattle.fabric_graph.specs.Ranks.{rank_count, rank_line, ranks_of}
use Rattle.fabric_graph.specs.Rows.{Picture, is_merged, picture_of, thick_edges}
use Rattle.fabric_graph.specs.ThickEdges.{compound, is_boxed, thick_edge}
use Rattle.fabric_parts.specs.declared.cable.Cable.{Cable}
use Rattle.smp_wire.specs.FabricState.{FabricState}
use Rattle.subnet_model.specs.Configuration.{ConfigurationState}
use Rattle.topo_file.specs.Topology.{TopologyState}
use Rattle.topo_file.specs.declared.node.Node.{Node}
use Rattle.updn_routes.specs.Subnet.{RoutesState}

-- how all nodes and edges look
unfoldable pub head : List ℕ
head = codes "graph fabric {\n  node [fontname=\"sans-serif\", fontsize=11];\n  edge [fontname=\"sans-serif\", fontsize=9];\n"

-- ---- rows
abbrev pub ranks_drawn : RoutesState → List ℕ
ranks_drawn routes = range_with_len 0 (rank_count routes)

abbrev pub rank_text : List Node → List (Option ℕ) → (thick : List ℕ) → ℕ → List ℕ
rank_text nodes ranks thick rank = rank_line nodes ranks (is_boxed thick rank) rank

-- ---- edges
-- a cable that no list shows, and for which no thick edge stands
abbrev pub is_edge : List (Option AttachmentState) → (thick : List ℕ) → Picture → Look → Cable → Bool
is_edge attachments thick picture look cable = not (is_in_list attachments cable) && not (is_merged thick picture look cable)

abbrev pub edge_of : List Node → List (Option AttachmentState) → (thick : List ℕ) → Picture → (most : ℕ) → Look → Cable → List ℕ
edge_of nodes attachments thick picture most look cable =
    if is_edge attachments thick picture look cable then cable_line picture.crowded picture.ranks nodes picture.fabric most look cable else []

-- the cable at that place of the topology; how it looks is given by places, and those of which it is not are plain
unfoldable pub edge_at : List Node → List (Option AttachmentState) → (thick : List ℕ) → Picture → ℕ → List ℕ
edge_at nodes attachments thick picture place =
    option_map_or (edge_of nodes attachments thick picture (most_of picture.looks) (look_at picture.looks place)) (slice_get picture.cables place) []

-- ---- the whole
-- each node, by itself or in a list; each rank; each thick edge; and each other cable that no list shows, those that are cut in the
-- fabric too
unfoldable pub text_by : TopologyState → ConfigurationState → RoutesState → List (Option AttachmentState) → (thick : List ℕ) → Picture → List ℕ
text_by plan subnet routes attachments thick picture =
    head ++ compound thick ++ spacing attachments ++ legend_of picture.looks
    ++ flat_map (place_text plan subnet attachments) (places attachments)
    ++ flat_map (rank_text plan.nodes picture.ranks thick) (ranks_drawn routes)
    ++ flat_map (thick_edge plan.nodes picture.ranks thick) (ranks_drawn routes)
    ++ flat_map (edge_at plan.nodes attachments thick picture) (range_with_len 0 (length plan.cables))
    ++ codes "}\n"

abbrev pub text_of : TopologyState → ConfigurationState → RoutesState → Picture → List ℕ
text_of plan subnet routes picture =
    text_by plan subnet routes (attachments_of plan subnet) (thick_edges picture (rank_count routes)) picture

abbrev pub graph_text : TopologyState → ConfigurationState → RoutesState → FabricState → List Look → List ℕ
graph_text plan subnet routes fabric looks = text_of plan subnet routes (picture_of plan (ranks_of routes plan.nodes) fabric looks)
