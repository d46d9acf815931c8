-- A picture has what is drawn of each node, row, thick edge and cable.
use Rattle.std.proofs.Common.{◌<◌, arith, ℕ, List, length}
use Rattle.std.specs.List.{Contains, range_with_len}
use Rattle.std.specs.Str.Iter.{HasSubslice}
use Rattle.std.proofs.lemmas.List.FromFn.{length-map-range_with_len}
use Rattle.audit_plan.proofs.SubsliceLemmas.{stands_behind, stands_itself, stands_longer}
use Rattle.fabric_graph.specs.Graph.{edge_at, rank_text, ranks_drawn, text_by, text_of}
use Rattle.fabric_graph.specs.Lists.{attachment_at, attachments_of, place_text, places}
use Rattle.fabric_graph.specs.Ranks.{rank_count}
use Rattle.fabric_graph.specs.Rows.{Picture, thick_edges}
use Rattle.fabric_graph.specs.ThickEdges.{thick_edge}
use Rattle.joint_laws.proofs.StandingLemmas.{in_range, stands_if_there}
use Rattle.joint_laws.specs.LineLaws.{AllIsDrawn}
use Rattle.subnet_model.specs.Configuration.{ConfigurationState}
use Rattle.topo_file.specs.Topology.{TopologyState}
use Rattle.updn_routes.specs.Subnet.{RoutesState}

module _ (plan : TopologyState) (subnet : ConfigurationState) (routes : RoutesState) (picture : Picture) where
  abbrev thick : List ℕ
  thick = thick_edges picture (rank_count routes)

  node_drawn : (place : ℕ) → place < length plan.nodes
      → HasSubslice (text_of plan subnet routes picture) (place_text plan subnet (attachments_of plan subnet) place)
  unfolding text_by
  node_drawn place low =
      let line = place_text plan subnet (attachments_of plan subnet) place in
      let many = length-map-range_with_len (attachment_at plan subnet) 0 (length plan.nodes) in
      let there : Contains (places (attachments_of plan subnet)) place =
      in_range 0 (length (attachments_of plan subnet)) place (omega arith) (omega (arith, low, many)) in
      stands_longer line _ (stands_longer line _ (stands_longer line _ (stands_longer line _ (stands_behind line _
      (stands_if_there (place_text plan subnet (attachments_of plan subnet)) line (places (attachments_of plan subnet)) place there (stands_itself line))))))

  row_drawn : (rank : ℕ) → rank < rank_count routes → HasSubslice (text_of plan subnet routes picture) (rank_text plan.nodes picture.ranks thick rank)
  unfolding text_by
  row_drawn rank low =
      let line = rank_text plan.nodes picture.ranks thick rank in
      stands_longer line _ (stands_longer line _ (stands_longer line _ (stands_behind line _
      (stands_if_there (rank_text plan.nodes picture.ranks thick) line (ranks_drawn routes) rank
      (in_range 0 (rank_count routes) rank (omega arith) (omega (arith, low))) (stands_itself line)))))

  thick_drawn : (rank : ℕ) → rank < rank_count routes → HasSubslice (text_of plan subnet routes picture) (thick_edge plan.nodes picture.ranks thick rank)
  unfolding text_by
  thick_drawn rank low =
      let line = thick_edge plan.nodes picture.ranks thick rank in
      stands_longer line _ (stands_longer line _ (stands_behind line _
      (stands_if_there (thick_edge plan.nodes picture.ranks thick) line (ranks_drawn routes) rank
      (in_range 0 (rank_count routes) rank (omega arith) (omega (arith, low))) (stands_itself line))))

  cable_drawn : (place : ℕ) → place < length plan.cables
      → HasSubslice (text_of plan subnet routes picture) (edge_at plan.nodes (attachments_of plan subnet) thick picture place)
  unfolding text_by
  cable_drawn place low =
      let line = edge_at plan.nodes (attachments_of plan subnet) thick picture place in
      stands_longer line _ (stands_behind line _
      (stands_if_there (edge_at plan.nodes (attachments_of plan subnet) thick picture) line (range_with_len 0 (length plan.cables)) place
      (in_range 0 (length plan.cables) place (omega arith) (omega (arith, low))) (stands_itself line)))

pub all_is_drawn : AllIsDrawn
all_is_drawn = record {
  nodes = node_drawn;
  rows = λ plan subnet routes picture rank low. (row_drawn plan subnet routes picture rank low, thick_drawn plan subnet routes picture rank low);
  cables = cable_drawn;
}
