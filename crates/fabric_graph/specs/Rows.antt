-- Rows of switches that are joined all to all. In a crowded picture one thick edge stands for the cables between two of them.
use Rattle.std.specs.Prelude.{ℕ, ◌+◌, ◌==◌, ◌&&◌, Bool, true, false, not, nat_le, nat_lt, if◌then◌else◌, List, count_by, get_or, length, map, slice_get}
use Rattle.std.specs.Prelude.{Option, Some, None}
use Rattle.std.specs.List.{list_all, list_any, range_with_len}
use Rattle.std.specs.Option.{option_map_or}
use Rattle.fabric_graph.specs.Cables.{is_crowded, is_cut}
use Rattle.cable_looks.specs.declared.looks.Look.{Look}
use Rattle.cable_looks.specs.declared.looks.Look.TheVariants.{Plain}
use Rattle.cable_looks.specs.Looks.{look_at}
use Rattle.fabric_graph.specs.Ranks.{rank_at, row_of}
use Rattle.fabric_parts.specs.declared.cable.Cable.{Cable}
use Rattle.smp_wire.specs.FabricState.{FabricState}
use Rattle.topo_file.specs.Connectivity.{joins}
use Rattle.topo_file.specs.Topology.{TopologyState}

-- ---- what edges are drawn of
pub record Picture : Type 0 where
  -- it has many cables
  pub crowded : Bool
  -- those of the topology, and how the cable at each place is drawn
  pub cables : List Cable
  pub looks : List Look
  -- of nodes, by their places
  pub ranks : List (Option ℕ)
  pub fabric : FabricState

abbrev pub picture_with : (crowded : Bool) → TopologyState → List (Option ℕ) → FabricState → List Look → Picture
picture_with crowded plan ranks fabric looks = record { crowded = crowded; cables = plan.cables; looks = looks; ranks = ranks; fabric = fabric }

abbrev pub picture_of : TopologyState → List (Option ℕ) → FabricState → List Look → Picture
picture_of plan ranks fabric looks = picture_with (is_crowded (length plan.cables)) plan ranks fabric looks

-- ---- rows that are joined all to all
-- a cable of the topology joins these nodes, whether it is cut or not
abbrev pub are_cabled : List Cable → (one other : ℕ) → Bool
are_cabled cables one other = list_any (joins one other) cables

abbrev pub is_cabled_to_all : List Cable → (lowers : List ℕ) → ℕ → Bool
is_cabled_to_all cables lowers upper = list_all (are_cabled cables upper) lowers

-- each row has two switches or more, and each switch of the one is cabled to each of the other
abbrev pub are_joined : List Cable → (uppers lowers : List ℕ) → Bool
are_joined cables uppers lowers = (nat_le 2 (length uppers) && nat_le 2 (length lowers)) && list_all (is_cabled_to_all cables lowers) uppers

-- the picture is crowded, and the row of that rank and the next are joined so
abbrev pub joins_rows : Picture → (rank : ℕ) → Bool
joins_rows picture rank = picture.crowded && are_joined picture.cables (row_of picture.ranks rank) (row_of picture.ranks (rank + 1))

-- ---- the cables that a thick edge counts
abbrev pub is_next : (rank other : ℕ) → Bool
is_next rank other = other == rank + 1

-- of two ranks that follow one another, the one that is nearer to the roots
abbrev pub upper_of : Option ℕ → Option ℕ → Option ℕ
upper_of (Some one) (Some other) = if is_next one other then Some one else if is_next other one then Some other else None
upper_of _ _ = None

abbrev pub upper_rank : List (Option ℕ) → Cable → Option ℕ
upper_rank ranks cable = upper_of (rank_at ranks cable.first.node) (rank_at ranks cable.second.node)

abbrev pub is_plain : Look → Bool
is_plain Plain = true
is_plain _ = false

-- nothing is shown of it: a cable that is cut, needed or shows its load stays an edge of its own
abbrev pub is_ordinary : FabricState → Look → Cable → Bool
is_ordinary fabric look cable = is_plain look && not (is_cut fabric cable)

-- it leads from the row of that rank to the next
abbrev pub leads_down : List (Option ℕ) → (rank : ℕ) → Cable → Bool
leads_down ranks rank cable = option_map_or (λ upper. upper == rank) (upper_rank ranks cable) false

abbrev pub may_count : Picture → (rank : ℕ) → Look → Cable → Bool
may_count picture rank look cable = leads_down picture.ranks rank cable && is_ordinary picture.fabric look cable

abbrev pub may_count_at : Picture → (rank place : ℕ) → Bool
may_count_at picture rank place = option_map_or (may_count picture rank (look_at picture.looks place)) (slice_get picture.cables place) false

-- the thick edge between the row of that rank and the next counts the cable at that place
abbrev pub is_counted : Picture → (rank place : ℕ) → Bool
is_counted picture rank place = joins_rows picture rank && may_count_at picture rank place

-- how many it counts; there is one if it counts one or more
unfoldable pub thickness : Picture → (rank : ℕ) → ℕ
thickness picture rank = count_by (is_counted picture rank) (range_with_len 0 (length picture.cables))

-- of so many ranks
abbrev pub thick_edges : Picture → (ranks : ℕ) → List ℕ
thick_edges picture ranks = map (thickness picture) (range_with_len 0 ranks)

-- ---- by how many each thick edge counts
abbrev pub is_thick : (thick : List ℕ) → (rank : ℕ) → Bool
is_thick thick rank = nat_lt 0 (get_or thick rank 0)

-- a thick edge stands for the cable
abbrev pub is_merged : (thick : List ℕ) → Picture → Look → Cable → Bool
is_merged thick picture look cable = option_map_or (is_thick thick) (upper_rank picture.ranks cable) false && is_ordinary picture.fabric look cable
