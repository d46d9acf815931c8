-- The cables of a topology in DOT, as edges with the numbers of the ports at both ends, those that are cut dashed. DOT draws the
-- first end of an edge above the second if they are not in one row, so that each row of switches stands below that of the rank
-- before, and adapters stand below their switches.
use Rattle.std.specs.Prelude.{ℕ, Bool, true, false, nat_lt, if◌then◌else◌, List, [], ◌++◌, codes, decimal, Option}
use Rattle.std.specs.Prelude.{Some, None, is_none}
use Rattle.text_words.specs.Parts.{quoted}
use Rattle.cable_looks.specs.declared.looks.Look.{Look}
use Rattle.fabric_graph.specs.declared.cables.TheConstants.{LABELLED}
use Rattle.cable_looks.specs.Edges.{end_name, shade}
use Rattle.fabric_graph.specs.Ranks.{rank_at}
use Rattle.fabric_parts.specs.Cable.{far_end}
use Rattle.fabric_parts.specs.declared.cable.Cable.{Cable}
use Rattle.smp_wire.specs.FabricState.{FabricState}
use Rattle.topo_file.specs.declared.node.Node.{Node}
use Rattle.topo_file.specs.Node.{name_at}

-- ---- which end is first
-- the lesser rank is above, and any rank is above none, as an adapter has
abbrev pub is_above : Option ℕ → Option ℕ → Bool
is_above (Some rank) (Some other) = nat_lt rank other
is_above (Some rank) None = true
is_above None other = false

-- the cable from its upper end, and as its line names the ends if neither is above the other
abbrev pub downward : List (Option ℕ) → Cable → Cable
downward ranks cable =
    if is_above (rank_at ranks cable.second.node) (rank_at ranks cable.first.node)
    then record { first = cable.second; second = cable.first }
    else cable

-- ---- its line
-- nothing goes over the cable in the fabric
abbrev pub is_cut : FabricState → Cable → Bool
is_cut fabric cable = is_none (far_end fabric.cables cable.first)

abbrev pub ends : List Node → Cable → List ℕ
ends nodes cable = quoted (name_at nodes cable.first.node) ++ codes " -- " ++ quoted (name_at nodes cable.second.node)

-- the number of a port, at its end of the edge
abbrev pub end_label : List ℕ → ℕ → List ℕ
end_label end number = end ++ codes "=\"" ++ decimal number ++ codes "\""

abbrev pub end_labels : Cable → List ℕ
end_labels cable =
    end_label (codes "taillabel") cable.first.port ++ codes ", " ++ end_label (codes "headlabel") cable.second.port

-- a cable that is cut is drawn as a dashed line
unfoldable pub stroke : (cut : Bool) → List ℕ
stroke cut = if cut then codes ", style=dashed" else []

-- in a picture of more cables than these the numbers of ports are not at the ends, since they cover one another there, but are shown
-- where one points at the edge, as `tooltip="A/3 to B/3"`
abbrev pub is_crowded : (cables : ℕ) → Bool
is_crowded cables = nat_lt LABELLED cables

unfoldable pub ends_tooltip : List Node → Cable → List ℕ
ends_tooltip nodes cable = codes "tooltip=\"" ++ end_name nodes cable.first ++ codes " to " ++ end_name nodes cable.second ++ codes "\""

unfoldable pub ports_shown : (crowded : Bool) → List Node → Cable → List ℕ
ports_shown crowded nodes cable = if crowded then ends_tooltip nodes cable else end_labels cable

unfoldable pub edge_head : (crowded : Bool) → List Node → Cable → List ℕ
edge_head crowded nodes cable = codes "  " ++ ends nodes cable ++ codes " [" ++ ports_shown crowded nodes cable

abbrev pub edge_line : (crowded : Bool) → List Node → (stroke shade : List ℕ) → Cable → List ℕ
edge_line crowded nodes stroke shade cable = edge_head crowded nodes cable ++ stroke ++ shade ++ codes "];\n"

-- as `"A" -- "h1" [taillabel="2", headlabel="1"];`, or, if it is cut, `"A" -- "B" [taillabel="3", headlabel="3", style=dashed];`
abbrev pub cable_line : (crowded : Bool) → List (Option ℕ) → List Node → FabricState → (most : ℕ) → Look → Cable → List ℕ
cable_line crowded ranks nodes fabric most look cable =
    edge_line crowded nodes (stroke (is_cut fabric cable)) (shade nodes most cable look) (downward ranks cable)
