-- How the edge of a cable is drawn, in DOT: in red if it is needed, or by its load, as
-- `, color="orange", penwidth=3, tooltip="A/2 to B/2 31, B/2 to A/2 7"`.
use Rattle.std.specs.Prelude.{ℕ, List, [], ◌++◌, codes, decimal}
use Rattle.text_words.specs.Parts.{port_name}
use Rattle.cable_looks.specs.declared.looks.CableLoad.{CableLoad}
use Rattle.cable_looks.specs.declared.looks.Look.{Look}
use Rattle.cable_looks.specs.declared.looks.Look.TheVariants.{Loaded, Needed, Plain}
use Rattle.cable_looks.specs.Looks.{busier}
use Rattle.cable_looks.specs.Steps.{step_colour, step_of}
use Rattle.fabric_parts.specs.declared.cable.Cable.{Cable}
use Rattle.fabric_parts.specs.declared.cable.PortRef.{PortRef}
use Rattle.topo_file.specs.declared.node.Node.{Node}
use Rattle.topo_file.specs.Node.{name_at}

unfoldable pub end_name : List Node → PortRef → List ℕ
end_name nodes end = port_name (name_at nodes end.node) end.port

unfoldable pub direction : List Node → (from to : PortRef) → (load : ℕ) → List ℕ
direction nodes from to load = end_name nodes from ++ codes " to " ++ end_name nodes to ++ codes " " ++ decimal load

unfoldable pub tooltip_words : List ℕ
tooltip_words = codes ", tooltip=\""

abbrev pub tooltip : List Node → Cable → CableLoad → List ℕ
tooltip nodes cable load =
    tooltip_words ++ direction nodes cable.first cable.second load.forth ++ codes ", " ++ direction nodes cable.second cable.first load.back ++ codes "\""

unfoldable pub colour_words : List ℕ
colour_words = codes ", color=\""

unfoldable pub width_words : List ℕ
width_words = codes "\", penwidth="

abbrev pub step_look : ℕ → List ℕ
step_look step = colour_words ++ step_colour step ++ width_words ++ decimal step

abbrev pub loaded_look : List Node → (most : ℕ) → Cable → CableLoad → List ℕ
loaded_look nodes most cable load = step_look (step_of most (busier load)) ++ tooltip nodes cable load

-- one that is needed in red, and one that shows its load in the width and colour of that
unfoldable pub shade : List Node → (most : ℕ) → Cable → Look → List ℕ
shade nodes most cable Plain = []
shade nodes most cable Needed = codes ", color=red, penwidth=2"
shade nodes most cable (Loaded load) = loaded_look nodes most cable load
