-- The thick edges of a picture in DOT. Each ends at two rows, which are boxes then.
use Rattle.std.specs.Prelude.{ℕ, ◌+◌, ◌-◌, ◌/◌, ◌&&◌, ◌||◌, Bool, nat_lt, if◌then◌else◌, List, [], ◌++◌, codes, decimal, get_or, length, Option}
use Rattle.std.specs.List.{list_any}
use Rattle.fabric_graph.specs.Ranks.{row_of}
use Rattle.fabric_graph.specs.Rows.{is_thick}
use Rattle.text_words.specs.Parts.{quoted}
use Rattle.topo_file.specs.Node.{name_at}
use Rattle.topo_file.specs.declared.node.Node.{Node}

abbrev pub has_thick : (thick : List ℕ) → Bool
has_thick thick = list_any (λ count. nat_lt 0 count) thick

-- so an edge may end at a box
abbrev pub compound : (thick : List ℕ) → List ℕ
compound thick = if has_thick thick then codes "  compound=true;\n" else []

-- a thick edge ends at the row of that rank, at its foot or at its head
abbrev pub is_boxed : (thick : List ℕ) → (rank : ℕ) → Bool
is_boxed thick rank = is_thick thick rank || (nat_lt 0 rank && is_thick thick (rank - 1))

-- the name of the switch in the middle of a row, from which the edge goes to the box around it
abbrev pub middle_name : List Node → List ℕ → List ℕ
middle_name nodes row = name_at nodes (get_or row (length row / 2) 0)

abbrev pub middle_of : List Node → List (Option ℕ) → (rank : ℕ) → List ℕ
middle_of nodes ranks rank = middle_name nodes (row_of ranks rank)

unfoldable pub thick_ends : (upper lower : List ℕ) → List ℕ
thick_ends upper lower = codes "  " ++ quoted upper ++ codes " -- " ++ quoted lower

unfoldable pub at_box : (end : List ℕ) → (rank : ℕ) → List ℕ
at_box end rank = end ++ codes "=cluster_rank" ++ decimal rank

unfoldable pub thick_look : List ℕ
thick_look = codes ", penwidth=10, color=gray60, label=\""

unfoldable pub thick_foot : List ℕ
thick_foot = codes " cables, all to all\"];\n"

-- as `"S1" -- "L1" [ltail=cluster_rank0, lhead=cluster_rank1, penwidth=10, color=gray60, label="240 cables, all to all"];`
abbrev pub thick_line : List Node → List (Option ℕ) → (rank count : ℕ) → List ℕ
thick_line nodes ranks rank count =
    thick_ends (middle_of nodes ranks rank) (middle_of nodes ranks (rank + 1))
    ++ at_box (codes " [ltail") rank ++ at_box (codes ", lhead") (rank + 1) ++ thick_look ++ decimal count ++ thick_foot

-- that between the row of this rank and the next, if there is one
abbrev pub thick_edge : List Node → List (Option ℕ) → (thick : List ℕ) → (rank : ℕ) → List ℕ
thick_edge nodes ranks thick rank = if is_thick thick rank then thick_line nodes ranks rank (get_or thick rank 0) else []
