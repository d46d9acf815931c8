-- The legend in DOT, if a cable shows its load: a row for each step of which there can be a load.
use Rattle.std.specs.Prelude.{ℕ, ◌==◌, Bool, true, false, nat_lt, if◌then◌else◌, List, [], ◌++◌, codes, decimal, flat_map}
use Rattle.std.specs.List.{list_any, range_with_len}
use Rattle.cable_looks.specs.declared.looks.Look.{Look}
use Rattle.cable_looks.specs.declared.looks.Look.TheVariants.{Loaded}
use Rattle.cable_looks.specs.Looks.{most_of}
use Rattle.cable_looks.specs.Steps.{least_of, step_colour, top_of}

abbrev pub is_loaded : Look → Bool
is_loaded (Loaded load) = true
is_loaded _ = false

-- as `13 to 25`, or `3`
abbrev pub range_words : (least top : ℕ) → List ℕ
range_words least top = if least == top then decimal top else decimal least ++ codes " to " ++ decimal top

unfoldable pub colour_cell : List ℕ
colour_cell = codes "<tr><td width=\"40\" bgcolor=\""

unfoldable pub range_cell : List ℕ
range_cell = codes "\"></td><td align=\"left\">"

abbrev pub step_cell : ℕ → List ℕ
step_cell step = colour_cell ++ step_colour step ++ range_cell

abbrev pub legend_row : (most step : ℕ) → List ℕ
legend_row most step = step_cell step ++ range_words (least_of most step) (top_of most step) ++ codes "</td></tr>"

abbrev pub legend_row_if : (most step : ℕ) → List ℕ
legend_row_if most step = if nat_lt (top_of most step) (least_of most step) then [] else legend_row most step

unfoldable pub legend_head : List ℕ
legend_head =
    codes "  fontname=\"sans-serif\";\n  labelloc=t;\n  labeljust=l;\n"
    ++ codes "  label=<<table border=\"0\"><tr><td colspan=\"2\" align=\"left\">pairs that go over a cable, in its busier direction</td></tr>"

unfoldable pub legend_rows : (most : ℕ) → List ℕ
legend_rows most = flat_map (legend_row_if most) (range_with_len 1 5)

unfoldable pub legend_foot : List ℕ
legend_foot = codes "</table>>;\n"

unfoldable pub legend : (most : ℕ) → List ℕ
legend most = legend_head ++ legend_rows most ++ legend_foot

abbrev pub legend_of : List Look → List ℕ
legend_of looks = if list_any is_loaded looks then legend (most_of looks) else []
