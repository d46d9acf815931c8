-- The lines on virtual lanes.
use Rattle.std.specs.Prelude.{ℕ, ◌+◌, ◌==◌, Bool, true, false, List, [], ◌∷◌, ◌++◌, codes, count_by, decimal, flat_map, length, map, if◌then◌else◌, Option, Some, None}
use Rattle.std.specs.List.{range_with_len}
use Rattle.sl2vl_file.specs.declared.path.PathSl.{PathSl}
use Rattle.topo_file.specs.Connectivity.{switches}
use Rattle.topo_file.specs.Node.{ports_at}
use Rattle.audit_net.specs.declared.lids.Aim.{Aim}
use Rattle.audit_net.specs.Net.{NetState}
use Rattle.audit_routes.specs.Audit.{port_word}
use Rattle.audit_routes.specs.Lines.{lid_text, name_text}
use Rattle.audit_lanes.specs.declared.hop.Crossing.{Crossing}
use Rattle.audit_lanes.specs.declared.hop.Hop.{Hop}
use Rattle.audit_lanes.specs.declared.lane.Lane.{Lane}
use Rattle.audit_lanes.specs.declared.owned.OwnedLid.{OwnedLid}
use Rattle.audit_lanes.specs.Hops.{is_dropped_at, is_dropped_by, lacks_row_at, some_hop}
use Rattle.audit_lanes.specs.Records.{lacking_from, owned, records, sls, vls}

-- ---- `lanes deadlock A/3 VL 0 B/3 VL 1`: each lane waits for the next one, and the last for the first
unfoldable pub lane_word : NetState → Lane → List ℕ
lane_word net one = port_word net one.at ++ codes " VL " ++ decimal one.vl

unfoldable pub ring_text : NetState → List Lane → List ℕ
ring_text net ring = codes "lanes deadlock" ++ flat_map (lane_word net) ring ++ 10 ∷ []

abbrev pub ring_line : NetState → Option (List Lane) → List ℕ
ring_line net (Some ring) = ring_text net ring
ring_line net None = []

-- ---- `lanes no-path 12 (h1/1) 11 (h2/1) and 10 more`: of a source the first destination to which there is no record, and how many
-- more there are
abbrev pub owned_text : NetState → OwnedLid → List ℕ
owned_text net one = lid_text net one.lid (Some one.end)

unfoldable pub more_words : ℕ → List ℕ
more_words count = if count == 0 then [] else codes " and " ++ decimal count ++ codes " more"

unfoldable pub no_path_text : NetState → OwnedLid → OwnedLid → ℕ → List ℕ
no_path_text net source first more = codes "lanes no-path " ++ owned_text net source ++ codes " " ++ owned_text net first ++ more_words more ++ 10 ∷ []

abbrev pub no_path_by : NetState → OwnedLid → List OwnedLid → List ℕ
no_path_by net source [] = []
no_path_by net source (first ∷ rest) = no_path_text net source first (length rest)

abbrev pub no_path_line : NetState → List PathSl → List OwnedLid → OwnedLid → List ℕ
no_path_line net paths all source = no_path_by net source (lacking_from paths all source)

-- ---- two ports of a switch, in the order of switches, of ports by which packets come in, and of those by which they leave. Ports are
-- counted from 1: these are behind the numbers
abbrev pub crossing_before : (place input before : ℕ) → Crossing
crossing_before place input before = record { place = place; input = input + 1; output = before + 1 }

abbrev pub crossings_by : NetState → (place input : ℕ) → List Crossing
crossings_by net place input = map (crossing_before place input) (range_with_len 0 (ports_at net.plan.nodes place))

abbrev pub crossings_at : NetState → ℕ → List Crossing
crossings_at net place = flat_map (crossings_by net place) (range_with_len 0 (ports_at net.plan.nodes place))

abbrev pub crossings : NetState → List Crossing
crossings net = flat_map (crossings_at net) (switches net.plan.nodes)

-- `A in 3 out 7`
unfoldable pub crossing_text : NetState → Crossing → List ℕ
crossing_text net here = name_text net here.place ++ codes " in " ++ decimal here.input ++ codes " out " ++ decimal here.output

-- ---- `lanes no-row A in 3 out 7`: packets of a record go so, and no row is of these ports
unfoldable pub no_row_text : NetState → Crossing → List ℕ
no_row_text net here = codes "lanes no-row " ++ crossing_text net here ++ 10 ∷ []

abbrev pub no_row_line : NetState → List (List Hop) → Crossing → List ℕ
no_row_line net traces here = if some_hop (lacks_row_at here) traces then no_row_text net here else []

-- ---- `lanes dropped A in 3 out 7 SL 3`: packets of a record go so, and the VL is 15
unfoldable pub dropped_text : NetState → Crossing → ℕ → List ℕ
dropped_text net here sl = codes "lanes dropped " ++ crossing_text net here ++ codes " SL " ++ decimal sl ++ 10 ∷ []

abbrev pub dropped_line : NetState → List (List Hop) → Crossing → ℕ → List ℕ
dropped_line net traces here sl = if some_hop (is_dropped_by here sl) traces then dropped_text net here sl else []

unfoldable pub dropped_lines : NetState → List (List Hop) → Crossing → List ℕ
dropped_lines net traces here = if some_hop (is_dropped_at here) traces then flat_map (dropped_line net traces here) (range_with_len 0 16) else []

-- ---- `lanes: 132 pairs, 132 with a path record, SLs 0 1 2, VLs 0 1 2`
abbrev pub number_word : ℕ → List ℕ
number_word number = codes " " ++ decimal number

abbrev pub number_words : List ℕ → List ℕ
number_words numbers = if length numbers == 0 then codes " none" else flat_map number_word numbers

unfoldable pub pairs_words : List Bool → List ℕ
pairs_words all = codes "lanes: " ++ decimal (length all) ++ codes " pairs, "

unfoldable pub recorded_words : List Bool → List ℕ
recorded_words all = decimal (count_by (λ is. is) all) ++ codes " with a path record"

unfoldable pub numbers_words : (sls vls : List ℕ) → List ℕ
numbers_words sls vls = codes ", SLs" ++ number_words sls ++ codes ", VLs" ++ number_words vls ++ 10 ∷ []

unfoldable pub count_line : List Bool → (sls vls : List ℕ) → List ℕ
count_line all sls vls = pairs_words all ++ recorded_words all ++ numbers_words sls vls

-- by the entries alone there is a credit loop, and by lanes there is none, as is known of each pair and each hop
abbrev pub freed_line : (by_entries by_lanes : Bool) → List ℕ
freed_line false true = codes "# lanes: by virtual lanes the deadlock above does not happen\n"
freed_line _ _ = []

unfoldable pub judged_line : List ℕ
judged_line = codes "# lanes: packets of a path record use its SL; other packets are not judged\n"

-- ---- all of it
unfoldable pub no_path_lines : NetState → List Aim → List PathSl → List ℕ
no_path_lines net aims paths = flat_map (no_path_line net paths (owned net aims)) (owned net aims)

unfoldable pub crossing_lines : NetState → List (List Hop) → List ℕ
crossing_lines net traces = flat_map (no_row_line net traces) (crossings net) ++ flat_map (dropped_lines net traces) (crossings net)

unfoldable pub counts_line : NetState → List Aim → List PathSl → List (List Hop) → List ℕ
counts_line net aims paths traces = count_line (records paths (owned net aims)) (sls net aims paths) (vls traces)
