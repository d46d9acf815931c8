-- The lines of an audit, except its last ones.
use Rattle.std.specs.Prelude.{ℕ, ◌*◌, ◌==◌, ◌&&◌, nat_le, Bool, true, false, not, List, [], ◌∷◌, ◌++◌, codes, decimal, length, map, flat_map, if◌then◌else◌, is_none, Option, Some, None}
use Rattle.std.specs.List.{list_all, list_any, range_with_len}
use Rattle.std.specs.Option.{option_map_or}
use Rattle.dump_file.specs.declared.destination.Destination.{Destination}
use Rattle.dump_file.specs.declared.destination.Destination.TheVariants.{ChannelAdapter, Switch, Router, FurtherLid, Nobody, NotReported}
use Rattle.dump_file.specs.declared.table.Table.{Table}
use Rattle.fabric_parts.specs.Cable.{is_same_port}
use Rattle.fabric_parts.specs.declared.cable.Cable.{Cable}
use Rattle.fabric_parts.specs.declared.cable.PortRef.{PortRef}
use Rattle.text_words.specs.Parts.{guid_text, port_name}
use Rattle.topo_file.specs.Connectivity.{switches}
use Rattle.topo_file.specs.Node.{is_switch, name_at}
use Rattle.topo_file.specs.declared.node.Node.{Node}
use Rattle.audit_net.specs.declared.following.Turn.{Turn}
use Rattle.audit_net.specs.declared.following.Turn.TheVariants as turns
use Rattle.audit_net.specs.declared.lids.Aim.{Aim}
use Rattle.audit_net.specs.Following.{loop_from, turn}
use Rattle.audit_net.specs.Lids.{has_lid, is_named}
use Rattle.audit_net.specs.Net.{NetState, has_table, is_left_out, row_of, table_at}

-- ---- words of lines
abbrev pub name_text : NetState → ℕ → List ℕ
name_text net place = name_at net.plan.nodes place

abbrev pub port_text : NetState → PortRef → List ℕ
port_text net port = port_name (name_text net port.node) port.port

-- a LID, and the port that has it, if one is known: `5 (h3/1)`
abbrev pub owner_text : NetState → Option PortRef → List ℕ
owner_text net (Some end) = codes " (" ++ port_text net end ++ codes ")"
owner_text net None = []

abbrev pub lid_text : NetState → ℕ → Option PortRef → List ℕ
lid_text net lid end = decimal lid ++ owner_text net end

-- ---- what the files lack
-- `# passed over: h1/1 h2/1`: a cable that joins no switch
unfoldable pub passed_words : List ℕ
passed_words = codes "# passed over: "

unfoldable pub apart_line : NetState → Cable → List ℕ
apart_line net cable = passed_words ++ port_text net cable.first ++ codes " " ++ port_text net cable.second ++ 10 ∷ []

-- `# no switches`: the fabric has none, of which the dump could have a table
unfoldable pub no_switches_line : NetState → List ℕ
no_switches_line net = if length (switches net.plan.nodes) == 0 then codes "# no switches\n" else []

-- `no-table A`: a switch of which the dump has no table
abbrev pub no_table_line : NetState → ℕ → List ℕ
no_table_line net place = if is_none (table_at net place) then codes "no-table " ++ name_text net place ++ 10 ∷ [] else []

-- `no-switch 0x0000000000000020`: a table of a switch that the fabric lacks
abbrev pub has_switch : ℕ → List Node → Bool
has_switch guid nodes = list_any (λ node. is_switch node && (node.guid == guid)) nodes

abbrev pub no_switch_line : NetState → Table → List ℕ
no_switch_line net table = if has_switch table.guid net.plan.nodes then [] else codes "no-switch " ++ guid_text table.guid ++ 10 ∷ []

-- `no-port 3 0x7cfe9003009f0a11`: a LID of an end port that the fabric lacks
abbrev pub lacking_line : ℕ → Option ℕ → List ℕ
lacking_line lid (Some guid) = codes "no-port " ++ decimal lid ++ codes " " ++ guid_text guid ++ 10 ∷ []
lacking_line lid None = []

abbrev pub no_port_line : Aim → List ℕ
no_port_line aim = if is_none aim.end then lacking_line aim.lid aim.guid else []

-- `no-lid h1/1`: a port of an adapter that has a cable, and no LID by any row
abbrev pub no_lid_line : NetState → List Aim → PortRef → List ℕ
no_lid_line net all port = if has_lid net all port then [] else codes "no-lid " ++ port_text net port ++ 10 ∷ []

abbrev pub no_lid_lines : NetState → List Aim → Cable → List ℕ
no_lid_lines net all cable = no_lid_line net all cable.first ++ no_lid_line net all cable.second

-- `untold 320`: the top of some table, a multiple of 64, of which that table has no row, and no row or discovery says whose it is
abbrev pub leaves_out : ℕ → Table → Bool
leaves_out lid table = is_left_out table lid && not (is_named table.rows lid)

abbrev pub is_among : List Aim → ℕ → Bool
is_among all lid = list_any (λ aim. aim.lid == lid) all

abbrev pub is_untold : NetState → List Aim → ℕ → Bool
is_untold net all lid = list_any (leaves_out lid) net.dump.tables && not (is_among all lid)

abbrev pub unreported_line : NetState → List Aim → ℕ → List ℕ
unreported_line net all lid = if is_untold net all lid then codes "untold " ++ decimal lid ++ 10 ∷ [] else []

unfoldable pub multiples : List ℕ
multiples = map (λ n. n * 64) (range_with_len 0 1024)

unfoldable pub unreported_lines : NetState → List Aim → List ℕ
unreported_lines net all = flat_map (unreported_line net all) multiples

unfoldable pub files_by : NetState → List Aim → List ℕ
files_by net all =
    flat_map (apart_line net) net.plan.apart ++ no_switches_line net ++ flat_map (no_table_line net) (switches net.plan.nodes)
    ++ flat_map (no_switch_line net) net.dump.tables ++ flat_map no_port_line all ++ flat_map (no_lid_lines net all) net.plan.cables ++ unreported_lines net all

-- ---- what a switch does with a LID
-- what such a line begins with
abbrev pub words_at : List ℕ → NetState → ℕ → ℕ → Option PortRef → List ℕ
words_at word net place lid end = word ++ name_text net place ++ codes " " ++ lid_text net lid end

-- `hole A 24 (h3/1)`, `nowhere D 3 (h2/1) port 4`, `wrong C 1 (h1/1) h2/1`
abbrev pub hole_line : NetState → ℕ → ℕ → Option PortRef → List ℕ
hole_line net place lid end = codes "hole " ++ name_text net place ++ codes " " ++ lid_text net lid end ++ 10 ∷ []

abbrev pub nowhere_line : NetState → ℕ → ℕ → PortRef → ℕ → List ℕ
nowhere_line net place lid end number =
    codes "nowhere " ++ name_text net place ++ codes " " ++ lid_text net lid (Some end) ++ codes " port " ++ decimal number ++ 10 ∷ []

abbrev pub wrong_line : NetState → ℕ → ℕ → PortRef → PortRef → List ℕ
wrong_line net place lid end there =
    codes "wrong " ++ name_text net place ++ codes " " ++ lid_text net lid (Some end) ++ codes " " ++ port_text net there ++ 10 ∷ []

-- `left-out E 5 (h3/1)`: the switch has a table that may lack this row, as it has many ports or the LID is its top, and it does
abbrev pub left_out_line : NetState → ℕ → ℕ → Option PortRef → List ℕ
left_out_line net place lid end =
    if has_table net place then codes "left-out " ++ name_text net place ++ codes " " ++ lid_text net lid end ++ 10 ∷ [] else []

-- `loop 18 (h3/1) A B`: reported at the first switch of the loop
abbrev pub name_word : NetState → ℕ → List ℕ
name_word net place = codes " " ++ name_text net place

abbrev pub is_least : ℕ → List ℕ → Bool
is_least place ring = list_all (λ other. nat_le place other) ring

abbrev pub loop_line : NetState → ℕ → ℕ → Option PortRef → Option (List ℕ) → List ℕ
loop_line net place lid end (Some ring) =
    if is_least place ring then codes "loop " ++ lid_text net lid end ++ flat_map (name_word net) ring ++ 10 ∷ [] else []
loop_line net place lid end None = []

abbrev pub line_by : NetState → ℕ → ℕ → PortRef → Turn → List ℕ
line_by net place lid end (turns.Goes next) = loop_line net place lid (Some end) (loop_from net lid place)
line_by net place lid end (turns.Arrives there) = if is_same_port there end then [] else wrong_line net place lid end there
line_by net place lid end turns.Hole = hole_line net place lid (Some end)
line_by net place lid end (turns.Nowhere number) = nowhere_line net place lid end number
line_by net place lid end turns.Unknown = left_out_line net place lid (Some end)

-- `stray A 21`: an entry other than 255 for a LID of which the row says that it is nobody's, and no row says another thing
abbrev pub is_nobodys : Destination → Bool
is_nobodys Nobody = true
is_nobodys (ChannelAdapter guid) = false
is_nobodys (Switch guid) = false
is_nobodys (Router guid) = false
is_nobodys (FurtherLid guid) = false
is_nobodys NotReported = false

abbrev pub is_stray : ℕ → Table → Bool
is_stray lid table = option_map_or (λ row. is_nobodys row.destination && not (row.port == 255)) (row_of lid table.rows) false

abbrev pub stray_line : NetState → ℕ → ℕ → List ℕ
stray_line net place lid =
    if option_map_or (is_stray lid) (table_at net place) false then codes "stray " ++ name_text net place ++ codes " " ++ decimal lid ++ 10 ∷ [] else []

-- of a LID whose port the fabric lacks the last hop is not judged
abbrev pub unplaced_line : NetState → ℕ → ℕ → Turn → List ℕ
unplaced_line net place lid (turns.Goes next) = loop_line net place lid None (loop_from net lid place)
unplaced_line net place lid (turns.Arrives there) = []
unplaced_line net place lid turns.Hole = hole_line net place lid None
unplaced_line net place lid (turns.Nowhere number) = []
unplaced_line net place lid turns.Unknown = left_out_line net place lid None

-- a switch sends the LID to the one there
abbrev pub goes_to : ℕ → Turn → Bool
goes_to there (turns.Goes next) = next == there
goes_to there (turns.Arrives end) = false
goes_to there turns.Hole = false
goes_to there (turns.Nowhere number) = false
goes_to there turns.Unknown = false

abbrev pub is_fed : NetState → (there lid : ℕ) → Bool
is_fed net there lid = list_any (λ place. goes_to there (turn net lid place)) (switches net.plan.nodes)

-- to a LID of nobody nothing has to lead, but nothing may go round, or come to an entry that is unknown
abbrev pub nobodys_line : NetState → ℕ → ℕ → Turn → List ℕ
nobodys_line net place lid (turns.Goes next) = loop_line net place lid None (loop_from net lid place)
nobodys_line net place lid (turns.Arrives there) = []
nobodys_line net place lid turns.Hole = []
nobodys_line net place lid (turns.Nowhere number) = []
nobodys_line net place lid turns.Unknown = if is_fed net place lid then left_out_line net place lid None else []

abbrev pub trouble_to : NetState → ℕ → ℕ → Option ℕ → Option PortRef → List ℕ
trouble_to net place lid guid (Some end) = line_by net place lid end (turn net lid place)
trouble_to net place lid (Some guid) None = unplaced_line net place lid (turn net lid place)
trouble_to net place lid None None = stray_line net place lid ++ nobodys_line net place lid (turn net lid place)

abbrev pub trouble_line : NetState → ℕ → Aim → List ℕ
trouble_line net place aim = trouble_to net place aim.lid aim.guid aim.end

abbrev pub troubles_at : NetState → List Aim → ℕ → List ℕ
troubles_at net all place = flat_map (trouble_line net place) all

abbrev pub troubles_by : NetState → List Aim → List ℕ
troubles_by net all = flat_map (troubles_at net all) (switches net.plan.nodes)
