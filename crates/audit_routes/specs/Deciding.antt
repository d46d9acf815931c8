-- The lines of what decides: the LIDs that packets of hosts do not come to, and those that come to an unknown entry. And the lines
-- by switch and LID, or how many they are.
use Rattle.std.specs.Prelude.{ℕ, ◌-◌, ◌==◌, ◌&&◌, ◌||◌, nat_lt, Bool, true, false, List, [], ◌∷◌, ◌++◌, codes, count_by, decimal, filter, flat_map, length, take, if◌then◌else◌, Option, Some, None}
use Rattle.std.specs.Option.{option_map_or}
use Rattle.fabric_parts.specs.declared.cable.PortRef.{PortRef}
use Rattle.topo_file.specs.Connectivity.{switches}
use Rattle.audit_plan.specs.Plan.{is_host}
use Rattle.audit_plan.specs.Attached.{carries_host}
use Rattle.audit_net.specs.Following.{fate, turn}
use Rattle.audit_net.specs.Net.{NetState, has_table}
use Rattle.audit_net.specs.declared.lids.Aim.{Aim}
use Rattle.audit_routes.specs.Lines.{is_fed, lid_text, name_word, troubles_by}
use Rattle.audit_routes.specs.Verdict.{is_lost_by, is_others, is_unknown}

-- ---- how many switches, and the names of the first eight: `3 switches: A B C`, `12 switches: A B C D E F G H and 4 more`
abbrev pub more_words : ℕ → List ℕ
more_words count = if nat_lt 8 count then codes " and " ++ decimal (count - 8) ++ codes " more" else []

unfoldable pub switches_words : NetState → List ℕ → List ℕ
switches_words net places =
    decimal (length places) ++ codes " switches:" ++ flat_map (name_word net) (take 8 places) ++ more_words (length places) ++ 10 ∷ []

-- the line of a LID at these switches; if there is none, no line
abbrev pub places_line : (word joint : List ℕ) → NetState → Aim → List ℕ → List ℕ
places_line word joint net aim [] = []
places_line word joint net aim (place ∷ places) = word ++ lid_text net aim.lid aim.end ++ joint ++ switches_words net (place ∷ places)

-- ---- `unreached 5 (h5/1) from 3 switches: A B C`: the switches with a host from which packets to the port of a host are lost
abbrev pub host_switches : NetState → List ℕ
host_switches net = filter (carries_host net.plan) (switches net.plan.nodes)

abbrev pub losing : NetState → ℕ → PortRef → List ℕ
losing net lid end = filter (λ place. is_lost_by (fate net lid end place)) (host_switches net)

abbrev pub losing_to : NetState → ℕ → Option PortRef → List ℕ
losing_to net lid (Some end) = if is_host net.plan end.node then losing net lid end else []
losing_to net lid None = []

abbrev pub losers : NetState → Aim → List ℕ
losers net aim = losing_to net aim.lid aim.end

abbrev pub unreached_line : NetState → Aim → List ℕ
unreached_line net aim = places_line (codes "unreached ") (codes " from ") net aim (losers net aim)

abbrev pub unreached_lines : NetState → List Aim → List ℕ
unreached_lines net all = flat_map (unreached_line net) all

-- ---- `unknown 5 (h5/1) at 1 switches: A`: the switches that have a table, and whose unknown entry packets come to
abbrev pub is_hosts : NetState → Aim → Bool
is_hosts net aim = option_map_or (λ end. is_host net.plan end.node) aim.end false

-- a host of the switch sends them to a host, or another switch sends them
abbrev pub is_entered : NetState → Aim → ℕ → Bool
is_entered net aim place = (is_hosts net aim && carries_host net.plan place) || is_fed net place aim.lid

abbrev pub lacks_entry : NetState → Aim → ℕ → Bool
lacks_entry net aim place = has_table net place && (is_unknown (turn net aim.lid place) && is_entered net aim place)

-- LIDs of switches decide nothing
abbrev pub lacking_entries : NetState → Aim → List ℕ
lacking_entries net aim = if is_others net aim then filter (lacks_entry net aim) (switches net.plan.nodes) else []

abbrev pub unknown_line : NetState → Aim → List ℕ
unknown_line net aim = places_line (codes "unknown ") (codes " at ") net aim (lacking_entries net aim)

abbrev pub unknown_lines : NetState → List Aim → List ℕ
unknown_lines net all = flat_map (unknown_line net) all

-- ---- what each switch does wrong with each LID: all lines if they are asked for, else `# 76 lines by switch and LID: --all prints them`
abbrev pub line_count : List ℕ → ℕ
line_count text = count_by (λ byte. byte == 10) text

unfoldable pub counted_line : ℕ → List ℕ
counted_line count = if count == 0 then [] else codes "# " ++ decimal count ++ codes " lines by switch and LID: --all prints them\n"

abbrev pub by_switch : Bool → NetState → List Aim → List ℕ
by_switch true net all = troubles_by net all
by_switch false net all = counted_line (line_count (troubles_by net all))
