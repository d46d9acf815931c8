-- What to ask switches whose entries the dump leaves out.
use Rattle.std.specs.Prelude.{ℕ, ◌&&◌, ◌||◌, Bool, false, List, [], ◌++◌, codes, decimal, find, flat_map, if◌then◌else◌, is_some, Option, option_map}
use Rattle.std.specs.List.{list_any}
use Rattle.std.specs.Option.{option_map_or}
use Rattle.fabric_parts.specs.Cable.{is_same_port, port}
use Rattle.topo_file.specs.Connectivity.{switches}
use Rattle.topo_file.specs.Node.{ports_at}
use Rattle.audit_net.specs.declared.lids.Aim.{Aim}
use Rattle.audit_net.specs.Following.{turn}
use Rattle.audit_net.specs.Net.{NetState, has_table, is_wide}
use Rattle.audit_routes.specs.Lines.{is_fed}
use Rattle.audit_routes.specs.Verdict.{is_unknown}

-- ---- the LID of the switch there
abbrev pub is_own : ℕ → Aim → Bool
is_own place aim = option_map_or (is_same_port (port place 0)) aim.end false

abbrev pub own_lid : List Aim → ℕ → Option ℕ
own_lid all place = option_map (λ aim. aim.lid) (find (is_own place) all)

-- ---- the switch has 128 ports or more, and its table lacks the row of a LID of some end port, or of one that a switch sends there:
-- `dump_fts` may have left it out
abbrev pub lacks_row : NetState → ℕ → Aim → Bool
lacks_row net place aim = is_unknown (turn net aim.lid place) && (is_some aim.end || is_fed net place aim.lid)

abbrev pub may_lack_rows : NetState → ℕ → Bool
may_lack_rows net place = is_wide (ports_at net.plan.nodes place) && has_table net place

abbrev pub is_to_ask : NetState → List Aim → ℕ → Bool
is_to_ask net all place = may_lack_rows net place && list_any (lacks_row net place) all

-- `# ask: ibroute 3`
unfoldable pub ask_text : ℕ → List ℕ
ask_text lid = codes "# ask: ibroute " ++ decimal lid ++ codes ", and append its table to the dump\n"

abbrev pub ask_line : NetState → List Aim → ℕ → List ℕ
ask_line net all place = if is_to_ask net all place then option_map_or ask_text (own_lid all place) [] else []

abbrev pub asks_by : NetState → List Aim → List ℕ
asks_by net all = flat_map (ask_line net all) (switches net.plan.nodes)
