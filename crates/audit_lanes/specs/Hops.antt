-- The hops of packets of a path record: by which port they leave each switch, and on which VL.
use Rattle.std.specs.Prelude.{ℕ, zero, suc, ◌+◌, ◌==◌, ◌&&◌, Bool, false, not, List, [], ◌∷◌, map, if◌then◌else◌, Option, Some, None, is_none, is_some}
use Rattle.std.specs.List.{list_any}
use Rattle.std.specs.Option.{option_and_then, option_map_or}
use Rattle.fabric_parts.specs.Cable.{far_end, port}
use Rattle.fabric_parts.specs.declared.cable.PortRef.{PortRef}
use Rattle.sl2vl_file.specs.declared.path.PathSl.{PathSl}
use Rattle.topo_file.specs.Node.{is_switch_at}
use Rattle.audit_net.specs.declared.entry.Entry.{Entry}
use Rattle.audit_net.specs.declared.entry.Entry.TheVariants.{Out, Missing, Unreported}
use Rattle.audit_net.specs.Following.{switch_total}
use Rattle.audit_net.specs.Net.{NetState, entry}
use Rattle.audit_net.specs.declared.lids.Aim.{Aim}
use Rattle.audit_lanes.specs.declared.hop.Crossing.{Crossing}
use Rattle.audit_lanes.specs.declared.hop.Hop.{Hop}
use Rattle.audit_lanes.specs.declared.hop.Step.{Step}
use Rattle.audit_lanes.specs.Tables.{TablesState, is_same_crossing, others_end, vl_of}

-- ---- one hop: packets come into a switch at this port, and leave it by that
abbrev pub crossing : PortRef → ℕ → Crossing
crossing at output = record { place = at.node; input = at.port; output = output }

abbrev pub hop_by : TablesState → (sl : ℕ) → PortRef → ℕ → Hop
hop_by tables sl at output = record { crossing = crossing at output; sl = sl; vl = vl_of tables (crossing at output) sl }

-- the port by which they leave
abbrev pub out_of : Hop → PortRef
out_of hop = port hop.crossing.place hop.crossing.output

-- the VL is not known: no row is of the switch and these ports
abbrev pub lacks_row : Hop → Bool
lacks_row hop = is_none hop.vl

-- VL 15 is for management packets alone: a switch drops others
abbrev pub is_dropped : Hop → Bool
is_dropped hop = option_map_or (λ vl. vl == 15) hop.vl false

-- ---- what follows it: the port of the switch at the other end of the cable, unless they are dropped
abbrev pub goes_on : NetState → Hop → PortRef → Bool
goes_on net hop there = is_switch_at net.plan.nodes there.node && not (is_dropped hop)

abbrev pub step_to : NetState → Hop → Option PortRef → Option Step
step_to net hop (Some there) = Some (record { hop = hop; next = if goes_on net hop there then Some there else None })
step_to net hop None = None

-- by the entry of the switch; port 0 is the switch itself
abbrev pub step_by : NetState → TablesState → (sl : ℕ) → PortRef → Entry → Option Step
step_by net tables sl at (Out number) =
    if number == 0 then None else step_to net (hop_by tables sl at number) (far_end net.plan.cables (port at.node number))
step_by net tables sl at Missing = None
step_by net tables sl at Unreported = None

abbrev pub step_of : NetState → TablesState → PathSl → PortRef → Option Step
step_of net tables path at = step_by net tables path.sl at (entry net path.destination at.node)

-- ---- all hops from the port on by which they come into a switch, through so many switches at most
abbrev pub hops_on : (PortRef → List Hop) → Hop → Option PortRef → List Hop
hops_on rest hop (Some there) = hop ∷ rest there
hops_on rest hop None = hop ∷ []

abbrev pub hops_by : (PortRef → List Hop) → Option Step → List Hop
hops_by rest (Some step) = hops_on rest step.hop step.next
hops_by rest None = []

abbrev pub hops_within : NetState → TablesState → PathSl → ℕ → PortRef → List Hop
hops_within net tables path zero at = []
hops_within net tables path (suc count) at = hops_by (λ there. hops_within net tables path count there) (step_of net tables path at)

-- ---- those of a path record, if its two LIDs are of end ports of the fabric that are not switches'
abbrev pub counts : NetState → List Aim → PathSl → Bool
counts net aims path = is_some (others_end net aims path.source) && is_some (others_end net aims path.destination)

-- Packets that have crossed as many switches as there are, and go on, loop: they come to one again. It may be by another port, so they
-- may leave it on another VL: that hop is new, and so is its wait for the next one. After that all repeats (`src/laws.rt`).
abbrev pub enough_hops : NetState → ℕ
enough_hops net = switch_total net + 2

-- the end port of its source is cabled to a switch: packets come into that at the port of the cable
abbrev pub hops_from : NetState → TablesState → PathSl → Option PortRef → List Hop
hops_from net tables path (Some at) = if is_switch_at net.plan.nodes at.node then hops_within net tables path (enough_hops net) at else []
hops_from net tables path None = []

abbrev pub hops_of : NetState → TablesState → PathSl → List Hop
hops_of net tables path =
    if counts net tables.aims path then hops_from net tables path (option_and_then (far_end net.plan.cables) (others_end net tables.aims path.source))
    else []

-- of each record
abbrev pub traces : NetState → TablesState → List PathSl → List (List Hop)
traces net tables paths = map (hops_of net tables) paths

-- some hop of some record passes the test
abbrev pub some_hop : (Hop → Bool) → List (List Hop) → Bool
some_hop test all = list_any (list_any test) all

-- ---- hops of two ports of a switch
abbrev pub lacks_row_at : Crossing → Hop → Bool
lacks_row_at here hop = is_same_crossing here hop.crossing && lacks_row hop

abbrev pub is_dropped_at : Crossing → Hop → Bool
is_dropped_at here hop = is_same_crossing here hop.crossing && is_dropped hop

abbrev pub is_dropped_by : Crossing → ℕ → Hop → Bool
is_dropped_by here sl hop = (sl == hop.sl) && is_dropped_at here hop
