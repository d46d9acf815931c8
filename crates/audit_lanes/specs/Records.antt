-- Of which LIDs there are path records, and which SLs and VLs their packets use.
use Rattle.std.specs.Prelude.{ℕ, ◌==◌, ◌&&◌, Bool, false, not, List, [], ◌∷◌, filter, flat_map, map, if◌then◌else◌, Option, Some, None}
use Rattle.std.specs.List.{list_any, range_with_len}
use Rattle.std.specs.Option.{option_map_or}
use Rattle.fabric_parts.specs.Cable.{is_same_port}
use Rattle.fabric_parts.specs.declared.cable.PortRef.{PortRef}
use Rattle.sl2vl_file.specs.declared.path.PathSl.{PathSl}
use Rattle.topo_file.specs.Node.{is_switch_at}
use Rattle.audit_net.specs.declared.lids.Aim.{Aim}
use Rattle.audit_net.specs.Net.{NetState}
use Rattle.audit_lanes.specs.declared.hop.Hop.{Hop}
use Rattle.audit_lanes.specs.declared.owned.LidPair.{LidPair}
use Rattle.audit_lanes.specs.declared.owned.OwnedLid.{OwnedLid}
use Rattle.audit_lanes.specs.Hops.{counts, some_hop}

-- ---- LIDs of end ports of the fabric that are not switches'
abbrev pub owned_by : NetState → ℕ → Option PortRef → List OwnedLid
owned_by net lid (Some end) = if is_switch_at net.plan.nodes end.node then [] else record { lid = lid; end = end } ∷ []
owned_by net lid None = []

abbrev pub owned_of : NetState → Aim → List OwnedLid
owned_of net aim = owned_by net aim.lid aim.end

abbrev pub owned : NetState → List Aim → List OwnedLid
owned net aims = flat_map (owned_of net) aims

-- ---- ordered pairs of LIDs of two end ports, and whether a record is of them
abbrev pub is_pair : OwnedLid → OwnedLid → Bool
is_pair a b = not (is_same_port a.end b.end)

abbrev pub lids : ℕ → ℕ → LidPair
lids source destination = record { source = source; destination = destination }

abbrev pub is_same_lids : LidPair → LidPair → Bool
is_same_lids a b = (a.source == b.source) && (a.destination == b.destination)

abbrev pub is_record_of : LidPair → PathSl → Bool
is_record_of pair path = is_same_lids pair (lids path.source path.destination)

abbrev pub has_record : List PathSl → OwnedLid → OwnedLid → Bool
has_record paths a b = list_any (is_record_of (lids a.lid b.lid)) paths

-- of each pair whether a record is of it
abbrev pub records_from : List PathSl → List OwnedLid → OwnedLid → List Bool
records_from paths all a = map (has_record paths a) (filter (is_pair a) all)

abbrev pub records : List PathSl → List OwnedLid → List Bool
records paths all = flat_map (records_from paths all) all

-- the destinations to which none is, from one source
abbrev pub lacks_record : List PathSl → OwnedLid → OwnedLid → Bool
lacks_record paths a b = is_pair a b && not (has_record paths a b)

abbrev pub lacking_from : List PathSl → List OwnedLid → OwnedLid → List OwnedLid
lacking_from paths all a = filter (lacks_record paths a) all

-- ---- SLs and VLs, as they rise
abbrev pub uses_sl : NetState → List Aim → List PathSl → ℕ → Bool
uses_sl net aims paths sl = list_any (λ path. (path.sl == sl) && counts net aims path) paths

unfoldable pub sls : NetState → List Aim → List PathSl → List ℕ
sls net aims paths = filter (uses_sl net aims paths) (range_with_len 0 16)

abbrev pub is_on : ℕ → Hop → Bool
is_on vl hop = option_map_or (λ other. other == vl) hop.vl false

abbrev pub uses_vl : List (List Hop) → ℕ → Bool
uses_vl traces vl = some_hop (is_on vl) traces

-- VL 15 carries none of these
unfoldable pub vls : List (List Hop) → List ℕ
vls traces = filter (uses_vl traces) (range_with_len 0 15)
