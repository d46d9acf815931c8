-- Groups that are cut: of two end ports to which masks of the MLID lead, what the one sends does not come to the other.
use Rattle.std.specs.Prelude.{ℕ, zero, suc, ◌==◌, ◌&&◌, ◌||◌, Bool, if◌then◌else◌, List, [], ◌∷◌, filter, flat_map, get_or, length, map, Option, Some, None}
use Rattle.std.specs.List.{list_any}
use Rattle.std.specs.Option.{option_or}
use Rattle.fabric_parts.specs.Cable.{port}
use Rattle.fabric_parts.specs.declared.cable.PortRef.{PortRef}
use Rattle.topo_file.specs.Connectivity.{switches}
use Rattle.audit_plan.specs.Attached.{ports_of}
use Rattle.audit_net.specs.Net.{NetState}
use Rattle.audit_multicast.specs.declared.cuts.Cut.{Cut}
use Rattle.audit_multicast.specs.Copies.{leads_to_end, node_behind}
use Rattle.audit_multicast.specs.Loops.{all_outs}
use Rattle.audit_multicast.specs.Ways.{comes_to, is_set}

-- ---- the ports of masks that lead to end ports: each is a member
abbrev pub is_member : NetState → List (List ℕ) → PortRef → Bool
is_member net masks at = is_set masks at && leads_to_end net at

abbrev pub members_at : NetState → List (List ℕ) → ℕ → List PortRef
members_at net masks place = filter (is_member net masks) (ports_of net.plan place)

abbrev pub has_members : NetState → List (List ℕ) → ℕ → Bool
has_members net masks place = list_any (is_member net masks) (ports_of net.plan place)

unfoldable pub member_switches : NetState → List (List ℕ) → List ℕ
member_switches net masks = filter (has_members net masks) (switches net.plan.nodes)

-- ---- what enters at a switch leaves by this port, one of these, after so many hops or fewer
abbrev pub spreads : NetState → List PortRef → (place count : ℕ) → PortRef → Bool
spreads net all place zero out = out.node == place
spreads net all place (suc count) out = spreads net all place count out || list_any (λ before. spreads net all place count before && comes_to net before out) all

-- the switches to which it comes. No path needs more hops than there are ports: `src/laws.rt`
abbrev pub reached : NetState → List PortRef → (place : ℕ) → List ℕ
reached net all place = map (node_behind net) (filter (spreads net all place (length all)) all)

abbrev pub arrives : NetState → List PortRef → (place there : ℕ) → Bool
arrives net all place there = (place == there) || list_any (λ one. one == there) (reached net all place)

-- ---- the members that do not receive what a member at this switch sends
abbrev pub missed_at : NetState → List (List ℕ) → List PortRef → (place there : ℕ) → List PortRef
missed_at net masks all place there = if arrives net all place there then [] else members_at net masks there

unfoldable pub missed_by : NetState → List (List ℕ) → List PortRef → List ℕ → (place : ℕ) → List PortRef
missed_by net masks all places place = flat_map (missed_at net masks all place) places

-- ---- the first member of which there are some: both by the switch ports to which they are attached, and how many more do not receive it
abbrev pub cut_by : PortRef → List PortRef → Option Cut
cut_by from [] = None
cut_by from (at ∷ rest) = Some (record { from = from; at = at; more = length rest })

abbrev pub first_member : NetState → List (List ℕ) → ℕ → PortRef
first_member net masks place = get_or (members_at net masks place) 0 (port 0 0)

unfoldable pub cut_from : NetState → List (List ℕ) → List PortRef → List ℕ → (place : ℕ) → Option Cut
cut_from net masks all places place = cut_by (first_member net masks place) (missed_by net masks all places place)

abbrev pub first_cut : NetState → List (List ℕ) → List PortRef → (places : List ℕ) → List ℕ → Option Cut
first_cut net masks all places [] = None
first_cut net masks all places (place ∷ rest) = option_or (cut_from net masks all places place) (first_cut net masks all places rest)

unfoldable pub cut_of : NetState → List (List ℕ) → Option Cut
cut_of net masks = first_cut net masks (all_outs net masks) (member_switches net masks) (member_switches net masks)
