-- Second copies: a packet from an end port comes to a switch, and comes there again another way.
use Rattle.std.specs.Prelude.{ℕ, zero, suc, ◌==◌, ◌||◌, Bool, false, not, List, [], ◌∷◌, ◌++◌, filter, flat_map, length, map, if◌then◌else◌, Option, Some, None, option_map}
use Rattle.std.specs.List.{list_any}
use Rattle.std.specs.Option.{option_map_or, option_or}
use Rattle.fabric_parts.specs.Cable.{far_end, port}
use Rattle.fabric_parts.specs.declared.cable.PortRef.{PortRef}
use Rattle.topo_file.specs.Connectivity.{switches}
use Rattle.topo_file.specs.Node.{is_switch_at}
use Rattle.audit_plan.specs.Attached.{ports_of}
use Rattle.audit_net.specs.Net.{NetState}
use Rattle.audit_multicast.specs.declared.copies.SecondCopy.{SecondCopy}
use Rattle.audit_multicast.specs.Ways.{outs}

-- ---- the switches at which packets enter: an end port is attached to them
abbrev pub leads_to_end : NetState → PortRef → Bool
leads_to_end net at = option_map_or (λ there. not (is_switch_at net.plan.nodes there.node)) (far_end net.plan.cables at) false

abbrev pub takes_packets : NetState → ℕ → Bool
takes_packets net place = list_any (leads_to_end net) (ports_of net.plan place)

abbrev pub entrances : NetState → List ℕ
entrances net = filter (takes_packets net) (switches net.plan.nodes)

-- ---- the copies of a packet, hop by hop: the ports by which they leave switches
abbrev pub node_behind : NetState → PortRef → ℕ
node_behind net at = option_map_or (λ there. there.node) (far_end net.plan.cables at) 0

abbrev pub next_outs : NetState → List (List ℕ) → PortRef → List PortRef
next_outs net masks at = option_map_or (outs net masks) (far_end net.plan.cables at) []

abbrev pub hop : NetState → List (List ℕ) → List PortRef → List PortRef
hop net masks front = flat_map (next_outs net masks) front

-- the switches that they come to within so many hops, one for each copy
abbrev pub arrivals : NetState → List (List ℕ) → ℕ → List PortRef → List ℕ
arrivals net masks zero front = []
arrivals net masks (suc count) front = map (node_behind net) front ++ arrivals net masks count (hop net masks front)

-- the first of these that was met before
abbrev pub again : (ℕ → Bool) → List ℕ → Option ℕ
again met [] = None
again met (place ∷ rest) = if met place then Some place else again (λ other. met other || (place == other)) rest

-- ---- the first switch to which a packet that enters at this one comes again
unfoldable pub second_copy : NetState → List (List ℕ) → ℕ → Option ℕ
second_copy net masks place = again (λ other. place == other) (arrivals net masks (length net.plan.nodes) (outs net masks (port place 0)))

abbrev pub copy_from : ℕ → ℕ → SecondCopy
copy_from from at = record { from = from; at = at }

-- and the first entrance of which there is one
abbrev pub first_copy : NetState → List (List ℕ) → List ℕ → Option SecondCopy
first_copy net masks [] = None
first_copy net masks (place ∷ rest) = option_or (option_map (copy_from place) (second_copy net masks place)) (first_copy net masks rest)

unfoldable pub copy_of : NetState → List (List ℕ) → Option SecondCopy
copy_of net masks = first_copy net masks (entrances net)
