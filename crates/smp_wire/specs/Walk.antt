-- The way of a directed-route SMP through a fabric (IBA volume 1, chapter 14): a walk over cables by
-- a list of ports, and the answer that comes back.
use Rattle.std.specs.Prelude.{ℕ, ◌+◌, ◌==◌, ◌&&◌, ◌||◌, nat_le, Bool, true, false, if◌then◌else◌, List, [], ◌∷◌, take, drop, Option, Some, None, option_map}
use Rattle.std.specs.Option.{option_and_then}
use Rattle.smp_route.specs.HopFields.{count, is_outgoing, pointer, turned_round, with_pointer, with_return_port}
use Rattle.fabric_parts.specs.declared.cable.PortRef.{PortRef}
use Rattle.fabric_parts.specs.declared.cable.Cable.{Cable}
use Rattle.smp_wire.specs.declared.node.Node.{Node}
use Rattle.smp_wire.specs.declared.walking.Arrival.{Arrival}
use Rattle.fabric_parts.specs.Cable.{far_end, last_of}
use Rattle.smp_wire.specs.FabricState.{FabricState, after_at, is_port, is_switch_at, reply_at}

-- an SMP leaves the node that it starts from; on its way only switches hand it on
abbrev pub hands_on : List Node → Bool → PortRef → Bool
hands_on nodes starts here = starts || is_switch_at nodes here.node

-- one hop: out of a port of the node, to the other end of its cable
abbrev pub hop_by : List Node → List Cable → Bool → PortRef → Option PortRef
hop_by nodes cables may_hand_on out = if may_hand_on && is_port nodes out then far_end cables out else None

unfoldable pub hop : List Node → List Cable → Bool → PortRef → ℕ → Option PortRef
hop nodes cables starts here number =
    hop_by nodes cables (hands_on nodes starts here) (record { node = here.node; port = number })

-- hop by hop out of these ports: the ports by which the SMP comes in
abbrev pub walk : List Node → List Cable → Bool → PortRef → List ℕ → Option (List PortRef)
walk nodes cables starts here [] = Some []
walk nodes cables starts here (number ∷ numbers) =
    option_and_then (λ there. option_map (λ ends. there ∷ ends) (walk nodes cables false there numbers))
    (hop nodes cables starts here number)

-- where a path from the SM port leads, by which the SMP comes in there
abbrev pub end_of : FabricState → List ℕ → Option PortRef
end_of fabric path = option_map (last_of fabric.manager) (walk fabric.nodes fabric.cables true fabric.manager path)

-- the path of an SMP: the ports that its hops leave by
abbrev pub path_of : List ℕ → List ℕ
path_of smp = take (count smp) (drop 129 smp)

-- it is outgoing, at the beginning of its path, and its path is not too long
abbrev pub is_sent : List ℕ → Bool
is_sent smp = is_outgoing smp && ((pointer smp == 0) && nat_le (count smp) 63)

-- the walk of an SMP from the SM port
abbrev pub walk_of : FabricState → List ℕ → Option (List PortRef)
walk_of fabric smp = if is_sent smp then walk fabric.nodes fabric.cables true fabric.manager (path_of smp) else None

-- the SMP with these ports in its return path, from that hop on
abbrev pub with_return_ports : ℕ → List PortRef → List ℕ → List ℕ
with_return_ports k [] smp = smp
with_return_ports k (end ∷ ends) smp = with_return_ports (k + 1) ends (with_return_port k end.port smp)

-- the SMP as the agent at the end of the walk gets it
abbrev pub arrived : List PortRef → List ℕ → List ℕ
arrived ends smp = with_pointer (count smp + 1) (with_return_ports 1 ends smp)

-- the end of the walk, and the SMP there
abbrev pub arrival_of : PortRef → List ℕ → List PortRef → Arrival
arrival_of manager smp ends = record { at = last_of manager ends; smp = arrived ends smp }

-- the reply as the subnet manager gets it: its direction bit is set, and no hop is left
abbrev pub returned : List ℕ → List ℕ
returned smp = with_pointer 0 (turned_round smp)

-- what the subnet manager gets for an SMP
unfoldable pub exchange_reply : FabricState → List ℕ → Option (List ℕ)
exchange_reply fabric smp =
    option_and_then (λ ends. option_map returned (reply_at fabric (last_of fabric.manager ends) (arrived ends smp)))
    (walk_of fabric smp)

-- what the fabric is after an SMP: the node at the end of its walk may have changed
abbrev pub after_walk : FabricState → List ℕ → Option (List PortRef) → FabricState
after_walk fabric smp None = fabric
after_walk fabric smp (Some ends) = after_at fabric (last_of fabric.manager ends) (arrived ends smp)

unfoldable pub exchange_after : FabricState → List ℕ → FabricState
exchange_after fabric smp = after_walk fabric smp (walk_of fabric smp)
