-- Where packets to one MLID go, by its masks: of each node the ports of its mask.
use Rattle.std.specs.Prelude.{ℕ, ◌==◌, ◌&&◌, Bool, false, not, List, [], filter, get_or}
use Rattle.std.specs.List.{list_any}
use Rattle.std.specs.Option.{option_map_or}
use Rattle.fabric_parts.specs.Cable.{far_end}
use Rattle.fabric_parts.specs.declared.cable.PortRef.{PortRef}
use Rattle.audit_plan.specs.Attached.{ports_of}
use Rattle.audit_loops.specs.Channels.{is_channel}
use Rattle.audit_net.specs.Net.{NetState}

-- the port is in the mask of its switch
abbrev pub is_set : List (List ℕ) → PortRef → Bool
is_set masks at = list_any (λ number. number == at.port) (get_or masks at.node [])

-- packets leave a switch by the port, and come to another one
abbrev pub leaves : NetState → List (List ℕ) → PortRef → Bool
leaves net masks at = is_set masks at && is_channel net at

-- a packet that comes in by the one port may leave by the other: it is one of the same switch, and not the same port
abbrev pub turns : PortRef → PortRef → Bool
turns here out = (here.node == out.node) && not (here.port == out.port)

-- what comes in by this port leaves by these, if they lead to a switch. What comes in by port 0, which leads to none, leaves by all
abbrev pub outs : NetState → List (List ℕ) → PortRef → List PortRef
outs net masks here = filter (λ out. not (here.port == out.port) && leaves net masks out) (ports_of net.plan here.node)

-- what leaves by the first port comes to the switch of the second, by another port
abbrev pub comes_to : NetState → PortRef → PortRef → Bool
comes_to net a b = option_map_or (λ there. turns there b) (far_end net.plan.cables a) false

-- and leaves by the second
abbrev pub goes_on : NetState → List (List ℕ) → PortRef → PortRef → Bool
goes_on net masks a b = comes_to net a b && leaves net masks b
