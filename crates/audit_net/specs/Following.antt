-- What comes of a packet to a LID, by the entries that stand in the tables.
use Rattle.std.specs.Prelude.{ℕ, zero, suc, ◌==◌, List, [], ◌∷◌, length, if◌then◌else◌, Option, Some, None, option_map}
use Rattle.fabric_parts.specs.Cable.{far_end, is_same_port, port}
use Rattle.fabric_parts.specs.declared.cable.PortRef.{PortRef}
use Rattle.topo_file.specs.Connectivity.{switches}
use Rattle.topo_file.specs.Node.{is_switch_at}
use Rattle.audit_net.specs.declared.entry.Entry.{Entry}
use Rattle.audit_net.specs.declared.entry.Entry.TheVariants.{Out, Missing, Unreported}
use Rattle.audit_net.specs.declared.following.Turn.{Turn}
use Rattle.audit_net.specs.declared.following.Turn.TheVariants as turns
use Rattle.audit_net.specs.declared.following.Fate.{Fate}
use Rattle.audit_net.specs.declared.following.Fate.TheVariants as fates
use Rattle.audit_net.specs.Net.{NetState, entry}

-- ---- at one switch
-- the node at the other end is a switch, and it goes on there, or an adapter, and it has come to that port
abbrev pub turn_to : NetState → ℕ → Option PortRef → Turn
turn_to net number None = turns.Nowhere number
turn_to net number (Some there) = if is_switch_at net.plan.nodes there.node then turns.Goes there.node else turns.Arrives there

-- port 0 is the switch itself
abbrev pub turn_by : NetState → ℕ → Entry → Turn
turn_by net place Unreported = turns.Unknown
turn_by net place Missing = turns.Hole
turn_by net place (Out number) =
    if number == 0 then turns.Arrives (port place 0) else turn_to net number (far_end net.plan.cables (port place number))

abbrev pub turn : NetState → ℕ → ℕ → Turn
turn net lid place = turn_by net place (entry net lid place)

-- ---- from a switch on
-- the turn that ends it, if one does within so many switches
abbrev pub then_end : (ℕ → Option Turn) → Turn → Option Turn
then_end rest (turns.Goes next) = rest next
then_end rest turned = Some turned

abbrev pub end_within : NetState → ℕ → ℕ → ℕ → Option Turn
end_within net lid zero place = None
end_within net lid (suc count) place = then_end (λ next. end_within net lid count next) (turn net lid place)

-- what does not end within as many switches as there are never does: `src/laws.rt`
abbrev pub switch_total : NetState → ℕ
switch_total net = length (switches net.plan.nodes)

abbrev pub end_from : NetState → ℕ → ℕ → Option Turn
end_from net lid place = end_within net lid (switch_total net) place

-- ---- what it comes to, for an end port
abbrev pub fate_by : PortRef → Option Turn → Fate
fate_by end None = fates.Loop
fate_by end (Some (turns.Arrives there)) = if is_same_port there end then fates.Reached else fates.Wrong
fate_by end (Some turns.Hole) = fates.Hole
fate_by end (Some (turns.Nowhere number)) = fates.Nowhere
fate_by end (Some turns.Unknown) = fates.Unknown
fate_by end (Some (turns.Goes next)) = fates.Loop

abbrev pub fate : NetState → ℕ → PortRef → ℕ → Fate
fate net lid end place = fate_by end (end_from net lid place)

-- ---- the switches of a loop, from one of them on
abbrev pub if_goes : (ℕ → Option (List ℕ)) → Turn → Option (List ℕ)
if_goes rest (turns.Goes next) = rest next
if_goes rest _ = None

-- from this switch back to `home`, within so many
abbrev pub back : NetState → ℕ → ℕ → ℕ → ℕ → Option (List ℕ)
back net lid home zero place = None
back net lid home (suc count) place =
    if place == home then Some []
    else option_map (λ rest. place ∷ rest) (if_goes (λ next. back net lid home count next) (turn net lid place))

abbrev pub loop_from : NetState → ℕ → ℕ → Option (List ℕ)
loop_from net lid home =
    option_map (λ rest. home ∷ rest) (if_goes (λ next. back net lid home (switch_total net) next) (turn net lid home))
