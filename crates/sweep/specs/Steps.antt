-- What each step of a sweep comes to over a fabric: the clauses of `src/discovery.rt`. Before and after a step stand what
-- the survey holds, and the links that are noted of the switch that is asked.
use Rattle.std.specs.Prelude.{ℕ, suc, ◌<◌, ◌≤◌, ◌≡◌, true, false, List, [], ◌∷◌, ◌++◌, length, Some, Result}
use Rattle.fabric_parts.specs.Cable.{far_end, port}
use Rattle.fabric_parts.specs.declared.cable.PortRef.{PortRef}
use Rattle.fabric_parts.specs.declared.limits.TheConstants.{ADAPTER_PORTS, SWITCHES}
use Rattle.smp_wire.specs.FabricState.{FabricState, is_switch_at}
use Rattle.smp_wire.specs.Good.{IsGood}
use Rattle.smp_wire.specs.Walk.{end_of}
use Rattle.sweep.specs.OfFabric.{Found, ports_at, port_to, switch_of}
use Rattle.sweep.specs.Progress.{IsProgress, StandsAt}
use Rattle.sweep.specs.Seen.{seen_at}
use Rattle.sweep.specs.Survey.{SurveyState}
use Rattle.sweep.specs.Sweeps.{Adds, Comes, GoesOn, IsAllAsked, IsAtPort, IsBehind, IsPlacedAt, IsSweepable}
use Rattle.sweep.specs.declared.fault.SweepFault.{SweepFault}
use Rattle.sweep.specs.declared.graph.GraphLink.{GraphLink}
use Rattle.sweep.specs.declared.path.TheConstants.{PATH_HOPS}
use Rattle.sweep.specs.declared.seen.Seen.{Seen}

-- ---- switches, one after the other
-- all are asked, those too that are found on the way
abbrev pub AllAreAsked : FabricState → (was next : SurveyState) → Result (Unit {0}) SweepFault → Type 0
AllAreAsked fabric was next result =
    IsSweepable fabric → (found : List Found) → IsProgress fabric found 0 0 was [] → Comes fabric (λ _. IsAllAsked fabric found next) result

-- the one at this place is asked at each of its ports
abbrev pub SwitchIsAsked : FabricState → (place num_ports : ℕ) → (path : List ℕ) → (was next : SurveyState)
    → Result (Unit {0}) SweepFault → Type 0
SwitchIsAsked fabric place num_ports path was next result =
    IsSweepable fabric → (found : List Found) (one : Found) → path ≡ one.path → num_ports ≡ ports_at fabric one.node
    → StandsAt found place one → IsProgress fabric found place 0 was []
    → Comes fabric (λ _. GoesOn fabric found (suc place) 0 next []) result

-- ---- one port of a switch
abbrev pub PortIsAsked : FabricState → (here : PortRef) → (path : List ℕ) → (was next : SurveyState) → (row more : List GraphLink)
    → Result (Unit {0}) SweepFault → Type 0
PortIsAsked fabric here path was next row more result =
    IsSweepable fabric → (found : List Found) (one : Found) (count : ℕ) → path ≡ one.path → IsAtPort fabric found one count was row here
    → Comes fabric (λ _. GoesOn fabric found here.node here.port next more) result

-- its cable is one hop too far for an SMP: the link is known if it was seen from its other end
abbrev pub LinkIsTurned : FabricState → (here : PortRef) → SurveyState → (row more : List GraphLink) → Result (Unit {0}) SweepFault → Type 0
LinkIsTurned fabric here survey row more result =
    IsSweepable fabric → (found : List Found) (one : Found) (count : ℕ) (there : PortRef) → IsAtPort fabric found one count survey row here
    → far_end fabric.cables (port one.node here.port) ≡ Some there → length one.path ≡ PATH_HOPS
    → Comes fabric (λ _. GoesOn fabric found here.node here.port survey more) result

-- a switch is behind it
abbrev pub SwitchIsMet : FabricState → (here : PortRef) → (path : List ℕ) → Seen → (was next : SurveyState) → (row more : List GraphLink)
    → Result (Unit {0}) SweepFault → Type 0
SwitchIsMet fabric here path seen was next row more result =
    IsSweepable fabric → (found : List Found) (one : Found) (count : ℕ) (there : PortRef) → IsAtPort fabric found one count was row here
    → IsBehind fabric one here there path seen → is_switch_at fabric.nodes there.node ≡ true
    → Comes fabric (λ _. GoesOn fabric found here.node here.port next more) result

-- and has its place among those that are found
abbrev pub SwitchIsPlaced : FabricState → (path : List ℕ) → Seen → (was next : SurveyState) → Result ℕ SweepFault → Type 0
SwitchIsPlaced fabric path seen was next result =
    IsSweepable fabric → (found : List Found) (one : Found) (count : ℕ) (row : List GraphLink) (here there : PortRef)
    → IsAtPort fabric found one count was row here → IsBehind fabric one here there path seen → is_switch_at fabric.nodes there.node ≡ true
    → Comes fabric (IsPlacedAt fabric found one here.node count next row there.node) result

-- ---- what is new
-- the switch at the end of the path stands last then
abbrev pub IsLastSwitch : FabricState → (node : ℕ) → (path : List ℕ) → (was next : SurveyState) → ℕ → Type 0
IsLastSwitch fabric node path was next place =
    (place ≡ length was.switches) × (length was.switches < SWITCHES)
    × (next ≡ record was { switches = was.switches ++ switch_of fabric (record { node = node; path = path }) ∷ [] })

abbrev pub SwitchIsAdded : FabricState → (path : List ℕ) → Seen → (was next : SurveyState) → Result ℕ SweepFault → Type 0
SwitchIsAdded fabric path seen was next result =
    IsGood fabric → (there : PortRef) → end_of fabric path ≡ Some there → is_switch_at fabric.nodes there.node ≡ true
    → seen_at fabric there ≡ Some seen → Adds (SWITCHES ≤ length was.switches) (IsLastSwitch fabric there.node path was next) result

-- the port of a channel adapter at its end stands last then, with the port that it was met from
abbrev pub IsLastPort : FabricState → (here there : PortRef) → (was next : SurveyState) → Type 0
IsLastPort fabric here there was next =
    (length was.ports < ADAPTER_PORTS) × (next ≡ record was { ports = was.ports ++ port_to fabric here there })

abbrev pub PortIsAdded : FabricState → (here : PortRef) → (path : List ℕ) → Seen → (was next : SurveyState)
    → Result (Unit {0}) SweepFault → Type 0
PortIsAdded fabric here path seen was next result =
    IsGood fabric → (there : PortRef) → end_of fabric path ≡ Some there → is_switch_at fabric.nodes there.node ≡ false
    → seen_at fabric there ≡ Some seen → Adds (ADAPTER_PORTS ≤ length was.ports) (λ _. IsLastPort fabric here there was next) result
