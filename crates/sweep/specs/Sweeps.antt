-- What a sweep comes to over a good fabric whose links show and whose switches are joined.
use Rattle.std.specs.Prelude.{ℕ, suc, ◌+◌, ◌≡◌, ◌≤◌, true, List, [], ◌∷◌, ◌++◌, length, Some, Result, Ok, Err}
use Rattle.fabric_parts.specs.Cable.{far_end, port}
use Rattle.fabric_parts.specs.declared.cable.PortRef.{PortRef}
use Rattle.smp_wire.specs.FabricState.{FabricState}
use Rattle.smp_wire.specs.Good.{IsGood, ShowsLinks, SwitchesJoined}
use Rattle.smp_wire.specs.Walk.{end_of}
use Rattle.sweep.specs.Graph.{GraphState}
use Rattle.sweep.specs.Hops.{IsTooFar}
use Rattle.sweep.specs.Limits.{IsTooBig}
use Rattle.sweep.specs.OfFabric.{Found, IsGraphOf, nodes_of, place_of, ports_at}
use Rattle.sweep.specs.Progress.{IsProgress, StandsAt, is_found}
use Rattle.sweep.specs.Seen.{seen_at}
use Rattle.sweep.specs.Survey.{SurveyState}
use Rattle.sweep.specs.declared.fault.SweepFault.{SweepFault}
use Rattle.sweep.specs.declared.fault.SweepFault.TheVariants.{NoMemory, NoReply, WrongReply, TooManyHops, TooManyNodes}
use Rattle.sweep.specs.declared.graph.GraphLink.{GraphLink}
use Rattle.sweep.specs.declared.path.TheConstants.{PATH_HOPS}
use Rattle.sweep.specs.declared.seen.Seen.{Seen}

pub record IsSweepable (fabric : FabricState) : Type 0 where
  pub good : IsGood fabric
  pub links : ShowsLinks fabric
  pub joined : SwitchesJoined fabric

-- ---- what comes of a step: it is done, or an allocation fails, or the fabric is too deep or too big; each request is
-- answered, and no reply is wrong
abbrev pub Fails : FabricState → SweepFault → Type 0
Fails fabric NoMemory = Unit {0}
Fails fabric NoReply = ⊥
Fails fabric WrongReply = ⊥
Fails fabric TooManyHops = IsTooFar fabric
Fails fabric TooManyNodes = IsTooBig fabric

abbrev pub Comes : {X : Type 0} → FabricState → (X → Type 0) → Result X SweepFault → Type 0
Comes fabric Done (Ok x) = Done x
Comes fabric Done (Err fault) = Fails fabric fault

-- it is done, or an allocation fails, or there is no room
abbrev pub IsFull : Type 0 → SweepFault → Type 0
IsFull full NoMemory = Unit {0}
IsFull full NoReply = ⊥
IsFull full WrongReply = ⊥
IsFull full TooManyHops = ⊥
IsFull full TooManyNodes = full

abbrev pub Adds : {X : Type 0} → Type 0 → (X → Type 0) → Result X SweepFault → Type 0
Adds full Done (Ok x) = Done x
Adds full Done (Err fault) = IsFull full fault

-- a link is noted, or an allocation fails
abbrev pub Noted : List GraphLink → List GraphLink → PortRef → PortRef → Result (Unit {0}) SweepFault → Type 0
Noted row next here to (Ok done) = next ≡ row ++ record { port = here.port; to = to } ∷ []
Noted row next here to (Err fault) = fault ≡ NoMemory

-- ---- the steps
-- the port of a switch that is asked next, and the path to its switch
pub record IsAtPort (fabric : FabricState) (found : List Found) (one : Found) (count : ℕ) (survey : SurveyState) (row : List GraphLink)
    (here : PortRef) : Type 0 where
  pub there : StandsAt found here.node one
  pub number : here.port ≡ suc count
  pub within : here.port ≤ ports_at fabric one.node
  pub progress : IsProgress fabric found here.node count survey row

-- what is behind it, and the path that goes on over it
pub record IsBehind (fabric : FabricState) (one : Found) (here there : PortRef) (path : List ℕ) (seen : Seen) : Type 0 where
  pub cable : far_end fabric.cables (port one.node here.port) ≡ Some there
  pub path_is : path ≡ one.path ++ here.port ∷ []
  pub ends : end_of fabric path ≡ Some there
  pub short : length path ≤ PATH_HOPS
  pub seen_is : seen_at fabric there ≡ Some seen

-- switches may have been found on the way
pub record GoesOn (fabric : FabricState) (found : List Found) (i count : ℕ) (survey : SurveyState) (row : List GraphLink) : Type 0 where
  pub more : List Found
  pub progress : IsProgress fabric (found ++ more) i count survey row

-- the switch behind a port was found, and stands at that place
pub record IsPlacedAt (fabric : FabricState) (found : List Found) (one : Found) (i count : ℕ) (survey : SurveyState) (row : List GraphLink)
    (node place : ℕ) : Type 0 where
  pub more : List Found
  pub progress : IsProgress fabric (found ++ more) i count survey row
  pub behind : is_found (found ++ more) (length one.path + 1) node ≡ true
  pub place_is : place ≡ place_of (nodes_of (found ++ more)) node

-- each switch that was found was asked
pub record IsAllAsked (fabric : FabricState) (found : List Found) (survey : SurveyState) : Type 0 where
  pub more : List Found
  pub progress : IsProgress fabric (found ++ more) (length (found ++ more)) 0 survey []

-- ---- the whole sweep: the graph of the fabric, each cable of which has an end that an SMP comes to, and which is not too
-- big for a graph
pub record IsFoundWhole (fabric : FabricState) (graph : GraphState) : Type 0 where
  pub graph_is : IsGraphOf graph fabric
  pub near : IsTooFar fabric → ⊥
  pub small : IsTooBig fabric → ⊥

abbrev pub Finds : FabricState → Result GraphState SweepFault → Type 0
Finds fabric = Comes fabric (IsFoundWhole fabric)
