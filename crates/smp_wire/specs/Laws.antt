-- What holds of every exchange with every fabric, of every Get and Set, and of every walk.
use Rattle.std.specs.Prelude.{ℕ, ◌≡◌, ◌==◌, ◌&&◌, Bool, true, false, List, [], ◌∷◌, ◌++◌, length, Some, option_map}
use Rattle.std.specs.Int.Digits.{AllBelowBase}
use Rattle.attr_tables.specs.declared.smp_attribute.SmpAttribute.{SmpAttribute}
use Rattle.smp_wire.specs.Changes.{ChangesAtMost}
use Rattle.smp_wire.specs.FabricState.{FabricState, is_port}
use Rattle.smp_wire.specs.Get.{Reads, gives_along}
use Rattle.attr_tables.specs.declared.port_info.PortInfo.{PortInfo}
use Rattle.agent_rules.specs.Good.{IsGoodInfo}
use Rattle.smp_wire.specs.Good.{IsGood, ShowsLinks, SwitchesJoined, info_at, is_up}
use Rattle.smp_wire.specs.Replies.{IsReplyTo}
use Rattle.smp_wire.specs.Requests.{AsksToGet, AsksToSet}
use Rattle.smp_wire.specs.Set.{SetReports}
use Rattle.smp_wire.specs.Shape.{IsSameShape}
use Rattle.smp_wire.specs.Walk.{end_of, exchange_after, exchange_reply, hop, walk}
use Rattle.smp_wire.specs.declared.node.Node.{Node}
use Rattle.fabric_parts.specs.declared.cable.Cable.{Cable}
use Rattle.fabric_parts.specs.declared.cable.PortRef.{PortRef}
use Rattle.fabric_parts.specs.Cable.{far_end, is_cabled, last_of}
use Rattle.std.specs.Option.{option_and_then}

-- whatever SMP is sent, a good fabric stays good
abbrev pub ExchangesKeepGood : Type 0
ExchangesKeepGood = (fabric : FabricState) (smp : List ℕ) → IsGood fabric → IsGood (exchange_after fabric smp)

-- one in which a port is Down if and only if it has no cable stays such a one
abbrev pub ExchangesKeepLinks : Type 0
ExchangesKeepLinks = (fabric : FabricState) (smp : List ℕ) → ShowsLinks fabric → ShowsLinks (exchange_after fabric smp)

-- and one whose switches are joined stays such a one
abbrev pub ExchangesKeepJoined : Type 0
ExchangesKeepJoined =
    (fabric : FabricState) (smp : List ℕ) → SwitchesJoined fabric → SwitchesJoined (exchange_after fabric smp)

-- an SMP changes at most what it names of a good fabric
abbrev pub ExchangesChangeWhatTheyName : Type 0
ExchangesChangeWhatTheyName =
    (fabric : FabricState) (smp : List ℕ) → IsGood fabric → length smp ≡ 256 → AllBelowBase 256 smp
    → ChangesAtMost fabric (exchange_after fabric smp) smp

-- nor which nodes stand where, with which ports and cables: so every walk stays
abbrev pub ExchangesKeepShape : Type 0
ExchangesKeepShape = (fabric : FabricState) (smp : List ℕ) → IsSameShape fabric (exchange_after fabric smp)

-- what comes back is the request with its answer
abbrev pub RepliesAnswer : Type 0
RepliesAnswer =
    (fabric : FabricState) (smp reply : List ℕ) → IsGood fabric → length smp ≡ 256 → AllBelowBase 256 smp
    → exchange_reply fabric smp ≡ Some reply → IsReplyTo smp reply

-- what a port of a good fabric has can be said in PortInfo, and the port takes it back
abbrev pub PortsAreGood : Type 0
PortsAreGood = (fabric : FabricState) (at : PortRef) (info : PortInfo) → IsGood fabric → info_at fabric at ≡ Some info → IsGoodInfo info

-- and if links show, a port with a cable is Initialize, Armed or Active
abbrev pub CabledPortsAreUp : Type 0
CabledPortsAreUp =
    (fabric : FabricState) (at : PortRef) (info : PortInfo) → IsGood fabric → ShowsLinks fabric
    → is_port fabric.nodes at ≡ true → is_cabled fabric.cables at ≡ true → info_at fabric at ≡ Some info → is_up info ≡ true

-- a Get leaves a good fabric as it was, and reports what the agent at the end of its path gives
abbrev pub GetsReport : Type 0
GetsReport =
    (fabric : FabricState) (attribute : SmpAttribute) (modifier : ℕ) (path smp : List ℕ)
    → IsGood fabric → AsksToGet attribute modifier path smp → Reads fabric smp (gives_along fabric path attribute modifier)

-- a Set does to a good fabric what the agent at the end of its path takes, and reports what a Get reports then; a
-- refused one changes nothing
abbrev pub SetsReport : Type 0
SetsReport =
    (fabric : FabricState) (attribute : SmpAttribute) (modifier : ℕ) (path wanted smp : List ℕ)
    → IsGood fabric → AsksToSet attribute modifier path wanted smp → SetReports fabric path attribute modifier wanted smp

-- a walk along a path with one more port is the walk along the path, and one hop more
abbrev pub WalksGoOn : Type 0
WalksGoOn =
    (nodes : List Node) (cables : List Cable) (starts : Bool) (here : PortRef) (numbers : List ℕ) (number : ℕ)
    → walk nodes cables starts here (numbers ++ number ∷ []) ≡ option_and_then (λ ends. option_map (λ there. ends ++ there ∷ [])
    (hop nodes cables (starts && (length numbers == 0)) (last_of here ends) number)) (walk nodes cables starts here numbers)

-- and so of where a path leads
abbrev pub PathsGoOn : Type 0
PathsGoOn =
    (fabric : FabricState) (path : List ℕ) (number : ℕ) → end_of fabric (path ++ number ∷ [])
    ≡ option_and_then (λ at. hop fabric.nodes fabric.cables (length path == 0) at number) (end_of fabric path)

-- a path that begins with the subnet manager's own port goes over the cable of that port first
abbrev pub PathsBegin : Type 0
PathsBegin =
    (fabric : FabricState) (numbers : List ℕ) → is_port fabric.nodes fabric.manager ≡ true
    → walk fabric.nodes fabric.cables true fabric.manager (fabric.manager.port ∷ numbers)
    ≡ option_and_then (λ there. option_map (λ ends. there ∷ ends) (walk fabric.nodes fabric.cables false there numbers))
    (far_end fabric.cables fabric.manager)
