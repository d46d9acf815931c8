-- What an exchange gives and leaves, by its walk.
use Rattle.std.proofs.Common.{ℕ, ◌≡◌, ◌∙◌, refl, Bool, true, false, if◌then◌else◌, List, length, Some, None, option_map}
use Rattle.std.specs.Int.Digits.{AllBelowBase}
use Rattle.fabric_parts.specs.Cable.{last_of}
use Rattle.fabric_parts.specs.declared.cable.PortRef.{PortRef}
use Rattle.smp_wire.specs.FabricState.{FabricState, after_at, reply_at}
use Rattle.smp_wire.specs.Good.{IsGood}
use Rattle.smp_wire.specs.Walk.{arrived, exchange_after, exchange_reply, is_sent, path_of, returned, walk, walk_of}
use Rattle.smp_wire.proofs.ArrivalLemmas.{IsCarrier, arrived_carries, walks_right}
use Rattle.smp_wire.proofs.WalkLemmas.{path_length, sent_parts}

pub record Walks (fabric : FabricState) (smp : List ℕ) (ends : List PortRef) : Type 0 where
  pub sent : is_sent smp ≡ true
  pub walked : walk fabric.nodes fabric.cables true fabric.manager (path_of smp) ≡ Some ends

walks_by : (fabric : FabricState) (smp : List ℕ) (ends : List PortRef) (sent : Bool) → is_sent smp ≡ sent
    → (if sent then walk fabric.nodes fabric.cables true fabric.manager (path_of smp) else None) ≡ Some ends → Walks fabric smp ends
walks_by fabric smp ends true sent is = record { sent = sent; walked = is }
walks_by fabric smp ends false sent is = cc

pub walks : (fabric : FabricState) (smp : List ℕ) (ends : List PortRef) → walk_of fabric smp ≡ Some ends → Walks fabric smp ends
walks fabric smp ends is = walks_by fabric smp ends (is_sent smp) refl is

-- what comes to the end of the walk asks what was sent
pub carried : (fabric : FabricState) (smp : List ℕ) (ends : List PortRef) → IsGood fabric → length smp ≡ 256
    → AllBelowBase 256 smp → walk_of fabric smp ≡ Some ends → IsCarrier smp (arrived ends smp)
carried fabric smp ends good long below is =
    let so = walks fabric smp ends is in
    let few = (sent_parts smp so.sent).1 in
    let right = walks_right fabric true fabric.manager (path_of smp) ends good so.walked in
    arrived_carries smp ends below long (right.0 ∙ path_length smp long few) few right.1

pub no_walk_after : (fabric : FabricState) (smp : List ℕ) → walk_of fabric smp ≡ None → exchange_after fabric smp ≡ fabric
unfolding exchange_after
no_walk_after fabric smp is = rw is refl

pub no_walk_reply : (fabric : FabricState) (smp : List ℕ) → walk_of fabric smp ≡ None → exchange_reply fabric smp ≡ None
unfolding exchange_reply
no_walk_reply fabric smp is = rw is refl

pub walk_after : (fabric : FabricState) (smp : List ℕ) (ends : List PortRef) → walk_of fabric smp ≡ Some ends
    → exchange_after fabric smp ≡ after_at fabric (last_of fabric.manager ends) (arrived ends smp)
unfolding exchange_after
walk_after fabric smp ends is = rw is refl

pub walk_reply : (fabric : FabricState) (smp : List ℕ) (ends : List PortRef) → walk_of fabric smp ≡ Some ends
    → exchange_reply fabric smp ≡ option_map returned (reply_at fabric (last_of fabric.manager ends) (arrived ends smp))
unfolding exchange_reply
walk_reply fabric smp ends is = rw is refl
