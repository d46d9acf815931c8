-- Requests come to the SM port alone, and answers to the port that asked alone.
use Rattle.std.proofs.Common.{ℕ, zero, suc, ◌≡◌, ◌==◌, ◌&&◌, ◌||◌, ◌∙◌, ap, refl, sym, subst, not, Bool, true, false, if◌then◌else◌, List, [], ◌∷◌, ◌++◌, filter, find, map, slice_get, Option, Some, None}
use Rattle.std.specs.List.{AllByRecursion}
use Rattle.std.specs.List.Sorted.{IsStrictlySortedBy}
use Rattle.std.specs.Ordering.{nat_cmp, on}
use Rattle.std.specs.Cmp.{nat_cmp_is}
use Rattle.std.specs.declared.cmp.Ordering.TheVariants.{Equal, Less}
use Rattle.std.proofs.lemmas.Bool.{and_parts, eq-eqb, eqb-true, false≢true}
use Rattle.std.proofs.lemmas.List.{append-nil, append_assoc, map-append}
use Rattle.std.proofs.lemmas.Option.{none-some, same_Some}
use Rattle.fabric_parts.specs.Lid.{is_multicast, is_reserved, manager_lid}
use Rattle.fabric_parts.specs.NodeType.{is_switch_type}
use Rattle.smp_wire.specs.Deliveries.{DeliveryState}
use Rattle.pkey_rules.specs.KeyTable.{accepts, holds}
use Rattle.pkey_rules.specs.PKey.{matches}
use Rattle.step_results.proofs.ListLemmas.{all_have}
use Rattle.smp_wire.specs.FabricState.{FabricState}
use Rattle.subnet_model.proofs.IsolationLemmas.{holder_accepts, matches_either_way}
use Rattle.subnet_model.specs.Delivery.{manager_key, reaches_joined, refusal_of}
use Rattle.subnet_model.specs.Report.{packet_of, received_by, reply_to}
use Rattle.subnet_model.specs.declared.command.SendCommand.{SendCommand}
use Rattle.subnet_model.specs.declared.event.PortEvent.{PortEvent}
use Rattle.subnet_model.specs.declared.event.Outcome.TheVariants.{Received}
use Rattle.subnet_model.specs.declared.subnet_port.SubnetPort.{SubnetPort}
use Rattle.subnet_fabric.specs.SendLaws.{IsSender}
use Rattle.subnet_fabric.specs.OfFabric.{IsFabricOf}
use Rattle.subnet_fabric.specs.Replies.{ComeOfReplies, ComesOfReply, IsRequestOf, RepliesAreAsListed, RequestsComeToTheManager, received_under, sent_to_reply}
use Rattle.subnet_fabric.specs.Sends.{event_of}
use Rattle.subnet_fabric.specs.declared.event.Event.{Event}
use Rattle.subnet_fabric.proofs.ListLemmas.{found_among}
use Rattle.subnet_fabric.proofs.SendLemmas.{gives, received_is_reported}

-- ---- of ports in order of LID at most one has a LID
apart : (a b : ℕ) → a ≡ b → nat_cmp a b ≡ Less → ⊥
apart a b same below = let equal = nat_cmp_is a b Equal same ∙ below in absurd (cc)

at_place : {X : Type 0} (P : X → Type 0) (xs : List X) (k : ℕ) (x : X) → AllByRecursion P xs → slice_get xs k ≡ Some x → P x
at_place P [] k x all there = absurd (none-some x there)
at_place P (y ∷ xs) zero x all there = subst P (same_Some y x there) all.0
at_place P (y ∷ xs) (suc k) x all there = at_place P xs k x all.1 there

none_later : (test : SubnetPort → Bool) (lid : ℕ) (ports : List SubnetPort) → ((port : SubnetPort) → test port ≡ true → port.lid ≡ lid)
    → AllByRecursion (λ other. nat_cmp lid other.lid ≡ Less) ports → filter test ports ≡ []
none_later test lid [] only later = refl
none_later test lid (port ∷ ports) only later = by (test port) refl (none_later test lid ports only later.1)
  where
    by : (b : Bool) → test port ≡ b → filter test ports ≡ [] → filter test (port ∷ ports) ≡ []
    by false fails rest = rw fails rest
    by true passes rest = absurd (apart lid port.lid (sym (only port passes)) later.0)

only_kept : (test : SubnetPort → Bool) (one : SubnetPort) (ports : List SubnetPort) (place : ℕ)
    → ((port : SubnetPort) → test port ≡ true → port.lid ≡ one.lid)
    → IsStrictlySortedBy (on (λ port. port.lid) nat_cmp) ports → slice_get ports place ≡ Some one
    → filter test ports ≡ (if test one then one ∷ [] else [])
unfolding IsStrictlySortedBy
only_kept test one [] place only order there = absurd (none-some one there)
only_kept test one (port ∷ ports) zero only order there = by (test port) refl
  where
    same : port ≡ one
    same = same_Some port one there

    rest : filter test ports ≡ []
    rest = none_later test port.lid ports (λ other passes. only other passes ∙ ap (λ (p : SubnetPort). p.lid) (sym same)) order.0

    by : (b : Bool) → test port ≡ b → filter test (port ∷ ports) ≡ (if test one then one ∷ [] else [])
    by true passes =
        rw (passes, rest) (ap (λ (p : SubnetPort). p ∷ []) same ∙ rw (ap test (sym same) ∙ passes) refl)
    by false fails = rw (fails, rest) (rw (ap test (sym same) ∙ fails) refl)
only_kept test one (port ∷ ports) (suc k) only order there = by (test port) refl (only_kept test one ports k only order.1 there)
  where
    by : (b : Bool) → test port ≡ b → filter test ports ≡ (if test one then one ∷ [] else [])
        → filter test (port ∷ ports) ≡ (if test one then one ∷ [] else [])
    by true passes rest =
        absurd (apart port.lid one.lid (only port passes) (at_place (λ other. nat_cmp port.lid other.lid ≡ Less) ports k one order.0 there))
    by false fails rest = rw fails rest

-- ---- a packet to a LID that is no group's
module _ (ports : List SubnetPort) (receives : ℕ → ℕ → Bool) (fabric : FabricState) (command : SendCommand) (of : IsFabricOf ports receives fabric)
    (one : SubnetPort) (place : ℕ) (there : slice_get ports place ≡ Some one) (dlid : command.dlid ≡ one.lid) (adapter : is_switch_type one.node_type ≡ false) where
  abbrev test : SubnetPort → Bool
  test = reaches_joined (receives command.dlid) command

  unicast : is_multicast command.dlid ≡ false
  unicast = ap is_multicast dlid ∙ all_have (λ port. is_multicast port.lid ≡ false) ports place one of.unicast there

  not_joined : (guid : ℕ) → receives command.dlid guid ≡ false
  not_joined guid = by (receives command.dlid guid) refl
    where
      by : (b : Bool) → receives command.dlid guid ≡ b → b ≡ false
      by false is = refl
      by true is = absurd (false≢true (sym unicast ∙ of.groups command.dlid guid is))

  by_lid : (port : SubnetPort) → test port ≡ ((port.lid == command.dlid) && (not (is_switch_type port.node_type) && accepts command.p_key port.keys))
  by_lid port = rw (not_joined port.guid) refl

  only : (port : SubnetPort) → test port ≡ true → port.lid ≡ one.lid
  only port passes = eqb-true port.lid command.dlid (and_parts (port.lid == command.dlid) _ (sym (by_lid port) ∙ passes)).0 ∙ dlid

  test_one : test one ≡ accepts command.p_key one.keys
  test_one = by_lid one ∙ rw (eq-eqb one.lid command.dlid (sym dlid), adapter) refl

  pub reaches_one : (sender : SubnetPort)
      → received_by test ports sender command
      ≡ (if accepts command.p_key one.keys then record { port_guid = one.guid; what = Received (packet_of sender command) } ∷ [] else [])
  reaches_one sender =
      ap (map (λ port. record { port_guid = port.guid; what = Received (packet_of sender command) })) (only_kept test one ports place only of.order there)
      ∙ by (accepts command.p_key one.keys) refl
    where
      by : (b : Bool) → accepts command.p_key one.keys ≡ b
          → map {B = PortEvent} (λ port. record { port_guid = port.guid; what = Received (packet_of sender command) }) (if test one then one ∷ [] else [])
          ≡ (if accepts command.p_key one.keys then record { port_guid = one.guid; what = Received (packet_of sender command) } ∷ [] else [])
      by true is = rw (test_one ∙ is, is) refl
      by false is = rw (test_one ∙ is, is) refl

-- ---- the key that matches
found_key : (p_key : ℕ) (keys : List ℕ) (key : ℕ) → find (λ held. matches held p_key) keys ≡ Some key
    → (accepts p_key keys ≡ true) × (holds key keys ≡ true) × (matches key p_key ≡ true)
found_key p_key [] key is = absurd (none-some key is)
found_key p_key (held ∷ keys) key is = by (matches held p_key) refl (λ later. found_key p_key keys key later)
  where
    or_later : (a b : Bool) → b ≡ true → (a || b) ≡ true
    or_later true b is = refl
    or_later false b is = is

    by : (b : Bool) → matches held p_key ≡ b
        → (find (λ held. matches held p_key) keys ≡ Some key → (accepts p_key keys ≡ true) × (holds key keys ≡ true) × (matches key p_key ≡ true))
        → (accepts p_key (held ∷ keys) ≡ true) × (holds key (held ∷ keys) ≡ true) × (matches key p_key ≡ true)
    by true fits later =
        let same : held ≡ key = same_Some held key (sym (rw fits refl) ∙ is) in
        (rw fits refl, rw (eq-eqb held key same) refl, ap (λ (k : ℕ). matches k p_key) (sym same) ∙ fits)
    by false other later =
        let rest = later (sym (rw other refl) ∙ is) in
        (rw other rest.0, or_later (held == key) (holds key keys) rest.1, rest.2)

no_key : (p_key : ℕ) (keys : List ℕ) → find (λ held. matches held p_key) keys ≡ None → accepts p_key keys ≡ false
no_key p_key [] is = refl
no_key p_key (held ∷ keys) is = by (matches held p_key) refl (λ later. no_key p_key keys later)
  where
    by : (b : Bool) → matches held p_key ≡ b → (find (λ held. matches held p_key) keys ≡ None → accepts p_key keys ≡ false)
        → accepts p_key (held ∷ keys) ≡ false
    by true fits later = absurd (none-some held (sym is ∙ rw fits refl))
    by false other later = rw other (later (sym (rw other refl) ∙ is))

pub requests_come_to_the_manager : RequestsComeToTheManager
requests_come_to_the_manager ports receives fabric command sender manager of sends for_sa first adapter =
    let among = found_among (λ port. port.lid == manager_lid) ports manager first in
    let dlid : command.dlid ≡ manager.lid =
    eqb-true command.dlid manager_lid (and_parts (command.dlid == manager_lid) _ for_sa).0 ∙ sym (eqb-true manager.lid manager_lid among.passes) in
    reaches_one ports receives fabric command of manager among.place among.there dlid adapter sender
    ∙ by (find (λ held. matches held command.p_key) manager.keys) refl
  where
    by : (key : Option ℕ) → find (λ held. matches held command.p_key) manager.keys ≡ key
        → (if accepts command.p_key manager.keys then record { port_guid = manager.guid; what = Received (packet_of sender command) } ∷ [] else [])
        ≡ received_under (manager_key ports command.p_key) manager (packet_of sender command)
    by (Some key) is = rw (first, is, (found_key command.p_key manager.keys key is).0) refl
    by None is = rw (first, is, no_key command.p_key manager.keys is) refl

-- ---- an answer
module _ (ports : List SubnetPort) (receives : ℕ → ℕ → Bool) (fabric : FabricState) (own : SubnetPort) (request : DeliveryState) (key : ℕ)
    (of : IsFabricOf ports receives fabric) (asks : IsRequestOf ports own request key) (mad : List ℕ) where
  abbrev command : SendCommand
  command = sent_to_reply request key mad

  sends : IsSender ports command asks.manager
  sends = record { named = asks.named; adapter = asks.manager_adapter }

  found : find (λ held. matches held request.packet.p_key) asks.manager.keys ≡ Some key
  found = sym (rw asks.first refl) ∙ asks.key_is

  held : (accepts request.packet.p_key asks.manager.keys ≡ true) × (holds key asks.manager.keys ≡ true) × (matches key request.packet.p_key ≡ true)
  held = found_key request.packet.p_key asks.manager.keys key found

  allowed : refusal_of asks.manager command ≡ None
  allowed = rw (held.1, ap is_reserved asks.source ∙ asks.own_lid) refl

  accepted : accepts key own.keys ≡ true
  accepted = holder_accepts request.packet.p_key key own.keys asks.held (matches_either_way request.packet.p_key key ∙ held.2)

  reply_is_reported : (events : List Event) → ComesOfReply fabric command events → map event_of events ≡ reply_to own key mad ∷ []
  reply_is_reported events comes =
      let among = found_among (λ port. port.guid == own.guid) ports own asks.own_named in
      let manager = found_among (λ port. port.lid == manager_lid) ports asks.manager asks.first in
      received_is_reported ports receives fabric command asks.manager of sends allowed events
      (comes.carried (packet_of asks.manager command) (gives ports receives fabric command asks.manager of sends None allowed))
      ∙ reaches_one ports receives fabric command of own among.place among.there asks.source asks.own_adapter asks.manager
      ∙ rw (accepted, asks.source, eqb-true asks.manager.lid manager_lid manager.passes) refl

pub replies_are_reported : (fabric : FabricState) (request : DeliveryState) (key : ℕ) (mads : List (List ℕ)) (events : List Event)
    → ComeOfReplies fabric request key mads events → RepliesAreAsListed fabric request key mads events
replies_are_reported fabric request key [] events comes ports receives own of asks = ap (map event_of) comes
replies_are_reported fabric request key (mad ∷ mads) events comes ports receives own of asks =
    let first = comes.0 in
    let rest = comes.1 in
    ap (map event_of) comes.4 ∙ map-append event_of first rest
    ∙ ap (λ (some : List PortEvent). some ++ map event_of rest) (reply_is_reported ports receives fabric own request key of asks mad first comes.2)
    ∙ ap (λ (some : List PortEvent). reply_to own key mad ∷ some) (replies_are_reported fabric request key mads rest comes.3 ports receives own of asks)

-- one more MAD is answered after the others
pub one_more : (fabric : FabricState) (request : DeliveryState) (key : ℕ) (mads : List (List ℕ)) (mad : List ℕ) (events more : List Event)
    → ComeOfReplies fabric request key mads events → ComesOfReply fabric (sent_to_reply request key mad) more
    → ComeOfReplies fabric request key (mads ++ mad ∷ []) (events ++ more)
one_more fabric request key [] mad events more comes reply =
    (more, [], reply, refl, ap (λ (some : List Event). some ++ more) comes ∙ sym (append-nil more))
one_more fabric request key (first ∷ mads) mad events more comes reply = (
  comes.0,
  comes.1 ++ more,
  comes.2,
  one_more fabric request key mads mad comes.1 more comes.3 reply,
  ap (λ (some : List Event). some ++ more) comes.4 ∙ append_assoc comes.0 comes.1 more,
)
