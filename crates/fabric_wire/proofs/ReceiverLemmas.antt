-- Who gets a packet to a multicast LID, from the ports where it comes in.
use Rattle.std.proofs.Common.{ℕ, zero, suc, ◌≡◌, ◌<◌, ◌==◌, ◌&&◌, ◌∙◌, inl, inr, ap, refl, sym, subst, Bool, true, false, List, [], ◌∷◌, length, map, slice_index_or, Option, Some, None, if◌then◌else◌, arith}
use Rattle.std.specs.Prelude.{◌↔◌, filter_map}
use Rattle.std.specs.Cmp.{IsEquivalence, nat_cmp_is}
use Rattle.std.specs.Ordering.{eq_by_cmp, is_eq, nat_cmp, ordering_then}
use Rattle.std.specs.declared.cmp.Ordering.{Ordering}
use Rattle.std.specs.declared.cmp.Ordering.TheVariants.{Equal, Greater, Less}
use Rattle.std.specs.List.{Contains, cons_option, dedup}
use Rattle.std.specs.List.Sorted.{IsPermutation, IsSorted, IsStrictlySortedBy}
use Rattle.std.specs.Option.{option_and_then}
use Rattle.fabric_wire.proofs.SpreadLemmas.{alone, at_first, in_either, in_last}
use Rattle.std.proofs.lemmas.Bool.{and_from, and_parts, cases_lt, eq-eqb, eqb-true}
use Rattle.std.proofs.lemmas.Bool.Decides.{nat_tests}
use Rattle.std.proofs.lemmas.List.Kept.{Contains-dedup, Contains-from_dedup, IsStrictlySortedBy-dedup}
use Rattle.std.proofs.lemmas.List.Sorted.{Contains-permutation, IsPermutation-sym}
use Rattle.std.proofs.lemmas.List.Elements.{Contains-append_cases, Contains-append_left, Contains-append_right}
use Rattle.std.proofs.lemmas.Option.{same_Some}
use Rattle.data_packet.specs.declared.packet.Packet.{Packet}
use Rattle.fabric_parts.specs.Cable.{far_end}
use Rattle.fabric_parts.specs.declared.cable.Cable.{Cable}
use Rattle.fabric_parts.specs.declared.cable.PortRef.{PortRef}
use Rattle.port_model.specs.AdapterState.{AdapterState}
use Rattle.port_model.specs.Packets.{accepts_packet}
use Rattle.smp_wire.specs.FabricState.{FabricState}
use Rattle.smp_wire.specs.declared.node.Node.{Node}
use Rattle.smp_wire.proofs.DeliveryLemmas.{in_order_total}
use Rattle.smp_wire.specs.Deliveries.{AreDeliveries, Goes, IsDelivered, adapter_at, guid_at, in_order, numbers_of}
use Rattle.smp_wire.specs.declared.numbers.Numbers.{Numbers}
use Rattle.fabric_wire.specs.AdapterPorts.{Finds}
use Rattle.fabric_wire.specs.Spreading.{AreReached, Gets, has_port, numbers_at}
use Rattle.fabric_wire.proofs.KeptPortLemmas.{own}

-- ---- which of these ports accept
pub record IsAmong (nodes : List Node) (packet : Packet) (ports : List PortRef) (one : Numbers) : Type 0 where
  pub at : PortRef
  pub among : has_port ports at
  pub numbers : numbers_at nodes packet at ≡ Some one

module _ (nodes : List Node) (packet : Packet) where
  abbrev accepting : List PortRef → List Numbers
  accepting ports = filter_map (numbers_at nodes packet) ports

  later : (first : PortRef) (ports : List PortRef) (one : Numbers) → IsAmong nodes packet ports one → IsAmong nodes packet (first ∷ ports) one
  later first ports one is = record { at = is.at; among = in_last (first ∷ []) ports is.at is.among; numbers = is.numbers }

  here : (x y : Numbers) → Contains (x ∷ []) y → x ≡ y
  here x y there = by there.0 there.1 there.2
    where
      by : (k : ℕ) → k < length (x ∷ []) → slice_index_or (x ∷ []) k y ≡ y → x ≡ y
      by zero low is = is
      by (suc k) low is = absurd (omega (arith, low))

  pub among_of : (ports : List PortRef) (one : Numbers) → Contains (accepting ports) one → IsAmong nodes packet ports one
  among_of [] one there = absurd (let low = there.1 in omega (arith, low))
  among_of (first ∷ ports) one there = by (λ rest. later first ports one (among_of ports one rest)) (numbers_at nodes packet first) refl there
    where
      by : (Contains (accepting ports) one → IsAmong nodes packet (first ∷ ports) one) → (found : Option Numbers) → numbers_at nodes packet first ≡ found
          → Contains (cons_option found (accepting ports)) one → IsAmong nodes packet (first ∷ ports) one
      by more None found held = more held
      by more (Some x) found held = elim (Contains-append_cases (x ∷ []) (accepting ports) one held) [
        | inl is ↦ record { at = first; among = at_first first ports; numbers = found ∙ ap (λ (n : Numbers). Some n) (here x one is) }
        | inr rest ↦ more rest
      ]

  pub accepting_of : (ports : List PortRef) (one : Numbers) → IsAmong nodes packet ports one → Contains (accepting ports) one
  accepting_of [] one is = let none = is.among in absurd (cc)
  accepting_of (first ∷ ports) one is = elim (in_either (first ∷ []) ports is.at is.among) [
    | inl last ↦ by (alone first is.at last)
    | inr rest ↦ behind (numbers_at nodes packet first) (accepting_of ports one (record { at = is.at; among = rest; numbers = is.numbers }))
  ]
    where
      by : is.at ≡ first → Contains (accepting (first ∷ ports)) one
      by same =
          let found : numbers_at nodes packet first ≡ Some one = ap (numbers_at nodes packet) (sym same) ∙ is.numbers in
          rw found (Contains-append_left (one ∷ []) (accepting ports) one (0, omega arith, refl))

      behind : (found : Option Numbers) → Contains (accepting ports) one → Contains (cons_option found (accepting ports)) one
      behind None held = held
      behind (Some x) held = Contains-append_right (x ∷ []) (accepting ports) one held

-- ---- the port there accepts the packet
module _ (nodes : List Node) (packet : Packet) (at : PortRef) (one : Numbers) where
  pub record IsAccepting : Type 0 where
    pub port : AdapterState
    pub there : adapter_at nodes at ≡ Some port
    pub accepts : accepts_packet port packet ≡ true
    pub numbers : one ≡ numbers_of port

  is_accepting : numbers_at nodes packet at ≡ Some one → IsAccepting
  is_accepting is = by (adapter_at nodes at) refl is
    where
      by_test : (port : AdapterState) (test : Bool) → accepts_packet port packet ≡ test → adapter_at nodes at ≡ Some port
          → (if test then Some (numbers_of port) else None) ≡ Some one → IsAccepting
      by_test port true accepts there some = record { port = port; there = there; accepts = accepts; numbers = sym (same_Some (numbers_of port) one some) }
      by_test port false accepts there some = absurd (cc)

      by : (found : Option AdapterState) → adapter_at nodes at ≡ found
          → option_and_then (λ port. if accepts_packet port packet then Some (numbers_of port) else None) found ≡ Some one → IsAccepting
      by None there some = absurd (cc)
      by (Some port) there some = by_test port (accepts_packet port packet) refl there some

  numbers_there : (port : AdapterState) → adapter_at nodes at ≡ Some port → accepts_packet port packet ≡ true → one ≡ numbers_of port
      → numbers_at nodes packet at ≡ Some one
  numbers_there port there accepts is = rw (there, accepts, is) refl

-- ---- who gets it
module _ (nodes : List Node) (cables : List Cable) (from first : PortRef) (packet : Packet) (cable : far_end cables from ≡ Some first) where
  pub gets : (ports : List PortRef) → AreReached nodes cables packet first ports → (one : Numbers)
      → Contains (filter_map (numbers_at nodes packet) ports) one ↔ Gets nodes cables from packet one
  gets ports reached one = (forth, back)
    where
      forth : Contains (filter_map (numbers_at nodes packet) ports) one → Gets nodes cables from packet one
      forth there =
          let among = among_of nodes packet ports one there in
          let is = is_accepting nodes packet among.at one among.numbers in
          let way = (reached among.at).0 among.among in
          record {
            at = among.at;
            port = is.port;
            delivered = record { first = first; cable = cable; way = way.0; goes = way.1; there = is.there; accepts = is.accepts };
            numbers = is.numbers;
          }

      back : Gets nodes cables from packet one → Contains (filter_map (numbers_at nodes packet) ports) one
      back is =
          let same : is.delivered.first ≡ first = same_Some is.delivered.first first (sym is.delivered.cable ∙ cable) in
          let goes = subst (λ (p : PortRef). Goes nodes cables packet p is.delivered.way is.at) same is.delivered.goes in
          accepting_of nodes packet ports one (record {
            at = is.at;
            among = (reached is.at).1 (is.delivered.way, goes);
            numbers = numbers_there nodes packet is.at one is.port is.delivered.there is.delivered.accepts is.numbers;
          })

-- no cable, nobody
pub nobody_gets : (nodes : List Node) (cables : List Cable) (from : PortRef) (packet : Packet) (one : Numbers) → far_end cables from ≡ None
    → Gets nodes cables from packet one → ⊥
nobody_gets nodes cables from packet one bare is = let cable = is.delivered.cable in absurd (cc)

-- ---- sorted, without doubles: the same numbers, in order
abbrev pub same_numbers : Numbers → Numbers → Bool
same_numbers a b = (a.lid == b.lid) && (a.guid == b.guid)

are_same : (a b : Numbers) → same_numbers a b ≡ true → a ≡ b
are_same a b is =
    let parts = and_parts (a.lid == b.lid) (a.guid == b.guid) is in
    λ place. record { lid = eqb-true a.lid b.lid parts.0 place; guid = eqb-true a.guid b.guid parts.1 place }

numbers_equiv : IsEquivalence same_numbers
numbers_equiv = record {
  refl = λ a. and_from (a.lid == a.lid) (a.guid == a.guid) (eq-eqb a.lid a.lid refl) (eq-eqb a.guid a.guid refl);
  symm = λ a b. grind (arith, nat_tests);
  congr = λ a b c same. ap (λ (n : Numbers). same_numbers n c) (are_same a b same);
}

pub the_same : (numbers sorted left : List Numbers) (one : Numbers) → IsPermutation numbers sorted → left ≡ dedup same_numbers sorted
    → Contains left one ↔ Contains numbers one
the_same numbers sorted left one moved is = (
  λ there. Contains-permutation sorted numbers one (IsPermutation-sym numbers sorted moved)
      (Contains-from_dedup same_numbers sorted one (subst (λ (list : List Numbers). Contains list one) is there)),
  λ there. subst (λ (list : List Numbers). Contains list one) (sym is)
      (Contains-dedup numbers_equiv are_same sorted one (Contains-permutation numbers sorted one moved there)),
)

less_is : (x y : ℕ) → x < y → (nat_cmp x y ≡ Less) × ((x == y) ≡ false)
less_is x y low = (sym (nat_cmp_is x y Less low), grind (arith, nat_tests))

more_is : (x y : ℕ) → y < x → (nat_cmp x y ≡ Greater) × ((x == y) ≡ false)
more_is x y high = (sym (nat_cmp_is x y Greater high), grind (arith, nat_tests))

same_is : (x y : ℕ) → x ≡ y → (nat_cmp x y ≡ Equal) × ((x == y) ≡ true)
same_is x y same = (sym (nat_cmp_is x y Equal same), eq-eqb x y same)

equal_test : (x y : ℕ) → is_eq (nat_cmp x y) ≡ (x == y)
equal_test x y = elim (cases_lt x y) [
  | inl low ↦ let is = less_is x y low in rw (is.0, is.1) refl
  | inr not_low ↦ elim (cases_lt y x) [
    | inl high ↦ let is = more_is x y high in rw (is.0, is.1) refl
    | inr not_high ↦ let is = same_is x y (omega (arith, not_low, not_high)) in rw (is.0, is.1) refl
  ]
]

both_equal : (one other : Ordering) → is_eq (ordering_then one other) ≡ (is_eq one && is_eq other)
both_equal Less other = refl
both_equal Equal other = refl
both_equal Greater other = refl

ties : (a b : Numbers) → same_numbers a b ≡ eq_by_cmp in_order a b
ties a b =
    let lids = equal_test a.lid b.lid in
    let guids = equal_test a.guid b.guid in
    sym (both_equal (nat_cmp a.lid b.lid) (nat_cmp a.guid b.guid) ∙ rw (lids, guids) refl)

pub ordered : (sorted left : List Numbers) → IsSorted in_order sorted → left ≡ dedup same_numbers sorted → IsStrictlySortedBy in_order left
ordered sorted left rises is = rw is (IsStrictlySortedBy-dedup in_order_total ties sorted rises)

-- ---- all that leaves by the port there is what it sends
pub are_deliveries : (fabric : FabricState) (place_of : ℕ → Option PortRef) (sender : ℕ) (packet : Packet) (from : PortRef) (receivers : List Numbers)
    → Finds fabric.nodes place_of → guid_at fabric.nodes from ≡ Some sender
    → ((one : Numbers) → Contains receivers one ↔ Gets fabric.nodes fabric.cables from packet one) → IsStrictlySortedBy in_order receivers
    → AreDeliveries fabric sender packet (map (λ receiver. record { port = receiver.guid; packet = packet }) receivers)
are_deliveries fabric place_of sender packet from receivers finds sends each order = record {
  receivers = receivers;
  each = λ one. (
    λ there. let is = (each one).0 there in
        record { from = from; sends = sends; at = is.at; port = is.port; delivered = is.delivered; receives = is.numbers },
    λ reaches. (each one).1 (record {
      at = reaches.at;
      port = reaches.port;
      delivered = subst (λ (p : PortRef). IsDelivered fabric.nodes fabric.cables p packet reaches.at reaches.port)
          (own fabric.nodes place_of sender finds reaches.from from reaches.sends sends) reaches.delivered;
      numbers = reaches.receives;
    }),
  );
  order = order;
  reported = refl;
}
