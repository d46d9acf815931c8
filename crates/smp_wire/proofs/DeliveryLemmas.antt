-- The deliveries of a packet that reaches one port at most.
use Rattle.std.proofs.Common.{ℕ, zero, suc, ◌≡◌, ◌<◌, ◌∙◌, ◌⊎◌, inl, inr, ap, refl, sym, subst, false, List, [], ◌∷◌, length, map, slice_index_or, arith}
use Rattle.std.specs.List.{Contains}
use Rattle.std.proofs.lemmas.Option.{same_Some}
use Rattle.std.proofs.Common.{rules}
use Rattle.std.specs.Cmp.{IsTotalOrder}
use Rattle.std.specs.List.Sorted.{IsStrictlySortedBy}
use Rattle.std.specs.declared.cmp.Ordering.TheVariants.{Less}
use Rattle.std.proofs.lemmas.Cmp.{nat_cmp_total, on_total, then_total, tied_itself}
use Rattle.std.proofs.lemmas.List.Elements.{All-contains, Contains-append_cases, Contains-append_right}
use Rattle.std.proofs.lemmas.Map.Keys.{sorted_tail}
use Rattle.std.proofs.lemmas.Map.Made.{Contains-tail}
use Rattle.std.proofs.lemmas.Map.Views.{All-after_first}
use Rattle.std.proofs.lemmas.List.Kept.{IsStrictlySortedBy-dedup}
use Rattle.data_packet.specs.declared.packet.Packet.{Packet}
use Rattle.fabric_parts.specs.Lid.{is_multicast}
use Rattle.fabric_parts.specs.declared.cable.PortRef.{PortRef}
use Rattle.smp_wire.specs.FabricState.{FabricState}
use Rattle.smp_wire.specs.declared.numbers.Numbers.{Numbers}
use Rattle.smp_wire.specs.Deliveries.{AreDeliveries, IsDelivered, IsOwn, in_order, numbers_of, Reaches, adapter_at}
use Rattle.smp_wire.specs.DeliveryLaws.{DeliveriesAreOneList}
use Rattle.smp_wire.proofs.WayLemmas.{reaches_one_port}

one_receiver : (fabric : FabricState) (sender : ℕ) (packet : Packet) (a b : Numbers) → is_multicast packet.dlid ≡ false → IsOwn fabric.nodes sender
    → Reaches fabric sender packet a → Reaches fabric sender packet b → a ≡ b
one_receiver fabric sender packet a b unicast own one other =
    let from = own one.from other.from one.sends other.sends in
    let moved = subst (λ (p : PortRef). IsDelivered fabric.nodes fabric.cables p packet one.at one.port) from one.delivered in
    let at = reaches_one_port fabric.nodes fabric.cables other.from packet one.at other.at one.port other.port unicast moved other.delivered in
    let port : one.port ≡ other.port = same_Some _ _ (sym one.delivered.there ∙ ap (adapter_at fabric.nodes) at ∙ other.delivered.there) in
    one.receives ∙ ap numbers_of port ∙ sym other.receives

in_one : (one x : Numbers) → Contains (one ∷ []) x → x ≡ one
in_one one x there = by there.0 there.1 there.2
  where
    by : (k : ℕ) → k < length (one ∷ []) → slice_index_or (one ∷ []) k x ≡ x → x ≡ one
    by zero low is = sym is
    by (suc k) low is = absurd (omega (arith, low))

pub in_order_total : IsTotalOrder in_order
in_order_total = then_total (on_total (λ (one : Numbers). one.lid) nat_cmp_total) (on_total (λ (one : Numbers). one.guid) nat_cmp_total)

pub nobody : IsStrictlySortedBy in_order []
nobody = IsStrictlySortedBy-dedup in_order_total (λ x y. refl) [] (search rules)

alone : (one : Numbers) → IsStrictlySortedBy in_order (one ∷ [])
alone one = IsStrictlySortedBy-dedup in_order_total (λ x y. refl) (one ∷ []) (search rules)

pub one_delivery : (fabric : FabricState) (sender : ℕ) (packet : Packet) (one : Numbers) → is_multicast packet.dlid ≡ false → IsOwn fabric.nodes sender
    → Reaches fabric sender packet one → AreDeliveries fabric sender packet (record { port = one.guid; packet = packet } ∷ [])
one_delivery fabric sender packet one unicast own reaches = record {
  receivers = one ∷ [];
  each = λ x. (
    λ there. subst (λ (n : Numbers). Reaches fabric sender packet n) (sym (in_one one x there)) reaches,
    λ other. (0, omega arith, one_receiver fabric sender packet one x unicast own reaches other),
  );
  order = alone one;
  reported = refl;
}

pub no_delivery : (fabric : FabricState) (sender : ℕ) (packet : Packet) → ((one : Numbers) → Reaches fabric sender packet one → ⊥)
    → AreDeliveries fabric sender packet []
no_delivery fabric sender packet none = record {
  receivers = [];
  each = λ x. (λ there. absurd (let low = there.1 in omega (arith, low)), λ other. absurd (none x other));
  order = nobody;
  reported = refl;
}

-- ---- lists in order that have the same in them are one
not_before_itself : (x : Numbers) → in_order x x ≡ Less → ⊥
not_before_itself x before = let tied = tied_itself in_order_total x in cc

comes_after : (first x : Numbers) (later : List Numbers) → IsStrictlySortedBy in_order (first ∷ later) → Contains later x → in_order first x ≡ Less
comes_after first x later order there = All-contains (λ (q : Numbers). in_order first q ≡ Less) later x (All-after_first in_order first later order) there

begins_or_after : (first x : Numbers) (later : List Numbers) → IsStrictlySortedBy in_order (first ∷ later) → Contains (first ∷ later) x
    → (x ≡ first) ⊎ (in_order first x ≡ Less)
begins_or_after first x later order there = by (Contains-append_cases (first ∷ []) later x there)
  where
    by : Contains (first ∷ []) x ⊎ Contains later x → (x ≡ first) ⊎ (in_order first x ≡ Less)
    by (inl here) = inl (in_one first x here)
    by (inr after) = inr (comes_after first x later order after)

same_first : (x y : Numbers) → (x ≡ y) ⊎ (in_order y x ≡ Less) → (y ≡ x) ⊎ (in_order x y ≡ Less) → x ≡ y
same_first x y (inl same) other = same
same_first x y (inr before) (inl same) = sym same
same_first x y (inr before) (inr after) = absurd (not_before_itself x (in_order_total.trans x y x after before))

at_first : (first : Numbers) (later : List Numbers) → Contains (first ∷ later) first
at_first first later = (0, omega arith, refl)

in_tail : (x y : Numbers) (xs ys : List Numbers) → x ≡ y → IsStrictlySortedBy in_order (x ∷ xs)
    → ((n : Numbers) → Contains (x ∷ xs) n → Contains (y ∷ ys) n) → (n : Numbers) → Contains xs n → Contains ys n
in_tail x y xs ys first order to n there =
    Contains-tail y ys n
    (λ same. not_before_itself x (subst (λ (m : Numbers). in_order x m ≡ Less) (sym (first ∙ same)) (comes_after x n xs order there)))
    (to n (Contains-append_right (x ∷ []) xs n there))

nothing_in : (n : Numbers) → Contains [] n → ⊥
nothing_in n there = let low = there.1 in omega (arith, low)

one_list : (xs ys : List Numbers) → IsStrictlySortedBy in_order xs → IsStrictlySortedBy in_order ys
    → ((n : Numbers) → Contains xs n → Contains ys n) → ((n : Numbers) → Contains ys n → Contains xs n) → xs ≡ ys
one_list [] [] order other to back = refl
one_list [] (y ∷ ys) order other to back = absurd (nothing_in y (back y (at_first y ys)))
one_list (x ∷ xs) [] order other to back = absurd (nothing_in x (to x (at_first x xs)))
one_list (x ∷ xs) (y ∷ ys) order other to back =
    let first = same_first x y (begins_or_after y x ys other (to x (at_first x xs))) (begins_or_after x y xs order (back y (at_first y ys))) in
    let later = one_list xs ys (sorted_tail in_order x xs order) (sorted_tail in_order y ys other)
    (in_tail x y xs ys first order to) (in_tail y x ys xs (sym first) other back) in
    ap (λ (n : Numbers). n ∷ xs) first ∙ ap (λ (ns : List Numbers). y ∷ ns) later

pub deliveries_are_one_list : DeliveriesAreOneList
deliveries_are_one_list fabric sender packet one other mine yours =
    let same = one_list mine.receivers yours.receivers mine.order yours.order
    (λ n there. (yours.each n).1 ((mine.each n).0 there)) (λ n there. (mine.each n).1 ((yours.each n).0 there)) in
    mine.reported ∙ ap (map (λ receiver. record { port = receiver.guid; packet = packet })) same ∙ sym yours.reported
