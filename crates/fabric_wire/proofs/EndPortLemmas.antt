-- The ports of channel adapters by their GUIDs: in a good fabric each has its own.
use Rattle.std.proofs.Common.{ℕ, zero, suc, ◌+◌, ◌-◌, ◌≡◌, ◌≢◌, ◌<◌, ◌≤◌, ◌==◌, inl, inr, ◌∙◌, ap, refl, sym, cond, not, ◌||◌, Bool, true, false, nat_le, List, [], ◌∷◌, ◌++◌, length, flat_map, slice_get, Option, Some, None, option_map, if◌then◌else◌, arith}
use Rattle.std.specs.List.{IsDistinct, list_all, list_any}
use Rattle.std.specs.Option.{option_and_then}
use Rattle.std.proofs.lemmas.Bool.{and_parts, eqb-true, eq-eqb, leb-true, not-true}
use Rattle.std.proofs.lemmas.List.Folds.{list_any-append}
use Rattle.std.proofs.lemmas.Option.{same_Some, slice_get-map, slice_get_within}
use Rattle.step_results.proofs.ListLemmas.{all_there}
use Rattle.std.proofs.lemmas.List.{length-map}
use Rattle.fabric_parts.specs.NodeType.{most_ports}
use Rattle.fabric_parts.specs.declared.node_type.NodeType.TheVariants.{ChannelAdapter}
use Rattle.fabric_parts.specs.declared.cable.PortRef.{PortRef}
use Rattle.port_model.specs.AdapterState.{AdapterState}
use Rattle.step_results.proofs.DistinctLemmas.{all_differ, differ}
use Rattle.smp_wire.specs.FabricState.{adapter_port}
use Rattle.smp_wire.specs.Good.{end_port_guids, has_a_right_count}
use Rattle.smp_wire.specs.declared.node.Node.{Node}
use Rattle.smp_wire.specs.declared.node.Node.TheVariants.{Switch, Adapter}
use Rattle.smp_wire.specs.Deliveries.{adapter_ports, guid_at}
use Rattle.fabric_wire.specs.AdapterPorts.{Finds, IsBefore, IsReported}

-- ---- lists of numbers of which no two are the same
abbrev same : ℕ → ℕ → Bool
same a b = a == b

abbrev Differ : List ℕ → Type 0
Differ xs = all_differ same xs ≡ true

has_at : (xs : List ℕ) (i x : ℕ) → slice_get xs i ≡ Some x → list_any (same x) xs ≡ true
has_at [] i x there = cc
has_at (y ∷ xs) zero x there = rw (eq-eqb x y (sym (same_Some y x there))) refl
has_at (y ∷ xs) (suc i) x there = rw (has_at xs i x there) (or_true (x == y))
  where
    or_true : (b : Bool) → (b || true) ≡ true
    or_true true = refl
    or_true false = refl

in_left : (xs ys : List ℕ) (x : ℕ) → list_any (same x) xs ≡ true → list_any (same x) (xs ++ ys) ≡ true
in_left xs ys x there = list_any-append (same x) xs ys ∙ rw there refl

in_right : (xs ys : List ℕ) (x : ℕ) → list_any (same x) ys ≡ true → list_any (same x) (xs ++ ys) ≡ true
in_right xs ys x there = list_any-append (same x) xs ys ∙ rw there (or_true (list_any (same x) xs))
  where
    or_true : (b : Bool) → (b || true) ≡ true
    or_true true = refl
    or_true false = refl

-- the first of a list is not in it again
not_again : (x y : ℕ) (xs : List ℕ) → Differ (x ∷ xs) → x ≡ y → list_any (same y) xs ≡ true → ⊥
not_again x y xs once is there =
    let first = not-true _ (and_parts (not (list_any (same x) xs)) (all_differ same xs) once).0 in
    let again : list_any (same x) xs ≡ true = rw is there in
    cc

later : (x : ℕ) (xs : List ℕ) → Differ (x ∷ xs) → Differ xs
later x xs once = (and_parts (not (list_any (same x) xs)) (all_differ same xs) once).1

rest : (xs ys : List ℕ) → Differ (xs ++ ys) → Differ ys
rest [] ys once = once
rest (x ∷ xs) ys once = rest xs ys (later x (xs ++ ys) once)

one_place : (xs ys : List ℕ) (i j x : ℕ) → Differ (xs ++ ys) → slice_get xs i ≡ Some x → slice_get xs j ≡ Some x → i ≡ j
one_place [] ys i j x once here there = cc
one_place (y ∷ xs) ys zero zero x once here there = refl
one_place (y ∷ xs) ys zero (suc j) x once here there =
    absurd (not_again y x (xs ++ ys) once (same_Some y x here) (in_left xs ys x (has_at xs j x there)))
one_place (y ∷ xs) ys (suc i) zero x once here there =
    absurd (not_again y x (xs ++ ys) once (same_Some y x there) (in_left xs ys x (has_at xs i x here)))
one_place (y ∷ xs) ys (suc i) (suc j) x once here there = ap suc (one_place xs ys i j x (later y (xs ++ ys) once) here there)

apart : (xs ys : List ℕ) (i x : ℕ) → Differ (xs ++ ys) → slice_get xs i ≡ Some x → list_any (same x) ys ≡ true → ⊥
apart [] ys i x once here there = cc
apart (y ∷ xs) ys zero x once here there = not_again y x (xs ++ ys) once (same_Some y x here) (in_right xs ys x there)
apart (y ∷ xs) ys (suc i) x once here there = apart xs ys i x (later y (xs ++ ys) once) here there

-- ---- lists of such lists
module _ {X : Type 0} (f : X → List ℕ) where
  among_all : (xs : List X) (a i g : ℕ) (x : X) → slice_get xs a ≡ Some x → slice_get (f x) i ≡ Some g → list_any (same g) (flat_map f xs) ≡ true
  among_all [] a i g x there is = cc
  among_all (y ∷ xs) zero i g x there is =
      in_left (f y) (flat_map f xs) g (rw (same_Some y x there) (has_at (f x) i g is))
  among_all (y ∷ xs) (suc a) i g x there is = in_right (f y) (flat_map f xs) g (among_all xs a i g x there is)

  one_of_all : (xs : List X) (a b i j g : ℕ) (x y : X) → Differ (flat_map f xs) → slice_get xs a ≡ Some x → slice_get (f x) i ≡ Some g
      → slice_get xs b ≡ Some y → slice_get (f y) j ≡ Some g → (a ≡ b) × (i ≡ j)
  one_of_all [] a b i j g x y once here is there other = cc
  one_of_all (z ∷ xs) zero zero i j g x y once here is there other = (
    refl,
    one_place (f z) (flat_map f xs) i j g once (rw (same_Some z x here) is) (rw (same_Some z y there) other),
  )
  one_of_all (z ∷ xs) zero (suc b) i j g x y once here is there other =
      absurd (apart (f z) (flat_map f xs) i g once (rw (same_Some z x here) is) (among_all xs b j g y there other))
  one_of_all (z ∷ xs) (suc a) zero i j g x y once here is there other =
      absurd (apart (f z) (flat_map f xs) j g once (rw (same_Some z y there) other) (among_all xs a i g x here is))
  one_of_all (z ∷ xs) (suc a) (suc b) i j g x y once here is there other =
      let both = one_of_all xs a b i j g x y (rest (f z) (flat_map f xs) once) here is there other in
      (ap suc both.0, both.1)

-- ---- ports of channel adapters
-- where the GUID of such a port stands among those of its node
record StandsAt (nodes : List Node) (at : PortRef) (guid : ℕ) : Type 0 where
  ports : List AdapterState
  there : slice_get nodes at.node ≡ Some (Adapter ports)
  is : slice_get (end_port_guids (Adapter ports)) (at.port - 1) ≡ Some guid
  some : at.port ≢ 0
  few : at.port ≤ length ports

in_adapter : (nodes : List Node) (at : PortRef) (guid : ℕ) (ports : List AdapterState) (none : Bool) → slice_get nodes at.node ≡ Some (Adapter ports)
    → (at.port == 0) ≡ none
    → option_map (λ (port : AdapterState). port.port_guid) (if none then None else slice_get ports (at.port - 1)) ≡ Some guid
    → StandsAt nodes at guid
in_adapter nodes at guid ports true there none is = absurd (cc)
in_adapter nodes at guid ports false there some is =
    let found : slice_get (end_port_guids (Adapter ports)) (at.port - 1) ≡ Some guid = slice_get-map (λ (port : AdapterState). port.port_guid) ports (at.port - 1) ∙ is in
    let other : at.port ≢ 0 = λ zero. let none = eq-eqb at.port 0 zero in cc in
    let within = slice_get_within (end_port_guids (Adapter ports)) (at.port - 1) guid found in
    let count = length-map ports (λ (port : AdapterState). port.port_guid) in
    record { ports = ports; there = there; is = found; some = other; few = omega (arith, within, other, count) }

in_none : (none : Bool) (place guid : ℕ)
    → option_map (λ (port : AdapterState). port.port_guid) (if none then None else slice_get {X = AdapterState} [] place) ≡ Some guid → ⊥
in_none true place guid is = cc
in_none false place guid is = cc

stands_by : (nodes : List Node) (at : PortRef) (guid : ℕ) (found : Option Node) → slice_get nodes at.node ≡ found
    → option_map (λ (port : AdapterState). port.port_guid) (option_and_then (λ node. adapter_port (adapter_ports node) at.port) found) ≡ Some guid
    → StandsAt nodes at guid
stands_by nodes at guid None there is = absurd (cc)
stands_by nodes at guid (Some (Switch held)) there is = absurd (in_none (at.port == 0) (at.port - 1) guid is)
stands_by nodes at guid (Some (Adapter ports)) there is = in_adapter nodes at guid ports (at.port == 0) there refl is

stands_at : (nodes : List Node) (at : PortRef) (guid : ℕ) → guid_at nodes at ≡ Some guid → StandsAt nodes at guid
stands_at nodes at guid is = stands_by nodes at guid (slice_get nodes at.node) refl is

-- no two have one GUID
abbrev pub AreOwn : List Node → Type 0
AreOwn nodes = (a b : PortRef) (guid : ℕ) → guid_at nodes a ≡ Some guid → guid_at nodes b ≡ Some guid → a ≡ b

pub known_distinct : (nodes : List Node) → IsDistinct (λ a b. a == b) (flat_map end_port_guids nodes) → AreOwn nodes
known_distinct nodes once a b guid one other =
    let here = stands_at nodes a guid one in
    let there = stands_at nodes b guid other in
    let both = one_of_all end_port_guids nodes a.node b.node (a.port - 1) (b.port - 1) guid (Adapter here.ports) (Adapter there.ports)
    (differ same (flat_map end_port_guids nodes) once) here.there here.is there.there there.is in
    let port : a.port ≡ b.port = omega (arith, both.1, here.some, there.some) in
    λ i. record { node = both.0 i; port = port i }

-- ---- the look-up, while it is made: ports before this one are in it
pub begins : (nodes : List Node) (place_of : ℕ → Option PortRef) → ((guid : ℕ) → place_of guid ≡ None) → IsReported nodes place_of 0 1
begins nodes place_of empty = record {
  sound = λ guid at is. let none = empty guid in absurd (cc);
  full = λ guid at is before. absurd (none_before at guid is before);
}
  where
    none_before : (at : PortRef) (guid : ℕ) → guid_at nodes at ≡ Some guid → IsBefore at 0 1 → ⊥
    none_before at guid is (inl low) = omega (arith, low)
    none_before at guid is (inr low) = (stands_at nodes at guid is).some (omega (arith, low.1))

before_more : (at : PortRef) (node port : ℕ) → IsBefore at node (port + 1) → (at ≡ record { node = node; port = port } → ⊥) → IsBefore at node port
before_more at node port (inl low) other = inl low
before_more at node port (inr low) other =
    inr (low.0, less at.port port low.1 (λ same. other (λ i. record { node = low.0 i; port = same i })))
  where
    less : (a b : ℕ) → a < b + 1 → a ≢ b → a < b
    less a b within differ = omega (arith, within, differ)

-- one port more: with a GUID
sound_by : (nodes : List Node) (here at : PortRef) (key guid : ℕ) (b : Bool) (old : Option PortRef) → (key == guid) ≡ b
    → guid_at nodes here ≡ Some key → (old ≡ Some at → guid_at nodes at ≡ Some guid) → cond b (Some here) old ≡ Some at → guid_at nodes at ≡ Some guid
sound_by nodes here at key guid true old is key_is was new =
    rw (sym (same_Some here at new), sym (eqb-true key guid is)) key_is
sound_by nodes here at key guid false old is key_is was new = was new

full_by : (nodes : List Node) (here at : PortRef) (key guid : ℕ) (b : Bool) (old : Option PortRef) → (key == guid) ≡ b → AreOwn nodes
    → guid_at nodes here ≡ Some key → guid_at nodes at ≡ Some guid → ((at ≡ here → ⊥) → old ≡ Some at) → cond b (Some here) old ≡ Some at
full_by nodes here at key guid true old is own key_is at_is was =
    ap (λ (p : PortRef). Some p) (own here at guid (key_is ∙ ap (λ (n : ℕ). Some n) (eqb-true key guid is)) at_is)
full_by nodes here at key guid false old other own key_is at_is was =
    was (λ same. let keys = same_Some guid key (sym at_is ∙ ap (guid_at nodes) same ∙ key_is) in
    let clash = eq-eqb key guid (sym keys) in cc)

pub with_port : (nodes : List Node) (old new : ℕ → Option PortRef) (node port key : ℕ) → AreOwn nodes → IsReported nodes old node port
    → guid_at nodes (record { node = node; port = port }) ≡ Some key
    → ((guid : ℕ) → new guid ≡ cond (key == guid) (Some (record { node = node; port = port })) (old guid)) → IsReported nodes new node (port + 1)
with_port nodes old new node port key own reported is writes =
    let here : PortRef = record { node = node; port = port } in
    record {
      sound = λ guid at found. sound_by nodes here at key guid (key == guid) (old guid) refl is (reported.sound guid at) (sym (writes guid) ∙ found);
      full = λ guid at at_is before. writes guid ∙ full_by nodes here at key guid (key == guid) (old guid) refl own is at_is
          (λ other. reported.full guid at at_is (before_more at node port before other));
    }

-- or without one
pub without_port : (nodes : List Node) (place_of : ℕ → Option PortRef) (node port : ℕ) → IsReported nodes place_of node port
    → guid_at nodes (record { node = node; port = port }) ≡ None → IsReported nodes place_of node (port + 1)
without_port nodes place_of node port reported none = record {
  sound = reported.sound;
  full = λ guid at at_is before. reported.full guid at at_is (before_more at node port before
      (λ same. let there = sym at_is ∙ ap (guid_at nodes) same ∙ none in cc));
}

-- one node more
abbrev pub AreFew : List Node → ℕ → Type 0
AreFew nodes most = (at : PortRef) (guid : ℕ) → guid_at nodes at ≡ Some guid → at.port ≤ most

pub are_few : (nodes : List Node) → list_all has_a_right_count nodes ≡ true → AreFew nodes (most_ports ChannelAdapter)
are_few nodes counts at guid is =
    let stands = stands_at nodes at guid is in
    let right = all_there has_a_right_count nodes at.node (Adapter stands.ports) counts stands.there in
    let most = leb-true (length stands.ports) 8 (and_parts (nat_le 1 (length stands.ports)) _ right).1 in
    let here = stands.few in
    omega (arith, here, most)

pub next_node : (nodes : List Node) (place_of : ℕ → Option PortRef) (node port most : ℕ) → AreFew nodes most → most < port → IsReported nodes place_of node port
    → IsReported nodes place_of (node + 1) 1
next_node nodes place_of node port most few past reported = record {
  sound = reported.sound;
  full = λ guid at at_is before. reported.full guid at at_is (by_part at guid at_is before);
}
  where
    by_part : (at : PortRef) (guid : ℕ) → guid_at nodes at ≡ Some guid → IsBefore at (node + 1) 1 → IsBefore at node port
    by_part at guid is (inr low) = absurd ((stands_at nodes at guid is).some (omega (arith, low.1)))
    by_part at guid is (inl low) = by_order (at.node == node) refl
      where
        by_order : (b : Bool) → (at.node == node) ≡ b → IsBefore at node port
        by_order true same = let within = few at guid is in inr (eqb-true at.node node same, omega (arith, within, past))
        by_order false other =
            let apart : at.node ≢ node = λ same. let clash = eq-eqb at.node node same in cc in
            inl (omega (arith, low, apart))

pub ends : (nodes : List Node) (place_of : ℕ → Option PortRef) (node : ℕ) → length nodes ≤ node → IsReported nodes place_of node 1 → Finds nodes place_of
ends nodes place_of node past reported guid at = (
  reported.sound guid at,
  λ is. let stands = stands_at nodes at guid is in
      let within = slice_get_within nodes at.node (Adapter stands.ports) stands.there in
      reported.full guid at is (inl (omega (arith, within, past))),
)
