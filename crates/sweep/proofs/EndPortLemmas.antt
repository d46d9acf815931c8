-- The graph of a good fabric has the end ports of that fabric, and no others.
use Rattle.std.proofs.Common.{ℕ, zero, suc, ◌+◌, ◌-◌, ◌<◌, ◌≤◌, ◌≡◌, ◌⊎◌, inl, inr, ◌∙◌, ◌==◌, ◌&&◌, ◌||◌, not, ap, refl, sym, subst, Bool, true, false}
use Rattle.std.proofs.Common.{if◌then◌else◌, List, [], ◌∷◌, ◌++◌, flat_map, map, length, slice_get, Option, Some, None, option_map, arith}
use Rattle.std.proofs.Math.Bool.{or-true}
use Rattle.std.specs.List.{Contains, list_all, range_with_len}
use Rattle.std.specs.Option.{option_and_then, option_map_or, unwrap_or}
use Rattle.std.proofs.lemmas.Bool.{and_from, and_parts, eqb-true, false≢true}
use Rattle.std.proofs.lemmas.Bool.Decides.{nat_tests}
use Rattle.std.proofs.lemmas.List.Elements.{Contains-append_cases, Contains-append_left, Contains-append_right, Contains-get_or}
use Rattle.std.proofs.lemmas.Option.{get_or_from_slice_get, same_Some, slice_get-get_or, slice_get-map, slice_get_within}
use Rattle.step_results.proofs.ListLemmas.{all_there}
use Rattle.fabric_parts.specs.Cable.{far_end, is_cabled, port}
use Rattle.fabric_parts.specs.declared.cable.Cable.{Cable}
use Rattle.fabric_parts.specs.declared.cable.PortRef.{PortRef}
use Rattle.port_model.specs.AdapterState.{AdapterState}
use Rattle.smp_wire.proofs.CableLemmas.{far_ends_meet, far_is_port}
use Rattle.smp_wire.specs.FabricState.{FabricState, adapter_port, is_port, is_switch, is_switch_at}
use Rattle.smp_wire.specs.Good.{IsGood, is_in_order, is_of, is_right, node_guid}
use Rattle.smp_wire.specs.declared.node.Node.{Node}
use Rattle.smp_wire.specs.declared.node.Node.TheVariants.{Switch, Adapter}
use Rattle.sweep.specs.EndPorts.{FabricPort, end_of_adapter, end_of_switch, end_port_in, end_ports_in, held_in, is_end_port_of}
use Rattle.sweep.specs.Graph.{GraphState}
use Rattle.sweep.specs.Laws.{GraphsHaveTheEndPorts}
use Rattle.sweep.specs.OfFabric.{Found, IsLayoutOf, is_among, node_at, nodes_of, port_seen, port_to, ports_at, all_ports, ports_up_to, switch_of}
use Rattle.sweep.specs.Seen.{name_at, seen_at, seen_in}
use Rattle.sweep.specs.declared.graph.GraphPort.{GraphPort}
use Rattle.sweep.specs.declared.graph.GraphSwitch.{GraphSwitch}
use Rattle.sweep.specs.declared.seen.Seen.{Seen}
use Rattle.sweep.proofs.CabledLemmas.{cabled_of, far_of}
use Rattle.sweep.proofs.FoundLemmas.{among_at, among_place, node_there}
use Rattle.sweep.proofs.LeastLemmas.{in_range}
use Rattle.sweep.proofs.MetLemmas.{good_once}
use Rattle.sweep.proofs.ProgressLemmas.{node_of}
use Rattle.sweep.proofs.VisitLemmas.{port_is}
use Rattle.sweep.proofs.WholeLemmas.{found_there}
use Rattle.sweep.proofs.OwnLemmas.{seen_of}
use Rattle.smp_wire.proofs.PresentLemmas.{present_right}

-- ---- elements of lists
pub there_is : {X : Type 0} (xs : List X) (k : ℕ) (x : X) → slice_get xs k ≡ Some x → Contains xs x
there_is xs k x there = subst (Contains xs) (get_or_from_slice_get xs k x x there) (Contains-get_or xs k x (slice_get_within xs k x there))

pub stands : {X : Type 0} (xs : List X) (x : X) → Contains xs x → (k : ℕ) × (slice_get xs k ≡ Some x)
stands xs x has = (has.0, slice_get-get_or xs has.0 x has.1 ∙ ap (λ (y : _). Some y) has.2)

made : {X Y : Type 0} (f : X → Y) (xs : List X) (y : Y) → Contains (map f xs) y → (k : ℕ) × (x : X) × (slice_get xs k ≡ Some x) × (f x ≡ y)
made {X = X} f xs y has =
    let at = stands (map f xs) y has in
    by at.0 (slice_get xs at.0) refl (sym (slice_get-map f xs at.0) ∙ at.1)
  where
    by : (k : ℕ) (o : Option X) → slice_get xs k ≡ o → option_map f o ≡ Some y → (k : ℕ) × (x : X) × (slice_get xs k ≡ Some x) × (f x ≡ y)
    by k None there is = absurd cc
    by k (Some x) there is = (k, x, there, same_Some (f x) y is)

makes : {X Y : Type 0} (f : X → Y) (xs : List X) (k : ℕ) (x : X) → slice_get xs k ≡ Some x → Contains (map f xs) (f x)
makes f xs k x there = there_is (map f xs) k (f x) (slice_get-map f xs k ∙ ap (option_map f) there)

-- what is made of the numbers of a range
pub in_all : {X : Type 0} (f : ℕ → List X) (a n k : ℕ) (x : X) → a ≤ k → k < a + n → Contains (f k) x → Contains (flat_map f (range_with_len a n)) x
in_all f a zero k x from to has = absurd (omega (arith, from, to))
in_all f a (suc n) k x from to has = by (a == k) refl (λ later. in_all f (a + 1) n k x later (omega (arith, to)) has)
  where
    by : (b : Bool) → (a == k) ≡ b → (a + 1 ≤ k → Contains (flat_map f (range_with_len (a + 1) n)) x)
        → Contains (f a ++ flat_map f (range_with_len (a + 1) n)) x
    by true is later =
        let same : k ≡ a = sym (eqb-true a k is) in
        Contains-append_left (f a) (flat_map f (range_with_len (a + 1) n)) x (subst (λ (n : ℕ). Contains (f n) x) same has)
    by false is later = Contains-append_right (f a) (flat_map f (range_with_len (a + 1) n)) x (later (after is))
      where
        after : (a == k) ≡ false → a + 1 ≤ k
        after h = grind (arith, nat_tests, h, from)

pub record MadeOf {X : Type 0} (f : ℕ → List X) (a n : ℕ) (x : X) : Type 0 where
  pub number : ℕ
  pub from : a ≤ number
  pub to : number < a + n
  pub has : Contains (f number) x

pub of_one : {X : Type 0} (f : ℕ → List X) (a n : ℕ) (x : X) → Contains (flat_map f (range_with_len a n)) x → MadeOf f a n x
of_one f a zero x has = absurd (none has)
  where
    none : Contains [] x → ⊥
    none has = omega (arith, has.1)
of_one f a (suc n) x has = by (Contains-append_cases (f a) (flat_map f (range_with_len (a + 1) n)) x has) (λ later. of_one f (a + 1) n x later)
  where
    by : Contains (f a) x ⊎ Contains (flat_map f (range_with_len (a + 1) n)) x
        → (Contains (flat_map f (range_with_len (a + 1) n)) x → MadeOf f (a + 1) n x) → MadeOf f a (suc n) x
    by (inl here) later = record { number = a; from = omega arith; to = omega arith; has = here }
    by (inr after) later =
        let rest = later after in
        record { number = rest.number; from = omega (arith, rest.from); to = omega (arith, rest.to); has = rest.has }

pub one_of : {X : Type 0} (x y : X) → Contains (x ∷ []) y → x ≡ y
one_of x y (zero, within, is) = is
one_of x y (suc k, within, is) = absurd (omega (arith, within))

-- ---- port 0 of a switch
switch_by : (fabric : FabricState) (one : Found) (o : Option Node) → slice_get fabric.nodes one.node ≡ o → option_map_or is_switch o false ≡ true
    → end_port_in fabric (port one.node 0) ≡ Some (end_of_switch (switch_of fabric one))
switch_by fabric one None there switch = absurd (false≢true switch)
switch_by fabric one (Some (Adapter ports)) there switch = absurd (false≢true switch)
switch_by fabric one (Some (Switch held)) there switch = rw there refl

switch_held : (fabric : FabricState) (one : Found) → is_switch_at fabric.nodes one.node ≡ true
    → end_port_in fabric (port one.node 0) ≡ Some (end_of_switch (switch_of fabric one))
switch_held fabric one switch = switch_by fabric one (slice_get fabric.nodes one.node) refl switch

-- ---- a port of an adapter
abbrev shown : FabricState → PortRef → PortRef → Seen → GraphPort
shown fabric at there seen = port_seen at (unwrap_or (name_at fabric there) []) seen

pub record AdapterAt (fabric : FabricState) (there : PortRef) : Type 0 where
  pub ports : List AdapterState
  pub one : AdapterState
  pub node : slice_get fabric.nodes there.node ≡ Some (Adapter ports)
  pub held : adapter_port ports there.port ≡ Some one

pub seen_is : (fabric : FabricState) (there : PortRef) (is : AdapterAt fabric there) → seen_at fabric there ≡ Some (seen_of is.ports there.port is.one)
seen_is fabric there is = rw (is.node, is.held) refl

-- it is of its node, and reports how many ports that has
of_its_node : (ports : List AdapterState) (number : ℕ) (one : AdapterState) (zero_port : Bool) → list_all (is_of (node_guid (Adapter ports)) (length ports)) ports ≡ true
    → (number == 0) ≡ zero_port → (if zero_port then None else slice_get ports (number - 1)) ≡ Some one → (one.node_guid ≡ node_guid (Adapter ports)) × (one.num_ports ≡ length ports)
of_its_node ports number one true order is held = absurd cc
of_its_node ports number one false order is held =
    let both = and_parts (one.node_guid == node_guid (Adapter ports)) _ (all_there (is_of (node_guid (Adapter ports)) (length ports)) ports (number - 1) one order held) in
    (eqb-true one.node_guid (node_guid (Adapter ports)) both.0, eqb-true one.num_ports (length ports) both.1)

end_is : (fabric : FabricState) (at there : PortRef) (is : AdapterAt fabric there) → IsGood fabric → is_end_port_of fabric there ≡ true
    → end_port_in fabric there ≡ Some (end_of_adapter (shown fabric at there (seen_of is.ports there.port is.one)))
end_is fabric at there is good end =
    let order : is_in_order (Adapter is.ports) ≡ true = all_there is_in_order fabric.nodes there.node (Adapter is.ports) good.order is.node in
    let own = of_its_node is.ports there.port is.one (there.port == 0) (and_parts (list_all (is_of (node_guid (Adapter is.ports)) (length is.ports)) is.ports) _ order).0 refl is.held in
    ap (λ (b : Bool). if b then option_and_then (λ node. held_in node there.port) (slice_get fabric.nodes there.node) else None) end
    ∙ (rw (is.node, is.held, own.0, own.1) refl)

adapter_by : {X : Type 0} (fabric : FabricState) (there : PortRef) (o : Option Node) (f : Node → ℕ → Option X) (x : X)
    → ((ports : List AdapterState) → adapter_port ports there.port ≡ None → f (Adapter ports) there.port ≡ None)
    → slice_get fabric.nodes there.node ≡ o → option_map_or is_switch o false ≡ false → option_and_then (λ node. f node there.port) o ≡ Some x → AdapterAt fabric there
adapter_by {X = X} fabric there None f x none node adapter is = absurd cc
adapter_by {X = X} fabric there (Some (Switch held)) f x none node adapter is = absurd (false≢true (sym adapter))
adapter_by {X = X} fabric there (Some (Adapter ports)) f x none node adapter is = by (adapter_port ports there.port) refl
  where
    by : (o : Option AdapterState) → adapter_port ports there.port ≡ o → AdapterAt fabric there
    by None held = absurd (nothing (sym (none ports held) ∙ is))
      where
        nothing : None ≡ Some x → ⊥
        nothing h = cc
    by (Some one) held = record { ports = ports; one = one; node = node; held = held }

adapter_seen : (fabric : FabricState) (there : PortRef) (seen : Seen) → is_switch_at fabric.nodes there.node ≡ false → seen_at fabric there ≡ Some seen
    → AdapterAt fabric there
adapter_seen fabric there seen adapter is =
    adapter_by fabric there (slice_get fabric.nodes there.node) seen_in seen (λ ports none. rw none refl) refl adapter is

adapter_end : (fabric : FabricState) (there : PortRef) (end : FabricPort) → is_switch_at fabric.nodes there.node ≡ false
    → option_and_then (λ node. held_in node there.port) (slice_get fabric.nodes there.node) ≡ Some end → AdapterAt fabric there
adapter_end fabric there end adapter is =
    adapter_by fabric there (slice_get fabric.nodes there.node) held_in end (λ ports none. rw none refl) refl adapter is

-- ---- what the graph has, the fabric has
abbrev Held : FabricState → FabricPort → Type 0
Held fabric end = (at : PortRef) × (end_port_in fabric at ≡ Some end)

switch_there : (fabric : FabricState) (found : List Found) (end : FabricPort) → ((node : ℕ) → is_among (nodes_of found) node ≡ is_switch_at fabric.nodes node)
    → Contains (map end_of_switch (map (switch_of fabric) found)) end → Held fabric end
switch_there fabric found end all has =
    let outer = made end_of_switch (map (switch_of fabric) found) end has in
    let inner = made (switch_of fabric) found outer.1 (there_is (map (switch_of fabric) found) outer.0 outer.1 outer.2) in
    let one = inner.1 in
    let switch : is_switch_at fabric.nodes one.node ≡ true = sym (all one.node) ∙ among_at (nodes_of found) inner.0 one.node (node_there found inner.0 one inner.2) in
    (port one.node 0, switch_held fabric one switch ∙ ap (λ (s : GraphSwitch). Some (end_of_switch s)) inner.3 ∙ ap (λ (e : FabricPort). Some e) outer.3)

pub is_an_end : (fabric : FabricState) (near there : PortRef) → IsGood fabric → is_switch_at fabric.nodes there.node ≡ false
    → far_end fabric.cables near ≡ Some there → is_end_port_of fabric there ≡ true
is_an_end fabric near there good adapter far =
    ap (λ (b : Bool). if b then there.port == 0 else is_port fabric.nodes there && is_cabled fabric.cables there) adapter
    ∙ and_from _ _ (far_is_port fabric.nodes fabric.cables near there (present_right good) far) (cabled_of fabric.cables there near (good_once fabric near there good far))

port_there : (fabric : FabricState) (at near : PortRef) (one : GraphPort) → IsGood fabric
    → Contains (option_map_or (port_to fabric at) (far_end fabric.cables near) []) one → Held fabric (end_of_adapter one)
port_there fabric at near one good has = by_far (far_end fabric.cables near) refl has
  where
    none : Contains [] one → ⊥
    none has = omega (arith, has.1)

    by_seen : (there : PortRef) → far_end fabric.cables near ≡ Some there → is_switch_at fabric.nodes there.node ≡ false → (o : Option Seen) → seen_at fabric there ≡ o
        → Contains (option_map_or (λ seen. shown fabric at there seen ∷ []) o []) one → Held fabric (end_of_adapter one)
    by_seen there far adapter None seen has = absurd (none has)
    by_seen there far adapter (Some some) seen has =
        let is = adapter_seen fabric there some adapter seen in
        let same : some ≡ seen_of is.ports there.port is.one = same_Some _ _ (sym seen ∙ seen_is fabric there is) in (
          there,
          end_is fabric at there is good (is_an_end fabric near there good adapter far)
              ∙ ap (λ (s : Seen). Some (end_of_adapter (shown fabric at there s))) (sym same)
              ∙ ap (λ (p : GraphPort). Some (end_of_adapter p)) (one_of (shown fabric at there some) one has),
        )

    by_kind : (there : PortRef) → far_end fabric.cables near ≡ Some there → (b : Bool) → is_switch_at fabric.nodes there.node ≡ b
        → Contains (if b then [] else option_map_or (λ seen. shown fabric at there seen ∷ []) (seen_at fabric there) []) one → Held fabric (end_of_adapter one)
    by_kind there far true kind has = absurd (none has)
    by_kind there far false kind has = by_seen there far kind (seen_at fabric there) refl has

    by_far : (o : Option PortRef) → far_end fabric.cables near ≡ o → Contains (option_map_or (port_to fabric at) o []) one → Held fabric (end_of_adapter one)
    by_far None far has = absurd (none has)
    by_far (Some there) far has = by_kind there far (is_switch_at fabric.nodes there.node) refl has

ports_there : (fabric : FabricState) (found : List Found) (end : FabricPort) → IsGood fabric → Contains (map end_of_adapter (all_ports fabric found)) end → Held fabric end
ports_there fabric found end good has =
    let at = made end_of_adapter (all_ports fabric found) end has in
    let place = of_one (λ place. ports_up_to fabric place (node_at found place) (ports_at fabric (node_at found place))) 0 (length found) at.1
    (there_is (all_ports fabric found) at.0 at.1 at.2) in
    let number = of_one (λ number. option_map_or (port_to fabric (port place.number number)) (far_end fabric.cables (port (node_at found place.number) number)) [])
    1 (ports_at fabric (node_at found place.number)) at.1 place.has in
    let there = port_there fabric (port place.number number.number) (port (node_at found place.number) number.number) at.1 good number.has in
    (there.0, there.1 ∙ ap (λ (e : FabricPort). Some e) at.3)

-- ---- what the fabric has, the graph has
switch_has : (fabric : FabricState) (found : List Found) (at : PortRef) (end : FabricPort) → is_among (nodes_of found) at.node ≡ true
    → is_switch_at fabric.nodes at.node ≡ true → at.port ≡ 0 → end_port_in fabric at ≡ Some end → Contains (map end_of_switch (map (switch_of fabric) found)) end
switch_has fabric found at end among switch zero_port is =
    let place = among_place (nodes_of found) at.node among in
    let one = found_there found place.0 at.node place.1 in
    let here : at ≡ port one.0.node 0 = λ i. record { node = sym one.2 i; port = zero_port i } in
    let same : end_of_switch (switch_of fabric one.0) ≡ end =
    same_Some _ end (sym (switch_held fabric one.0 (ap (is_switch_at fabric.nodes) one.2 ∙ switch)) ∙ ap (end_port_in fabric) (sym here) ∙ is) in
    subst (Contains (map end_of_switch (map (switch_of fabric) found))) same
    (makes end_of_switch (map (switch_of fabric) found) place.0 (switch_of fabric one.0)
    (slice_get-map (switch_of fabric) found place.0 ∙ ap (option_map (switch_of fabric)) one.1))

-- a cable of an adapter leads to a switch
pub to_switch : (fabric : FabricState) (at back : PortRef) → IsGood fabric → is_switch_at fabric.nodes at.node ≡ false → far_end fabric.cables at ≡ Some back
    → is_switch_at fabric.nodes back.node ≡ true
to_switch fabric at back good adapter far =
    ap (λ (b : Bool). b || is_switch_at fabric.nodes back.node) (sym adapter)
    ∙ far_ends_meet (λ a b. is_switch_at fabric.nodes a.node || is_switch_at fabric.nodes b.node ≡ true) (is_right fabric.nodes) either fabric.cables at back (present_right good) far
  where
    turned : (a b : Bool) → a || b ≡ true → b || a ≡ true
    turned true b h = or-true b
    turned false true h = refl
    turned false false h = h

    either : (cable : Cable) → is_right fabric.nodes cable ≡ true
        → (is_switch_at fabric.nodes cable.first.node || is_switch_at fabric.nodes cable.second.node ≡ true)
        × (is_switch_at fabric.nodes cable.second.node || is_switch_at fabric.nodes cable.first.node ≡ true)
    either cable right =
        let one = and_parts (is_port fabric.nodes cable.first) _ right in
        let two = and_parts (is_port fabric.nodes cable.second) _ one.1 in
        let three = and_parts (not (cable.first.node == cable.second.node)) _ two.1 in
        (three.1, turned (is_switch_at fabric.nodes cable.first.node) _ three.1)

-- where the port of an adapter is attached: the place of the switch at the other end of its cable, and that switch's port
pub record AttachedAt (fabric : FabricState) (found : List Found) (at : PortRef) (there : AdapterAt fabric at) : Type 0 where
  pub place : ℕ
  pub number : ℕ
  pub home : far_end fabric.cables (port (node_at found place) number) ≡ Some at
  pub among : Contains (all_ports fabric found) (shown fabric (port place number) at (seen_of there.ports at.port there.one))

pub attached : (fabric : FabricState) (found : List Found) (at : PortRef) → IsGood fabric
    → ((node : ℕ) → is_among (nodes_of found) node ≡ is_switch_at fabric.nodes node) → is_switch_at fabric.nodes at.node ≡ false
    → is_cabled fabric.cables at ≡ true → (there : AdapterAt fabric at) → AttachedAt fabric found at there
attached fabric found at good all adapter cabled there =
    let far = far_of fabric.cables at cabled in
    let back = far.0 in
    let home : far_end fabric.cables (port back.node back.port) ≡ Some at = good_once fabric at back good far.1 in
    let range = in_range fabric back.node back.port (far_is_port fabric.nodes fabric.cables at back (present_right good) far.1) in
    let place = among_place (nodes_of found) back.node (all back.node ∙ to_switch fabric at back good adapter far.1) in
    let one = found_there found place.0 back.node place.1 in
    let node : node_at found place.0 ≡ back.node = node_of found place.0 one.0 one.1 ∙ one.2 in
    let seen = seen_of there.ports at.port there.one in
    let met = shown fabric (port place.0 back.port) at seen in
    let home_of : far_end fabric.cables (port (node_at found place.0) back.port) ≡ Some at =
    ap (λ (n : ℕ). far_end fabric.cables (port n back.port)) node ∙ home in
    let here : Contains (option_map_or (port_to fabric (port place.0 back.port)) (far_end fabric.cables (port (node_at found place.0) back.port)) []) met =
    subst (λ (o : Option PortRef). Contains (option_map_or (port_to fabric (port place.0 back.port)) o []) met) (sym home_of)
    (subst (λ (some : List GraphPort). Contains some met) (sym (port_is fabric (port place.0 back.port) at seen adapter (seen_is fabric at there)))
    (there_is (met ∷ []) 0 met refl)) in
    record {
      place = place.0;
      number = back.port;
      home = home_of;
      among = in_all (λ place. ports_up_to fabric place (node_at found place) (ports_at fabric (node_at found place))) 0 (length found) place.0 met (omega arith)
          (omega (arith, slice_get_within found place.0 one.0 one.1))
          (in_all (λ number. option_map_or (port_to fabric (port place.0 number)) (far_end fabric.cables (port (node_at found place.0) number)) [])
          1 (ports_at fabric (node_at found place.0)) back.port met range.0 (rw node (omega (arith, range.1))) here);
    }

port_has : (fabric : FabricState) (found : List Found) (at : PortRef) (end : FabricPort) → IsGood fabric
    → ((node : ℕ) → is_among (nodes_of found) node ≡ is_switch_at fabric.nodes node) → is_switch_at fabric.nodes at.node ≡ false
    → is_end_port_of fabric at ≡ true → is_cabled fabric.cables at ≡ true → end_port_in fabric at ≡ Some end → AdapterAt fabric at
    → Contains (map end_of_adapter (all_ports fabric found)) end
port_has fabric found at end good all adapter is_end cabled is there =
    let at_switch = attached fabric found at good all adapter cabled there in
    let here = port at_switch.place at_switch.number in
    let met = shown fabric here at (seen_of there.ports at.port there.one) in
    let same : end_of_adapter met ≡ end = same_Some _ end (sym (end_is fabric here at there good is_end) ∙ is) in
    let stood = stands (all_ports fabric found) met at_switch.among in
    subst (Contains (map end_of_adapter (all_ports fabric found))) same (makes end_of_adapter (all_ports fabric found) stood.0 met stood.1)

-- ---- both
abbrev EndsOf : FabricState → List Found → List FabricPort
EndsOf fabric found = map end_of_switch (map (switch_of fabric) found) ++ map end_of_adapter (all_ports fabric found)

has_end : (fabric : FabricState) (found : List Found) (at : PortRef) (end : FabricPort) → IsGood fabric
    → ((node : ℕ) → is_among (nodes_of found) node ≡ is_switch_at fabric.nodes node) → end_port_in fabric at ≡ Some end → Contains (EndsOf fabric found) end
has_end fabric found at end good all is = by (is_switch_at fabric.nodes at.node) refl (is_end_port_of fabric at) refl is
  where
    switches : List FabricPort
    switches = map end_of_switch (map (switch_of fabric) found)

    ports : List FabricPort
    ports = map end_of_adapter (all_ports fabric found)

    by : (b : Bool) → is_switch_at fabric.nodes at.node ≡ b → (e : Bool) → is_end_port_of fabric at ≡ e
        → (if e then option_and_then (λ node. held_in node at.port) (slice_get fabric.nodes at.node) else None) ≡ Some end → Contains (EndsOf fabric found) end
    by b kind false ends h = absurd cc
    by true kind true ends h =
        let number : (at.port == 0) ≡ true =
        sym (ap (λ (b : Bool). if b then at.port == 0 else is_port fabric.nodes at && is_cabled fabric.cables at) kind) ∙ ends in
        Contains-append_left switches ports end (switch_has fabric found at end (all at.node ∙ kind) kind (eqb-true at.port 0 number) is)
    by false kind true ends h =
        let both : is_port fabric.nodes at && is_cabled fabric.cables at ≡ true =
        sym (ap (λ (b : Bool). if b then at.port == 0 else is_port fabric.nodes at && is_cabled fabric.cables at) kind) ∙ ends in
        Contains-append_right switches ports end
        (port_has fabric found at end good all kind ends (and_parts (is_port fabric.nodes at) _ both).1 is (adapter_end fabric at end kind h))

pub graphs_have_the_end_ports : GraphsHaveTheEndPorts
graphs_have_the_end_ports fabric graph end good is = (from, to)
  where
    same : end_ports_in graph ≡ EndsOf fabric is.found
    same = rw (is.switches, is.ports) refl

    from : Contains (end_ports_in graph) end → Held fabric end
    from has =
        by (Contains-append_cases (map end_of_switch (map (switch_of fabric) is.found)) (map end_of_adapter (all_ports fabric is.found)) end
        (subst (λ (all : List FabricPort). Contains all end) same has))
      where
        by : Contains (map end_of_switch (map (switch_of fabric) is.found)) end ⊎ Contains (map end_of_adapter (all_ports fabric is.found)) end → Held fabric end
        by (inl here) = switch_there fabric is.found end is.all here
        by (inr here) = ports_there fabric is.found end good here

    to : Held fabric end → Contains (end_ports_in graph) end
    to at = subst (λ (all : List FabricPort). Contains all end) (sym same) (has_end fabric is.found at.0 end good is.all at.1)

-- the subnet manager's is among them
pub manager_end : (fabric : FabricState) (graph : GraphState) (end : FabricPort) → IsGood fabric → IsLayoutOf graph fabric
    → end_port_in fabric fabric.manager ≡ Some end → end.guid ≡ graph.manager
manager_end fabric graph end good is held =
    let is_end : is_end_port_of fabric fabric.manager ≡ true =
    ap (λ (b : Bool). if b then fabric.manager.port == 0 else is_port fabric.nodes fabric.manager && is_cabled fabric.cables fabric.manager) good.manager_adapter
    ∙ and_from _ _ good.manager_port good.manager_cabled in
    let there = adapter_end fabric fabric.manager end good.manager_adapter
    (ap (λ (b : Bool). if b then option_and_then (λ node. held_in node fabric.manager.port) (slice_get fabric.nodes fabric.manager.node) else None) (sym is_end) ∙ held) in
    let shown_as : end_of_adapter (shown fabric fabric.manager fabric.manager (seen_of there.ports fabric.manager.port there.one)) ≡ end =
    same_Some _ end (sym (end_is fabric fabric.manager fabric.manager there good is_end) ∙ held) in
    ap (λ (e : FabricPort). e.guid) (sym shown_as)
    ∙ same_Some there.one.port_guid graph.manager (ap (option_map (λ (seen : Seen). seen.port_guid)) (sym (seen_is fabric fabric.manager there)) ∙ is.manager)
