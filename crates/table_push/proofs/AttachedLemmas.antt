-- The ports in the graph of a fabric: where the paths lead that go to them, and what reports them apart.
use Rattle.std.proofs.Common.{ℕ, zero, suc, ◌≡◌, ◌≤◌, ◌==◌, ◌&&◌, ◌||◌, not, ◌∙◌, ap, refl, sym, subst, Bool, true, false, if◌then◌else◌, List, [], ◌∷◌, ◌++◌, length, slice_get, Option, Some, None, unwrap_or, arith}
use Rattle.std.specs.List.{Contains, find, list_all}
use Rattle.std.specs.Option.{option_map_or}
use Rattle.std.proofs.lemmas.Bool.{and_parts, eq-eqb, false≢true}
use Rattle.std.proofs.lemmas.Option.{same_Some}
use Rattle.fabric_parts.specs.Cable.{far_end, port}
use Rattle.fabric_parts.specs.declared.cable.PortRef.{PortRef}
use Rattle.step_results.proofs.ListLemmas.{all_have, all_there}
use Rattle.smp_wire.proofs.CableLemmas.{cabled_is_port, far_is_port}
use Rattle.smp_wire.specs.FabricState.{FabricState, is_switch_at}
use Rattle.smp_wire.specs.Good.{IsGood, node_guid}
use Rattle.smp_wire.specs.Walk.{end_of}
use Rattle.smp_wire.specs.declared.node.Node.{Node}
use Rattle.sweep.specs.Graph.{GraphState, agree, all_agree}
use Rattle.sweep.specs.OfFabric.{Found, IsGraphOf, Leads, all_ports, guid_at, node_at, nodes_of, port_seen, port_to, ports_at, ports_up_to}
use Rattle.sweep.specs.Seen.{name_at, seen_at}
use Rattle.sweep.specs.declared.graph.GraphPort.{GraphPort}
use Rattle.sweep.specs.declared.graph.GraphSwitch.{GraphSwitch}
use Rattle.sweep.specs.declared.seen.Seen.{Seen}
use Rattle.sweep.proofs.CabledLemmas.{end_more}
use Rattle.sweep.proofs.EndPortLemmas.{of_one, one_of, there_is}
use Rattle.sweep.proofs.FoundLemmas.{among_at, node_there}
use Rattle.sweep.proofs.LeastLemmas.{in_range}
use Rattle.sweep.proofs.OwnLemmas.{adapter_seen}
use Rattle.sweep.proofs.ProgressLemmas.{node_of}
use Rattle.table_push.specs.Pushes.{IsAskedFor, LeadsToPort}
use Rattle.table_push.proofs.LeadLemmas.{found_at_place}
use Rattle.smp_wire.proofs.PresentLemmas.{present_right}

-- ---- ports of switches
pub switch_leads : (fabric : FabricState) (graph : GraphState) (place number : ℕ) (switch : GraphSwitch) → IsGraphOf graph fabric
    → slice_get graph.switches place ≡ Some switch → number ≤ switch.num_ports → LeadsToPort fabric switch.path number switch.guid number
switch_leads fabric graph place number switch of there within =
    let at = found_at_place fabric of.layout.found place switch (ap (λ (switches : List GraphSwitch). slice_get switches place) (sym of.layout.switches) ∙ there) in
    let leads = all_have (Leads fabric) of.layout.found place at.0 of.lead at.1 in
    let among = among_at (nodes_of of.layout.found) place at.0.node (node_there of.layout.found place at.0 at.1) in
    let is : is_switch_at fabric.nodes leads.at.node ≡ true =
    ap (λ (node : ℕ). is_switch_at fabric.nodes node) leads.node ∙ sym (of.layout.all at.0.node) ∙ among in
    let count : switch.num_ports ≡ ports_at fabric leads.at.node = ap (λ (one : GraphSwitch). one.num_ports) at.2 ∙ ap (ports_at fabric) (sym leads.node) in
    let fits : number ≤ ports_at fabric leads.at.node = omega (arith, within, count) in
    let asked : IsAskedFor true (ports_at fabric leads.at.node) leads.at.port number number = (refl, fits) in
    subst (λ (one : GraphSwitch). LeadsToPort fabric one.path number one.guid number) (sym at.2)
    (record {
      at = leads.at;
      ends = leads.ends;
      guid_is = ap (guid_at fabric) leads.node;
      there = subst (λ (b : Bool). IsAskedFor b (ports_at fabric leads.at.node) leads.at.port number number) (sym is) asked;
    })

-- ---- ports of adapters
-- what is behind a port of a switch
record Behind (fabric : FabricState) (at near : PortRef) (one : GraphPort) : Type 0 where
  there : PortRef
  seen : Seen
  cable : far_end fabric.cables near ≡ Some there
  adapter : is_switch_at fabric.nodes there.node ≡ false
  seen_is : seen_at fabric there ≡ Some seen
  is : one ≡ port_seen at (unwrap_or (name_at fabric there) []) seen

behind : (fabric : FabricState) (at near : PortRef) (one : GraphPort)
    → Contains (option_map_or (port_to fabric at) (far_end fabric.cables near) []) one → Behind fabric at near one
behind fabric at near one has = by_far (far_end fabric.cables near) refl has
  where
    none : Contains [] one → ⊥
    none has = omega (arith, has.1)

    by_seen : (there : PortRef) → far_end fabric.cables near ≡ Some there → is_switch_at fabric.nodes there.node ≡ false → (o : Option Seen) → seen_at fabric there ≡ o
        → Contains (option_map_or (λ seen. port_seen at (unwrap_or (name_at fabric there) []) seen ∷ []) o []) one → Behind fabric at near one
    by_seen there far adapter None seen has = absurd (none has)
    by_seen there far adapter (Some some) seen has = record {
      there = there;
      seen = some;
      cable = far;
      adapter = adapter;
      seen_is = seen;
      is = sym (one_of (port_seen at (unwrap_or (name_at fabric there) []) some) one has);
    }

    by_kind : (there : PortRef) → far_end fabric.cables near ≡ Some there → (b : Bool) → is_switch_at fabric.nodes there.node ≡ b
        → Contains (if b then [] else option_map_or (λ seen. port_seen at (unwrap_or (name_at fabric there) []) seen ∷ []) (seen_at fabric there) []) one
        → Behind fabric at near one
    by_kind there far true kind has = absurd (none has)
    by_kind there far false kind has = by_seen there far kind (seen_at fabric there) refl has

    by_far : (o : Option PortRef) → far_end fabric.cables near ≡ o → Contains (option_map_or (port_to fabric at) o []) one → Behind fabric at near one
    by_far None far has = absurd (none has)
    by_far (Some there) far has = by_kind there far (is_switch_at fabric.nodes there.node) refl has

-- it is attached to a switch that was found
record Attached (fabric : FabricState) (found : List Found) (one : GraphPort) : Type 0 where
  place : ℕ
  number : ℕ
  behind : Behind fabric (port place number) (port (node_at found place) number) one

attached : (fabric : FabricState) (found : List Found) (one : GraphPort) → Contains (all_ports fabric found) one → Attached fabric found one
attached fabric found one has =
    let place = of_one (λ place. ports_up_to fabric place (node_at found place) (ports_at fabric (node_at found place))) 0 (length found) one has in
    let number = of_one (λ number. option_map_or (port_to fabric (port place.number number)) (far_end fabric.cables (port (node_at found place.number) number)) [])
    1 (ports_at fabric (node_at found place.number)) one place.has in
    record {
      place = place.number;
      number = number.number;
      behind = behind fabric (port place.number number.number) (port (node_at found place.number) number.number) one number.has;
    }

hung : (fabric : FabricState) (graph : GraphState) (k : ℕ) (one : GraphPort) → (of : IsGraphOf graph fabric) → slice_get graph.ports k ≡ Some one
    → Attached fabric of.layout.found one
hung fabric graph k one of there =
    attached fabric of.layout.found one (there_is (all_ports fabric of.layout.found) k one (ap (λ (ports : List GraphPort). slice_get ports k) (sym of.layout.ports) ∙ there))

-- what is at the other end of the cable that it is attached to
pub record IsHung (fabric : FabricState) (found : List Found) (one : GraphPort) : Type 0 where
  pub there : PortRef
  pub cable : far_end fabric.cables (port (node_at found one.at.node) one.at.port) ≡ Some there
  pub adapter : is_switch_at fabric.nodes there.node ≡ false
  pub seen : Seen
  pub seen_is : seen_at fabric there ≡ Some seen
  pub guid_is : seen.port_guid ≡ one.port_guid
  pub node_is : seen.node_guid ≡ one.node_guid
  pub number_is : seen.local_port_num ≡ one.number

pub is_hung : (fabric : FabricState) (graph : GraphState) (k : ℕ) (one : GraphPort) → (of : IsGraphOf graph fabric) → slice_get graph.ports k ≡ Some one
    → IsHung fabric of.layout.found one
is_hung fabric graph k one of there =
    let a = hung fabric graph k one of there in
    let at : one.at ≡ port a.place a.number = ap (λ (p : GraphPort). p.at) a.behind.is in
    record {
      there = a.behind.there;
      cable = ap (λ (p : PortRef). far_end fabric.cables (port (node_at of.layout.found p.node) p.port)) at ∙ a.behind.cable;
      adapter = a.behind.adapter;
      seen = a.behind.seen;
      seen_is = a.behind.seen_is;
      guid_is = sym (ap (λ (p : GraphPort). p.port_guid) a.behind.is);
      node_is = sym (ap (λ (p : GraphPort). p.node_guid) a.behind.is);
      number_is = sym (ap (λ (p : GraphPort). p.number) a.behind.is);
    }

-- at one port of a switch there is one
pub one_is_attached : (fabric : FabricState) (graph : GraphState) (j k : ℕ) (one other : GraphPort) → IsGraphOf graph fabric → slice_get graph.ports j ≡ Some one
    → slice_get graph.ports k ≡ Some other → one.at ≡ other.at → one ≡ other
one_is_attached fabric graph j k one other of first second same =
    let a = hung fabric graph j one of first in
    let b = hung fabric graph k other of second in
    let at : port a.place a.number ≡ port b.place b.number =
    ap (λ (p : GraphPort). p.at) (sym a.behind.is) ∙ same ∙ ap (λ (p : GraphPort). p.at) b.behind.is in
    let near = ap (λ (p : PortRef). far_end fabric.cables (port (node_at of.layout.found p.node) p.port)) at in
    let there : a.behind.there ≡ b.behind.there = same_Some _ _ (sym a.behind.cable ∙ near ∙ b.behind.cable) in
    let seen : a.behind.seen ≡ b.behind.seen = same_Some _ _ (sym a.behind.seen_is ∙ ap (seen_at fabric) there ∙ b.behind.seen_is) in
    let shown : port_seen (port a.place a.number) (unwrap_or (name_at fabric a.behind.there) []) a.behind.seen
    ≡ port_seen (port b.place b.number) (unwrap_or (name_at fabric b.behind.there) []) b.behind.seen =
    λ i. port_seen (at i) (unwrap_or (name_at fabric (there i)) []) (seen i) in
    a.behind.is ∙ shown ∙ sym b.behind.is

-- the path to the switch goes on to the port
pub adapter_leads : (fabric : FabricState) (graph : GraphState) (k : ℕ) (one : GraphPort) (switch : GraphSwitch) → IsGood fabric → IsGraphOf graph fabric
    → slice_get graph.ports k ≡ Some one → slice_get graph.switches one.at.node ≡ Some switch
    → LeadsToPort fabric (switch.path ++ one.at.port ∷ []) 0 one.node_guid one.number
adapter_leads fabric graph k one switch good of there home =
    let a = hung fabric graph k one of there in
    let end = a.behind.there in
    let at : one.at ≡ port a.place a.number = ap (λ (p : GraphPort). p.at) a.behind.is in
    let f = found_at_place fabric of.layout.found a.place switch
    (ap (λ (switches : List GraphSwitch). slice_get switches a.place) (sym of.layout.switches) ∙ ap (λ (p : PortRef). slice_get graph.switches p.node) (sym at) ∙ home) in
    let leads = all_have (Leads fabric) of.layout.found a.place f.0 of.lead f.1 in
    let among = among_at (nodes_of of.layout.found) a.place f.0.node (node_there of.layout.found a.place f.0 f.1) in
    let switch_there : is_switch_at fabric.nodes leads.at.node ≡ true =
    ap (λ (node : ℕ). is_switch_at fabric.nodes node) leads.node ∙ sym (of.layout.all f.0.node) ∙ among in
    let node : node_at of.layout.found a.place ≡ leads.at.node = node_of of.layout.found a.place f.0 f.1 ∙ sym leads.node in
    let cable : far_end fabric.cables (port leads.at.node a.number) ≡ Some end =
    ap (λ (n : ℕ). far_end fabric.cables (port n a.number)) (sym node) ∙ a.behind.cable in
    let ends = end_more fabric f.0.path leads.at end a.number leads.ends switch_there
    (cabled_is_port fabric.nodes fabric.cables (port leads.at.node a.number) end (present_right good) cable) cable in
    let seen = adapter_seen fabric end a.behind.seen a.behind.adapter a.behind.seen_is in
    let range = in_range fabric end.node end.port (far_is_port fabric.nodes fabric.cables (port leads.at.node a.number) end (present_right good) cable) in
    let guid : guid_at fabric end.node ≡ one.node_guid =
    ap (λ (o : Option Node). option_map_or node_guid o 0) seen.there ∙ sym seen.guid ∙ ap (λ (p : GraphPort). p.node_guid) (sym a.behind.is) in
    let number : end.port ≡ one.number = sym seen.number ∙ ap (λ (p : GraphPort). p.number) (sym a.behind.is) in
    let first : 1 ≤ one.number = omega (arith, range.0, number) in
    let last : one.number ≤ ports_at fabric end.node = omega (arith, range.1, number) in
    let asked : IsAskedFor false (ports_at fabric end.node) end.port 0 one.number = (refl, number, first, last) in
    let path : switch.path ++ one.at.port ∷ [] ≡ f.0.path ++ a.number ∷ [] =
    ap (λ (s : GraphSwitch). s.path ++ one.at.port ∷ []) f.2 ∙ ap (λ (p : PortRef). f.0.path ++ p.port ∷ []) at in
    record {
      at = end;
      ends = ap (end_of fabric) path ∙ ends;
      guid_is = guid;
      there = subst (λ (b : Bool). IsAskedFor b (ports_at fabric end.node) end.port 0 one.number) (sym a.behind.adapter) asked;
    }

-- ---- what reports them apart
agree_apart : (one other : GraphPort) → agree one other ≡ true → one.node_guid ≡ other.node_guid → one.number ≡ other.number → ⊥
agree_apart one other agrees guid number =
    let a = eq-eqb one.node_guid other.node_guid guid in
    let b = eq-eqb one.number other.number number in
    false≢true (sym (clash (one.node_guid == other.node_guid) (one.num_ports == other.num_ports) (one.number == other.number) a b) ∙ agrees)
  where
    clash : (a c b : Bool) → a ≡ true → b ≡ true → (not a || (c && not b)) ≡ false
    clash true true true is also = refl
    clash true false true is also = refl
    clash true true false is also = absurd (false≢true also)
    clash true false false is also = refl
    clash false c b is also = absurd (false≢true is)

-- two ports of one adapter have two numbers
pub one_number : (ports : List GraphPort) (j k : ℕ) (one other : GraphPort) → all_agree ports ≡ true → slice_get ports j ≡ Some one
    → slice_get ports k ≡ Some other → one.node_guid ≡ other.node_guid → one.number ≡ other.number → one ≡ other
one_number [] j k one other agrees first second guid number = absurd (cc)
one_number (p ∷ ports) zero zero one other agrees first second guid number = sym (same_Some p one first) ∙ same_Some p other second
one_number (p ∷ ports) zero (suc k) one other agrees first second guid number =
    let head = all_there (agree p) ports k other (and_parts (list_all (agree p) ports) (all_agree ports) agrees).0 second in
    absurd (agree_apart one other (subst (λ (x : GraphPort). agree x other ≡ true) (same_Some p one first) head) guid number)
one_number (p ∷ ports) (suc j) zero one other agrees first second guid number =
    let head = all_there (agree p) ports j one (and_parts (list_all (agree p) ports) (all_agree ports) agrees).0 first in
    absurd (agree_apart other one (subst (λ (x : GraphPort). agree x one ≡ true) (same_Some p other second) head) (sym guid) (sym number))
one_number (p ∷ ports) (suc j) (suc k) one other agrees first second guid number =
    one_number ports j k one other (and_parts (list_all (agree p) ports) (all_agree ports) agrees).1 first second guid number

-- ---- the first that passes
found_by : {X : Type 0} (p : X → Bool) (y : X) (xs : List X) (b : Bool) → p y ≡ b → find p (y ∷ xs) ≡ (if b then Some y else find p xs)
found_by p y xs true is = rw is refl
found_by p y xs false is = rw is refl

pub found_own : {X : Type 0} (p : X → Bool) (xs : List X) (k : ℕ) (x : X) → slice_get xs k ≡ Some x → p x ≡ true
    → ((j : ℕ) (y : X) → slice_get xs j ≡ Some y → p y ≡ true → y ≡ x) → find p xs ≡ Some x
found_own p [] k x there passes own = absurd (cc)
found_own {X = X} p (y ∷ xs) k x there passes own =
    by (p y) refl k there (λ j at. found_own p xs j x at passes (λ i z here passing. own (suc i) z here passing))
  where
    by : (b : Bool) → p y ≡ b → (k : ℕ) → slice_get (y ∷ xs) k ≡ Some x → ((j : ℕ) → slice_get xs j ≡ Some x → find p xs ≡ Some x)
        → find p (y ∷ xs) ≡ Some x
    by true is k there later = found_by p y xs true is ∙ ap (λ (z : X). Some z) (own 0 y refl is)
    by false is zero there later = absurd (false≢true (sym is ∙ ap p (same_Some y x there) ∙ passes))
    by false is (suc k) there later = found_by p y xs false is ∙ later k there

pub found_is : {X : Type 0} (p : X → Bool) (xs : List X) (x : X) → find p xs ≡ Some x → (k : ℕ) × (slice_get xs k ≡ Some x) × (p x ≡ true)
found_is p [] x is = absurd (cc)
found_is {X = X} p (y ∷ xs) x is = by (p y) refl (λ later. found_is p xs x later)
  where
    by : (b : Bool) → p y ≡ b → (find p xs ≡ Some x → (k : ℕ) × (slice_get xs k ≡ Some x) × (p x ≡ true))
        → (k : ℕ) × (slice_get (y ∷ xs) k ≡ Some x) × (p x ≡ true)
    by true passes later =
        let same : y ≡ x = same_Some y x (sym (found_by p y xs true passes) ∙ is) in
        (0, ap (λ (z : X). Some z) same, ap p (sym same) ∙ passes)
    by false fails later =
        let rest = later (sym (found_by p y xs false fails) ∙ is) in
        (suc rest.0, rest.1, rest.2)
