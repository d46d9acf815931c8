-- In a good fabric no two nodes, and no two ends of packets, have one GUID.
use Rattle.std.proofs.Common.{ℕ, zero, suc, ◌-◌, ◌≡◌, ◌∙◌, ◌==◌, ◌||◌, ap, refl, sym, subst, Bool, true, false, if◌then◌else◌, List, [], ◌∷◌, ◌++◌}
use Rattle.std.proofs.Common.{flat_map, length, map, slice_get, Option, Some, None, option_map}
use Rattle.std.proofs.Math.Bool.{or-true}
use Rattle.std.specs.List.{AllByRecursion, IsDistinct}
use Rattle.std.specs.Option.{option_and_then, option_map_or}
use Rattle.std.proofs.lemmas.Bool.{false≢true}
use Rattle.std.proofs.lemmas.Bool.Decides.{Decides-eqb}
use Rattle.std.proofs.lemmas.List.Folds.{list_any-append}
use Rattle.std.proofs.lemmas.Map.Keys.{IsDistinct-cons, IsDistinct-head, IsDistinct-tail}
use Rattle.std.proofs.lemmas.Option.{same_Some, slice_get-map}
use Rattle.fabric_parts.specs.declared.cable.PortRef.{PortRef}
use Rattle.fabric_parts.specs.declared.node_type.NodeType.TheVariants as node_type
use Rattle.port_model.specs.AdapterState.{AdapterState}
use Rattle.step_results.proofs.DistinctLemmas.{left_part, right_part}
use Rattle.smp_wire.specs.FabricState.{FabricState, is_switch, is_switch_at}
use Rattle.smp_wire.specs.Good.{IsGood, end_port_guids, node_guid}
use Rattle.smp_wire.specs.declared.node.Node.{Node}
use Rattle.smp_wire.specs.declared.node.Node.TheVariants.{Switch, Adapter}
use Rattle.sweep.specs.OfFabric.{guid_at, is_among, ports_at}
use Rattle.sweep.specs.Seen.{seen_at, seen_in}
use Rattle.sweep.specs.declared.seen.Seen.{Seen}
use Rattle.sweep.proofs.FoundLemmas.{among_at, one_place}

-- ---- numbers
rec_none : (x : ℕ) (xs : List ℕ) → AllByRecursion (λ y. (x == y) ≡ false) xs → is_among xs x ≡ true → ⊥
rec_none x [] all among = false≢true among
rec_none x (y ∷ xs) all among = by (y == x) refl (λ later. rec_none x xs all.1 later)
  where
    by : (b : Bool) → (y == x) ≡ b → (is_among xs x ≡ true → ⊥) → ⊥
    by true is later = false≢true (sym all.0 ∙ (Decides-eqb x y).1 (sym ((Decides-eqb y x).0 is)))
    by false is later = later (ap (λ (b : Bool). b || is_among xs x) (sym is) ∙ among)

cross : (xs ys : List ℕ) (x : ℕ) → IsDistinct (λ a b. a == b) (xs ++ ys) → is_among xs x ≡ true → is_among ys x ≡ true → ⊥
cross [] ys x once one other = false≢true one
cross (y ∷ xs) ys x once one other = by (y == x) refl (λ later. cross xs ys x (IsDistinct-tail (λ a b. a == b) y (xs ++ ys) once) later other)
  where
    by : (b : Bool) → (y == x) ≡ b → (is_among xs x ≡ true → ⊥) → ⊥
    by true is later =
        let same : y ≡ x = (Decides-eqb y x).0 is in
        rec_none y (xs ++ ys) (IsDistinct-head (λ a b. a == b) y (xs ++ ys) once)
        (list_any-append (λ one. one == y) xs ys ∙ rw (same, other) (or-true (is_among xs x)))
    by false is later = later (ap (λ (b : Bool). b || is_among xs x) (sym is) ∙ one)

pub joined_parts : (xs ys : List ℕ) → IsDistinct (λ a b. a == b) xs → IsDistinct (λ a b. a == b) ys
    → ((x : ℕ) → is_among xs x ≡ true → is_among ys x ≡ true → ⊥) → IsDistinct (λ a b. a == b) (xs ++ ys)
joined_parts [] ys one other apart = other
joined_parts (x ∷ xs) ys one other apart =
    IsDistinct-cons (λ a b. a == b) x (xs ++ ys) (rest xs ys (IsDistinct-head (λ a b. a == b) x xs one) (none ys (apart x (rw ((Decides-eqb x x).1 refl) refl))))
    (joined_parts xs ys (IsDistinct-tail (λ a b. a == b) x xs one) other (λ y among among_other. apart y (rw among (or-true (x == y))) among_other))
  where
    none : (some : List ℕ) → (is_among some x ≡ true → ⊥) → AllByRecursion (λ y. (x == y) ≡ false) some
    none [] absent = tt
    none (y ∷ some) absent = (by (x == y) refl, none some (λ among. absent (rw among (or-true (y == x)))))
      where
        by : (b : Bool) → (x == y) ≡ b → b ≡ false
        by false is = refl
        by true is = absurd (absent (rw ((Decides-eqb y x).1 (sym ((Decides-eqb x y).0 is))) refl))

    rest : (some more : List ℕ) → AllByRecursion (λ y. (x == y) ≡ false) some → AllByRecursion (λ y. (x == y) ≡ false) more → AllByRecursion (λ y. (x == y) ≡ false) (some ++ more)
    rest [] more all others = others
    rest (y ∷ some) more all others = (all.0, rest some more all.1 others)

-- ---- GUIDs of nodes
pub own_node : (fabric : FabricState) (a b : ℕ) (x y : Node) → IsGood fabric → slice_get fabric.nodes a ≡ Some x → slice_get fabric.nodes b ≡ Some y
    → node_guid x ≡ node_guid y → a ≡ b
own_node fabric a b x y good one other same =
    one_place (map node_guid fabric.nodes) a b (node_guid y) good.node_guids.own
    (slice_get-map node_guid fabric.nodes a ∙ ap (option_map node_guid) one ∙ ap (λ (n : ℕ). Some n) same)
    (slice_get-map node_guid fabric.nodes b ∙ ap (option_map node_guid) other)

-- ---- GUIDs of the ends of packets
-- an end of a node: its place among the ends of that node
pub record EndAt (fabric : FabricState) (node place guid : ℕ) : Type 0 where
  pub held : Node
  pub there : slice_get fabric.nodes node ≡ Some held
  pub is : slice_get (end_port_guids held) place ≡ Some guid

in_nodes : (nodes : List Node) (b : ℕ) (y : Node) (guid : ℕ) → slice_get nodes b ≡ Some y → is_among (end_port_guids y) guid ≡ true
    → is_among (flat_map end_port_guids nodes) guid ≡ true
in_nodes [] b y guid there among = cc
in_nodes (z ∷ nodes) zero y guid there among =
    list_any-append (λ one. one == guid) (end_port_guids z) (flat_map end_port_guids nodes)
    ∙ rw (ap (λ (n : Node). is_among (end_port_guids n) guid) (same_Some z y there) ∙ among) refl
in_nodes (z ∷ nodes) (suc b) y guid there among =
    list_any-append (λ one. one == guid) (end_port_guids z) (flat_map end_port_guids nodes)
    ∙ rw (in_nodes nodes b y guid there among) (or-true (is_among (end_port_guids z) guid))

one_end : (nodes : List Node) (a b i j guid : ℕ) (x y : Node) → IsDistinct (λ a b. a == b) (flat_map end_port_guids nodes)
    → slice_get nodes a ≡ Some x → slice_get (end_port_guids x) i ≡ Some guid → slice_get nodes b ≡ Some y → slice_get (end_port_guids y) j ≡ Some guid
    → (a ≡ b) × (i ≡ j)
one_end [] a b i j guid x y once at_a one at_b other = cc
one_end (z ∷ nodes) zero zero i j guid x y once at_a one at_b other = (
  refl,
  one_place (end_port_guids z) i j guid (left_part (λ a b. a == b) (end_port_guids z) (flat_map end_port_guids nodes) once)
      (ap (λ (n : Node). slice_get (end_port_guids n) i) (same_Some z x at_a) ∙ one) (ap (λ (n : Node). slice_get (end_port_guids n) j) (same_Some z y at_b) ∙ other),
)
one_end (z ∷ nodes) zero (suc b) i j guid x y once at_a one at_b other =
    absurd (cross (end_port_guids z) (flat_map end_port_guids nodes) guid once
    (among_at (end_port_guids z) i guid (ap (λ (n : Node). slice_get (end_port_guids n) i) (same_Some z x at_a) ∙ one))
    (in_nodes nodes b y guid at_b (among_at (end_port_guids y) j guid other)))
one_end (z ∷ nodes) (suc a) zero i j guid x y once at_a one at_b other =
    absurd (cross (end_port_guids z) (flat_map end_port_guids nodes) guid once
    (among_at (end_port_guids z) j guid (ap (λ (n : Node). slice_get (end_port_guids n) j) (same_Some z y at_b) ∙ other))
    (in_nodes nodes a x guid at_a (among_at (end_port_guids x) i guid one)))
one_end (z ∷ nodes) (suc a) (suc b) i j guid x y once at_a one at_b other =
    let rest = one_end nodes a b i j guid x y (right_part (λ a b. a == b) (end_port_guids z) (flat_map end_port_guids nodes) once) at_a one at_b other in
    (ap suc rest.0, rest.1)

pub own_end : (fabric : FabricState) (a b i j guid : ℕ) → IsGood fabric → EndAt fabric a i guid → EndAt fabric b j guid → (a ≡ b) × (i ≡ j)
own_end fabric a b i j guid good one other =
    one_end fabric.nodes a b i j guid one.held other.held good.end_guids.own one.there one.is other.there other.is

-- ---- a switch, and a port of an adapter
switch_by : (fabric : FabricState) (node : ℕ) (o : Option Node) → slice_get fabric.nodes node ≡ o → option_map_or is_switch o false ≡ true
    → guid_at fabric node ≡ option_map_or node_guid o 0 → EndAt fabric node 0 (guid_at fabric node)
switch_by fabric node None stands switch guid = absurd (false≢true switch)
switch_by fabric node (Some (Adapter ports)) stands switch guid = absurd (false≢true switch)
switch_by fabric node (Some (Switch held)) stands switch guid = record { held = Switch held; there = stands; is = ap (λ (n : ℕ). Some n) (sym guid) }

pub switch_end : (fabric : FabricState) (node : ℕ) → is_switch_at fabric.nodes node ≡ true → EndAt fabric node 0 (guid_at fabric node)
switch_end fabric node switch = switch_by fabric node (slice_get fabric.nodes node) refl switch refl

pub record IsAdapterSeen (fabric : FabricState) (end : PortRef) (seen : Seen) : Type 0 where
  pub held : Node
  pub there : slice_get fabric.nodes end.node ≡ Some held
  pub guid : seen.node_guid ≡ node_guid held
  pub count : seen.num_ports ≡ ports_at fabric end.node
  pub number : seen.local_port_num ≡ end.port
  pub some : (end.port == 0) ≡ false
  pub end_is : EndAt fabric end.node (end.port - 1) seen.port_guid

abbrev pub seen_of : List AdapterState → ℕ → AdapterState → Seen
seen_of ports number port =
    record {
      node_type = node_type.ChannelAdapter;
      num_ports = length ports;
      node_guid = node_guid (Adapter ports);
      port_guid = port.port_guid;
      local_port_num = number;
    }

port_by : (fabric : FabricState) (end : PortRef) (ports : List AdapterState) (zero_port : Bool) (o : Option AdapterState) (seen : Seen)
    → slice_get fabric.nodes end.node ≡ Some (Adapter ports) → (end.port == 0) ≡ zero_port → slice_get ports (end.port - 1) ≡ o
    → option_map (seen_of ports end.port) (if zero_port then None else o) ≡ Some seen → IsAdapterSeen fabric end seen
port_by fabric end ports true o seen stands none at is = absurd cc
port_by fabric end ports false None seen stands some at is = absurd cc
port_by fabric end ports false (Some one) seen stands some at is =
    subst (IsAdapterSeen fabric end) (same_Some (seen_of ports end.port one) seen is)
    (record {
      held = Adapter ports;
      there = stands;
      guid = refl;
      count = rw stands refl;
      number = refl;
      some = some;
      end_is = record {
        held = Adapter ports;
        there = stands;
        is = slice_get-map (λ (port : AdapterState). port.port_guid) ports (end.port - 1) ∙ ap (option_map (λ (port : AdapterState). port.port_guid)) at;
      };
    })

seen_by : (fabric : FabricState) (end : PortRef) (o : Option Node) (seen : Seen) → slice_get fabric.nodes end.node ≡ o
    → option_map_or is_switch o false ≡ false → option_and_then (λ node. seen_in node end.port) o ≡ Some seen → IsAdapterSeen fabric end seen
seen_by fabric end None seen stands adapter is = absurd cc
seen_by fabric end (Some (Switch held)) seen stands adapter is = absurd (false≢true (sym adapter))
seen_by fabric end (Some (Adapter ports)) seen stands adapter is = port_by fabric end ports (end.port == 0) (slice_get ports (end.port - 1)) seen stands refl refl is

pub adapter_seen : (fabric : FabricState) (end : PortRef) (seen : Seen) → is_switch_at fabric.nodes end.node ≡ false → seen_at fabric end ≡ Some seen
    → IsAdapterSeen fabric end seen
adapter_seen fabric end seen adapter is = seen_by fabric end (slice_get fabric.nodes end.node) seen refl adapter is
