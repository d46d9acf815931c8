-- A graph that is the same as another is that.
use Rattle.std.proofs.Common.{◌≡◌, refl, Bool, true, ◌==◌, ◌&&◌, List, [], ◌∷◌, length, arith}
use Rattle.std.specs.List.{list_all, zip}
use Rattle.std.specs.Str.{bytes_eq}
use Rattle.std.proofs.lemmas.Bool.{and_parts, eqb-true}
use Rattle.std.proofs.lemmas.Slice.Eq.{bytes_eq-Decides}
use Rattle.fabric_parts.specs.Cable.{is_same_port}
use Rattle.smp_wire.proofs.CableLemmas.{same_port}
use Rattle.subnet_fabric.specs.SameGraph.{are_alike, has_same_numbers, is_same_graph, is_same_link, is_same_port_of, is_same_row, is_same_switch}
use Rattle.sweep.specs.Graph.{GraphState, graph_with}

-- ---- lists, by a test that two elements pass only if they are one
abbrev Tells : {X : Type 0} → (X × X → Bool) → Type 0
Tells {X} same = (two : X × X) → same two ≡ true → two.0 ≡ two.1

by_elements : {X : Type 0} (same : X × X → Bool) → Tells same → (xs ys : List X) → length xs ≡ length ys → list_all same (zip xs ys) ≡ true → xs ≡ ys
by_elements same tells [] [] long all = refl
by_elements same tells [] (y ∷ ys) long all = absurd (omega (arith, long))
by_elements same tells (x ∷ xs) [] long all = absurd (omega (arith, long))
by_elements same tells (x ∷ xs) (y ∷ ys) long all =
    let here = and_parts (same (x, y)) (list_all same (zip xs ys)) all in
    λ i. tells (x, y) here.0 i ∷ by_elements same tells xs ys (omega (arith, long)) here.1 i

alike : {X : Type 0} (same : X × X → Bool) → Tells same → (xs ys : List X) → are_alike same xs ys ≡ true → xs ≡ ys
alike same tells xs ys are =
    let both = and_parts (length xs == length ys) (list_all same (zip xs ys)) are in
    by_elements same tells xs ys (eqb-true (length xs) (length ys) both.0) both.1

-- ---- ports, links and switches
one_link : Tells is_same_link
one_link two is =
    let both = and_parts (two.0.port == two.1.port) (is_same_port two.0.to two.1.to) is in
    λ i. record { port = eqb-true two.0.port two.1.port both.0 i; to = same_port two.0.to two.1.to both.1 i }

one_row : Tells is_same_row
one_row two is = alike is_same_link one_link two.0 two.1 is

one_switch : Tells is_same_switch
one_switch two is =
    let a = two.0 in
    let b = two.1 in
    let first = and_parts (a.guid == b.guid) ((a.num_ports == b.num_ports) && (bytes_eq a.name b.name && bytes_eq a.path b.path)) is in
    let second = and_parts (a.num_ports == b.num_ports) (bytes_eq a.name b.name && bytes_eq a.path b.path) first.1 in
    let third = and_parts (bytes_eq a.name b.name) (bytes_eq a.path b.path) second.1 in
    λ i. record {
      guid = eqb-true a.guid b.guid first.0 i;
      num_ports = eqb-true a.num_ports b.num_ports second.0 i;
      name = (bytes_eq-Decides a.name b.name).0 third.0 i;
      path = (bytes_eq-Decides a.path b.path).0 third.1 i;
    }

one_port : Tells is_same_port_of
one_port two is =
    let a = two.0 in
    let b = two.1 in
    let parts = and_parts (has_same_numbers two) (bytes_eq a.name b.name && is_same_port a.at b.at) is in
    let rest = and_parts (bytes_eq a.name b.name) (is_same_port a.at b.at) parts.1 in
    let first = and_parts (a.node_guid == b.node_guid) ((a.port_guid == b.port_guid) && ((a.number == b.number) && (a.num_ports == b.num_ports))) parts.0 in
    let second = and_parts (a.port_guid == b.port_guid) ((a.number == b.number) && (a.num_ports == b.num_ports)) first.1 in
    let third = and_parts (a.number == b.number) (a.num_ports == b.num_ports) second.1 in
    λ i. record {
      node_guid = eqb-true a.node_guid b.node_guid first.0 i;
      port_guid = eqb-true a.port_guid b.port_guid second.0 i;
      number = eqb-true a.number b.number third.0 i;
      num_ports = eqb-true a.num_ports b.num_ports third.1 i;
      name = (bytes_eq-Decides a.name b.name).0 rest.0 i;
      at = same_port a.at b.at rest.1 i;
    }

pub one_graph : (one other : GraphState) → is_same_graph one other ≡ true → one ≡ other
one_graph one other is =
    let first = and_parts (one.manager == other.manager)
    (are_alike is_same_switch one.switches other.switches
    && (are_alike is_same_row one.rows other.rows && are_alike is_same_port_of one.ports other.ports)) is in
    let second = and_parts (are_alike is_same_switch one.switches other.switches)
    (are_alike is_same_row one.rows other.rows && are_alike is_same_port_of one.ports other.ports) first.1 in
    let third = and_parts (are_alike is_same_row one.rows other.rows) (are_alike is_same_port_of one.ports other.ports) second.1 in
    λ i. graph_with (eqb-true one.manager other.manager first.0 i) (alike is_same_switch one_switch one.switches other.switches second.0 i)
    (alike is_same_row one_row one.rows other.rows third.0 i) (alike is_same_port_of one_port one.ports other.ports third.1 i)
