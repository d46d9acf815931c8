-- What is so of a node and of a cable that a line may declare.
use Rattle.std.proofs.Common.{◌≡◌, ℕ, ◌-◌, ◌^◌, true, false, ◌&&◌, ◌||◌, nat_le, List, [], ◌∷◌, Option, Some, None, Ok, is_some, sym}
use Rattle.std.specs.List.{list_any}
use Rattle.std.specs.Option.{ok_or}
use Rattle.std.specs.Str.{bytes_eq}
use Rattle.std.proofs.lemmas.Bool.{and_from, and_parts, or_parts}
use Rattle.step_results.proofs.StepLemmas.{bind_ok, let_through, not_stopped, same_ok}
use Rattle.text_words.specs.Number.{number_in}
use Rattle.text_words.specs.Words.{is_name}
use Rattle.fabric_parts.specs.declared.cable.Cable.{Cable}
use Rattle.fabric_parts.specs.declared.cable.PortRef.{PortRef}
use Rattle.topo_file.specs.declared.fault.TopologyCause.TheVariants.{Malformed, DuplicateName, DuplicateGuid, OverLimit, PortTaken, WrongCableEnds}
use Rattle.topo_file.specs.declared.node.Node.{Node}
use Rattle.fabric_parts.specs.declared.node_type.NodeType.{NodeType}
use Rattle.fabric_parts.specs.Cable.{is_cabled}
use Rattle.fabric_parts.specs.Limits.{most_ports_within}
use Rattle.fabric_parts.specs.declared.limits.Limits.{Limits}
use Rattle.topo_file.specs.Cable.{may_join, port_at}
use Rattle.topo_file.specs.Node.{is_one_too_many, lacks_guids, place_of, shares_guid}
use Rattle.topo_file.specs.Sound.{is_named, is_sized_within, joins_right}
use Rattle.topo_file.specs.Topology.{cable_of, cable_encoded, name_of, new_cable, new_node, node_of, node_encoded, number_up_to, port_of, within}
use Rattle.step_results.proofs.PlaceLemmas.{not_there}
use Rattle.step_results.proofs.BoolLemmas.{none_of}

in_range : (top n : ℕ) (found : Option ℕ) → within top found ≡ Ok n → (nat_le 1 n && nat_le n top) ≡ true
in_range top n None h = cc
in_range top n (Some m) h =
    let so = let_through (nat_le 1 m && nat_le m top) (Ok m) Malformed n h in
    rw (sym (same_ok m n so.1)) so.0

pub record IsNewNode (limits : Limits) (nodes : List Node) (node : Node) : Type 0 where
  pub named : is_named node ≡ true
  pub own_name : list_any (λ other. bytes_eq node.name other.name) nodes ≡ false
  pub sized : is_sized_within limits node ≡ true
  pub own : list_any (λ other. shares_guid node other) nodes ≡ false

new_is : (limits : Limits) (nodes : List Node) (node made : Node) → new_node limits nodes node ≡ Ok made
    → (list_any (λ other. bytes_eq node.name other.name) nodes ≡ false) × (lacks_guids nodes node ≡ false) × (made ≡ node)
new_is limits nodes node made h =
    let named = not_stopped (is_some (place_of node.name nodes)) DuplicateName _ made h in
    let guids = not_stopped (lacks_guids nodes node) DuplicateGuid _ made named.1 in
    let room = not_stopped (is_one_too_many limits nodes node.node_type node.ports) OverLimit _ made guids.1 in
    (not_there (λ other. bytes_eq node.name other.name) nodes (none_of (place_of node.name nodes) named.0), guids.0, sym (same_ok node made room.1))

encoded_is : (limits : Limits) (node_type : NodeType) (nodes : List Node) (name guid ports : List ℕ) (made : Node)
    → node_encoded limits node_type nodes name guid ports ≡ Ok made → IsNewNode limits nodes made
unfolding node_encoded
encoded_is limits node_type nodes name guid ports made h =
    let named = bind_ok (name_of name) _ made h in
    let numbered = bind_ok (number_up_to (2 ^ 64 - 1) guid) _ made named.2 in
    let counted = bind_ok (number_up_to (most_ports_within limits node_type) ports) _ made numbered.2 in
    let is = let_through (is_name name) (Ok name) Malformed named.0 named.1 in
    let node : Node = record { name = named.0; node_type = node_type; guid = numbered.0; ports = counted.0 } in
    let new = new_is limits nodes node made counted.2 in
    let guid_is = and_parts (nat_le 1 numbered.0) _ (in_range (2 ^ 64 - 1) numbered.0 (number_in guid) numbered.1) in
    let ports_are = in_range (most_ports_within limits node_type) counted.0 (number_in ports) counted.1 in
    rw new.2 (record { named = rw (sym (same_ok name named.0 is.1)) is.0; own_name = new.0; sized = and_from (nat_le 1 numbered.0) _ guid_is.0 ports_are; own = (or_parts _ _ new.1).1 })

pub new_node_is : (limits : Limits) (node_type : NodeType) (nodes : List Node) (words : List (List ℕ)) (made : Node)
    → node_of limits node_type nodes words ≡ Ok made → IsNewNode limits nodes made
unfolding node_of
new_node_is limits node_type nodes [] made h = cc
new_node_is limits node_type nodes (a ∷ []) made h = cc
new_node_is limits node_type nodes (a ∷ b ∷ []) made h = cc
new_node_is limits node_type nodes (a ∷ b ∷ c ∷ []) made h = encoded_is limits node_type nodes a b c made h
new_node_is limits node_type nodes (a ∷ b ∷ c ∷ d ∷ rest) made h = cc

pub record IsNewCable (nodes : List Node) (cables : List Cable) (cable : Cable) : Type 0 where
  pub first : is_cabled cables cable.first ≡ false
  pub second : is_cabled cables cable.second ≡ false
  pub joins : joins_right nodes cable ≡ true

joined_is : (nodes : List Node) (cables : List Cable) (first second : PortRef) (made : Cable) → new_cable nodes cables first second ≡ Ok made → IsNewCable nodes cables made
joined_is nodes cables first second made h =
    let free = not_stopped (is_cabled cables first || is_cabled cables second) PortTaken _ made h in
    let ends = or_parts (is_cabled cables first) (is_cabled cables second) free.0 in
    let right = let_through (may_join nodes first.node second.node) (Ok (record { first = first; second = second })) WrongCableEnds made free.1 in
    rw (sym (same_ok (record { first = first; second = second }) made right.1)) (record { first = ends.0; second = ends.1; joins = right.0 })

cable_encoded_is : (nodes : List Node) (cables : List Cable) (one other : List ℕ) (made : Cable) → cable_encoded nodes cables one other ≡ Ok made → IsNewCable nodes cables made
unfolding cable_encoded
cable_encoded_is nodes cables one other made h =
    let a = bind_ok (port_of one) _ made h in
    let b = bind_ok (port_of other) _ made a.2 in
    let i = bind_ok (ok_or (place_of a.0.name nodes) _) _ made b.2 in
    let j = bind_ok (ok_or (place_of b.0.name nodes) _) _ made i.2 in
    let first = bind_ok (ok_or (port_at nodes i.0 a.0.number) _) _ made j.2 in
    let second = bind_ok (ok_or (port_at nodes j.0 b.0.number) _) _ made first.2 in
    joined_is nodes cables first.0 second.0 made second.2

pub new_cable_is : (nodes : List Node) (cables : List Cable) (words : List (List ℕ)) (made : Cable) → cable_of nodes cables words ≡ Ok made → IsNewCable nodes cables made
unfolding cable_of
new_cable_is nodes cables [] made h = cc
new_cable_is nodes cables (a ∷ []) made h = cc
new_cable_is nodes cables (a ∷ b ∷ []) made h = cable_encoded_is nodes cables a b made h
new_cable_is nodes cables (a ∷ b ∷ c ∷ rest) made h = cc
