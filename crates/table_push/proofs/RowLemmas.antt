-- What the links of the graph say of the cables of its fabric.
use Rattle.std.proofs.Common.{ℕ, ◌≡◌, ◌<◌, ◌==◌, ◌&&◌, ◌∙◌, ap, refl, sym, subst, Bool, true, false, if◌then◌else◌, List, [], ◌∷◌, length, map, slice_get, Option, Some, None, option_map, arith}
use Rattle.std.specs.List.{Contains, list_any}
use Rattle.std.specs.Option.{option_map_or}
use Rattle.std.proofs.lemmas.Bool.{and_parts, eqb-true}
use Rattle.std.proofs.lemmas.Option.{get_or_from_slice_get, none-some, same_Some, slice_get-map, slice_get_within}
use Rattle.fabric_parts.specs.Cable.{far_end, port}
use Rattle.fabric_parts.specs.declared.cable.PortRef.{PortRef}
use Rattle.smp_wire.specs.FabricState.{FabricState, is_switch_at}
use Rattle.sweep.specs.Graph.{GraphState}
use Rattle.sweep.specs.OfFabric.{Found, IsGraphOf, link_to, nodes_of, place_of, placed, ports_at, row_of as fabric_row}
use Rattle.sweep.specs.declared.graph.GraphLink.{GraphLink}
use Rattle.sweep.proofs.EndPortLemmas.{of_one, one_of, there_is}
use Rattle.sweep.proofs.FoundLemmas.{any_at}
use Rattle.updn_routes.specs.Cabling.{leads, links_of}
use Rattle.updn_routes.specs.Subnet.{link_of, row_of, rows_of}
use Rattle.updn_routes.specs.declared.link.Link.{Link}

-- the cable at a port of a switch leads to the switch at that place
pub record IsLinked (fabric : FabricState) (nodes : List ℕ) (node out : ℕ) (t : ℕ) : Type 0 where
  pub there : PortRef
  pub cable : far_end fabric.cables (port node out) ≡ Some there
  pub switch : is_switch_at fabric.nodes there.node ≡ true
  pub place : place_of nodes there.node ≡ t

no_link : (link : GraphLink) → Contains [] link → ⊥
no_link link has = omega (arith, has.1)

linked_by : (fabric : FabricState) (nodes : List ℕ) (node number : ℕ) (link : GraphLink)
    → Contains (option_map_or (link_to fabric nodes number) (far_end fabric.cables (port node number)) []) link
    → IsLinked fabric nodes node link.port link.to.node
linked_by fabric nodes node number link has = by_far (far_end fabric.cables (port node number)) refl has
  where
    by_kind : (there : PortRef) → far_end fabric.cables (port node number) ≡ Some there → (b : Bool) → is_switch_at fabric.nodes there.node ≡ b
        → Contains (if b then record { port = number; to = placed nodes there } ∷ [] else []) link → IsLinked fabric nodes node link.port link.to.node
    by_kind there far false kind has = absurd (no_link link has)
    by_kind there far true kind has =
        let is : record { port = number; to = placed nodes there } ≡ link = one_of (record { port = number; to = placed nodes there }) link has in
        record {
          there = there;
          cable = ap (λ (one : GraphLink). far_end fabric.cables (port node one.port)) (sym is) ∙ far;
          switch = kind;
          place = ap (λ (one : GraphLink). one.to.node) is;
        }

    by_far : (o : Option PortRef) → far_end fabric.cables (port node number) ≡ o → Contains (option_map_or (link_to fabric nodes number) o []) link
        → IsLinked fabric nodes node link.port link.to.node
    by_far None far has = absurd (no_link link has)
    by_far (Some there) far has = by_kind there far (is_switch_at fabric.nodes there.node) refl has

row_at : (fabric : FabricState) (graph : GraphState) (place : ℕ) (found : Found) → (of : IsGraphOf graph fabric) → slice_get of.layout.found place ≡ Some found
    → slice_get (rows_of graph) place ≡ Some (row_of (fabric_row fabric (nodes_of of.layout.found) found.node))
row_at fabric graph place found of there =
    let rows : slice_get graph.rows place ≡ Some (fabric_row fabric (nodes_of of.layout.found) found.node) =
    ap (λ (rows : List (List GraphLink)). slice_get rows place) of.layout.rows
    ∙ slice_get-map (λ (one : Found). fabric_row fabric (nodes_of of.layout.found) one.node) of.layout.found place
    ∙ ap (option_map (λ (one : Found). fabric_row fabric (nodes_of of.layout.found) one.node)) there in
    slice_get-map row_of graph.rows place ∙ ap (option_map row_of) rows

pub row_within : (fabric : FabricState) (graph : GraphState) (place : ℕ) (found : Found) → (of : IsGraphOf graph fabric) → slice_get of.layout.found place ≡ Some found
    → place < length (rows_of graph)
row_within fabric graph place found of there =
    slice_get_within (rows_of graph) place (row_of (fabric_row fabric (nodes_of of.layout.found) found.node)) (row_at fabric graph place found of there)

made_of : (row : List GraphLink) (k : ℕ) (one : Link) → slice_get (map link_of row) k ≡ Some one
    → (link : GraphLink) × Contains row link × (link_of link ≡ one)
made_of row k one there = by (slice_get row k) refl (sym (slice_get-map link_of row k) ∙ there)
  where
    by : (o : Option GraphLink) → slice_get row k ≡ o → option_map link_of o ≡ Some one → (link : GraphLink) × Contains row link × (link_of link ≡ one)
    by None at is = absurd (none-some one is)
    by (Some link) at is = (link, there_is row k link at, same_Some (link_of link) one is)

pub linked : (fabric : FabricState) (graph : GraphState) (place out t : ℕ) (found : Found) → (of : IsGraphOf graph fabric) → slice_get of.layout.found place ≡ Some found
    → leads (rows_of graph) place out t ≡ true → IsLinked fabric (nodes_of of.layout.found) found.node out t
linked fabric graph place out t found of there leading =
    let row = fabric_row fabric (nodes_of of.layout.found) found.node in
    let links : links_of (rows_of graph) place ≡ row_of row =
    get_or_from_slice_get (rows_of graph) place (row_of row) [] (row_at fabric graph place found of there) in
    let at = any_at (λ (link : Link). (link.port == out) && (link.to == t)) (row_of row)
    (sym (ap (list_any (λ (link : Link). (link.port == out) && (link.to == t))) links) ∙ leading) in
    let one = made_of row at.place at.one at.there in
    let parts = and_parts (at.one.port == out) (at.one.to == t) at.passes in
    let number = of_one (λ number. option_map_or (link_to fabric (nodes_of of.layout.found) number) (far_end fabric.cables (port found.node number)) [])
    1 (ports_at fabric found.node) one.0 one.1 in
    let goes = linked_by fabric (nodes_of of.layout.found) found.node number.number one.0 number.has in
    let out_is : one.0.port ≡ out = ap (λ (link : Link). link.port) one.2 ∙ eqb-true at.one.port out parts.0 in
    let to_is : one.0.to.node ≡ t = ap (λ (link : Link). link.to) one.2 ∙ eqb-true at.one.to t parts.1 in
    subst (λ (n : ℕ). IsLinked fabric (nodes_of of.layout.found) found.node n t) out_is
    (subst (IsLinked fabric (nodes_of of.layout.found) found.node one.0.port) to_is goes)
