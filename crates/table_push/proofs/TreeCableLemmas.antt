-- The cables of a fabric along the spanning tree of its graph, by the sides of its switches.
use Rattle.std.proofs.Common.{ℕ, zero, suc, ◌≡◌, ◌+◌, ◌<◌, ◌==◌, ◌∙◌, ap, refl, sym, subst, Bool, true, false, if◌then◌else◌, List, [], ◌∷◌, find, get_or, length, map, slice_get, Option, Some, None, option_map, arith}
use Rattle.std.specs.List.{Contains}
use Rattle.std.specs.Option.{option_and_then, option_map_or}
use Rattle.std.proofs.lemmas.Bool.{eq-eqb, eqb-true, false≢true}
use Rattle.std.proofs.lemmas.List.{length-map}
use Rattle.std.proofs.lemmas.Option.{get_or_from_slice_get, none-some, same_Some, slice_get-map, slice_get_within}
use Rattle.fabric_parts.specs.Cable.{far_end, port}
use Rattle.fabric_parts.specs.declared.cable.PortRef.{PortRef}
use Rattle.smp_wire.specs.FabricState.{FabricState, is_switch_at}
use Rattle.smp_wire.specs.Good.{IsGood}
use Rattle.sweep.specs.OfFabric.{Found, IsGraphOf, link_to, nodes_of, placed, ports_at, row_of as fabric_row}
use Rattle.sweep.specs.declared.graph.GraphLink.{GraphLink}
use Rattle.sweep.proofs.EndPortLemmas.{of_one, one_of, there_is}
use Rattle.sweep.proofs.FoundLemmas.{among_place, node_there, one_place, place_is}
use Rattle.sweep.proofs.MetLemmas.{good_once}
use Rattle.sweep.proofs.WholeLemmas.{at_place, found_there}
use Rattle.updn_routes.specs.Cabling.{links_of}
use Rattle.updn_routes.specs.Sides.{IsSide, Side, Up, Down, back, is_behind, neighbour, parent}
use Rattle.updn_routes.specs.Subnet.{RoutesState, link_of, row_of, rows_of}
use Rattle.updn_routes.specs.Tree.{AreDepths, tree_link, tree_port}
use Rattle.updn_routes.specs.declared.link.Link.{Link}
use Rattle.table_push.specs.BroughtUp.{RoutesLeadHome}
use Rattle.table_push.specs.Masks.{link_at, tree_end}
use Rattle.table_push.proofs.AttachedLemmas.{found_is}
use Rattle.table_push.proofs.TreeHopLemmas.{neighbour_of, parted, side_port}

-- ---- links of a row
-- the cable at the link's port leads to a switch, and the link reports to which
record IsLinkOf (fabric : FabricState) (nodes : List ℕ) (node : ℕ) (link : GraphLink) : Type 0 where
  there : PortRef
  cable : far_end fabric.cables (port node link.port) ≡ Some there
  switch : is_switch_at fabric.nodes there.node ≡ true
  to_is : link.to ≡ placed nodes there

no_link : (link : GraphLink) → Contains [] link → ⊥
no_link link has = omega (arith, has.1)

link_by : (fabric : FabricState) (nodes : List ℕ) (node number : ℕ) (link : GraphLink)
    → Contains (option_map_or (link_to fabric nodes number) (far_end fabric.cables (port node number)) []) link
    → IsLinkOf fabric nodes node link
link_by fabric nodes node number link has = by_far (far_end fabric.cables (port node number)) refl has
  where
    by_kind : (there : PortRef) → far_end fabric.cables (port node number) ≡ Some there → (b : Bool) → is_switch_at fabric.nodes there.node ≡ b
        → Contains (if b then record { port = number; to = placed nodes there } ∷ [] else []) link → IsLinkOf fabric nodes node link
    by_kind there far false kind has = absurd (no_link link has)
    by_kind there far true kind has =
        let is : record { port = number; to = placed nodes there } ≡ link = one_of (record { port = number; to = placed nodes there }) link has in
        record {
          there = there;
          cable = ap (λ (one : GraphLink). far_end fabric.cables (port node one.port)) (sym is) ∙ far;
          switch = kind;
          to_is = ap (λ (one : GraphLink). one.to) (sym is);
        }

    by_far : (o : Option PortRef) → far_end fabric.cables (port node number) ≡ o → Contains (option_map_or (link_to fabric nodes number) o []) link
        → IsLinkOf fabric nodes node link
    by_far None far has = absurd (no_link link has)
    by_far (Some there) far has = by_kind there far (is_switch_at fabric.nodes there.node) refl has

is_link_of : (fabric : FabricState) (nodes : List ℕ) (node k : ℕ) (link : GraphLink) → slice_get (fabric_row fabric nodes node) k ≡ Some link
    → IsLinkOf fabric nodes node link
is_link_of fabric nodes node k link there =
    let one = of_one (λ number. option_map_or (link_to fabric nodes number) (far_end fabric.cables (port node number)) [])
    1 (ports_at fabric node) link (there_is (fabric_row fabric nodes node) k link there) in
    link_by fabric nodes node one.number link one.has

-- ---- of lists
some_found : {X : Type 0} (p : X → Bool) (xs : List X) (k : ℕ) (x : X) → slice_get xs k ≡ Some x → p x ≡ true → (y : X) × (find p xs ≡ Some y)
some_found p [] k x there passes = absurd (none-some x there)
some_found {X = X} p (y ∷ xs) k x there passes = by (p y) refl k there (λ j at. some_found p xs j x at passes)
  where
    by : (b : Bool) → p y ≡ b → (k : ℕ) → slice_get (y ∷ xs) k ≡ Some x → ((j : ℕ) → slice_get xs j ≡ Some x → (z : X) × (find p xs ≡ Some z))
        → (z : X) × (find p (y ∷ xs) ≡ Some z)
    by true is k there later = (y, rw is refl)
    by false is zero there later = absurd (false≢true (sym is ∙ ap p (same_Some y x there) ∙ passes))
    by false is (suc k) there later = let rest = later k there in (rest.0, rw is rest.1)

made_of : (row : List GraphLink) (k : ℕ) (one : Link) → slice_get (map link_of row) k ≡ Some one
    → (link : GraphLink) × (slice_get row k ≡ Some link) × (link_of link ≡ one)
made_of row k one there = by (slice_get row k) refl (sym (slice_get-map link_of row k) ∙ there)
  where
    by : (o : Option GraphLink) → slice_get row k ≡ o → option_map link_of o ≡ Some one
        → (link : GraphLink) × (slice_get row k ≡ Some link) × (link_of link ≡ one)
    by None at is = absurd (none-some one is)
    by (Some link) at is = (link, at, same_Some (link_of link) one is)

module _ (routes : RoutesState) (roots : List ℕ) (fabric : FabricState) (home : RoutesLeadHome routes) (right : AreDepths routes.between.rows routes.between.guids roots routes.between.depths) (good : IsGood fabric) (of : IsGraphOf routes.graph fabric) where
  abbrev rows : List (List Link)
  rows = routes.between.rows

  abbrev depths : List ℕ
  depths = routes.between.depths

  abbrev nodes : List ℕ
  nodes = nodes_of of.layout.found

  abbrev Stands : ℕ → Found → Type 0
  Stands place found = slice_get of.layout.found place ≡ Some found

  -- ---- places
  pub count_found : length rows ≡ length of.layout.found
  count_found =
      ap length home.of.rows_are ∙ length-map routes.graph.rows row_of ∙ ap length of.layout.rows
      ∙ length-map of.layout.found (λ (one : Found). fabric_row fabric nodes one.node)

  pub stands_at : (place : ℕ) → place < length rows → (found : Found) × Stands place found
  stands_at place within = at_place of.layout.found place (omega (arith, within, count_found))

  pub within_rows : (place : ℕ) (found : Found) → Stands place found → place < length rows
  within_rows place found there = let within = slice_get_within of.layout.found place found there in omega (arith, within, count_found)

  -- a node stands at one place
  pub one_node : (a b : ℕ) (one other : Found) → Stands a one → Stands b other → one.node ≡ other.node → a ≡ b
  one_node a b one other here there same =
      one_place nodes a b one.node of.layout.once (node_there of.layout.found a one here)
      (node_there of.layout.found b other there ∙ ap (λ (n : ℕ). Some n) (sym same))

  row_there : (place : ℕ) (found : Found) → Stands place found → slice_get routes.graph.rows place ≡ Some (fabric_row fabric nodes found.node)
  row_there place found there =
      ap (λ (rows : List (List GraphLink)). slice_get rows place) of.layout.rows
      ∙ slice_get-map (λ (one : Found). fabric_row fabric nodes one.node) of.layout.found place
      ∙ ap (option_map (λ (one : Found). fabric_row fabric nodes one.node)) there

  links_there : (place : ℕ) (found : Found) → Stands place found → links_of rows place ≡ row_of (fabric_row fabric nodes found.node)
  links_there place found there =
      ap (λ (rows : List (List Link)). links_of rows place) home.of.rows_are
      ∙ get_or_from_slice_get (rows_of routes.graph) place (row_of (fabric_row fabric nodes found.node)) []
      (slice_get-map row_of routes.graph.rows place ∙ ap (option_map row_of) (row_there place found there))

  -- ---- the cable at a tree port
  pub record IsTreeCable (child up : ℕ) (below : Found) : Type 0 where
    pub out : ℕ
    pub into : ℕ
    pub out_is : tree_port rows depths child ≡ Some out
    pub into_is : option_map (λ (at : PortRef). at.port) (tree_end routes child) ≡ Some into
    pub above : Found
    pub stands : Stands up above
    pub cable : far_end fabric.cables (port below.node out) ≡ Some (port above.node into)

  pub tree_cable : (child up : ℕ) (below : Found) → Stands child below → parent rows depths child ≡ Some up → IsTreeCable child up below
  tree_cable child up below here is = by (tree_link rows depths child) refl is
    where
      row : List GraphLink
      row = fabric_row fabric nodes below.node

      linked : (link : GraphLink) (k : ℕ) → slice_get row k ≡ Some link → tree_link rows depths child ≡ Some (link_of link) → link.to.node ≡ up
          → IsTreeCable child up below
      linked link k there found to =
          let one = is_link_of fabric nodes below.node k link there in
          let some = some_found (λ (other : GraphLink). other.port == link.port) row k link there (eq-eqb link.port link.port refl) in
          let at = found_is (λ (other : GraphLink). other.port == link.port) row some.0 some.1 in
          let other = is_link_of fabric nodes below.node at.0 some.0 at.1 in
          let number : some.0.port ≡ link.port = eqb-true some.0.port link.port at.2 in
          let same : other.there ≡ one.there =
          same_Some other.there one.there (sym other.cable ∙ ap (λ (n : ℕ). far_end fabric.cables (port below.node n)) number ∙ one.cable) in
          let tree : tree_port rows depths child ≡ Some link.port = ap (option_map (λ (l : Link). l.port)) found in
          let got : link_at routes.graph.rows child link.port ≡ Some some.0 =
          ap (find (λ (other : GraphLink). other.port == link.port)) (get_or_from_slice_get routes.graph.rows child row [] (row_there child below here)) ∙ some.1 in
          let end : tree_end routes child ≡ Some some.0.to =
          ap (option_and_then (λ (number : ℕ). option_map (λ (l : GraphLink). l.to) (link_at routes.graph.rows child number))) tree
          ∙ ap (option_map (λ (l : GraphLink). l.to)) got in
          let into : some.0.to.port ≡ one.there.port =
          ap (λ (p : PortRef). p.port) other.to_is ∙ ap (λ (p : PortRef). p.port) same in
          let place = among_place nodes one.there.node (of.layout.all one.there.node ∙ one.switch) in
          let standing = found_there of.layout.found place.0 one.there.node place.1 in
          let up_is : place.0 ≡ up =
          sym (place_is nodes place.0 one.there.node of.layout.once place.1) ∙ sym (ap (λ (p : PortRef). p.node) one.to_is) ∙ to in
          record {
            out = link.port;
            into = one.there.port;
            out_is = tree;
            into_is = ap (option_map (λ (at : PortRef). at.port)) end ∙ ap (λ (n : ℕ). Some n) into;
            above = standing.0;
            stands = ap (slice_get of.layout.found) (sym up_is) ∙ standing.1;
            cable = one.cable ∙ ap (λ (n : ℕ). Some (port n one.there.port)) (sym standing.2);
          }

      by : (o : Option Link) → tree_link rows depths child ≡ o → option_map (λ (link : Link). link.to) o ≡ Some up → IsTreeCable child up below
      by None found to = absurd (none-some up to)
      by (Some link) found to =
          let at = found_is (λ (l : Link). get_or depths l.to 0 + 1 == get_or depths child 0) (row_of row) link
          (ap (find (λ (l : Link). get_or depths l.to 0 + 1 == get_or depths child 0)) (sym (links_there child below here)) ∙ found) in
          let one = made_of row at.0 link at.1 in
          linked one.0 at.0 one.1 (found ∙ ap (λ (l : Link). Some l) (sym one.2)) (ap (λ (l : Link). l.to) one.2 ∙ same_Some link.to up to)

  -- ---- the cable on a side
  pub record IsSideCable (s : ℕ) (q : Side) (far : ℕ) (here : Found) : Type 0 where
    pub out : ℕ
    pub into : ℕ
    pub out_is : side_port routes s q ≡ Some out
    pub into_is : side_port routes far (back s q) ≡ Some into
    pub there : Found
    pub stands : Stands far there
    pub cable : far_end fabric.cables (port here.node out) ≡ Some (port there.node into)

  pub side_cable : (s : ℕ) (q : Side) (far : ℕ) (here : Found) → Stands s here → IsSide rows depths s q → neighbour rows depths s q ≡ Some far
      → IsSideCable s q far here
  side_cable s Up far here stood side is =
      let one = tree_cable s far here stood is in
      record { out = one.out; into = one.into; out_is = one.out_is; into_is = one.into_is; there = one.above; stands = one.stands; cable = one.cable }
  side_cable s (Down c) far here stood side is =
      let child = stands_at c side.1 in
      let one = tree_cable c s child.0 child.1 side.0 in
      let same : one.above ≡ here = same_Some one.above here (sym one.stands ∙ stood) in
      let far_is : c ≡ far = same_Some c far is in
      record {
        out = one.into;
        into = one.out;
        out_is = one.into_is;
        into_is = ap (tree_port rows depths) (sym far_is) ∙ one.out_is;
        there = child.0;
        stands = ap (slice_get of.layout.found) (sym far_is) ∙ child.1;
        cable = ap (λ (f : Found). far_end fabric.cables (port f.node one.into)) (sym same)
            ∙ good_once fabric (port child.0.node one.out) (port one.above.node one.into) good one.cable;
      }

  -- sides of a switch have ports of their own
  pub one_port : (s : ℕ) (here : Found) → Stands s here → (q n : Side) (number : ℕ) → IsSide rows depths s q → IsSide rows depths s n
      → side_port routes s q ≡ Some number → side_port routes s n ≡ Some number → q ≡ n
  one_port s here stood q n number q_side n_side q_port n_port =
      let within = within_rows s here stood in
      let q_next = neighbour_of routes roots home right s within q q_side in
      let n_next = neighbour_of routes roots home right s within n n_side in
      let q_cable = side_cable s q q_next.far here stood q_side q_next.is in
      let n_cable = side_cable s n n_next.far here stood n_side n_next.is in
      let q_out : q_cable.out ≡ number = same_Some q_cable.out number (sym q_cable.out_is ∙ q_port) in
      let n_out : n_cable.out ≡ number = same_Some n_cable.out number (sym n_cable.out_is ∙ n_port) in
      let far : port q_cable.there.node q_cable.into ≡ port n_cable.there.node n_cable.into =
      same_Some (port q_cable.there.node q_cable.into) (port n_cable.there.node n_cable.into)
      (sym q_cable.cable ∙ ap (λ (k : ℕ). far_end fabric.cables (port here.node k)) (q_out ∙ sym n_out) ∙ n_cable.cable) in
      let same = one_node q_next.far n_next.far q_cable.there n_cable.there q_cable.stands n_cable.stands (ap (λ (p : PortRef). p.node) far) in
      (parted routes roots home right s within).one q n q_next.far q_next.within q_side n_side q_next.behind
      (subst (λ (t : ℕ). is_behind rows depths s n t ≡ true) (sym same) n_next.behind)
