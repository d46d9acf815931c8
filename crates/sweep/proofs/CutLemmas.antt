-- The graph of a fabric of which a cable between two switches is cut, or mended.
use Rattle.std.proofs.Common.{◌≡◌, ℕ, zero, suc, ◌+◌, ◌<◌, Bool, true, false, not, ◌==◌, ◌&&◌, ◌||◌, nat_le, List, [], ◌∷◌, ◌++◌, length, flat_map, map, get_or, filter}
use Rattle.std.proofs.Common.{Option, Some, None, option_map, slice_get, refl, ap, sym, ◌∙◌, if◌then◌else◌, arith}
use Rattle.std.specs.List.{IsDistinct, list_any, range_with_len}
use Rattle.std.specs.Option.{option_map_or, unwrap_or}
use Rattle.std.proofs.lemmas.Bool.{and_from, eq-eqb, le-leb, eqb-true, false≢true}
use Rattle.std.proofs.lemmas.Bool.Decides.{nat_tests}
use Rattle.std.proofs.lemmas.List.{ext_get_or, length-map}
use Rattle.std.proofs.lemmas.List.Elements.{filter-append}
use Rattle.std.proofs.lemmas.Option.{same_Some}
use Rattle.fabric_parts.specs.Cable.{far_end, is_same_port, port}
use Rattle.fabric_parts.specs.declared.cable.PortRef.{PortRef}
use Rattle.smp_wire.proofs.CableLemmas.{cabled_is_port, same_port}
use Rattle.smp_wire.proofs.PresentLemmas.{present_right}
use Rattle.smp_wire.specs.FabricState.{FabricState, is_switch_at}
use Rattle.smp_wire.specs.Good.{IsGood}
use Rattle.sweep.specs.Graph.{GraphState, count_at, is_linked, is_switch_port, rise_above}
use Rattle.sweep.specs.Laws.{GraphsAreRecabled, IsCut, in_graph}
use Rattle.sweep.specs.OfFabric.{Found, IsLayoutOf, all_ports, is_among, link_to, node_at, nodes_of, place_of, placed, port_seen, port_to, ports_at, ports_up_to, row_of, switch_of}
use Rattle.sweep.specs.Recabled.{MayBeCabled, is_free, leaves_by, row_without, rows_with, rows_without, with_cable, without}
use Rattle.sweep.specs.Seen.{name_at, seen_at}
use Rattle.sweep.specs.declared.graph.GraphLink.{GraphLink}
use Rattle.sweep.specs.declared.graph.GraphSwitch.{GraphSwitch}
use Rattle.sweep.specs.declared.seen.Seen.{Seen}
use Rattle.sweep.proofs.FoundLemmas.{among_place, node_there, place_is}
use Rattle.sweep.proofs.LeastLemmas.{in_range}
use Rattle.sweep.proofs.MetLemmas.{good_once}
use Rattle.sweep.proofs.PlaceLemmas.{count_found}
use Rattle.sweep.proofs.RowLemmas.{made_long, made_there}
use Rattle.sweep.proofs.TurnLemmas.{any_of, row_has}
use Rattle.sweep.proofs.UndoneLemmas.{rows_back}
use Rattle.sweep.proofs.VisitLemmas.{link_is, no_link, no_port}
use Rattle.sweep.proofs.WholeLemmas.{at_place, found_there, other_node, row_rises, row_there, rows_of}

-- ---- what is made of the numbers of a range
filter_made : {X : Type 0} (keep : X → Bool) (f g : ℕ → List X) (first count : ℕ) → ((k : ℕ) → filter keep (f k) ≡ g k)
    → filter keep (flat_map f (range_with_len first count)) ≡ flat_map g (range_with_len first count)
filter_made keep f g first zero each = refl
filter_made keep f g first (suc count) each =
    filter-append keep (f first) (flat_map f (range_with_len (first + 1) count))
    ∙ ap (λ (one : List _). one ++ filter keep (flat_map f (range_with_len (first + 1) count))) (each first)
    ∙ ap (λ (rest : List _). g first ++ rest) (filter_made keep f g (first + 1) count each)

flat_same : {X : Type 0} (f g : ℕ → List X) (xs : List ℕ) → ((k : ℕ) → f k ≡ g k) → flat_map f xs ≡ flat_map g xs
flat_same f g [] each = refl
flat_same f g (x ∷ xs) each =
    ap (λ (one : List _). one ++ flat_map f xs) (each x) ∙ ap (λ (rest : List _). g x ++ rest) (flat_same f g xs each)

map_same : {X Y : Type 0} (f g : X → Y) (xs : List X) → ((x : X) → f x ≡ g x) → map f xs ≡ map g xs
map_same f g [] each = refl
map_same f g (x ∷ xs) each = ap (λ (y : _). y ∷ map f xs) (each x) ∙ ap (λ (rest : List _). g x ∷ rest) (map_same f g xs each)

-- a port with no cable has no link
no_link_by : (fabric : FabricState) (nodes : List ℕ) (node number : ℕ) → far_end fabric.cables (port node number) ≡ None
    → list_any (λ link. link.port == number) (row_of fabric nodes node) ≡ false
no_link_by fabric nodes node number none = by (list_any (λ link. link.port == number) (row_of fabric nodes node)) refl
  where
    or_false : (b : Bool) → b || false ≡ true → b ≡ true
    or_false true h = refl
    or_false false h = h

    kind : (k : ℕ) (end : PortRef) → far_end fabric.cables (port node k) ≡ Some end → (b : Bool) → is_switch_at fabric.nodes end.node ≡ b
        → list_any (λ link. link.port == number) (link_to fabric nodes k end) ≡ true → ⊥
    kind k end far true switch any =
        let same = eqb-true k number (or_false _ (sym (ap (list_any (λ link. link.port == number)) (link_is fabric nodes k end switch)) ∙ any)) in
        let clash : None ≡ Some end = sym none ∙ ap (λ (n : ℕ). far_end fabric.cables (port node n)) (sym same) ∙ far in
        absurd (cc)
    kind k end far false adapter any = false≢true (sym (ap (list_any (λ link. link.port == number)) (no_link fabric nodes k end adapter)) ∙ any)

    at : (k : ℕ) (o : Option PortRef) → far_end fabric.cables (port node k) ≡ o
        → list_any (λ link. link.port == number) (option_map_or (link_to fabric nodes k) o []) ≡ true → ⊥
    at k None far any = false≢true any
    at k (Some end) far any = kind k end far (is_switch_at fabric.nodes end.node) refl any

    by : (b : Bool) → list_any (λ link. link.port == number) (row_of fabric nodes node) ≡ b → b ≡ false
    by false is = refl
    by true is =
        let one = any_of (λ link. link.port == number) (λ number. option_map_or (link_to fabric nodes number) (far_end fabric.cables (port node number)) [])
        1 (ports_at fabric node) is in
        absurd (at one.number (far_end fabric.cables (port node one.number)) refl one.passes)

module _ (whole cut : FabricState) (a b : PortRef) (good : IsGood whole) (is : IsCut whole cut a b) where
  joined_back : far_end whole.cables b ≡ Some a
  joined_back = good_once whole a b good is.joined

  apart : (a.node == b.node) ≡ false
  apart = let differ = other_node whole a b good is.joined in flip b.node a.node differ
    where
      flip : (n m : ℕ) → (n == m) ≡ false → (m == n) ≡ false
      flip n m h = grind (arith, nat_tests, h)

  -- ---- ports of adapters
  port_same : (at here : PortRef) → option_map_or (port_to whole at) (far_end whole.cables here) [] ≡ option_map_or (port_to cut at) (far_end cut.cables here) []
  port_same at here = by (is_same_port here a) (is_same_port here b) refl refl
    where
      gone : (x y : PortRef) → here ≡ x → far_end whole.cables x ≡ Some y → far_end cut.cables x ≡ None → is_switch_at whole.nodes y.node ≡ true
          → option_map_or (port_to whole at) (far_end whole.cables here) [] ≡ option_map_or (port_to cut at) (far_end cut.cables here) []
      gone x y same joined none switch =
          ap (λ (o : Option PortRef). option_map_or (port_to whole at) o []) (ap (far_end whole.cables) same ∙ joined)
          ∙ no_port whole at y switch
          ∙ sym (ap (λ (o : Option PortRef). option_map_or (port_to cut at) o []) (ap (far_end cut.cables) same ∙ none))

      shown_same : (end : PortRef) → port_to whole at end ≡ port_to cut at end
      shown_same end =
          ap (λ (c : Bool). if c then [] else option_map_or (λ seen. port_seen at (unwrap_or (name_at whole end) []) seen ∷ []) (seen_at whole end) []) (is.alike.switches end.node)
          ∙ ap (λ (name : Option (List ℕ)). if is_switch_at cut.nodes end.node then [] else option_map_or (λ seen. port_seen at (unwrap_or name []) seen ∷ []) (seen_at whole end) []) (is.alike.names end)
          ∙ ap (λ (o : Option Seen). if is_switch_at cut.nodes end.node then [] else option_map_or (λ seen. port_seen at (unwrap_or (name_at cut end) []) seen ∷ []) o []) (is.alike.shown end)

      to : (o : Option PortRef) → option_map_or (port_to whole at) o [] ≡ option_map_or (port_to cut at) o []
      to None = refl
      to (Some end) = shown_same end

      by : (u v : Bool) → is_same_port here a ≡ u → is_same_port here b ≡ v
          → option_map_or (port_to whole at) (far_end whole.cables here) [] ≡ option_map_or (port_to cut at) (far_end cut.cables here) []
      by true v u_is v_is = gone a b (same_port here a u_is) is.joined is.first_free is.second
      by false true u_is v_is = gone b a (same_port here b v_is) joined_back is.second_free is.first
      by false false u_is v_is =
          to (far_end whole.cables here) ∙ ap (λ (o : Option PortRef). option_map_or (port_to cut at) o []) (sym (is.others here u_is v_is))

  pub ports_same : (found : List Found) → all_ports whole found ≡ all_ports cut found
  ports_same found =
      flat_same (λ place. ports_up_to whole place (node_at found place) (ports_at whole (node_at found place)))
      (λ place. ports_up_to cut place (node_at found place) (ports_at cut (node_at found place))) (range_with_len 0 (length found)) (λ place. up_to place (node_at found place))
    where
      up_to : (place node : ℕ) → ports_up_to whole place node (ports_at whole node) ≡ ports_up_to cut place node (ports_at cut node)
      up_to place node =
          ap (λ (count : ℕ). ports_up_to whole place node count) (is.alike.counts node)
          ∙ flat_same (λ number. option_map_or (port_to whole (port place number)) (far_end whole.cables (port node number)) [])
          (λ number. option_map_or (port_to cut (port place number)) (far_end cut.cables (port node number)) []) (range_with_len 1 (ports_at cut node))
          (λ number. port_same (port place number) (port node number))

  pub switches_same : (found : List Found) → map (switch_of whole) found ≡ map (switch_of cut) found
  switches_same found = map_same (switch_of whole) (switch_of cut) found (λ one. each one)
    where
      each : (one : Found) → switch_of whole one ≡ switch_of cut one
      each one = λ i. record {
        guid = is.alike.guids one.node i;
        num_ports = is.alike.counts one.node i;
        name = unwrap_or (is.alike.names (port one.node 0) i) [];
        path = one.path;
      }

  -- ---- links
  module _ (found : List Found) (once : IsDistinct (λ a b. a == b) (nodes_of found)) (all : (node : ℕ) → is_among (nodes_of found) node ≡ is_switch_at whole.nodes node) where
    abbrev nodes : List ℕ
    nodes = nodes_of found

    abbrev Stands : ℕ → ℕ → Type 0
    Stands k node = slice_get nodes k ≡ Some node

    is_place : (x : PortRef) → is_switch_at whole.nodes x.node ≡ true → (k node : ℕ) → Stands k node → (k == place_of nodes x.node) ≡ (node == x.node)
    is_place x switch k node at = by (node == x.node) refl (k == place_of nodes x.node) refl
      where
        there : (j : ℕ) × Stands j x.node
        there = among_place nodes x.node (all x.node ∙ switch)

        by : (u : Bool) → (node == x.node) ≡ u → (v : Bool) → (k == place_of nodes x.node) ≡ v → v ≡ u
        by true u true v = refl
        by false u false v = refl
        by true u false v =
            let same : Stands k x.node = at ∙ ap (λ (n : ℕ). Some n) (eqb-true node x.node u) in
            absurd (false≢true (sym v ∙ eq-eqb k (place_of nodes x.node) (sym (place_is nodes k x.node once same))))
        by false u true v =
            let place : k ≡ there.0 = eqb-true k (place_of nodes x.node) v ∙ place_is nodes there.0 x.node once there.1 in
            let same : node ≡ x.node = same_Some node x.node (sym at ∙ ap (slice_get nodes) place ∙ there.1) in
            absurd (false≢true (sym u ∙ eq-eqb node x.node same))

    abbrev kept : ℕ → GraphLink → Bool
    kept k link = not (leaves_by k (placed nodes a) link || leaves_by k (placed nodes b) link)

    kept_is : (k node : ℕ) → Stands k node → (link : GraphLink) → kept k link ≡ not (is_same_port (port node link.port) a || is_same_port (port node link.port) b)
    kept_is k node at link =
        ap (λ (u : Bool). not ((u && (link.port == a.port)) || leaves_by k (placed nodes b) link)) (is_place a is.first k node at)
        ∙ ap (λ (v : Bool). not (is_same_port (port node link.port) a || (v && (link.port == b.port)))) (is_place b is.second k node at)

    link_cut : (k node number : ℕ) → Stands k node
        → filter (kept k) (option_map_or (link_to whole nodes number) (far_end whole.cables (port node number)) [])
        ≡ option_map_or (link_to cut nodes number) (far_end cut.cables (port node number)) []
    link_cut k node number at = by (is_same_port (port node number) a) (is_same_port (port node number) b) refl refl
      where
        single : (to : PortRef) (c : Bool) → kept k (record { port = number; to = to }) ≡ c
            → filter (kept k) (record { port = number; to = to } ∷ []) ≡ (if c then record { port = number; to = to } ∷ [] else [])
        single to true is = rw is refl
        single to false is = rw is refl

        gone : (x y : PortRef) → port node number ≡ x → far_end whole.cables x ≡ Some y → far_end cut.cables x ≡ None → is_switch_at whole.nodes y.node ≡ true
            → ((to : PortRef) → kept k (record { port = number; to = to }) ≡ false)
            → filter (kept k) (option_map_or (link_to whole nodes number) (far_end whole.cables (port node number)) [])
            ≡ option_map_or (link_to cut nodes number) (far_end cut.cables (port node number)) []
        gone x y same joined none switch out =
            ap (λ (o : Option PortRef). filter (kept k) (option_map_or (link_to whole nodes number) o [])) (ap (far_end whole.cables) same ∙ joined)
            ∙ ap (filter (kept k)) (link_is whole nodes number y switch)
            ∙ single (placed nodes y) false (out (placed nodes y))
            ∙ sym (ap (λ (o : Option PortRef). option_map_or (link_to cut nodes number) o []) (ap (far_end cut.cables) same ∙ none))

        kind : (end : PortRef) → ((to : PortRef) → kept k (record { port = number; to = to }) ≡ true) → (c : Bool) → is_switch_at whole.nodes end.node ≡ c
            → filter (kept k) (link_to whole nodes number end) ≡ link_to cut nodes number end
        kind end stays true c =
            ap (filter (kept k)) (link_is whole nodes number end c) ∙ single (placed nodes end) true (stays (placed nodes end))
            ∙ sym (link_is cut nodes number end (sym (is.alike.switches end.node) ∙ c))
        kind end stays false c =
            ap (filter (kept k)) (no_link whole nodes number end c) ∙ sym (no_link cut nodes number end (sym (is.alike.switches end.node) ∙ c))

        to : ((to : PortRef) → kept k (record { port = number; to = to }) ≡ true) → (o : Option PortRef)
            → filter (kept k) (option_map_or (link_to whole nodes number) o []) ≡ option_map_or (link_to cut nodes number) o []
        to stays None = refl
        to stays (Some end) = kind end stays (is_switch_at whole.nodes end.node) refl

        out : (u v : Bool) → is_same_port (port node number) a ≡ u → is_same_port (port node number) b ≡ v → (to : PortRef)
            → kept k (record { port = number; to = to }) ≡ not (u || v)
        out u v u_is v_is to =
            kept_is k node at (record { port = number; to = to })
            ∙ ap (λ (c : Bool). not (c || is_same_port (port node number) b)) u_is ∙ ap (λ (c : Bool). not (u || c)) v_is

        by : (u v : Bool) → is_same_port (port node number) a ≡ u → is_same_port (port node number) b ≡ v
            → filter (kept k) (option_map_or (link_to whole nodes number) (far_end whole.cables (port node number)) [])
            ≡ option_map_or (link_to cut nodes number) (far_end cut.cables (port node number)) []
        by true v u_is v_is = gone a b (same_port (port node number) a u_is) is.joined is.first_free is.second (out true v u_is v_is)
        by false true u_is v_is = gone b a (same_port (port node number) b v_is) joined_back is.second_free is.first (out false true u_is v_is)
        by false false u_is v_is =
            to (out false false u_is v_is) (far_end whole.cables (port node number))
            ∙ ap (λ (o : Option PortRef). option_map_or (link_to cut nodes number) o []) (sym (is.others (port node number) u_is v_is))

    row_cut : (k node : ℕ) → Stands k node → row_without (placed nodes a) (placed nodes b) k (row_of whole nodes node) ≡ row_of cut nodes node
    row_cut k node at =
        filter_made (kept k) (λ number. option_map_or (link_to whole nodes number) (far_end whole.cables (port node number)) [])
        (λ number. option_map_or (link_to cut nodes number) (far_end cut.cables (port node number)) []) 1 (ports_at whole node) (λ number. link_cut k node number at)
        ∙ ap (λ (count : ℕ). flat_map (λ number. option_map_or (link_to cut nodes number) (far_end cut.cables (port node number)) []) (range_with_len 1 count)) (is.alike.counts node)

    long : (fabric : FabricState) → length (rows_of fabric found) ≡ length found
    long fabric = length-map found (λ (one : Found). row_of fabric nodes one.node)

    pub rows_cut : rows_without (placed nodes a) (placed nodes b) (rows_of whole found) ≡ rows_of cut found
    rows_cut =
        let size = made_long (row_without (placed nodes a) (placed nodes b)) 0 (rows_of whole found) in
        let long_whole = long whole in
        let long_cut = long cut in
        ext_get_or [] (rows_without (placed nodes a) (placed nodes b) (rows_of whole found)) (rows_of cut found) (size ∙ long_whole ∙ sym long_cut)
        (λ k less. let in_rows : k < length (rows_of whole found) = omega (arith, less, size) in
        let one = at_place found k (omega (arith, less, size, long_whole)) in
        made_there (row_without (placed nodes a) (placed nodes b)) (rows_of whole found) k in_rows
        ∙ ap (row_without (placed nodes a) (placed nodes b) k) (row_there whole found k one.0 one.1)
        ∙ row_cut k one.0.node (node_there found k one.0 one.1)
        ∙ sym (row_there cut found k one.0 one.1))

    -- ---- and back
    rises : (k : ℕ) → k < length (rows_of whole found) → rise_above 0 (get_or (rows_of whole found) k []) ≡ true
    rises k less =
        let long_whole = long whole in
        let one = at_place found k (omega (arith, less, long_whole)) in
        ap (rise_above 0) (row_there whole found k one.0 one.1) ∙ row_rises whole nodes one.0.node

    linked : (x y : PortRef) → is_switch_at whole.nodes x.node ≡ true → is_switch_at whole.nodes y.node ≡ true → far_end whole.cables x ≡ Some y
        → is_linked (rows_of whole found) (placed nodes x) (placed nodes y) ≡ true
    linked x y first second far =
        let there = among_place nodes x.node (all x.node ∙ first) in
        let one = found_there found there.0 x.node there.1 in
        let range = in_range whole x.node x.port (cabled_is_port whole.nodes whole.cables x y (present_right good) far) in
        ap (λ (k : ℕ). list_any (λ link. (link.port == x.port) && is_same_port link.to (placed nodes y)) (get_or (rows_of whole found) k [])) (place_is nodes there.0 x.node once there.1)
        ∙ ap (list_any (λ link. (link.port == x.port) && is_same_port link.to (placed nodes y))) (row_there whole found there.0 one.0 one.1 ∙ ap (row_of whole nodes) one.2)
        ∙ row_has whole nodes x.node x.port y (placed nodes y) far second refl range.0 range.1

    places_apart : (place_of nodes a.node == place_of nodes b.node) ≡ false
    places_apart =
        let there = among_place nodes a.node (all a.node ∙ is.first) in
        ap (λ (k : ℕ). k == place_of nodes b.node) (place_is nodes there.0 a.node once there.1) ∙ is_place b is.second there.0 a.node there.1 ∙ apart

    pub rows_mended : rows_with (placed nodes a) (placed nodes b) (rows_of cut found) ≡ rows_of whole found
    rows_mended =
        ap (rows_with (placed nodes a) (placed nodes b)) (sym rows_cut)
        ∙ rows_back (rows_of whole found) (placed nodes a) (placed nodes b) places_apart rises (linked a b is.first is.second is.joined) (linked b a is.second is.first joined_back)

    -- ---- where the calls may be made
    switch_port : (switches : List GraphSwitch) → switches ≡ map (switch_of cut) found → (x y : PortRef) → is_switch_at whole.nodes x.node ≡ true
        → far_end whole.cables x ≡ Some y → is_switch_port switches (placed nodes x) ≡ true
    switch_port switches are x y switch far =
        let there = among_place nodes x.node (all x.node ∙ switch) in
        let one = found_there found there.0 x.node there.1 in
        let range = in_range whole x.node x.port (cabled_is_port whole.nodes whole.cables x y (present_right good) far) in
        let count : count_at switches (place_of nodes x.node) ≡ ports_at whole x.node =
        ap (count_at switches) (place_is nodes there.0 x.node once there.1)
        ∙ (count_found cut found switches there.0 one.0 are one.1 ∙ ap (ports_at cut) one.2 ∙ sym (is.alike.counts x.node)) in
        and_from (nat_le 1 x.port) _ (le-leb 1 x.port range.0) (ap (nat_le x.port) count ∙ le-leb x.port (ports_at whole x.node) range.1)

    free : (rows : List (List GraphLink)) → rows ≡ rows_of cut found → (x : PortRef) → is_switch_at whole.nodes x.node ≡ true
        → far_end cut.cables x ≡ None → is_free rows (placed nodes x) ≡ true
    free rows are x switch far =
        let there = among_place nodes x.node (all x.node ∙ switch) in
        let one = found_there found there.0 x.node there.1 in
        let row : get_or rows (place_of nodes x.node) [] ≡ row_of cut nodes x.node =
        ap (λ (k : ℕ). get_or rows k []) (place_is nodes there.0 x.node once there.1) ∙ ap (λ (some : List (List GraphLink)). get_or some there.0 []) are
        ∙ (row_there cut found there.0 one.0 one.1 ∙ ap (row_of cut nodes) one.2) in
        ap (λ (links : List GraphLink). not (list_any (λ link. link.port == x.port) links)) row
        ∙ ap not (no_link_by cut nodes x.node x.port far)

    may_be_cabled : (graph : GraphState) → graph.switches ≡ map (switch_of cut) found → graph.rows ≡ rows_of cut found
        → MayBeCabled graph (placed nodes a) (placed nodes b)
    may_be_cabled graph switches rows = record {
      first = switch_port graph.switches switches a b is.first is.joined;
      second = switch_port graph.switches switches b a is.second joined_back;
      apart = places_apart;
      first_free = free graph.rows rows a is.first is.first_free;
      second_free = free graph.rows rows b is.second is.second_free;
    }

  managers : (fabric other : FabricState) (guid : ℕ) → ((at : PortRef) → seen_at fabric at ≡ seen_at other at) → fabric.manager ≡ other.manager
      → option_map (λ seen. seen.port_guid) (seen_at fabric fabric.manager) ≡ Some guid → option_map (λ seen. seen.port_guid) (seen_at other other.manager) ≡ Some guid
  managers fabric other guid shown manager there =
      ap (λ (at : PortRef). option_map (λ seen. seen.port_guid) (seen_at other at)) (sym manager)
      ∙ ap (option_map (λ seen. seen.port_guid)) (sym (shown fabric.manager)) ∙ there

  pub layout_cut : (graph : GraphState) (layout : IsLayoutOf graph whole) → IsLayoutOf (without (in_graph layout a) (in_graph layout b) graph) cut
  layout_cut graph layout = record {
    found = layout.found;
    once = layout.once;
    all = λ node. layout.all node ∙ is.alike.switches node;
    manager = managers whole cut graph.manager is.alike.shown is.alike.manager layout.manager;
    switches = layout.switches ∙ switches_same layout.found;
    rows = ap (rows_without (in_graph layout a) (in_graph layout b)) layout.rows ∙ rows_cut layout.found layout.once layout.all;
    ports = layout.ports ∙ ports_same layout.found;
  }

  pub layout_mended : (graph : GraphState) (layout : IsLayoutOf graph cut) → IsLayoutOf (with_cable (in_graph layout a) (in_graph layout b) graph) whole
  layout_mended graph layout = record {
    found = layout.found;
    once = layout.once;
    all = λ node. layout.all node ∙ sym (is.alike.switches node);
    manager = managers cut whole graph.manager (λ at. sym (is.alike.shown at)) (sym is.alike.manager) layout.manager;
    switches = layout.switches ∙ sym (switches_same layout.found);
    rows = ap (rows_with (in_graph layout a) (in_graph layout b)) layout.rows
        ∙ rows_mended layout.found layout.once (λ node. layout.all node ∙ sym (is.alike.switches node));
    ports = layout.ports ∙ sym (ports_same layout.found);
  }

pub graphs_are_recabled : GraphsAreRecabled
graphs_are_recabled whole cut a b graph good is = (taken, put)
  where
    taken : (layout : IsLayoutOf graph whole)
        → (is_linked graph.rows (in_graph layout a) (in_graph layout b) ≡ true) × IsLayoutOf (without (in_graph layout a) (in_graph layout b) graph) cut
    taken layout = (
      ap (λ (rows : List (List GraphLink)). is_linked rows (in_graph layout a) (in_graph layout b)) layout.rows
          ∙ linked whole cut a b good is layout.found layout.once layout.all a b is.first is.second is.joined,
      layout_cut whole cut a b good is graph layout,
    )

    put : (layout : IsLayoutOf graph cut)
        → MayBeCabled graph (in_graph layout a) (in_graph layout b) × IsLayoutOf (with_cable (in_graph layout a) (in_graph layout b) graph) whole
    put layout = (
      may_be_cabled whole cut a b good is layout.found layout.once (λ node. layout.all node ∙ sym (is.alike.switches node)) graph layout.switches layout.rows,
      layout_mended whole cut a b good is graph layout,
    )
