-- The link of the graph by which a switch is joined to the spanning tree.
use Rattle.std.proofs.Common.{ℕ, zero, suc, ◌≡◌, ◌+◌, ◌-◌, ◌^◌, ◌<◌, ◌≤◌, ◌==◌, ◌∙◌, ap, refl, sym, inl, inr, nat_lt, Bool, true, false, List, [], ◌∷◌, find, get_or, length, map, Option, Some, None, option_map, arith}
use Rattle.std.specs.List.{list_all}
use Rattle.std.specs.Option.{option_and_then}
use Rattle.std.proofs.lemmas.Bool.{and_parts, cases_lt, eq-eqb, ltb-true, ne_eqb}
use Rattle.std.proofs.lemmas.List.{get_or_past}
use Rattle.std.proofs.lemmas.Option.{none-some, same_Some}
use Rattle.std.proofs.lemmas.Simd.{map-map}
use Rattle.fabric_parts.specs.declared.cable.PortRef.{PortRef}
use Rattle.sweep.specs.declared.graph.GraphLink.{GraphLink}
use Rattle.table_push.specs.Masks.{link_at, tree_end}
use Rattle.table_push.specs.MaskSteps.{AreBits, is_that_port}
use Rattle.table_push.specs.TreeSteps.{AreParents, IsBelowSet, IsNode, graph_link, parent_in}
use Rattle.table_push.proofs.TreeMaskLemmas.{outside_is}
use Rattle.updn_routes.proofs.CablingLemmas.{links_within, row_rises}
use Rattle.updn_routes.specs.Cabling.{links_of, rises}
use Rattle.updn_routes.specs.Routes.{AreRoutes}
use Rattle.updn_routes.specs.Sides.{parent}
use Rattle.updn_routes.specs.Subnet.{AreOfGraph, RoutesState, link_of, row_of}
use Rattle.updn_routes.specs.Tree.{tree_link, tree_port}
use Rattle.updn_routes.specs.declared.link.Link.{Link}

-- ---- links that are found
row_at : (rows : List (List GraphLink)) (s : ℕ) → get_or (map row_of rows) s [] ≡ row_of (get_or rows s [])
row_at [] s = refl
row_at (row ∷ rows) zero = refl
row_at (row ∷ rows) (suc s) = row_at rows s

found_of : (test : Link → Bool) (links : List GraphLink) → find test (map link_of links) ≡ option_map link_of (find (λ link. test (link_of link)) links)
found_of test [] = refl
found_of test (link ∷ links) = by (test (link_of link)) refl (found_of test links)
  where
    by : (b : Bool) → test (link_of link) ≡ b → find test (map link_of links) ≡ option_map link_of (find (λ link. test (link_of link)) links)
        → find test (map link_of (link ∷ links)) ≡ option_map link_of (find (λ link. test (link_of link)) (link ∷ links))
    by true is rest = rw is refl
    by false is rest = rw is rest

found_has : {X : Type 0} (p test : X → Bool) (xs : List X) (x : X) → list_all p xs ≡ true → find test xs ≡ Some x → p x ≡ true
found_has p test [] x all found = absurd (none-some x found)
found_has p test (y ∷ ys) x all found = by (test y) refl (and_parts (p y) (list_all p ys) all).0 (found_has p test ys x (and_parts (p y) (list_all p ys) all).1)
  where
    by : (b : Bool) → test y ≡ b → p y ≡ true → (find test ys ≡ Some x → p x ≡ true) → p x ≡ true
    by true is here rest =
        let first : find test (y ∷ ys) ≡ Some y = rw is refl in
        ap p (sym (same_Some y x (sym first ∙ found))) ∙ here
    by false is here rest =
        let later : find test (y ∷ ys) ≡ find test ys = rw is refl in
        rest (sym later ∙ found)

abbrev port_of : GraphLink → ℕ
port_of link = link.port

-- where ports rise, a link is the first of its port
own_link : (test : GraphLink → Bool) (links : List GraphLink) (one : GraphLink) → rises (map port_of links) ≡ true → find test links ≡ Some one
    → find (λ link. link.port == one.port) links ≡ Some one
own_link test [] one up found = absurd (none-some one found)
own_link test (link ∷ links) one up found = by (test link) refl (own_link test links one parts.1)
  where
    parts : (list_all (λ y. nat_lt link.port y) (map port_of links) ≡ true) × (rises (map port_of links) ≡ true)
    parts = and_parts (list_all (λ y. nat_lt link.port y) (map port_of links)) (rises (map port_of links)) up

    all_more : (others : List GraphLink) → list_all (λ y. nat_lt link.port y) (map port_of others) ≡ true → list_all (λ other. nat_lt link.port other.port) others ≡ true
    all_more [] all = refl
    all_more (other ∷ others) all =
        let each = and_parts (nat_lt link.port other.port) (list_all (λ y. nat_lt link.port y) (map port_of others)) all in
        rw each.0 (all_more others each.1)

    by : (b : Bool) → test link ≡ b → (find test links ≡ Some one → find (λ link. link.port == one.port) links ≡ Some one)
        → find (λ link. link.port == one.port) (link ∷ links) ≡ Some one
    by true is rest =
        let first : find test (link ∷ links) ≡ Some link = rw is refl in
        let same : link ≡ one = same_Some link one (sym first ∙ found) in
        let own : (link.port == one.port) ≡ true = eq-eqb link.port one.port (ap port_of same) in
        rw own (ap (λ (some : GraphLink). Some some) same)
    by false is rest =
        let later : find test (link ∷ links) ≡ find test links = rw is refl in
        let there : find test links ≡ Some one = sym later ∙ found in
        let more = ltb-true link.port one.port (found_has (λ other. nat_lt link.port other.port) test links one (all_more links parts.0) there) in
        let other : (link.port == one.port) ≡ false = ne_eqb link.port one.port (λ same. omega (arith, more, same)) in
        rw other (rest there)

-- ---- what the link reports
module _ (routes : RoutesState) (are : AreRoutes routes.between) (of : AreOfGraph routes) (s : ℕ) where
  abbrev rows : List (List Link)
  rows = routes.between.rows

  abbrev depths : List ℕ
  depths = routes.between.depths

  abbrev links : List GraphLink
  links = get_or routes.graph.rows s []

  row_is : links_of rows s ≡ map link_of links
  row_is = ap (λ (some : List (List Link)). get_or some s []) of.rows_are ∙ row_at routes.graph.rows s

  link_is : tree_link rows depths s ≡ option_map link_of (graph_link routes s)
  link_is =
      ap (find (λ (link : Link). get_or depths link.to 0 + 1 == get_or depths s 0)) row_is
      ∙ found_of (λ (link : Link). get_or depths link.to 0 + 1 == get_or depths s 0) links

  to_of : (o : Option GraphLink) → option_map (λ link. link.to.node) o ≡ option_map (λ (link : Link). link.to) (option_map link_of o)
  to_of None = refl
  to_of (Some link) = refl

  number_of : (o : Option GraphLink) → option_map (λ link. link.port) o ≡ option_map (λ (link : Link). link.port) (option_map link_of o)
  number_of None = refl
  number_of (Some link) = refl

  pub parent_is : option_map (λ link. link.to.node) (graph_link routes s) ≡ parent rows depths s
  parent_is = to_of (graph_link routes s) ∙ ap (λ (o : Option Link). option_map (λ link. link.to) o) (sym link_is)

  pub port_is : option_map (λ link. link.port) (graph_link routes s) ≡ tree_port rows depths s
  port_is = number_of (graph_link routes s) ∙ ap (λ (o : Option Link). option_map (λ link. link.port) o) (sym link_is)

  no_row : length rows ≤ s → links_of rows s ≡ []
  no_row past = get_or_past rows s [] past

  ports_rise : rises (map port_of links) ≡ true
  ports_rise = elim (cases_lt s (length rows)) [
    | inl less ↦
        ap rises (sym (map-map (λ (link : Link). link.port) link_of links))
        ∙ ap (λ (row : List Link). rises (map (λ link. link.port) row)) (sym row_is) ∙ row_rises rows s are.cabling less
    | inr past ↦
        ap rises (sym (map-map (λ (link : Link). link.port) link_of links))
        ∙ ap (λ (row : List Link). rises (map (λ link. link.port) row)) (sym row_is ∙ no_row past)
  ]

  pub end_is : option_map (λ link. link.to) (graph_link routes s) ≡ tree_end routes s
  end_is = by (graph_link routes s) refl ∙ ap (λ (o : Option ℕ). option_and_then (λ number. option_map (λ link. link.to) (link_at routes.graph.rows s number)) o) port_is
    where
      by : (o : Option GraphLink) → graph_link routes s ≡ o
          → option_map (λ link. link.to) o ≡ option_and_then (λ number. option_map (λ link. link.to) (link_at routes.graph.rows s number)) (option_map (λ link. link.port) o)
      by None is = refl
      by (Some link) is =
          ap (λ (o : Option GraphLink). option_map (λ link. link.to) o)
          (sym (own_link (λ link. get_or depths link.to.node 0 + 1 == get_or depths s 0) links link ports_rise is))

  no_parent : length rows ≤ s → parent rows depths s ≡ None
  no_parent past =
      ap (λ (row : List Link). option_map (λ (link : Link). link.to) (find (λ (link : Link). get_or depths link.to 0 + 1 == get_or depths s 0) row)) (no_row past)

  pub parent_low : (p : ℕ) → parent rows depths s ≡ Some p → p < 64
  parent_low p is = elim (cases_lt s (length rows)) [
    | inl less ↦ by (tree_link rows depths s) refl is less
    | inr past ↦ absurd (none-some p (sym (no_parent past) ∙ is))
  ]
    where
      by : (o : Option Link) → tree_link rows depths s ≡ o → option_map (λ link. link.to) o ≡ Some p → s < length rows → p < 64
      by None at never less = absurd (none-some p never)
      by (Some link) at same less =
          let within = ltb-true link.to (length rows) (found_has (λ link. nat_lt link.to (length rows)) (λ (link : Link). get_or depths link.to 0 + 1 == get_or depths s 0)
          (links_of rows s) link (links_within rows s are.cabling less) at) in
          let equal : link.to ≡ p = same_Some link.to p same in
          omega (arith, within, equal, are.few)

  pub parent_by : (found : List (Option GraphLink)) → length found ≡ 64 → ((t : ℕ) → t < 64 → get_or found t None ≡ graph_link routes t)
      → parent_in found s ≡ parent rows depths s
  parent_by found long each = elim (cases_lt s 64) [
    | inl low ↦ ap (λ (o : Option GraphLink). option_map (λ link. link.to.node) o) (each s low) ∙ parent_is
    | inr high ↦
        ap (λ (o : Option GraphLink). option_map (λ link. link.to.node) o) (get_or_past found s None (omega (arith, long, high)))
        ∙ sym (no_parent (omega (arith, high, are.few)))
  ]

-- the step from one switch to the next above it
pub above_by : (routes : RoutesState) (found : List (Option GraphLink)) → AreParents routes found → (o : Option ℕ)
    → option_and_then (parent_in found) o ≡ option_and_then (parent routes.between.rows routes.between.depths) o
above_by routes found are None = refl
above_by routes found are (Some s) = are s

-- ---- what is kept of a switch
far_port : (o : Option GraphLink) → option_map (λ link. link.to.port) o ≡ option_map (λ at. at.port) (option_map (λ (link : GraphLink). link.to) o)
far_port None = refl
far_port (Some link) = refl

pub node_of : (routes : RoutesState) → AreRoutes routes.between → AreOfGraph routes → (s below up end : ℕ) (link : Option GraphLink) (of : Option ℕ) → link ≡ graph_link routes s → of ≡ option_map (λ link. link.to.node) link
    → IsBelowSet routes s below → below < 2 ^ 64 → AreBits up (is_that_port (option_map (λ link. link.port) link))
    → AreBits end (is_that_port (option_map (λ link. link.to.port) link))
    → IsNode routes s below (2 ^ 64 - 1 - below) of up end
node_of routes are graph s below up end link of is of_is set fits up_is end_is_bit =
    let parent_now : of ≡ parent routes.between.rows routes.between.depths s =
    of_is ∙ ap (λ (o : Option GraphLink). option_map (λ link. link.to.node) o) is ∙ parent_is routes are graph s in
    let port_now : option_map (λ link. link.port) link ≡ tree_port routes.between.rows routes.between.depths s =
    ap (λ (o : Option GraphLink). option_map (λ link. link.port) o) is ∙ port_is routes are graph s in
    let end_now : option_map (λ link. link.to.port) link ≡ option_map (λ at. at.port) (tree_end routes s) =
    far_port link ∙ ap (λ (o : Option PortRef). option_map (λ at. at.port) o)
    (ap (λ (o : Option GraphLink). option_map (λ link. link.to) o) is ∙ end_is routes are graph s) in
    record {
      is_below = set;
      is_outside = outside_is routes s below fits set;
      below_fits = fits;
      outside_fits = omega arith;
      is_parent = λ t low. ap (λ (o : Option ℕ). is_that_port o t) parent_now;
      is_low = λ p there. parent_low routes are graph s p (sym parent_now ∙ there);
      is_up = λ number low. up_is number low ∙ ap (λ (o : Option ℕ). is_that_port o number) port_now;
      is_end = λ number low. end_is_bit number low ∙ ap (λ (o : Option ℕ). is_that_port o number) end_now;
    }
