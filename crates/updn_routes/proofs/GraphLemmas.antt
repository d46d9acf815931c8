-- Every graph whose switches are joined is a fabric, and its LIDs are attached to its switches.
use Rattle.std.proofs.Common.{◌≡◌, ℕ, zero, suc, ◌+◌, ◌<◌, ◌≤◌, ◌⊎◌, Bool, true, cond, not, ◌==◌, ◌&&◌, nat_le, nat_lt, List, [], ◌∷◌, length, map, find, get_or, position}
use Rattle.std.proofs.Common.{Option, Some, None, option_map, refl, sym, ap, subst, ◌∙◌, inl, inr, arith, length-append}
use Rattle.std.specs.List.{list_all, list_any, position_or_len, range_with_len}
use Rattle.std.specs.Option.{option_map_or}
use Rattle.std.proofs.lemmas.Bool.{and_parts, and_from, cases_lt, leb-true, ltb-true, le-ltb, lt-ltb, false≢true}
use Rattle.std.proofs.lemmas.List.Folds.{find_at, list_all-map}
use Rattle.std.proofs.lemmas.Option.{slice_get_cases}
use Rattle.std.proofs.Math.ListN.{get_or-map}
use Rattle.fabric_parts.specs.Cable.{port}
use Rattle.fabric_parts.specs.declared.cable.PortRef.{PortRef}
use Rattle.lid_assign.specs.Lids.{AreLids, adapter_end, end_ports, switch_end}
use Rattle.step_results.proofs.ListLemmas.{list_all_weaker, any_map}
use Rattle.step_results.proofs.DistinctLemmas.{left_part}
use Rattle.step_results.proofs.TestLemmas.{same_and}
use Rattle.sweep.proofs.JoinedLemmas.{at_each}
use Rattle.sweep.specs.Graph.{GraphState, IsGraph, count_at, is_linked, is_right_link, is_right_port, is_right_row, is_switch_port, rise_above}
use Rattle.sweep.specs.Joined.{AllJoined as AllJoinedThere, is_next_to as is_next_there, is_walk_by}
use Rattle.sweep.specs.declared.graph.GraphPort.{GraphPort}
use Rattle.sweep.specs.declared.graph.GraphSwitch.{GraphSwitch}
use Rattle.sweep.specs.declared.graph.GraphLink.{GraphLink}
use Rattle.updn_routes.specs.declared.link.Link.{Link}
use Rattle.updn_routes.specs.Cabling.{AllJoined, is_cabling, is_next_to, is_row, is_walk, links_of, rises}
use Rattle.updn_routes.specs.Fabric.{IsFabric}
use Rattle.updn_routes.specs.Routes.{all_attached}
use Rattle.updn_routes.specs.Subnet.{guids_of, home_from, home_in, homes_of, link_of, place_of, row_of, rows_of, attachment_of}
use Rattle.updn_routes.proofs.CablingLemmas.{some_of}
use Rattle.updn_routes.proofs.WriteLemmas.{past_end}

-- ---- lists
long_map : {X Y : Type 0} (f : X → Y) (xs : List X) → length (map f xs) ≡ length xs
long_map f [] = refl
long_map f (x ∷ xs) = ap suc (long_map f xs)

all_range : (p : ℕ → Bool) (first count : ℕ) → ((s : ℕ) → first ≤ s → s < first + count → p s ≡ true)
    → list_all p (range_with_len first count) ≡ true
all_range p first zero each = refl
all_range p first (suc count) each =
    and_from (p first) (list_all p (range_with_len (first + 1) count)) (each first (omega arith) (omega arith))
    (all_range p (first + 1) count (λ s low high. each s (omega (arith, low)) (omega (arith, high))))

all_get : {X : Type 0} (p : X → Bool) (xs : List X) (i : ℕ) (d : X) → list_all p xs ≡ true → i < length xs
    → p (get_or xs i d) ≡ true
all_get p [] i d all less = absurd (let no_room : ⊥ = omega (arith, less) in no_room)
all_get p (x ∷ xs) zero d all less = (and_parts (p x) (list_all p xs) all).0
all_get p (x ∷ xs) (suc i) d all less = all_get p xs i d (and_parts (p x) (list_all p xs) all).1 (omega (arith, less))

position_low : {X : Type 0} (p : X → Bool) (xs : List X) (i : ℕ) → position p xs ≡ Some i → i < length xs
position_low p xs i e = by (cases_lt (position_or_len p xs) (length xs))
  where
    same : (a b : ℕ) → ◌≡◌ {A = Option ℕ} (Some a) (Some b) → a ≡ b
    same a b h = cc

    gone : ◌≡◌ {A = Option ℕ} None (Some i) → ⊥
    gone h = cc

    by : (position_or_len p xs < length xs) ⊎ (length xs ≤ position_or_len p xs) → i < length xs
    by (inl low) =
        let even = same (position_or_len p xs) i (sym (ap (λ b. cond b (Some (position_or_len p xs)) None) (lt-ltb (position_or_len p xs) (length xs) low)) ∙ e) in
        omega (arith, low, even)
    by (inr past) =
        absurd (gone (sym (ap (λ b. cond b (Some (position_or_len p xs)) None) (le-ltb (position_or_len p xs) (length xs) past)) ∙ e))

none_is : (at : PortRef) → ◌≡◌ {A = Option PortRef} None (Some at) → ⊥
none_is at h = cc

-- ---- rows
rising : (last : ℕ) (row : List GraphLink) → rise_above last row ≡ true
    → (list_all (λ y. nat_lt last y) (map (λ link. link.port) (row_of row)) ≡ true) × (rises (map (λ link. link.port) (row_of row)) ≡ true)
rising last [] h = (refl, refl)
rising last (link ∷ row) h =
    let parts = and_parts (nat_lt last link.port) (rise_above link.port row) h in
    let more = rising link.port row parts.1 in
    let less = ltb-true last link.port parts.0 in (
      and_from (nat_lt last link.port) _ parts.0 (list_all_weaker (λ y. nat_lt link.port y) (λ y. nat_lt last y) (λ y k. let past = ltb-true link.port y k in lt-ltb last y (omega (arith, less, past))) (map (λ l. l.port) (row_of row)) more.0),
      and_from (list_all (λ y. nat_lt link.port y) (map (λ l. l.port) (row_of row))) _ more.0 more.1,
    )

module _ (graph : GraphState) (is : IsGraph graph) where
  row : ℕ → List GraphLink
  row s = get_or graph.rows s []

  count : length (rows_of graph) ≡ length graph.rows
  count = long_map row_of graph.rows

  row_is : (s : ℕ) → links_of (rows_of graph) s ≡ row_of (get_or graph.rows s [])
  row_is s = get_or-map row_of graph.rows s []

  right_row : (s : ℕ) → s < length graph.rows → is_right_row graph.switches graph.rows s ≡ true
  right_row s less = at_each (is_right_row graph.switches graph.rows) 0 (length graph.rows) s is.rows (omega arith) (omega (arith, less))

  -- a link leads from a switch, so there is one
  any_there : (s : ℕ) (p : GraphLink → Bool) → list_any p (get_or graph.rows s []) ≡ true → s < length graph.rows
  any_there s p h =
      elim (cases_lt s (length graph.rows)) [
        | inl less ↦ less
        | inr past ↦ absurd (false≢true (sym (ap (list_any p) (past_end graph.rows s [] past)) ∙ h))
      ]

  right_link : (s : ℕ) (link : GraphLink) → is_right_link graph.switches graph.rows s link ≡ true
      → (nat_lt link.to.node (length (rows_of graph)) && not (link.to.node == s)) ≡ true
  right_link s link h =
      let one = and_parts (nat_le link.port (count_at graph.switches s)) _ h in
      let two = and_parts (not (link.to.node == s)) (is_linked graph.rows link.to (port s link.port)) one.1 in
      let low = any_there link.to.node _ two.1 in
      let even = count in
      and_from (nat_lt link.to.node (length (rows_of graph))) (not (link.to.node == s)) (lt-ltb link.to.node (length (rows_of graph)) (omega (arith, low, even))) two.0

  cabling : is_cabling (rows_of graph) ≡ true
  cabling = all_range (λ s. is_row (length (rows_of graph)) s (links_of (rows_of graph) s)) 0 (length (rows_of graph)) one
    where
      one : (s : ℕ) → 0 ≤ s → s < 0 + length (rows_of graph) → is_row (length (rows_of graph)) s (links_of (rows_of graph) s) ≡ true
      one s low high =
          let even = count in
          let parts = and_parts (rise_above 0 (get_or graph.rows s [])) (list_all (is_right_link graph.switches graph.rows s) (get_or graph.rows s [])) (right_row s (omega (arith, high, even))) in
          subst (λ (r : List Link). is_row (length (rows_of graph)) s r ≡ true) (sym (row_is s))
          (and_from (rises (map (λ link. link.port) (row_of (get_or graph.rows s [])))) _ (rising 0 (get_or graph.rows s []) parts.0).1
          (list_all-map (λ link. nat_lt link.to (length (rows_of graph)) && not (link.to == s)) link_of (get_or graph.rows s [])
          ∙ list_all_weaker (is_right_link graph.switches graph.rows s) (λ link. nat_lt link.to.node (length (rows_of graph)) && not (link.to.node == s)) (right_link s) (get_or graph.rows s []) parts.1))

  -- ---- walks
  beside : (s t : ℕ) → is_next_to (rows_of graph) s t ≡ is_next_there graph.rows s t
  beside s t = ap (list_any (λ link. link.to == t)) (row_is s) ∙ any_map (λ link. link.to == t) link_of (get_or graph.rows s [])

  walks : (s d : ℕ) (steps : List ℕ) → is_walk (rows_of graph) s steps d ≡ is_walk_by (is_next_there graph.rows) s steps d
  walks s d [] = refl
  walks s d (t ∷ steps) = same_and (is_next_to (rows_of graph) s t) (is_next_there graph.rows s t) _ _ (beside s t) (walks t d steps)

  all_joined : AllJoinedThere graph.rows → AllJoined (rows_of graph)
  all_joined joined s d sl dl =
      let even = count in
      let walk = joined s d (omega (arith, sl, even)) (omega (arith, dl, even)) in
      (walk.0, walks s d walk.0 ∙ walk.1)

  -- ---- switches
  switches : length (rows_of graph) ≡ length graph.switches
  switches = count ∙ is.a_row_each

  attachment : (at : PortRef) → is_switch_port graph.switches at ≡ true → at.node < length (rows_of graph)
  attachment at h =
      let parts = and_parts (nat_le 1 at.port) (nat_le at.port (count_at graph.switches at.node)) h in
      let low = leb-true 1 at.port parts.0 in
      let high = leb-true at.port (count_at graph.switches at.node) parts.1 in
      let even = switches in
      elim (slice_get_cases graph.switches at.node).1 [
        | inl there ↦ (let less = there.1 in omega (arith, less, even))
        | inr past ↦ absurd (let none : count_at graph.switches at.node ≡ 0 = ap (λ (o : Option GraphSwitch). option_map_or (λ switch. switch.num_ports) o 0) past.1 in let no_room : ⊥ = omega (arith, low, high, none) in no_room)
      ]

  pub some_switch : 0 < length (rows_of graph)
  some_switch =
      let manager = some_of (λ port. port.port_guid == graph.manager) (is_right_port graph.switches) graph.ports is.ports is.manager_there in
      let low = attachment manager.0.at (and_parts (is_switch_port graph.switches manager.0.at) _ manager.1.1).0 in
      omega (arith, low)

  pub graph_is_fabric : (roots : List ℕ) → AllJoinedThere graph.rows
      → list_all (λ root. list_any (λ guid. guid == root) (guids_of graph)) roots ≡ true
      → IsFabric (rows_of graph) (guids_of graph) roots
  graph_is_fabric roots joined named =
      record {
        cabling = cabling;
        joined = all_joined joined;
        some = some_switch;
        count = long_map (λ (switch : GraphSwitch). switch.guid) graph.switches ∙ sym switches;
        own = left_part (λ a b. a == b) (guids_of graph) (map (λ port. port.port_guid) graph.ports) is.guids;
        named = named;
      }

  pub graph_is_small : length (rows_of graph) ≤ 64
  graph_is_small = let even = switches in let few = is.few_switches in omega (arith, even, few)

  -- ---- LIDs
  attached_there : (guid : ℕ) → nat_lt (home_in graph guid).node (length (rows_of graph)) ≡ true
  attached_there guid =
      by (place_of graph.switches guid) refl (attachment_of graph.ports guid) (attached (find (λ port. port.port_guid == guid) graph.ports) refl)
    where
      attached : (o : Option GraphPort) → find (λ port. port.port_guid == guid) graph.ports ≡ o → (at : PortRef) → option_map (λ port. port.at) (find (λ port. port.port_guid == guid) graph.ports) ≡ Some at → at.node < length (rows_of graph)
      attached None e at f = absurd (none_is at (sym (ap (option_map (λ port. port.at)) e) ∙ f))
      attached (Some port) e at f =
          elim (slice_get_cases graph.ports (position_or_len (λ port. port.port_guid == guid) graph.ports)).1 [
            | inl there ↦
                (let same : there.0 ≡ port = same_port there.0 port (sym there.2 ∙ (sym (find_at (λ port. port.port_guid == guid) graph.ports) ∙ e)) in
                let right = subst (λ (p : GraphPort). is_right_port graph.switches p ≡ true) (there.3 ∙ same) (all_get (is_right_port graph.switches) graph.ports (position_or_len (λ port. port.port_guid == guid) graph.ports) there.0 is.ports there.1) in
                let low = attachment port.at (and_parts (is_switch_port graph.switches port.at) _ right).0 in
                subst (λ (p : PortRef). p.node < length (rows_of graph)) (same_at port.at at (sym (ap (option_map (λ port. port.at)) e) ∙ f)) low)
            | inr past ↦ absurd (none_some port (sym past.1 ∙ (sym (find_at (λ port. port.port_guid == guid) graph.ports) ∙ e)))
          ]
        where
          same_port : (a b : GraphPort) → ◌≡◌ {A = Option GraphPort} (Some a) (Some b) → a ≡ b
          same_port a b h = cc

          same_at : (a b : PortRef) → ◌≡◌ {A = Option PortRef} (Some a) (Some b) → a ≡ b
          same_at a b h = cc

          none_some : (a : GraphPort) → ◌≡◌ {A = Option GraphPort} None (Some a) → ⊥
          none_some a h = cc

      by : (o : Option ℕ) → place_of graph.switches guid ≡ o → (p : Option PortRef)
          → ((at : PortRef) → p ≡ Some at → at.node < length (rows_of graph)) → nat_lt (home_from o p).node (length (rows_of graph)) ≡ true
      by (Some place) e p low =
          lt-ltb place (length (rows_of graph)) (let less = position_low (λ (switch : GraphSwitch). switch.guid == guid) graph.switches place e in let even = switches in omega (arith, less, even))
      by None e (Some at) low = lt-ltb at.node (length (rows_of graph)) (low at refl)
      by None e None low = lt-ltb 0 (length (rows_of graph)) some_switch

  pub all_attached_there : (lids : List ℕ) → all_attached (homes_of graph lids) (length (rows_of graph)) ≡ true
  all_attached_there [] = refl
  all_attached_there (guid ∷ lids) =
      and_from (nat_lt (home_in graph guid).node (length (rows_of graph))) (all_attached (homes_of graph lids) (length (rows_of graph))) (attached_there guid) (all_attached_there lids)

pub lids_count : (graph : GraphState) (lids : List ℕ) → AreLids (end_ports graph) lids
    → length lids ≡ length graph.switches + length graph.ports
lids_count graph lids are =
    let both = length-append (map switch_end graph.switches) (map (adapter_end graph.manager) graph.ports) in
    let one = long_map switch_end graph.switches in
    let other = long_map (adapter_end graph.manager) graph.ports in
    let count = are.count in
    omega (arith, both, one, other, count)
