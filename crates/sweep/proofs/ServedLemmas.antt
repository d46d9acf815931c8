-- What the distances of a graph's switches from the subnet manager's report of whether it is whole.
use Rattle.std.proofs.Common.{◌≡◌, ℕ, zero, suc, ◌-◌, ◌<◌, ◌⊎◌, Bool, true, false, not, ◌==◌, ◌&&◌, ◌||◌, nat_le, List, [], ◌∷◌, ◌++◌, find, length, get_or}
use Rattle.std.proofs.Common.{Option, Some, None, cond, option_map, refl, sym, ap, ◌∙◌, inl, inr, arith}
use Rattle.std.specs.Bool.{Decides}
use Rattle.std.specs.List.{All, Contains, list_all, list_any}
use Rattle.std.specs.Option.{is_some, option_map_or, unwrap_or}
use Rattle.std.proofs.lemmas.Bool.{and_from, and_parts, eq-eqb, eqb-true, false≢true, le-leb, leb-true, or_cases, or_left, or_right}
use Rattle.std.proofs.lemmas.Bool.Decides.{Decides-by_and}
use Rattle.step_results.proofs.ListLemmas.{all_at, list_any_weaker}
use Rattle.fabric_parts.specs.Cable.{is_same_port, port}
use Rattle.sweep.specs.Graph.{GraphState, IsGraph, count_at, is_right_link, is_right_port, is_switch_port}
use Rattle.sweep.specs.Joined.{AllJoined, is_next_to, is_walk_by}
use Rattle.sweep.specs.Recabled.{IsNear, IsWhole, manager_switch}
use Rattle.sweep.specs.Rounds.{AreDistances, AreInside, IsFoundBy, are_served, found_at, is_reached, is_served, serve}
use Rattle.sweep.specs.declared.graph.GraphLink.{GraphLink}
use Rattle.sweep.specs.declared.graph.GraphPort.{GraphPort}
use Rattle.sweep.specs.declared.path.TheConstants.{PATH_HOPS}
use Rattle.sweep.proofs.JoinedLemmas.{at_each, some_in, walk_on}
use Rattle.sweep.proofs.RecabledLemmas.{row_right}
use Rattle.sweep.proofs.RowLemmas.{count_within, row_within}
use Rattle.sweep.proofs.WholeLemmas.{places_all}

-- ---- lists
-- what is found by a test, of elements that all pass another
find_in : {X : Type 0} (p q : X → Bool) (xs : List X) → list_any p xs ≡ true → list_all q xs ≡ true → (x : X) × (find p xs ≡ Some x) × (q x ≡ true)
find_in p q [] some all = absurd (false≢true some)
find_in {X = X} p q (x ∷ xs) some all = by (p x) refl (λ later. find_in p q xs later parts.1)
  where
    parts : (q x ≡ true) × (list_all q xs ≡ true)
    parts = and_parts (q x) (list_all q xs) all

    by : (b : Bool) → p x ≡ b → (list_any p xs ≡ true → (y : X) × (find p xs ≡ Some y) × (q y ≡ true)) → (y : X) × (find p (x ∷ xs) ≡ Some y) × (q y ≡ true)
    by true is later = (x, rw is refl, parts.0)
    by false is later =
        let more = later (ap (λ (b : Bool). b || list_any p xs) (sym is) ∙ some) in
        (more.0, ap (λ (b : Bool). cond b (Some x) (find p xs)) is ∙ more.1, more.2)

all_contained : {X : Type 0} (p : X → Bool) (xs : List X) → ((x : X) → Contains xs x → p x ≡ true) → list_all p xs ≡ true
all_contained p [] each = refl
all_contained p (x ∷ xs) each =
    and_from (p x) _ (each x (0, omega arith, refl))
    (all_contained p xs (λ y there. let less = there.1 in each y (suc there.0, omega (arith, less), there.2)))

contained : {X : Type 0} (p : X → Bool) (xs : List X) (x : X) → list_all p xs ≡ true → Contains xs x → p x ≡ true
contained p xs x all there = ap p (sym there.2) ∙ all_at p xs there.0 x all there.1

pub place_in_rows : (rows : List (List GraphLink)) (k : ℕ) (link : GraphLink) → Contains (get_or rows k []) link → k < length rows
place_in_rows [] k link there = absurd (let less = there.1 in omega (arith, less))
place_in_rows (row ∷ rows) zero link there = omega arith
place_in_rows (row ∷ rows) (suc k) link there = let less = place_in_rows rows k link there in omega (arith, less)

-- a link has an end at a switch that is near where its own switch is, or else the other
pub served_by_either : (found : List (Option ℕ)) (place : ℕ) (links : List GraphLink)
    → list_all (is_served found place) links ≡ (is_reached found place || list_all (λ link. is_reached found link.to.node) links)
served_by_either found place links = by (is_reached found place) links
  where
    by : (near : Bool) (links : List GraphLink)
        → list_all (λ link. near || is_reached found link.to.node) links ≡ (near || list_all (λ link. is_reached found link.to.node) links)
    by false links = refl
    by true [] = refl
    by true (link ∷ links) = by true links

-- ---- the links of a graph lead to its switches, and back
module _ (graph : GraphState) (is : IsGraph graph) where
  pub next_back : (s t : ℕ) → is_next_to graph.rows s t ≡ true → is_next_to graph.rows t s ≡ true
  next_back s t next =
      let test = λ (link : GraphLink). link.to.node == t in
      let within = row_within test graph.rows s next in
      let one = some_in (λ (link : GraphLink). link.port) test (is_right_link graph.switches graph.rows s) (get_or graph.rows s []) (row_right graph is s within) next in
      let right = (and_parts (nat_le one.0.port (count_at graph.switches s)) _ one.2).1 in
      let back = (and_parts (not (one.0.to.node == s)) _ right).1 in
      ap (λ (n : ℕ). is_next_to graph.rows n s) (sym (eqb-true one.0.to.node t one.1))
      ∙ list_any_weaker (λ l. (l.port == one.0.to.port) && is_same_port l.to (port s one.0.port)) (λ l. l.to.node == s)
      (λ l h. (and_parts (l.to.node == s) _ (and_parts (l.port == one.0.to.port) _ h).1).0) (get_or graph.rows one.0.to.node []) back

  pub are_inside : AreInside graph.rows
  are_inside s t next = row_within (λ (link : GraphLink). link.to.node == s) graph.rows t (next_back s t next)

  pub walk_back : (s d : ℕ) (steps : List ℕ) → is_walk_by (is_next_to graph.rows) s steps d ≡ true
      → (back : List ℕ) × (is_walk_by (is_next_to graph.rows) d back s ≡ true)
  walk_back s d [] walk = ([], eq-eqb d s (sym (eqb-true s d walk)))
  walk_back s d (t ∷ steps) walk =
      let parts = and_parts (is_next_to graph.rows s t) (is_walk_by (is_next_to graph.rows) t steps d) walk in
      let rest = walk_back t d steps parts.1 in
      (rest.0 ++ s ∷ [], walk_on (is_next_to graph.rows) d t s rest.0 (s ∷ []) rest.1 (and_from (is_next_to graph.rows t s) _ (next_back s t parts.0) (eq-eqb s s refl)))

  pub manager_there : manager_switch graph < length graph.rows
  manager_there =
      let one = find_in (λ port. port.port_guid == graph.manager) (is_right_port graph.switches) graph.ports is.manager_there is.ports in
      let on_switch = (and_parts (is_switch_port graph.switches one.0.at) _ one.2).0 in
      let parts = and_parts (nat_le 1 one.0.at.port) (nat_le one.0.at.port (count_at graph.switches one.0.at.node)) on_switch in
      let from = leb-true 1 one.0.at.port parts.0 in
      let to = leb-true one.0.at.port (count_at graph.switches one.0.at.node) parts.1 in
      let less = count_within graph.switches one.0.at.node (omega (arith, from, to)) in
      let each = is.a_row_each in
      let place : manager_switch graph ≡ one.0.at.node = ap (λ (o : Option GraphPort). unwrap_or (option_map (λ port. port.at.node) o) 0) one.1 in
      omega (arith, less, each, place)

-- ---- near switches
module _ (rows : List (List GraphLink)) (from : ℕ) (found : List (Option ℕ)) (are : AreDistances rows from found) where
  pub near_decides : (t : ℕ) → Decides (is_reached found t) (IsNear rows from t)
  near_decides t = (to (found_at found t) refl, λ near. reached near (are.least t near.steps near.leads))
    where
      to : (o : Option ℕ) → found_at found t ≡ o → option_map_or (λ j. nat_le j (PATH_HOPS - 2)) o false ≡ true → IsNear rows from t
      to None is h = absurd (false≢true h)
      to (Some j) is h =
          let away = are.right t j is in
          let few = leb-true j (PATH_HOPS - 2) h in
          let long = away.2 in
          record { steps = away.0; leads = away.1; short = omega (arith, few, long) }

      reached : (near : IsNear rows from t) → IsFoundBy found t (length near.steps) → is_reached found t ≡ true
      reached near by =
          let few = near.short in
          let most = by.2 in
          ap (λ (o : Option ℕ). option_map_or (λ j. nat_le j (PATH_HOPS - 2)) o false) by.1 ∙ le-leb by.0 (PATH_HOPS - 2) (omega (arith, few, most))

-- ---- what is whole
module _ (graph : GraphState) (is : IsGraph graph) (found : List (Option ℕ)) (are : AreDistances graph.rows (manager_switch graph) found) where
  abbrev near : (t : ℕ) → Decides (is_reached found t) (IsNear graph.rows (manager_switch graph) t)
  near t = near_decides graph.rows (manager_switch graph) found are t

  away : (t : ℕ) → t < length graph.rows → list_all is_some found ≡ true
      → (steps : List ℕ) × (is_walk_by (is_next_to graph.rows) (manager_switch graph) steps t ≡ true)
  away t less all = by (found_at found t) refl (all_at is_some found t None all (let count = are.count in omega (arith, less, count)))
    where
      by : (o : Option ℕ) → found_at found t ≡ o → is_some (found_at found t) ≡ true
          → (steps : List ℕ) × (is_walk_by (is_next_to graph.rows) (manager_switch graph) steps t ≡ true)
      by None none h = absurd (false≢true (ap is_some (sym none) ∙ h))
      by (Some j) some h = let far = are.right t j some in (far.0, far.1)

  joined : list_all is_some found ≡ true → AllJoined graph.rows
  joined all s d sl dl =
      let there = away s sl all in
      let on = away d dl all in
      let back = walk_back graph is (manager_switch graph) s there.0 there.1 in
      (back.0 ++ on.0, walk_on (is_next_to graph.rows) s (manager_switch graph) d back.0 on.0 back.1 on.1)

  all_found : AllJoined graph.rows → list_all is_some found ≡ true
  all_found all = each found (λ t less. some t (omega (arith, less, are.count)))
    where
      some : (t : ℕ) → t < length graph.rows → is_some (found_at found t) ≡ true
      some t less =
          let walk = all (manager_switch graph) t (manager_there graph is) less in
          let by = are.least t walk.0 walk.1 in
          ap is_some by.1

      each : (xs : List (Option ℕ)) → ((t : ℕ) → t < length xs → is_some (found_at xs t) ≡ true) → list_all is_some xs ≡ true
      each [] one = refl
      each (x ∷ xs) one = and_from (is_some x) _ (one 0 (omega arith)) (each xs (λ t less. one (suc t) (omega (arith, less))))

  abbrev Served : ℕ → GraphLink → Type 0
  Served place link = IsNear graph.rows (manager_switch graph) place ⊎ IsNear graph.rows (manager_switch graph) link.to.node

  served : (place : ℕ) (link : GraphLink) → are_served graph.rows found ≡ true → Contains (get_or graph.rows place []) link → Served place link
  served place link all there =
      let row = at_each (λ place. list_all (is_served found place) (get_or graph.rows place [])) 0 (length graph.rows) place all (omega arith)
      (let less = place_in_rows graph.rows place link there in omega (arith, less)) in
      elim (or_cases (is_reached found place) (is_reached found link.to.node) (contained (is_served found place) (get_or graph.rows place []) link row there)) [
        | inl here ↦ inl ((near place).0 here)
        | inr far ↦ inr ((near link.to.node).0 far)
      ]

  all_served : ((place : ℕ) (link : GraphLink) → Contains (get_or graph.rows place []) link → Served place link) → are_served graph.rows found ≡ true
  all_served each =
      places_all (λ place. list_all (is_served found place) (get_or graph.rows place [])) 0 (length graph.rows)
      (λ place low high. all_contained (is_served found place) (get_or graph.rows place []) (λ link there. by place link (each place link there)))
    where
      by : (place : ℕ) (link : GraphLink) → Served place link → is_served found place link ≡ true
      by place link (inl here) = or_left _ _ ((near place).1 here)
      by place link (inr far) = or_right _ _ ((near link.to.node).1 far)

  ports_near : Decides (list_all (λ port. is_reached found port.at.node) graph.ports) (All (λ port. IsNear graph.rows (manager_switch graph) port.at.node) graph.ports)
  ports_near =
      Decides-by_and (λ (port : GraphPort). is_reached found port.at.node) (λ port. IsNear graph.rows (manager_switch graph) port.at.node)
      (list_all (λ port. is_reached found port.at.node)) (λ port. near port.at.node) refl (λ x xs. refl) graph.ports

  pub serve_decides : Decides (serve graph.rows graph.ports found) (IsWhole graph)
  serve_decides = (to, from)
    where
      to : serve graph.rows graph.ports found ≡ true → IsWhole graph
      to h =
          let one = and_parts (list_all is_some found) _ h in
          let two = and_parts (are_served graph.rows found) _ one.1 in
          record { joined = joined one.0; links = λ place link there. served place link two.0 there; ports = ports_near.0 two.1 }

      from : IsWhole graph → serve graph.rows graph.ports found ≡ true
      from whole = and_from _ _ (all_found whole.joined) (and_from _ _ (all_served whole.links) (ports_near.1 whole.ports))
