-- A port that no SMP goes out of, since its switch is 63 hops away: its cable is known from the other end, or leads too far.
use Rattle.std.proofs.Common.{ℕ, zero, suc, ◌+◌, ◌<◌, ◌≤◌, ◌≡◌, ◌⊎◌, inl, inr, ◌∙◌, ◌==◌, ◌&&◌, ◌||◌, nat_le, ap, refl, sym, subst, Bool, true, false}
use Rattle.std.proofs.Common.{if◌then◌else◌, List, [], ◌∷◌, find, flat_map, map, take, get_or, length, slice_get, Option, Some, None, option_map}
use Rattle.std.proofs.Common.{Result, Ok, Err, arith}
use Rattle.std.proofs.Math.Bool.{or-true}
use Rattle.std.specs.List.{Contains, list_any, range_with_len}
use Rattle.std.specs.Option.{option_map_or}
use Rattle.std.proofs.lemmas.Bool.{and_parts, false≢true}
use Rattle.std.proofs.lemmas.Bool.Decides.{Decides-eqb, nat_tests}
use Rattle.std.proofs.lemmas.List.{append-nil}
use Rattle.std.proofs.lemmas.List.Folds.{list_any-append}
use Rattle.std.proofs.lemmas.Option.{get_or_from_slice_get, same_Some, slice_get_cases, slice_get_within}
use Rattle.step_results.proofs.ListLemmas.{all_have}
use Rattle.fabric_parts.specs.Cable.{ends_at, far_end, is_same_port, other_end, port}
use Rattle.fabric_parts.specs.declared.cable.Cable.{Cable}
use Rattle.fabric_parts.specs.declared.cable.PortRef.{PortRef}
use Rattle.smp_wire.proofs.CableLemmas.{far_is_port, itself, same_port}
use Rattle.smp_wire.specs.FabricState.{FabricState, is_switch_at}
use Rattle.sweep.specs.Graph.{is_linked}
use Rattle.sweep.specs.Hops.{IsTooFar, IsWithin}
use Rattle.sweep.specs.OfFabric.{Found, Leads, is_among, link_to, nodes_of, place_of, placed, ports_at, row_of}
use Rattle.sweep.specs.Progress.{StandsAt, is_found}
use Rattle.sweep.specs.Survey.{SurveyState}
use Rattle.sweep.specs.Sweeps.{Comes, GoesOn, IsAtPort, IsSweepable, Noted}
use Rattle.sweep.specs.declared.fault.SweepFault.{SweepFault}
use Rattle.sweep.specs.declared.graph.GraphLink.{GraphLink}
use Rattle.sweep.specs.declared.path.TheConstants.{PATH_HOPS}
use Rattle.sweep.proofs.FoundLemmas.{any_at, found_at, found_by, node_there, one_place, place_is}
use Rattle.sweep.proofs.LeastLemmas.{in_range, least}
use Rattle.sweep.proofs.MetLemmas.{good_once}
use Rattle.sweep.proofs.ProgressLemmas.{IsKnownNext}
use Rattle.sweep.proofs.SurveyLemmas.{leads}
use Rattle.sweep.proofs.VisitLemmas.{link_is, link_on, stands_switch}
use Rattle.smp_wire.proofs.PresentLemmas.{present_right}

-- ---- rows of switches that were asked
pub row_at : (fabric : FabricState) (nodes : List ℕ) (found : List Found) (i k : ℕ) (one : Found) → k < i → StandsAt found k one
    → get_or (map (λ one. row_of fabric nodes one.node) (take i found)) k [] ≡ row_of fabric nodes one.node
row_at fabric nodes [] i k one before there = cc
row_at fabric nodes (first ∷ found) zero k one before there = absurd (omega (arith, before))
row_at fabric nodes (first ∷ found) (suc i) zero one before there = ap (λ (one : Found). row_of fabric nodes one.node) (same_Some first one there)
row_at fabric nodes (first ∷ found) (suc i) (suc k) one before there = row_at fabric nodes found i k one (omega (arith, before)) there

no_row : (fabric : FabricState) (nodes : List ℕ) (found : List Found) (i k : ℕ) → i ≤ k → get_or (map (λ one. row_of fabric nodes one.node) (take i found)) k [] ≡ []
no_row fabric nodes [] zero k past = refl
no_row fabric nodes [] (suc i) k past = refl
no_row fabric nodes (first ∷ found) zero k past = refl
no_row fabric nodes (first ∷ found) (suc i) zero past = absurd (omega (arith, past))
no_row fabric nodes (first ∷ found) (suc i) (suc k) past = no_row fabric nodes found i k (omega (arith, past))

-- ---- a link of a row
pub any_in : {X : Type 0} (p : X → Bool) (f : ℕ → List X) (a n k : ℕ) → a ≤ k → k < a + n → list_any p (f k) ≡ true
    → list_any p (flat_map f (range_with_len a n)) ≡ true
any_in p f a zero k from to passes = absurd (omega (arith, from, to))
any_in p f a (suc n) k from to passes = list_any-append p (f a) (flat_map f (range_with_len (a + 1) n))
    ∙ by (nat_le k a) refl (λ later. any_in p f (a + 1) n k later (omega (arith, to)) passes)
  where
    by : (b : Bool) → nat_le k a ≡ b → (a + 1 ≤ k → list_any p (flat_map f (range_with_len (a + 1) n)) ≡ true)
        → list_any p (f a) || list_any p (flat_map f (range_with_len (a + 1) n)) ≡ true
    by true at later =
        let same : k ≡ a = grind (arith, nat_tests, at, from) in
        rw (ap (λ (n : ℕ). list_any p (f n)) (sym same) ∙ passes) refl
    by false at later = rw (later (grind (arith, nat_tests, at))) (or-true (list_any p (f a)))

pub record AnyAt {X : Type 0} (p : X → Bool) (f : ℕ → List X) (a n : ℕ) : Type 0 where
  pub number : ℕ
  pub from : a ≤ number
  pub to : number < a + n
  pub passes : list_any p (f number) ≡ true

pub any_of : {X : Type 0} (p : X → Bool) (f : ℕ → List X) (a n : ℕ) → list_any p (flat_map f (range_with_len a n)) ≡ true → AnyAt p f a n
any_of p f a zero any = absurd (false≢true any)
any_of p f a (suc n) any = by (list_any p (f a)) refl (λ later. any_of p f (a + 1) n later)
  where
    by : (b : Bool) → list_any p (f a) ≡ b
        → (list_any p (flat_map f (range_with_len (a + 1) n)) ≡ true → AnyAt p f (a + 1) n) → AnyAt p f a (suc n)
    by true is later = record { number = a; from = omega arith; to = omega arith; passes = is }
    by false is later =
        let rest = later (ap (λ (b : Bool). b || list_any p (flat_map f (range_with_len (a + 1) n))) (sym is)
        ∙ sym (list_any-append p (f a) (flat_map f (range_with_len (a + 1) n))) ∙ any) in
        record { number = rest.number; from = omega (arith, rest.from); to = omega (arith, rest.to); passes = rest.passes }

-- the link of a port
pub record IsLinkOf (fabric : FabricState) (nodes : List ℕ) (node number : ℕ) (to : PortRef) : Type 0 where
  pub end : PortRef
  pub cable : far_end fabric.cables (port node number) ≡ Some end
  pub switch : is_switch_at fabric.nodes end.node ≡ true
  pub to_is : placed nodes end ≡ to
  pub from : 1 ≤ number
  pub within : number ≤ ports_at fabric node

link_by : (fabric : FabricState) (nodes : List ℕ) (node q number : ℕ) (to : PortRef) (far : Option PortRef) → far_end fabric.cables (port node q) ≡ far
    → list_any (leads to number) (option_map_or (link_to fabric nodes q) far []) ≡ true
    → (end : PortRef) × (far ≡ Some end) × (is_switch_at fabric.nodes end.node ≡ true) × (placed nodes end ≡ to) × (q ≡ number)
link_by fabric nodes node q number to None cable any = absurd (false≢true any)
link_by fabric nodes node q number to (Some end) cable any = by (is_switch_at fabric.nodes end.node) refl any
  where
    or_false : (b : Bool) → b || false ≡ true → b ≡ true
    or_false true h = refl
    or_false false h = h

    by : (b : Bool) → is_switch_at fabric.nodes end.node ≡ b
        → list_any (leads to number) (if b then record { port = q; to = placed nodes end } ∷ [] else []) ≡ true
        → (some : PortRef) × (Some end ≡ Some some) × (is_switch_at fabric.nodes some.node ≡ true) × (placed nodes some ≡ to) × (q ≡ number)
    by false is any = absurd (false≢true any)
    by true is any =
        let parts = and_parts (q == number) _ (or_false _ any) in
        (end, refl, is, same_port (placed nodes end) to parts.1, (Decides-eqb q number).0 parts.0)

link_of_row : (fabric : FabricState) (nodes : List ℕ) (node number : ℕ) (to : PortRef) → list_any (leads to number) (row_of fabric nodes node) ≡ true
    → IsLinkOf fabric nodes node number to
link_of_row fabric nodes node number to any =
    let at = any_of (leads to number) (λ number. option_map_or (link_to fabric nodes number) (far_end fabric.cables (port node number)) []) 1 (ports_at fabric node) any in
    let link = link_by fabric nodes node at.number number to (far_end fabric.cables (port node at.number)) refl at.passes in
    record {
      end = link.0;
      cable = ap (λ (n : ℕ). far_end fabric.cables (port node n)) (sym link.4) ∙ link.1;
      switch = link.2;
      to_is = link.3;
      from = omega (arith, at.from, link.4);
      within = omega (arith, at.to, link.4);
    }

single : (number : ℕ) (some to : PortRef) → some ≡ to → list_any (leads to number) (record { port = number; to = some } ∷ []) ≡ true
single number some to is =
    and_or (number == number) (is_same_port some to) ((Decides-eqb number number).1 refl) (ap (λ (p : PortRef). is_same_port p to) is ∙ itself to)
  where
    and_or : (a b : Bool) → a ≡ true → b ≡ true → (a && b) || false ≡ true
    and_or a b x y = rw (x, y) refl

pub row_has : (fabric : FabricState) (nodes : List ℕ) (node number : ℕ) (end to : PortRef) → far_end fabric.cables (port node number) ≡ Some end
    → is_switch_at fabric.nodes end.node ≡ true → placed nodes end ≡ to → 1 ≤ number → number ≤ ports_at fabric node
    → list_any (leads to number) (row_of fabric nodes node) ≡ true
row_has fabric nodes node number end to cable switch is from within =
    any_in (leads to number) (λ number. option_map_or (link_to fabric nodes number) (far_end fabric.cables (port node number)) []) 1 (ports_at fabric node)
    number from (omega (arith, within))
    (ap (λ (o : Option PortRef). list_any (leads to number) (option_map_or (link_to fabric nodes number) o [])) cable
    ∙ ap (list_any (leads to number)) (link_is fabric nodes number end switch) ∙ single number (placed nodes end) to is)

-- ---- a link that leads to a port, of a switch that was asked
pub record SeenFrom (fabric : FabricState) (found : List Found) (i : ℕ) (here at : PortRef) : Type 0 where
  pub one : Found
  pub there : StandsAt found at.node one
  pub before : at.node < i
  pub link : IsLinkOf fabric (nodes_of found) one.node at.port here

seen_from : (fabric : FabricState) (found : List Found) (i : ℕ) (rows : List (List GraphLink)) (here at : PortRef) → i ≤ length found
    → rows ≡ map (λ one. row_of fabric (nodes_of found) one.node) (take i found) → is_linked rows at here ≡ true → SeenFrom fabric found i here at
seen_from fabric found i rows here at within are linked = by (nat_le i at.node) refl
  where
    rows_linked : list_any (leads here at.port) (get_or (map (λ one. row_of fabric (nodes_of found) one.node) (take i found)) at.node []) ≡ true
    rows_linked = ap (λ (rows : List (List GraphLink)). list_any (leads here at.port) (get_or rows at.node [])) (sym are) ∙ linked

    by : (b : Bool) → nat_le i at.node ≡ b → SeenFrom fabric found i here at
    by true past =
        absurd (false≢true (ap (list_any (leads here at.port)) (sym (no_row fabric (nodes_of found) found i at.node (grind (arith, nat_tests, past)))) ∙ rows_linked))
    by false before = at_one (slice_get_cases found at.node).1 (grind (arith, nat_tests, before))
      where
        at_one : ((x : Found) × (at.node < length found) × (slice_get found at.node ≡ Some x) × (get_or found at.node x ≡ x))
            ⊎ ((length found ≤ at.node) × (slice_get found at.node ≡ None))
            → at.node < i → SeenFrom fabric found i here at
        at_one (inl stands) earlier = record {
          one = stands.0;
          there = stands.2;
          before = earlier;
          link = link_of_row fabric (nodes_of found) stands.0.node at.port here
              (ap (list_any (leads here at.port)) (sym (row_at fabric (nodes_of found) found i at.node stands.0 earlier stands.2)) ∙ rows_linked);
        }
        at_one (inr past) earlier = absurd (omega (arith, past.0, earlier, within))

-- ---- the other end of the cable
-- that port is the port that was asked, by its place
same_place : (found : List Found) (i : ℕ) (one : Found) (end : PortRef) (number : ℕ) → Rattle.std.specs.List.IsDistinct (λ a b. a == b) (nodes_of found)
    → StandsAt found i one → is_among (nodes_of found) end.node ≡ true → placed (nodes_of found) end ≡ port i number → end ≡ port one.node number
same_place found i one end number once there among is =
    let at = any_at (λ one. one == end.node) (nodes_of found) among in
    let node : at.one ≡ end.node = (Decides-eqb at.one end.node).0 at.passes in
    let place : place_of (nodes_of found) end.node ≡ at.place = place_is (nodes_of found) at.place end.node once (at.there ∙ ap (λ (n : ℕ). Some n) node) in
    let same : at.place ≡ i = sym place ∙ ap (λ (p : PortRef). p.node) is in
    let nodes : end.node ≡ one.node = same_Some _ _ (sym (at.there ∙ ap (λ (n : ℕ). Some n) node) ∙ ap (slice_get (nodes_of found)) same ∙ node_there found i one there) in
    λ k. record { node = nodes k; port = ap (λ (p : PortRef). p.port) is k }

-- the port was seen from the far end of its cable, which an SMP reaches
pub known_back : (fabric : FabricState) (found : List Found) (one : Found) (count : ℕ) (survey : SurveyState) (row : List GraphLink) (here there at : PortRef)
    → IsSweepable fabric → IsAtPort fabric found one count survey row here → far_end fabric.cables (port one.node here.port) ≡ Some there
    → length one.path ≡ 63 → is_linked survey.rows at here ≡ true
    → IsKnownNext fabric found one here.port × (is_switch_at fabric.nodes there.node ≡ true) × (at ≡ placed (nodes_of found) there)
known_back fabric found one count survey row here there at sweepable now cable deep linked =
    let so_far = now.progress.discovery in
    let from = seen_from fabric found here.node survey.rows here at now.progress.within now.progress.noted.rows linked in
    let among = all_asked_among from in
    let end : from.link.end ≡ port one.node here.port =
    same_place found here.node one from.link.end here.port so_far.once now.there among (from.link.to_is ∙ here_is here) in
    let near : there ≡ port from.one.node at.port =
    same_Some there _ (sym cable ∙ good_once fabric (port from.one.node at.port) (port one.node here.port) sweepable.good (from.link.cable ∙ ap (λ (p : PortRef). Some p) end)) in
    let node : there.node ≡ from.one.node = ap (λ (p : PortRef). p.node) near in
    let switch : is_switch_at fabric.nodes there.node ≡ true = ap (is_switch_at fabric.nodes) node ∙ stands_switch fabric found at.node from.one so_far.are from.there in
    let place : place_of (nodes_of found) there.node ≡ at.node = ap (place_of (nodes_of found)) node
    ∙ place_is (nodes_of found) at.node from.one.node so_far.once (node_there found at.node from.one from.there) in
    let leads = all_have (Leads fabric) found at.node from.one so_far.lead from.there in (
      record {
        found_behind = λ far far_cable far_switch.
            let same : there ≡ far = same_Some there far (sym cable ∙ far_cable) in
            subst (λ (p : PortRef). is_found found (length one.path + 1) p.node ≡ true) same
            (found_by found at.node from.one there.node (length one.path + 1) from.there (sym node) (omega (arith, leads.short, deep)));
        near_behind = λ far far_cable far_deep.
            let same : there ≡ far = same_Some there far (sym cable ∙ far_cable) in
            subst (λ (p : PortRef). IsWithin fabric 62 p.node) same (near_enough from leads node end);
      },
      switch,
      λ k. record { node = sym place k; port = ap (λ (p : PortRef). p.port) (sym near) k },
    )
  where
    here_is : (here : PortRef) → here ≡ port here.node here.port
    here_is here = refl

    all_asked_among : (from : SeenFrom fabric found here.node here at) → is_among (nodes_of found) from.link.end.node ≡ true
    all_asked_among from =
        let known = now.progress.asked.before at.node from.one from.before from.there in
        Rattle.sweep.proofs.FoundLemmas.found_among found from.link.end.node (length from.one.path + 1)
        (known.found_behind at.port from.link.end from.link.from from.link.within from.link.cable from.link.switch)

    near_enough : (from : SeenFrom fabric found here.node here at) → Leads fabric from.one → there.node ≡ from.one.node
        → from.link.end ≡ port one.node here.port → IsWithin fabric 62 there.node
    near_enough from leads node end = by (nat_le 63 (length from.one.path)) refl
      where
        by : (b : Bool) → nat_le 63 (length from.one.path) ≡ b → IsWithin fabric 62 there.node
        by false short = record {
          switch = ap (is_switch_at fabric.nodes) node ∙ stands_switch fabric found at.node from.one now.progress.discovery.are from.there;
          rest = leads.rest;
          short = omega (arith, under (length from.one.path) short, ap (λ (some : List ℕ). length some) leads.leaves);
          at = leads.at;
          ends = ap (Rattle.smp_wire.specs.Walk.end_of fabric) (sym leads.leaves) ∙ leads.ends;
          node_is = leads.node ∙ sym node;
        }
          where
            under : (n : ℕ) → nat_le 63 n ≡ false → n < 63
            under n h = grind (arith, nat_tests, h)
        by true long =
            let known = now.progress.asked.before at.node from.one from.before from.there in
            let is_near = known.near_behind at.port from.link.end from.link.from from.link.within from.link.cable (reach (length from.one.path) long) in
            let found_near = least fabric found here.node count 62 from.link.end.node one sweepable.good now.progress.discovery now.progress.asked now.there is_near
            (omega (arith, deep)) in
            let at_near = found_at found from.link.end.node 62 found_near in
            let nodes : at_near.one.node ≡ one.node = at_near.node_is ∙ ap (λ (p : PortRef). p.node) end in
            let place : at_near.place ≡ here.node =
            one_place (nodes_of found) at_near.place here.node one.node now.progress.discovery.once
            (node_there found at_near.place at_near.one at_near.there ∙ ap (λ (n : ℕ). Some n) nodes) (node_there found here.node one now.there) in
            let same : at_near.one ≡ one = same_Some _ _ (sym at_near.there ∙ ap (slice_get found) place ∙ now.there) in
            absurd (omega (arith, deep, at_near.near, ap (λ (some : Found). length some.path) same))
          where
            reach : (n : ℕ) → nat_le 63 n ≡ true → PATH_HOPS ≤ n
            reach n h = grind (arith, nat_tests, h)

-- ---- or it was not: then the cable leads too far
found_cable : {X : Type 0} (p : X → Bool) (xs : List X) (x : X) → find p xs ≡ Some x → Contains xs x × (p x ≡ true)
found_cable {X = X} p xs x is = let at = place p xs x is in ((at.0, slice_get_within xs at.0 x at.1, get_or_from_slice_get xs at.0 x x at.1), at.2)
  where
    place : (p : X → Bool) (xs : List X) (x : X) → find p xs ≡ Some x → (k : ℕ) × (slice_get xs k ≡ Some x) × (p x ≡ true)
    place p [] x is = absurd cc
    place p (y ∷ xs) x is = by (p y) refl is (λ later. place p xs x later)
      where
        by : (b : Bool) → p y ≡ b → (if b then Some y else find p xs) ≡ Some x → (find p xs ≡ Some x → (k : ℕ) × (slice_get xs k ≡ Some x) × (p x ≡ true))
            → (k : ℕ) × (slice_get (y ∷ xs) k ≡ Some x) × (p x ≡ true)
        by true passes is later = let same = same_Some y x is in (0, ap (λ (z : X). Some z) same, ap p (sym same) ∙ passes)
        by false passes is later = let rest = later is in (suc rest.0, rest.1, rest.2)

-- the ends of the cable at a port
pub cable_ends : (fabric : FabricState) (here there : PortRef) (hops : ℕ) → far_end fabric.cables here ≡ Some there
    → (IsWithin fabric hops here.node → ⊥) → (IsWithin fabric hops there.node → ⊥)
    → (cable : Cable) × Contains fabric.cables cable × (IsWithin fabric hops cable.first.node → ⊥) × (IsWithin fabric hops cable.second.node → ⊥)
cable_ends fabric here there hops far near_here near_there = by (find (λ cable. ends_at here cable) fabric.cables) refl far
  where
    ends : (cable : Cable) (b : Bool) → is_same_port cable.first here ≡ b → b || is_same_port cable.second here ≡ true
        → (if b then cable.second else cable.first) ≡ there → (IsWithin fabric hops cable.first.node → ⊥) × (IsWithin fabric hops cable.second.node → ⊥)
    ends cable true first either is = (
      λ within. near_here (subst (λ (p : PortRef). IsWithin fabric hops p.node) (same_port cable.first here first) within),
      λ within. near_there (subst (λ (p : PortRef). IsWithin fabric hops p.node) is within),
    )
    ends cable false first either is = (
      λ within. near_there (subst (λ (p : PortRef). IsWithin fabric hops p.node) is within),
      λ within. near_here (subst (λ (p : PortRef). IsWithin fabric hops p.node) (same_port cable.second here either) within),
    )

    by : (o : Option Cable) → find (λ cable. ends_at here cable) fabric.cables ≡ o → option_map (other_end here) o ≡ Some there
        → (cable : Cable) × Contains fabric.cables cable × (IsWithin fabric hops cable.first.node → ⊥) × (IsWithin fabric hops cable.second.node → ⊥)
    by None found is = absurd cc
    by (Some cable) found is =
        let at = found_cable (λ cable. ends_at here cable) fabric.cables cable found in
        let both = ends cable (is_same_port cable.first here) refl at.1 (same_Some _ there is) in
        (cable, at.0, both.0, both.1)

too_far : (fabric : FabricState) (found : List Found) (one : Found) (count : ℕ) (survey : SurveyState) (row : List GraphLink) (here there : PortRef)
    → IsSweepable fabric → IsAtPort fabric found one count survey row here → far_end fabric.cables (port one.node here.port) ≡ Some there
    → length one.path ≡ 63 → ((at : PortRef) → is_linked survey.rows at here ≡ false) → IsTooFar fabric
too_far fabric found one count survey row here there sweepable now cable deep none =
    let ends = cable_ends fabric (port one.node here.port) there 62 cable not_here not_there in
    record { cable = ends.0; there = ends.1; first = ends.2; second = ends.3 }
  where
    near : (node : ℕ) → IsWithin fabric 62 node → is_found found 62 node ≡ true
    near node within = least fabric found here.node count 62 node one sweepable.good now.progress.discovery now.progress.asked now.there within (omega (arith, deep))

    -- it is 63 hops away
    not_here : IsWithin fabric 62 one.node → ⊥
    not_here within =
        let at = found_at found one.node 62 (near one.node within) in
        let place : at.place ≡ here.node =
        one_place (nodes_of found) at.place here.node one.node now.progress.discovery.once
        (node_there found at.place at.one at.there ∙ ap (λ (n : ℕ). Some n) at.node_is) (node_there found here.node one now.there) in
        let same : at.one ≡ one = same_Some _ _ (sym at.there ∙ ap (slice_get found) place ∙ now.there) in
        omega (arith, deep, at.near, ap (λ (some : Found). length some.path) same)

    -- and were the other end nearer, it would have been asked
    not_there : IsWithin fabric 62 there.node → ⊥
    not_there within =
        let at = found_at found there.node 62 (near there.node within) in
        by (nat_le here.node at.place) at.place refl at.one at.there at.node_is at.near
      where
        by : (b : Bool) → (place : ℕ) → nat_le here.node place ≡ b → (other : Found) → StandsAt found place other → other.node ≡ there.node → length other.path ≤ 62 → ⊥
        by true place after other stands is short =
            omega (arith, deep, short, now.progress.discovery.sorted here.node place one other (grind (arith, nat_tests, after)) now.there stands)
        by false place before other stands is short = clash (grind (arith, nat_tests, before))
          where
            range : (1 ≤ there.port) × (there.port ≤ ports_at fabric there.node)
            range = in_range fabric there.node there.port (far_is_port fabric.nodes fabric.cables (port one.node here.port) there (present_right sweepable.good) cable)

            back : far_end fabric.cables (port other.node there.port) ≡ Some (port one.node here.port)
            back = ap (λ (n : ℕ). far_end fabric.cables (port n there.port)) is ∙ good_once fabric (port one.node here.port) there sweepable.good cable

            placed_here : placed (nodes_of found) (port one.node here.port) ≡ here
            placed_here =
                let place : place_of (nodes_of found) one.node ≡ here.node =
                place_is (nodes_of found) here.node one.node now.progress.discovery.once (node_there found here.node one now.there) in
                λ k. record { node = place k; port = here.port }

            clash : place < here.node → ⊥
            clash earlier =
                let has = row_has fabric (nodes_of found) other.node there.port (port one.node here.port) here back
                (stands_switch fabric found here.node one now.progress.discovery.are now.there) placed_here range.0 (rw is range.1) in
                let linked : is_linked survey.rows (port place there.port) here ≡ true =
                ap (λ (rows : List (List GraphLink)). list_any (leads here there.port) (get_or rows place [])) now.progress.noted.rows
                ∙ ap (list_any (leads here there.port)) (row_at fabric (nodes_of found) found here.node place other earlier stands) ∙ has in
                false≢true (sym (none (port place there.port)) ∙ linked)

-- ---- what comes of it
pub turned : (fabric : FabricState) (found : List Found) (one : Found) (count : ℕ) (survey : SurveyState) (row next : List GraphLink) (here there at : PortRef)
    (result : Result (Unit {0}) SweepFault) → IsSweepable fabric → IsAtPort fabric found one count survey row here
    → far_end fabric.cables (port one.node here.port) ≡ Some there → length one.path ≡ 63 → is_linked survey.rows at here ≡ true
    → Noted row next here at result → Comes fabric (λ _. GoesOn fabric found here.node here.port survey next) result
turned fabric found one count survey row next here there at (Ok done) sweepable now cable deep linked noted =
    let known = known_back fabric found one count survey row here there at sweepable now cable deep linked in
    record {
      more = [];
      progress = rw (append-nil found)
          (link_on fabric found one here.node count here.port survey row next there at now.number now.there now.progress known.0 cable known.1 known.2 noted);
    }
turned fabric found one count survey row next here there at (Err fault) sweepable now cable deep linked noted = rw noted tt

pub not_turned : (fabric : FabricState) (found : List Found) (one : Found) (count : ℕ) (survey : SurveyState) (row : List GraphLink) (here there : PortRef)
    → IsSweepable fabric → IsAtPort fabric found one count survey row here → far_end fabric.cables (port one.node here.port) ≡ Some there
    → length one.path ≡ 63 → ((at : PortRef) → is_linked survey.rows at here ≡ false) → IsTooFar fabric
not_turned fabric found one count survey row here there sweepable now cable deep none =
    too_far fabric found one count survey row here there sweepable now cable deep none
