-- A sweep goes on: a port more, a switch more.
use Rattle.std.proofs.Common.{ℕ, suc, ◌+◌, ◌<◌, ◌≤◌, ◌≡◌, ◌⊎◌, inl, inr, ◌∙◌, ◌==◌, ap, refl, sym, nat_le, Bool, true, false, List, [], ◌∷◌, ◌++◌}
use Rattle.std.proofs.Common.{get_or, map, length, take, slice_get, Option, Some, None, arith}
use Rattle.std.specs.Option.{option_map_or}
use Rattle.std.proofs.lemmas.Bool.Decides.{nat_tests}
use Rattle.std.proofs.lemmas.List.{append_assoc, append-nil, length-append, length-map, map-append, take-append-le, take_all}
use Rattle.std.proofs.lemmas.List.Elements.{All-push}
use Rattle.std.proofs.lemmas.Option.{same_Some, slice_get_cases, slice_get_within}
use Rattle.step_results.proofs.ListLemmas.{list_all_push}
use Rattle.fabric_parts.specs.Cable.{far_end, port}
use Rattle.fabric_parts.specs.declared.cable.PortRef.{PortRef}
use Rattle.smp_wire.specs.FabricState.{FabricState, is_switch_at}
use Rattle.sweep.specs.Hops.{IsWithin}
use Rattle.sweep.specs.OfFabric.{Found, Leads, is_among, link_to, links_up_to, node_at, nodes_of, port_to, ports_at, ports_before, ports_up_to, row_of, switch_of}
use Rattle.sweep.specs.Progress.{AreMet, HasNeighbour, IsAsked, IsDiscovery, IsKnownBehind, IsNoted, IsProgress, Met, StandsAt, WasAsked, WasMet, is_found}
use Rattle.sweep.specs.Survey.{SurveyState}
use Rattle.sweep.specs.declared.graph.GraphPort.{GraphPort}
use Rattle.sweep.specs.declared.graph.GraphSwitch.{GraphSwitch}
use Rattle.sweep.specs.declared.graph.GraphLink.{GraphLink}
use Rattle.fabric_parts.specs.declared.limits.TheConstants.{ADAPTER_PORTS, SWITCHES}
use Rattle.sweep.specs.declared.path.TheConstants.{PATH_HOPS}
use Rattle.sweep.proofs.FoundLemmas.{distinct_push, found_among, found_kept, place_kept}
use Rattle.step_results.proofs.RangeLemmas.{flat_more, flat_same, get_kept, get_pushed, map_more, map_same}

below_or_next : (n m : ℕ) → n ≤ suc m → (n ≤ m) ⊎ (n ≡ suc m)
below_or_next n m h = by (nat_le n m) refl
  where
    by : (b : Bool) → nat_le n m ≡ b → (n ≤ m) ⊎ (n ≡ suc m)
    by true under = inl (grind (arith, nat_tests, under))
    by false over = inr (grind (arith, nat_tests, over, h))

pub node_of : (found : List Found) (i : ℕ) (one : Found) → StandsAt found i one → node_at found i ≡ one.node
node_of found i one there = ap (λ (o : Option Found). option_map_or (λ one. one.node) o 0) there

-- ---- a port more
-- what is known of it
pub record IsKnownNext (fabric : FabricState) (found : List Found) (one : Found) (number : ℕ) : Type 0 where
  pub found_behind : (there : PortRef) → far_end fabric.cables (port one.node number) ≡ Some there
      → is_switch_at fabric.nodes there.node ≡ true → is_found found (length one.path + 1) there.node ≡ true
  pub near_behind : (there : PortRef) → far_end fabric.cables (port one.node number) ≡ Some there
      → PATH_HOPS ≤ length one.path → IsWithin fabric 62 there.node

known_more : (fabric : FabricState) (found : List Found) (one : Found) (count : ℕ) → IsKnownBehind fabric found one count
    → IsKnownNext fabric found one (suc count) → IsKnownBehind fabric found one (suc count)
known_more fabric found one count before next = record {
  found_behind = λ number there from to cable switch. elim (below_or_next number count to) [
    | inl earlier ↦ before.found_behind number there from earlier cable switch
    | inr last ↦ next.found_behind there (as_last number last there cable) switch
  ];
  near_behind = λ number there from to cable deep. elim (below_or_next number count to) [
    | inl earlier ↦ before.near_behind number there from earlier cable deep
    | inr last ↦ next.near_behind there (as_last number last there cable) deep
  ];
}
  where
    as_last : (number : ℕ) → number ≡ suc count → (there : PortRef) → far_end fabric.cables (port one.node number) ≡ Some there
        → far_end fabric.cables (port one.node (suc count)) ≡ Some there
    as_last number last there cable = ap (λ (n : ℕ). far_end fabric.cables (port one.node n)) (sym last) ∙ cable

asked_more : (fabric : FabricState) (found : List Found) (i count : ℕ) (one : Found) → StandsAt found i one
    → IsAsked fabric found i count → IsKnownNext fabric found one (suc count) → IsAsked fabric found i (suc count)
asked_more fabric found i count one there asked next = record {
  before = asked.before;
  here = λ other at.
      let same : one ≡ other = same_Some one other (sym there ∙ at) in
      known_more fabric found other count (asked.here other at) (rw (sym same) next);
  ahead = asked.ahead;
}

-- what is noted at a port
abbrev pub links_here : FabricState → List Found → ℕ → ℕ → List GraphLink
links_here fabric found i number = option_map_or (link_to fabric (nodes_of found) number) (far_end fabric.cables (port (node_at found i) number)) []

abbrev pub ports_here : FabricState → List Found → ℕ → ℕ → List GraphPort
ports_here fabric found i number = option_map_or (port_to fabric (port i number)) (far_end fabric.cables (port (node_at found i) number)) []

pub record NotesAt (fabric : FabricState) (found : List Found) (i number : ℕ) (old new : SurveyState) (row next : List GraphLink) : Type 0 where
  pub switches : new.switches ≡ old.switches
  pub rows : new.rows ≡ old.rows
  pub ports : new.ports ≡ old.ports ++ ports_here fabric found i number
  pub links : next ≡ row ++ links_here fabric found i number
  pub few : length new.ports ≤ ADAPTER_PORTS
  pub met : AreMet fabric found i number new.ports

noted_more : (fabric : FabricState) (found : List Found) (i count : ℕ) (old new : SurveyState) (row next : List GraphLink)
    → IsNoted fabric found i count old row → NotesAt fabric found i (suc count) old new row next
    → IsNoted fabric found i (suc count) new next
noted_more fabric found i count old new row next noted here =
    let links = flat_more (λ number. links_here fabric found i number) 1 count (suc count) (omega arith) in
    let ports = flat_more (λ number. ports_here fabric found i number) 1 count (suc count) (omega arith) in
    record {
      switches = here.switches ∙ noted.switches;
      rows = here.rows ∙ noted.rows;
      links = here.links ∙ ap (λ (links : List GraphLink). links ++ links_here fabric found i (suc count)) noted.links ∙ sym links;
      ports = here.ports ∙ ap (λ (ports : List GraphPort). ports ++ ports_here fabric found i (suc count)) noted.ports
          ∙ append_assoc (ports_before fabric found i) (ports_up_to fabric i (node_at found i) count) (ports_here fabric found i (suc count))
          ∙ ap (λ (last : List GraphPort). ports_before fabric found i ++ last) (sym ports);
      few_ports = here.few;
      met = here.met;
    }

pub port_more : (fabric : FabricState) (found : List Found) (i count : ℕ) (one : Found) (old new : SurveyState) (row next : List GraphLink)
    → StandsAt found i one → IsProgress fabric found i count old row → IsKnownNext fabric found one (suc count)
    → NotesAt fabric found i (suc count) old new row next → IsProgress fabric found i (suc count) new next
port_more fabric found i count one old new row next there so_far known here = record {
  discovery = so_far.discovery;
  within = so_far.within;
  asked = asked_more fabric found i count one there so_far.asked known;
  noted = noted_more fabric found i count old new row next so_far.noted here;
}

-- ---- a switch more
-- it is new, and is attached to the i-th
pub record IsNew (fabric : FabricState) (found : List Found) (one new : Found) : Type 0 where
  pub switch : is_switch_at fabric.nodes new.node ≡ true
  pub not_there : is_among (nodes_of found) new.node ≡ false
  pub room : length found < SWITCHES
  pub leads : Leads fabric new
  pub deep : length new.path ≡ length one.path + 1
  pub neighbour : HasNeighbour fabric (nodes_of found) new.node

nodes_more : (found : List Found) (new : Found) → nodes_of (found ++ new ∷ []) ≡ nodes_of found ++ new.node ∷ []
nodes_more found new = map-append (λ (one : Found). one.node) found (new ∷ [])

-- nothing that is asked of a switch that stood there is another then
grown_known : (fabric : FabricState) (found : List Found) (new one : Found) (count : ℕ) → IsKnownBehind fabric found one count
    → IsKnownBehind fabric (found ++ new ∷ []) one count
grown_known fabric found new one count before = record {
  found_behind = λ number there from to cable switch.
      found_kept found (new ∷ []) there.node (length one.path + 1) (before.found_behind number there from to cable switch);
  near_behind = before.near_behind;
}

discovered : (fabric : FabricState) (found : List Found) (i count : ℕ) (one new : Found) → StandsAt found i one
    → IsDiscovery fabric found → IsAsked fabric found i count → IsNew fabric found one new → IsDiscovery fabric (found ++ new ∷ [])
discovered fabric found i count one new there so_far asked is = record {
  once = rw (nodes_more found new) (distinct_push (λ a b. a == b) (nodes_of found) new.node so_far.once is.not_there);
  are = rw (nodes_more found new) (list_all_push (is_switch_at fabric.nodes) (nodes_of found) new.node so_far.are is.switch);
  few = rw (length-append found (new ∷ [])) (omega (arith, is.room));
  lead = All-push (Leads fabric) found new so_far.lead is.leads;
  first = so_far.first;
  first_cable = so_far.first_cable;
  first_found = found_kept found (new ∷ []) so_far.first.node 1 so_far.first_found;
  joined = joined_by;
  sorted = sorted_by;
}
  where
    long : length (nodes_of found) ≡ length found
    long = length-map found (λ (one : Found). one.node)

    first_ones : (k : ℕ) → k ≤ length found → take k (nodes_of (found ++ new ∷ [])) ≡ take k (nodes_of found)
    first_ones k h = ap (take k) (nodes_more found new) ∙ take-append-le k (nodes_of found) (new.node ∷ []) (rw long h)

    joined_by : (k : ℕ) (some : Found) → 1 ≤ k → StandsAt (found ++ new ∷ []) k some
        → HasNeighbour fabric (take k (nodes_of (found ++ new ∷ []))) some.node
    joined_by k some from at = elim (get_pushed found new some k at) [
      | inl before ↦ rw (first_ones k (omega (arith, slice_get_within found k some before))) (so_far.joined k some from before)
      | inr last ↦ rw (last.0, first_ones (length found) (omega arith), take_all (length found) (nodes_of found) (omega (arith, long)), ← last.1) is.neighbour
    ]

    sorted_by : (j k : ℕ) (near far : Found) → j ≤ k → StandsAt (found ++ new ∷ []) j near → StandsAt (found ++ new ∷ []) k far
        → length near.path ≤ length far.path
    sorted_by j k near far order at_j at_k = elim (get_pushed found new far k at_k) [
      | inl k_before ↦ elim (get_pushed found new near j at_j) [
        | inl j_before ↦ so_far.sorted j k near far order j_before k_before
        | inr last ↦ absurd (omega (arith, order, last.0, slice_get_within found k far k_before))
      ]
      | inr k_last ↦ elim (get_pushed found new near j at_j) [
        | inl j_before ↦ rw (sym k_last.1, is.deep) (asked.ahead j one near there j_before)
        | inr last ↦ rw (sym k_last.1, sym last.1) (omega arith)
      ]
    ]

asked_still : (fabric : FabricState) (found : List Found) (i count : ℕ) (one new : Found) → StandsAt found i one
    → IsAsked fabric found i count → IsNew fabric found one new → IsAsked fabric (found ++ new ∷ []) i count
asked_still fabric found i count one new there asked is = record {
  before = λ k some earlier at. grown_known fabric found new some _ (asked.before k some earlier (stood k some (omega (arith, earlier, inside)) at));
  here = λ some at. grown_known fabric found new some count (asked.here some (stood i some inside at));
  ahead = λ k some last at_i at_k. ahead_by k some last at_k (stood i some inside at_i);
}
  where
    inside : i < length found
    inside = slice_get_within found i one there

    stood : (k : ℕ) (some : Found) → k < length found → StandsAt (found ++ new ∷ []) k some → StandsAt found k some
    stood k some within at = elim (get_pushed found new some k at) [
      | inl before ↦ before
      | inr last ↦ absurd (omega (arith, within, last.0))
    ]

    ahead_by : (k : ℕ) (some last : Found) → StandsAt (found ++ new ∷ []) k last → StandsAt found i some → length last.path ≤ length some.path + 1
    ahead_by k some last at_k at_i = elim (get_pushed found new last k at_k) [
      | inl before ↦ asked.ahead k some last at_i before
      | inr the_new ↦
          let same : one ≡ some = same_Some one some (sym there ∙ at_i) in
          rw (sym the_new.1, sym same, is.deep) (omega arith)
    ]

-- links to switches that were found are the same then
link_kept : (fabric : FabricState) (found : List Found) (new : Found) (hops number : ℕ) (far : Option PortRef)
    → ((there : PortRef) → far ≡ Some there → is_switch_at fabric.nodes there.node ≡ true → is_found found hops there.node ≡ true)
    → option_map_or (link_to fabric (nodes_of (found ++ new ∷ [])) number) far [] ≡ option_map_or (link_to fabric (nodes_of found) number) far []
link_kept fabric found new hops number None known = refl
link_kept fabric found new hops number (Some there) known = by (is_switch_at fabric.nodes there.node) refl
  where
    by : (b : Bool) → is_switch_at fabric.nodes there.node ≡ b
        → link_to fabric (nodes_of (found ++ new ∷ [])) number there ≡ link_to fabric (nodes_of found) number there
    by false adapter = rw adapter refl
    by true switch =
        let kept = place_kept (nodes_of found) (new.node ∷ []) there.node (found_among found there.node hops (known there refl switch)) in
        rw (nodes_more found new, kept) refl

links_kept : (fabric : FabricState) (found : List Found) (new one : Found) (count : ℕ) → IsKnownBehind fabric found one count
    → links_up_to fabric (nodes_of (found ++ new ∷ [])) one.node count ≡ links_up_to fabric (nodes_of found) one.node count
links_kept fabric found new one count known =
    flat_same _ _ 1 count (λ number from to.
    link_kept fabric found new (length one.path + 1) number (far_end fabric.cables (port one.node number))
    (λ there cable switch. known.found_behind number there from (omega (arith, to)) cable switch))

node_kept : (found : List Found) (new one : Found) (k : ℕ) → StandsAt found k one → node_at (found ++ new ∷ []) k ≡ node_at found k
node_kept found new one k there = node_of (found ++ new ∷ []) k one (get_kept found (new ∷ []) k one there) ∙ sym (node_of found k one there)

-- ports that were met were met still
met_where : (fabric : FabricState) (found more : List Found) (i count j next : ℕ) (met : Met)
    → (WasAsked found i count met.port.at → WasAsked (found ++ more) j next met.port.at)
    → WasMet fabric found i count met → WasMet fabric (found ++ more) j next met
met_where fabric found more i count j next met goes was =
    let same : node_at (found ++ more) met.port.at.node ≡ node_at found met.port.at.node = stays (slice_get_cases found met.port.at.node).1 in
    record { asked = goes was.asked; cable = rw same was.cable; within = rw same was.within }
  where
    stays : ((x : Found) × (met.port.at.node < length found) × (slice_get found met.port.at.node ≡ Some x) × (get_or found met.port.at.node x ≡ x))
        ⊎ ((length found ≤ met.port.at.node) × (slice_get found met.port.at.node ≡ None))
        → node_at (found ++ more) met.port.at.node ≡ node_at found met.port.at.node
    stays (inl here) = node_of (found ++ more) met.port.at.node here.0 (get_kept found more met.port.at.node here.0 here.2) ∙ sym (node_of found met.port.at.node here.0 here.2)
    stays (inr past) = absurd (omega (arith, past.0, was.asked.1.1))

met_still : (fabric : FabricState) (found : List Found) (i count : ℕ) (new : Found) (ports : List GraphPort) → i ≤ length found
    → AreMet fabric found i count ports → AreMet fabric (found ++ new ∷ []) i count ports
met_still fabric found i count new ports within are = record {
  met = are.met;
  ports_are = are.ports_are;
  once = are.once;
  shown = are.shown;
  asked = λ k d before. met_where fabric found (new ∷ []) i count i count _
      (λ was. (was.0, (was.1.0, rw (length-append found (new ∷ [])) (omega (arith, was.1.1))))) (are.asked k d before);
}

met_next : (fabric : FabricState) (found : List Found) (i count : ℕ) (ports : List GraphPort)
    → AreMet fabric found i count ports → AreMet fabric found (suc i) 0 ports
met_next fabric found i count ports are = record {
  met = are.met;
  ports_are = are.ports_are;
  once = are.once;
  shown = are.shown;
  asked = λ k d before.
      let was = are.asked k d before in
      record { asked = (earlier was.asked.0, was.asked.1); cable = was.cable; within = was.within };
}
  where
    earlier : {at : PortRef} → (at.node < i) ⊎ ((at.node ≡ i) × (at.port ≤ count)) → (at.node < suc i) ⊎ ((at.node ≡ suc i) × (at.port ≤ 0))
    earlier (inl before) = inl (omega (arith, before))
    earlier (inr here) = inl (omega (arith, here.0))

noted_still : (fabric : FabricState) (found : List Found) (i count : ℕ) (one new : Found) (old next : SurveyState) (row : List GraphLink)
    → StandsAt found i one → i ≤ length found → IsAsked fabric found i count → IsNoted fabric found i count old row
    → next ≡ record old { switches = old.switches ++ switch_of fabric new ∷ [] }
    → IsNoted fabric (found ++ new ∷ []) i count next row
noted_still fabric found i count one new old next row there within asked noted is = rw is (record {
  switches = ap (λ (some : List GraphSwitch). some ++ switch_of fabric new ∷ []) noted.switches ∙ sym (map-append (switch_of fabric) found (new ∷ []));
  rows = noted.rows ∙ map_same _ _ found i (λ k some before at. sym (links_kept fabric found new some (ports_at fabric some.node) (asked.before k some before at)))
      ∙ ap (map (λ some. row_of fabric (nodes_of (found ++ new ∷ [])) some.node)) (sym (take-append-le i found (new ∷ []) within));
  links = noted.links ∙ here_kept;
  ports = noted.ports ∙ ports_kept;
  few_ports = noted.few_ports;
  met = met_still fabric found i count new old.ports within noted.met;
})
  where
    here_kept : links_up_to fabric (nodes_of found) (node_at found i) count ≡ links_up_to fabric (nodes_of (found ++ new ∷ [])) (node_at (found ++ new ∷ []) i) count
    here_kept =
        ap (λ (node : ℕ). links_up_to fabric (nodes_of found) node count) (node_of found i one there)
        ∙ sym (links_kept fabric found new one count (asked.here one there))
        ∙ ap (λ (node : ℕ). links_up_to fabric (nodes_of (found ++ new ∷ [])) node count) (sym (node_kept found new one i there ∙ node_of found i one there))

    at_place : (k : ℕ) → k < i → node_at (found ++ new ∷ []) k ≡ node_at found k
    at_place k before = by (slice_get_cases found k).1
      where
        by : ((x : Found) × (k < length found) × (slice_get found k ≡ Some x) × (get_or found k x ≡ x)) ⊎ ((length found ≤ k) × (slice_get found k ≡ None))
            → node_at (found ++ new ∷ []) k ≡ node_at found k
        by (inl here) = node_kept found new here.0 k here.2
        by (inr past) = absurd (omega (arith, before, within, past.0))

    ports_kept : ports_before fabric found i ++ ports_up_to fabric i (node_at found i) count
        ≡ ports_before fabric (found ++ new ∷ []) i ++ ports_up_to fabric i (node_at (found ++ new ∷ []) i) count
    ports_kept =
        let earlier : ports_before fabric found i ≡ ports_before fabric (found ++ new ∷ []) i =
        flat_same _ _ 0 i (λ k from to. ap (λ (node : ℕ). ports_up_to fabric k node (ports_at fabric node)) (sym (at_place k (omega (arith, to))))) in
        rw (earlier, node_kept found new one i there) refl

pub switch_more : (fabric : FabricState) (found : List Found) (i count : ℕ) (one new : Found) (old next : SurveyState) (row : List GraphLink)
    → StandsAt found i one → IsProgress fabric found i count old row → IsNew fabric found one new
    → next ≡ record old { switches = old.switches ++ switch_of fabric new ∷ [] }
    → IsProgress fabric (found ++ new ∷ []) i count next row
switch_more fabric found i count one new old next row there so_far is noted = record {
  discovery = discovered fabric found i count one new there so_far.discovery so_far.asked is;
  within = rw (length-append found (new ∷ [])) (omega (arith, so_far.within));
  asked = asked_still fabric found i count one new there so_far.asked is;
  noted = noted_still fabric found i count one new old next row there so_far.within so_far.asked so_far.noted noted;
}

-- ---- the next switch
row_done : (fabric : FabricState) (found : List Found) (i : ℕ) (one : Found) (old : SurveyState) (row : List GraphLink) → StandsAt found i one
    → IsNoted fabric found i (ports_at fabric one.node) old row → IsNoted fabric found (suc i) 0 (record old { rows = old.rows ++ row ∷ [] }) []
row_done fabric found i one old row there noted =
    let node = node_of found i one there in
    let count : ports_at fabric (node_at found i) ≡ ports_at fabric one.node = ap (ports_at fabric) node in
    record {
      switches = noted.switches;
      rows = rw (noted.rows, noted.links, node) (sym (map_more (λ (one : Found). row_of fabric (nodes_of found) one.node) found i one there));
      links = refl;
      ports = noted.ports ∙ sym (append-nil _
          ∙ flat_more (λ place. ports_up_to fabric place (node_at found place) (ports_at fabric (node_at found place))) 0 i i (omega arith)
          ∙ ap (λ (n : ℕ). ports_before fabric found i ++ ports_up_to fabric i (node_at found i) n) count);
      few_ports = noted.few_ports;
      met = met_next fabric found i (ports_at fabric one.node) old.ports noted.met;
    }

asked_next : (fabric : FabricState) (found : List Found) (i : ℕ) (one : Found) → StandsAt found i one → IsDiscovery fabric found
    → IsAsked fabric found i (ports_at fabric one.node) → IsAsked fabric found (suc i) 0
asked_next fabric found i one there so_far asked = record {
  before = λ k some earlier at. elim (below_or_next k i (omega (arith, earlier))) [
    | inl before ↦ before_by k some at before
    | inr next ↦ absurd (omega (arith, earlier, next))
  ];
  here = λ some at. record {
    found_behind = λ number far from to cable switch. absurd (omega (arith, from, to));
    near_behind = λ number far from to cable deep. absurd (omega (arith, from, to));
  };
  ahead = λ k some last at_i at_k.
      let near = so_far.sorted i (suc i) one some (omega arith) there at_i in
      omega (arith, near, asked.ahead k one last there at_k);
}
  where
    before_by : (k : ℕ) (some : Found) → StandsAt found k some → k ≤ i → IsKnownBehind fabric found some (ports_at fabric some.node)
    before_by k some at h = by (nat_le i k) refl
      where
        by : (b : Bool) → nat_le i k ≡ b → IsKnownBehind fabric found some (ports_at fabric some.node)
        by false before = asked.before k some (grind (arith, nat_tests, before)) at
        by true after =
            let same_place : k ≡ i = grind (arith, nat_tests, after, h) in
            let same : one ≡ some = same_Some one some (sym there ∙ ap (slice_get found) (sym same_place) ∙ at) in
            rw (sym same) (asked.here one there)

pub next_switch : (fabric : FabricState) (found : List Found) (i : ℕ) (one : Found) (old : SurveyState) (row : List GraphLink) → StandsAt found i one
    → IsProgress fabric found i (ports_at fabric one.node) old row
    → IsProgress fabric found (suc i) 0 (record old { rows = old.rows ++ row ∷ [] }) []
next_switch fabric found i one old row there so_far = record {
  discovery = so_far.discovery;
  within = slice_get_within found i one there;
  asked = asked_next fabric found i one there so_far.discovery so_far.asked;
  noted = row_done fabric found i one old row there so_far.noted;
}
