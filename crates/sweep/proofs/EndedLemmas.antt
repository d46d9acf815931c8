-- Where a sweep begins, and what it comes to when each switch was asked.
use Rattle.std.proofs.Common.{ℕ, zero, suc, ◌+◌, ◌≤◌, ◌≡◌, ◌∙◌, ◌==◌, ap, refl, sym, subst, Bool, true, false, List, [], ◌∷◌, ◌++◌, map, take, length}
use Rattle.std.proofs.Common.{Option, Some, None, option_map, arith}
use Rattle.std.specs.Option.{option_map_or}
use Rattle.std.proofs.lemmas.Bool.{false≢true, eq-eqb}
use Rattle.std.proofs.lemmas.Bool.Decides.{Decides-eqb}
use Rattle.std.proofs.lemmas.List.{append-nil, take_all}
use Rattle.std.proofs.lemmas.List.Elements.{All-cons, All-nil}
use Rattle.std.proofs.lemmas.Map.Keys.{IsDistinct-cons}
use Rattle.std.proofs.lemmas.Option.{same_Some, slice_get_within}
use Rattle.step_results.proofs.ListLemmas.{IsDistinct-nil, all_there}
use Rattle.fabric_parts.specs.Cable.{is_same_port, last_of, port}
use Rattle.fabric_parts.specs.declared.cable.PortRef.{PortRef}
use Rattle.smp_wire.specs.FabricState.{FabricState, is_switch_at}
use Rattle.smp_wire.specs.Good.{IsGood, SwitchesJoined}
use Rattle.smp_wire.specs.Walk.{walk}
use Rattle.sweep.specs.Graph.{graph_with}
use Rattle.sweep.specs.OfFabric.{Found, IsGraphOf, Leads, is_among, nodes_of, ports_before, row_of}
use Rattle.sweep.specs.Progress.{AreMet, IsAsked, IsDiscovery, IsProgress, IsShownAt, StandsAt, WasMet, is_found}
use Rattle.sweep.specs.Seen.{seen_at}
use Rattle.sweep.specs.Start.{IsStartOf}
use Rattle.sweep.specs.Survey.{SurveyState}
use Rattle.sweep.specs.Sweeps.{IsAllAsked, IsSweepable}
use Rattle.sweep.specs.declared.discovery.Origin.{Origin}
use Rattle.sweep.specs.declared.graph.GraphSwitch.{GraphSwitch}
use Rattle.sweep.proofs.FoundLemmas.{among_place, found_among}
use Rattle.sweep.proofs.LeastLemmas.{IsAskedTo, reached}
use Rattle.sweep.proofs.StartLemmas.{begins}

-- ---- the beginning
first_found : PortRef → PortRef → Found
first_found manager there = record { node = there.node; path = manager.port ∷ [] }

abbrev pub found_first : FabricState → PortRef → List Found
found_first fabric there = record { node = there.node; path = fabric.manager.port ∷ [] } ∷ []

discovery : (fabric : FabricState) (start : Origin) → IsGood fabric → (is : IsStartOf fabric start) → IsDiscovery fabric (found_first fabric is.there)
discovery fabric start good is =
    let begin = begins fabric good in
    let same : begin.there ≡ is.there = same_Some begin.there is.there (sym begin.cable ∙ is.cable) in
    record {
      once = IsDistinct-cons (λ a b. a == b) is.there.node [] tt (IsDistinct-nil (λ a b. a == b));
      are = rw is.switch_there refl;
      few = omega arith;
      lead = All-cons (Leads fabric) _ [] (record {
        rest = [];
        leaves = refl;
        at = is.there;
        ends = begin.ends ∙ ap (λ (p : PortRef). Some p) same;
        node = refl;
        short = omega arith;
      }) (All-nil (Leads fabric));
      first = is.there;
      first_cable = is.cable;
      first_found = rw (eq-eqb is.there.node is.there.node refl) refl;
      joined = λ k one from at. alone k one from at;
      sorted = λ j k near far order at_j at_k. both j k near far at_j at_k;
    }
  where
    alone : (k : ℕ) (one : Found) → 1 ≤ k → StandsAt (found_first fabric is.there) k one
        → Rattle.sweep.specs.Progress.HasNeighbour fabric (take k (nodes_of (found_first fabric is.there))) one.node
    alone zero one from at = absurd (omega (arith, from))
    alone (suc k) one from at = absurd cc

    both : (j k : ℕ) (near far : Found) → StandsAt (found_first fabric is.there) j near → StandsAt (found_first fabric is.there) k far → length near.path ≤ length far.path
    both zero zero near far at_j at_k = rw (sym (same_Some _ near at_j), sym (same_Some _ far at_k)) (omega arith)
    both zero (suc k) near far at_j at_k = absurd cc
    both (suc j) k near far at_j at_k = absurd cc

asked : (fabric : FabricState) (there : PortRef) → IsAsked fabric (found_first fabric there) 0 0
asked fabric there = record {
  before = λ k one before at. absurd (omega (arith, before));
  here = λ one at. record {
    found_behind = λ number far from to cable switch. absurd (omega (arith, from, to));
    near_behind = λ number far from to cable deep. absurd (omega (arith, from, to));
  };
  ahead = λ k one last at_i at_k. ahead_by k one last at_i at_k;
}
  where
    ahead_by : (k : ℕ) (one last : Found) → StandsAt (found_first fabric there) 0 one → StandsAt (found_first fabric there) k last → length last.path ≤ length one.path + 1
    ahead_by zero one last at_i at_k = rw (sym (same_Some _ one at_i), sym (same_Some _ last at_k)) (omega arith)
    ahead_by (suc k) one last at_i at_k = absurd cc

nothing_met : (fabric : FabricState) (found : List Found) → AreMet fabric found 0 0 []
nothing_met fabric found = record {
  met = [];
  ports_are = refl;
  once = IsDistinct-nil is_same_port;
  shown = All-nil (IsShownAt fabric);
  asked = All-nil (WasMet fabric found 0 0);
}

pub begun_at : (fabric : FabricState) (start : Origin) (survey : SurveyState) → IsGood fabric → (is : IsStartOf fabric start)
    → survey ≡ record { switches = start.switch ∷ []; rows = []; ports = [] } → IsProgress fabric (found_first fabric is.there) 0 0 survey []
begun_at fabric start survey good is same = rw same (record {
  discovery = discovery fabric start good is;
  within = omega arith;
  asked = asked fabric is.there;
  noted = record {
    switches = ap (λ (switch : GraphSwitch). switch ∷ []) is.switch;
    rows = refl;
    links = refl;
    ports = refl;
    few_ports = omega arith;
    met = nothing_met fabric (found_first fabric is.there);
  };
})

-- ---- the end: each switch was found
asked_all : (fabric : FabricState) (found : List Found) (survey : SurveyState) (deep : ℕ) → IsProgress fabric found (length found) 0 survey [] → IsAskedTo fabric found deep
asked_all fabric found survey deep progress k one there near = progress.asked.before k one (slice_get_within found k one there) there

found_by_walk : (fabric : FabricState) (found : List Found) (survey : SurveyState) (node : ℕ) (numbers : List ℕ) (o : Option (List PortRef))
    → IsProgress fabric found (length found) 0 survey [] → (start : PortRef) → is_found found 1 start.node ≡ true
    → walk fabric.nodes fabric.cables false start numbers ≡ o → option_map_or (λ ends. (last_of start ends).node == node) o false ≡ true
    → is_switch_at fabric.nodes node ≡ true → is_among (nodes_of found) node ≡ true
found_by_walk fabric found survey node numbers None progress start first walked ends switch = absurd (false≢true ends)
found_by_walk fabric found survey node numbers (Some some) progress start first walked ends switch =
    let last : (last_of start some).node ≡ node = (Decides-eqb _ node).0 ends in
    found_among found node (1 + length numbers)
    (subst (λ (n : ℕ). is_found found (1 + length numbers) n ≡ true) last
    (reached fabric found (1 + length numbers) 1 start numbers some (asked_all fabric found survey (1 + length numbers) progress) (omega arith) first walked
    (ap (is_switch_at fabric.nodes) last ∙ switch)))

pub each_found : (fabric : FabricState) (found : List Found) (survey : SurveyState) → SwitchesJoined fabric
    → IsProgress fabric found (length found) 0 survey [] → (node : ℕ) → is_among (nodes_of found) node ≡ is_switch_at fabric.nodes node
each_found fabric found survey joined progress node = by (is_among (nodes_of found) node) refl (is_switch_at fabric.nodes node) refl
  where
    first : PortRef
    first = port progress.discovery.first.node 0

    first_switch : is_switch_at fabric.nodes progress.discovery.first.node ≡ true
    first_switch =
        let at = among_place (nodes_of found) progress.discovery.first.node (found_among found progress.discovery.first.node 1 progress.discovery.first_found) in
        all_there (is_switch_at fabric.nodes) (nodes_of found) at.0 progress.discovery.first.node progress.discovery.are at.1

    by : (a : Bool) → is_among (nodes_of found) node ≡ a → (b : Bool) → is_switch_at fabric.nodes node ≡ b → a ≡ b
    by true among true switch = refl
    by false among false switch = refl
    by true among false switch =
        let at = among_place (nodes_of found) node among in
        absurd (false≢true (sym switch ∙ all_there (is_switch_at fabric.nodes) (nodes_of found) at.0 node progress.discovery.are at.1))
    by false among true switch =
        let way = joined progress.discovery.first.node node first_switch switch in
        sym among ∙ found_by_walk fabric found survey node way.0 (walk fabric.nodes fabric.cables false first way.0) progress first progress.discovery.first_found refl way.1 switch

pub graph_is : (fabric : FabricState) (found : List Found) (survey : SurveyState) (manager : ℕ) → IsSweepable fabric
    → option_map (λ seen. seen.port_guid) (seen_at fabric fabric.manager) ≡ Some manager → IsAllAsked fabric found survey
    → IsGraphOf (graph_with manager survey.switches survey.rows survey.ports) fabric
graph_is fabric found survey manager sweepable is all =
    let some = found ++ all.more in
    record {
      layout = record {
        found = some;
        once = all.progress.discovery.once;
        all = each_found fabric some survey sweepable.joined all.progress;
        manager = is;
        switches = all.progress.noted.switches;
        rows = all.progress.noted.rows ∙ ap (map (λ one. row_of fabric (nodes_of some) one.node)) (take_all (length some) some (omega arith));
        ports = all.progress.noted.ports ∙ append-nil (ports_before fabric some (length some));
      };
      lead = all.progress.discovery.lead;
    }
