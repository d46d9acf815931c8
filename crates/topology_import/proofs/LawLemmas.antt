-- A topology that passes the test is that of the discovery.
use Rattle.std.proofs.Common.{◌≡◌, ◌∙◌, refl, sym, ap, ℕ, zero, suc, Bool, true, false, cond, ◌==◌, ◌&&◌, ◌+◌, ◌-◌, ◌<◌, ◌≤◌, ◌^◌, nat_lt, is_some, unwrap_or, length, position, inl, inr, List, [], ◌∷◌, filter, slice_get, Option, Some, None, Result, Ok, Err, arith}
use Rattle.std.specs.List.{list_all, list_any, range_with_len, position_or_len}
use Rattle.std.specs.Option.{option_and_then, option_map_or}
use Rattle.std.proofs.lemmas.Bool.{and_parts, eqb-true, or_cases, or_left, or_right}
use Rattle.std.proofs.lemmas.Bool.Decides.{nat_tests}
use Rattle.std.proofs.lemmas.Map.Keys.{any_passes_from_place}
use Rattle.std.proofs.lemmas.Option.{same_Some}
use Rattle.step_results.specs.AtLine.{AtLine, on_line}
use Rattle.step_results.specs.Steps.{◌>>=◌, unless}
use Rattle.step_results.proofs.ListLemmas.{all_there, range_at}
use Rattle.step_results.proofs.PlaceLemmas.{list_any_place}
use Rattle.step_results.proofs.StepLemmas.{bind_ok, let_through, same_ok, unless_ok}
use Rattle.fabric_parts.specs.declared.cable.Cable.{Cable}
use Rattle.fabric_parts.specs.declared.cable.PortRef.{PortRef}
use Rattle.fabric_parts.specs.Cable.{ends_at, is_cabled, is_same_port, port}
use Rattle.fabric_parts.specs.declared.limits.Limits.TheVariants.{Large}
use Rattle.netdiscover_file.specs.declared.node.Node.{Node as FoundNode}
use Rattle.netdiscover_file.specs.declared.port.PortLine.{PortLine}
use Rattle.netdiscover_file.specs.declared.ends.FarEnd.{FarEnd}
use Rattle.netdiscover_file.specs.Agreement.{far_line, stands_at_both_ends}
use Rattle.netdiscover_file.specs.Discovery.{DiscoveryState}
use Rattle.netdiscover_file.specs.Node.{place_of}
use Rattle.netdiscover_file.specs.Port.{line_of, place_of_line}
use Rattle.netdiscover_file.specs.Sound.{IsSound}
use Rattle.netdiscover_file.proofs.OtherEndLemmas.{one_other_end}
use Rattle.topo_file.specs.declared.fault.TopologyCause.{TopologyCause}
use Rattle.topo_file.specs.declared.node.Node.{Node}
use Rattle.topo_file.specs.Node.{is_switch, port_guid}
use Rattle.topo_file.specs.Topology.{TopologyState, topology_within}
use Rattle.topology_import.specs.declared.cables.CableMeant.{CableMeant}
use Rattle.topology_import.specs.declared.planned.Planned.{Planned}
use Rattle.topology_import.specs.Agreement.{agrees, are_as_planned, has_cable, has_ends, is_between, is_cable_of, is_end_port, is_port_of, is_reported}
use Rattle.topology_import.specs.Cables.{cables_meant}
use Rattle.topology_import.specs.Ends.{counted, counts, ends, firsts, guid_of, is_above, is_end, is_port_guid}
use Rattle.topology_import.specs.Import.{asked_for, if_end_port, import_of, judged, manager_of, text_read}
use Rattle.topology_import.specs.Laws.{Among, HasEndPort, HasLine, IsGiven, LeadToOneAnother, OthersAreReported}
use Rattle.topology_import.specs.Nodes.{guid_fault}
use Rattle.topology_import.specs.Text.{planned_nodes, text_of}

-- ---- elements of lists
record Found {X : Type 0} (p : X → Bool) (xs : List X) : Type 0 where
  pub x : X
  pub among : Among xs x
  pub passes : p x ≡ true

any_found : {X : Type 0} (p : X → Bool) (xs : List X) → list_any p xs ≡ true → Found p xs
any_found p [] h = absurd cc
any_found p (x ∷ xs) h = by (p x) refl h (λ k. any_found p xs k)
  where
    by : (b : Bool) → p x ≡ b → list_any p (x ∷ xs) ≡ true → (list_any p xs ≡ true → Found p xs) → Found p (x ∷ xs)
    by true e some rest = record { x = x; among = (0, refl); passes = e }
    by false e some rest =
        let later = rest (rw e at some) in
        record { x = later.x; among = (suc later.among.0, later.among.1); passes = later.passes }

from_filter : {X : Type 0} (p : X → Bool) (xs : List X) (y : X) → Among (filter p xs) y → Among xs y
from_filter p [] y (i, at) = absurd cc
from_filter p (x ∷ xs) y (i, at) = by (p x) refl i at (λ k. from_filter p xs y k)
  where
    by : (b : Bool) → p x ≡ b → (k : ℕ) → slice_get (filter p (x ∷ xs)) k ≡ Some y → (Among (filter p xs) y → Among xs y) → Among (x ∷ xs) y
    by true e zero there rest = (0, rw e at there)
    by true e (suc k) there rest = let later = rest (k, rw e at there) in (suc later.0, later.1)
    by false e k there rest = let later = rest (k, rw e at there) in (suc later.0, later.1)

into_filter : {X : Type 0} (p : X → Bool) (xs : List X) (y : X) → Among xs y → p y ≡ true → Among (filter p xs) y
into_filter p [] y (i, at) passes = absurd cc
into_filter p (x ∷ xs) y (zero, at) passes =
    let here : p x ≡ true = ap p (same_Some x y at) ∙ passes in
    (0, rw here at)
into_filter p (x ∷ xs) y (suc i, at) passes = by (p x) refl (into_filter p xs y (i, at) passes)
  where
    by : (b : Bool) → p x ≡ b → Among (filter p xs) y → Among (filter p (x ∷ xs)) y
    by true e later = (suc later.0, rw e later.1)
    by false e later = (later.0, rw e later.1)

filter_passes : {X : Type 0} (p : X → Bool) (xs : List X) (y : X) → Among (filter p xs) y → p y ≡ true
filter_passes p [] y (i, at) = absurd cc
filter_passes p (x ∷ xs) y (i, at) = by (p x) refl i at (λ k. filter_passes p xs y k)
  where
    by : (b : Bool) → p x ≡ b → (k : ℕ) → slice_get (filter p (x ∷ xs)) k ≡ Some y → (Among (filter p xs) y → p y ≡ true) → p y ≡ true
    by true e zero there rest = ap p (sym (same_Some x y (rw e at there))) ∙ e
    by true e (suc k) there rest = rest (k, rw e at there)
    by false e k there rest = rest (k, rw e at there)

-- ---- end ports
place_passes : {X : Type 0} (p : X → Bool) (xs : List X) → is_some (position p xs) ≡ true → Found p xs
place_passes p xs h = any_found p xs (list_any_place p xs ∙ by (nat_lt (position_or_len p xs) (length xs)) h)
  where
    by : (b : Bool) → is_some (cond b (Some (position_or_len p xs)) None) ≡ true → b ≡ true
    by true e = refl
    by false e = absurd cc

reported_guid : (o : Option ℕ) (guid : ℕ) → is_some o ≡ true → (guid == unwrap_or o 0) ≡ true → o ≡ Some guid
reported_guid (Some own) guid there same = ap Some (sym (eqb-true guid own same))
reported_guid None guid there same = absurd cc

line_of_end : (discovery : DiscoveryState) (guid : ℕ) → is_port_guid (ends discovery) guid ≡ true → HasLine discovery guid
line_of_end discovery guid h =
    let found = place_passes (λ line. guid == guid_of line) (ends discovery) h in
    let is = and_parts (counts discovery.nodes found.x) _ (filter_passes (is_end discovery.nodes) discovery.ports found.x found.among) in
    let there = from_filter (is_end discovery.nodes) discovery.ports found.x found.among in
    (found.x, into_filter (counts discovery.nodes) discovery.ports found.x there is.0, reported_guid found.x.guid guid is.1 found.passes)

only_ends : (discovery : DiscoveryState) (nodes : List Node) → list_all (has_ends (ends discovery)) nodes ≡ true
    → (place number : ℕ) (node : Node) → slice_get nodes place ≡ Some node → is_switch node ≡ false → 1 ≤ number → number ≤ node.ports
    → HasLine discovery (port_guid node number)
only_ends discovery nodes all place number node there adapter from to =
    let has : has_ends (ends discovery) node ≡ true = all_there (has_ends (ends discovery)) nodes place node all there in
    let ports : list_all (λ before. is_above (ends discovery) node.guid (before + 1)) (range_with_len 0 node.ports) ≡ true = rw adapter at has in
    let inside : number - 1 < node.ports = omega (arith, from, to) in
    let above = all_there (λ before. is_above (ends discovery) node.guid (before + 1)) (range_with_len 0 node.ports) (number - 1) (0 + (number - 1)) ports
    (range_at 0 node.ports (number - 1) inside) in
    let same : 0 + (number - 1) + 1 ≡ number = omega (arith, from) in
    line_of_end discovery (port_guid node number) (and_parts (nat_lt (node.guid + number) (2 ^ 64)) _ (rw same at above)).1

-- ---- the line to which a line leads
record Leads (nodes : List FoundNode) (ports : List PortLine) (far : FarEnd) (test : PortLine → Bool) : Type 0 where
  pub other : PortLine
  pub is : far_line nodes ports far ≡ Some other
  pub passes : test other ≡ true

leads : (nodes : List FoundNode) (ports : List PortLine) (far : FarEnd) (test : PortLine → Bool) → option_map_or test (far_line nodes ports far) false ≡ true
    → Leads nodes ports far test
leads nodes ports far test h = by (far_line nodes ports far) refl h
  where
    by : (o : Option PortLine) → far_line nodes ports far ≡ o → option_map_or test o false ≡ true → Leads nodes ports far test
    by (Some other) e passes = record { other = other; is = e; passes = passes }
    by None e passes = absurd cc

at_place : (ports : List PortLine) (o : Option ℕ) (other : PortLine) → option_and_then (λ place. slice_get ports place) o ≡ Some other → Among ports other
at_place ports (Some place) other is = (place, is)
at_place ports None other is = absurd cc

of_node : (ports : List PortLine) (number : ℕ) (o : Option ℕ) (other : PortLine)
    → option_and_then (λ place. line_of (port place number) ports) o ≡ Some other → Among ports other
of_node ports number (Some place) other is = at_place ports (place_of_line (port place number) ports) other is
of_node ports number None other is = absurd cc

is_there : (nodes : List FoundNode) (ports : List PortLine) (far : FarEnd) (other : PortLine) → far_line nodes ports far ≡ Some other → Among ports other
is_there nodes ports far other is = of_node ports far.port (place_of far.node.guid nodes) other is

-- the two lead to one another
leads_back : (discovery : DiscoveryState) → IsSound discovery → (line other : PortLine) → Among (counted discovery) line
    → far_line discovery.nodes discovery.ports line.far ≡ Some other → LeadToOneAnother discovery line other
leads_back discovery sound line other among is =
    let here = from_filter (counts discovery.nodes) discovery.ports line among in
    let both = all_there (stands_at_both_ends discovery.nodes discovery.ports) discovery.ports here.0 line sound.found here.1 in
    record {
      counts = among;
      there = is_there discovery.nodes discovery.ports line.far other is;
      cable = rw is at both;
    }

same_other : (discovery : DiscoveryState) → IsSound discovery → (line a b : PortLine) → LeadToOneAnother discovery line a
    → LeadToOneAnother discovery line b → a ≡ b
same_other discovery sound line a b first second =
    let place = one_other_end discovery sound line a b first.there.0 second.there.0 first.there.1 second.there.1 first.cable second.cable in
    same_Some a b (sym first.there.1 ∙ ap (slice_get discovery.ports) place ∙ second.there.1)

-- ---- cables
same_port : (a : PortRef) → is_same_port a a ≡ true
same_port a = grind (arith, nat_tests)

cabled : (cables : List Cable) (cable : Cable) (port : PortRef) → Among cables cable → ends_at port cable ≡ true → is_cabled cables port ≡ true
cabled cables cable port among ends = any_passes_from_place (λ c. ends_at port c) cables among.0 cable among.1 ends

end_port : (discovery : DiscoveryState) (plan : TopologyState) (cable : Cable) (line other : PortLine) (guid : ℕ) → Among plan.cables cable
    → line.guid ≡ Some guid → is_between discovery plan.nodes cable line other ≡ true → HasEndPort plan guid
end_port discovery plan cable line other guid among has between =
    elim (or_cases (is_port_of discovery plan.nodes line cable.first && is_port_of discovery plan.nodes other cable.second) _ between) [
      | inl one ↦ (
        cable.first,
        rw has at (and_parts (is_port_of discovery plan.nodes line cable.first) _ one).0,
        cabled plan.cables cable cable.first among (or_left (is_same_port cable.first cable.first) _ (same_port cable.first)),
      )
      | inr one ↦ (
        cable.second,
        rw has at (and_parts (is_port_of discovery plan.nodes line cable.second) _ one).0,
        cabled plan.cables cable cable.second among (or_right (is_same_port cable.first cable.second) _ (same_port cable.second)),
      )
    ]

-- ---- the cable of a line
record HasCable (discovery : DiscoveryState) (plan : TopologyState) (line : PortLine) : Type 0 where
  pub cable : Cable
  pub among : Among plan.cables cable
  pub leads : Leads discovery.nodes discovery.ports line.far (is_between discovery plan.nodes cable line)

cable_of : (discovery : DiscoveryState) (plan : TopologyState) (line : PortLine) → list_all (has_cable discovery plan) (counted discovery) ≡ true
    → Among (counted discovery) line → HasCable discovery plan line
cable_of discovery plan line all among =
    let found = any_found (is_cable_of discovery plan.nodes line) plan.cables
    (all_there (has_cable discovery plan) (counted discovery) among.0 line all among.1) in
    record {
      cable = found.x;
      among = found.among;
      leads = leads discovery.nodes discovery.ports line.far (is_between discovery plan.nodes found.x line) found.passes;
    }

-- ---- roots
none_named : (roots : List ℕ) → (length roots == 0) ≡ true → roots ≡ []
none_named [] h = refl
none_named (root ∷ roots) h = absurd (let none : suc (length roots) ≡ 0 = eqb-true (suc (length roots)) 0 h in cc)

pub others_are_reported : OthersAreReported
others_are_reported discovery planned manager plan sound passes =
    let first = and_parts (are_as_planned planned plan.nodes) _ passes in
    let own = and_parts (list_all (has_ends (ends discovery)) plan.nodes) _ first.1 in
    let second = and_parts (list_all (has_cable discovery plan) (counted discovery)) _ own.1 in
    let third = and_parts (list_all (is_reported discovery plan) plan.cables) _ second.1 in
    let last = and_parts (is_end_port plan.nodes plan.sm manager) _ third.1 in
    record {
      end_ports = λ line guid among has.
          let it = cable_of discovery plan line second.0 among in
          end_port discovery plan it.cable line it.leads.other guid it.among has it.leads.passes;
      only_ends = only_ends discovery plan.nodes own.0;
      joined = λ line other lead.
          let it = cable_of discovery plan line second.0 lead.counts in
          let same = same_other discovery sound line it.leads.other other (leads_back discovery sound line it.leads.other lead.counts it.leads.is) lead in
          (it.cable, it.among, ap (is_between discovery plan.nodes it.cable line) (sym same) ∙ it.leads.passes);
      no_others = λ cable among.
          let found = any_found (λ line. is_cable_of discovery plan.nodes line cable) (counted discovery)
          (all_there (is_reported discovery plan) plan.cables among.0 cable third.0 among.1) in
          let it = leads discovery.nodes discovery.ports found.x.far (is_between discovery plan.nodes cable found.x) found.passes in
          (found.x, it.other, leads_back discovery sound found.x it.other found.among it.is, it.passes);
      manager_port = last.0;
      no_roots = none_named plan.roots last.1;
    }

-- ---- a text that is given
on_line_ok : {X Cause : Type 0} (number : ℕ) (r : Result X Cause) (x : X) → on_line number r ≡ Ok x → r ≡ Ok x
on_line_ok number (Ok y) x h = ap Ok (same_ok y x h)
on_line_ok number (Err cause) x h = absurd cc

asked_guid : (ends : List PortLine) (o : Option ℕ) (guid : ℕ) → if_end_port ends o ≡ Ok guid → o ≡ Some guid
asked_guid ends (Some other) guid h = ap Some (same_ok other guid (let_through (is_port_guid ends other) (Ok other) _ guid h).1)
asked_guid ends None guid h = absurd cc

record Judged (discovery : DiscoveryState) (planned : List Planned) (manager : ℕ) (text : List ℕ)
    (read : Result TopologyState (AtLine TopologyCause)) (given : List ℕ) : Type 0 where
  pub plan : TopologyState
  pub is : read ≡ Ok plan
  pub passes : agrees discovery (ends discovery) planned manager plan ≡ true
  pub same : text ≡ given

judged_ok : (discovery : DiscoveryState) (planned : List Planned) (cables : List CableMeant) (manager : ℕ) (text : List ℕ)
    (read : Result TopologyState (AtLine TopologyCause)) (given : List ℕ)
    → judged discovery (ends discovery) planned cables manager text read ≡ Ok given → Judged discovery planned manager text read given
judged_ok discovery planned cables manager text (Ok plan) given h =
    let through = let_through (agrees discovery (ends discovery) planned manager plan) (Ok text) _ given h in
    record { plan = plan; is = refl; passes = through.0; same = same_ok text given through.1 }
judged_ok discovery planned cables manager text (Err fault) given h = absurd cc

as_planned : (discovery : DiscoveryState) (planned : List Planned) (manager : ℕ) (plan : TopologyState)
    → agrees discovery (ends discovery) planned manager plan ≡ true
    → are_as_planned planned plan.nodes ≡ true
as_planned discovery planned manager plan passes = (and_parts (are_as_planned planned plan.nodes) _ passes).0

still_read : (a b : List ℕ) (plan : TopologyState) → a ≡ b → topology_within Large a ≡ Ok plan → topology_within Large b ≡ Ok plan
still_read a b plan same is = ap (topology_within Large) (sym same) ∙ is

still_asked : (o : Option ℕ) (a b : ℕ) → o ≡ Some a → a ≡ b → o ≡ Some b
still_asked o a b is same = is ∙ ap Some same

pub given : (discovery : DiscoveryState) (manager : Option ℕ) (text : List ℕ) → IsSound discovery → import_of discovery manager ≡ Ok text
    → IsGiven discovery manager text
unfolding import_of
given discovery manager text sound h =
    let first = bind_ok (on_line 0 (manager_of discovery manager))
    (λ asked. unless (guid_fault discovery.nodes (firsts (ends discovery))) asked >>= λ port. text_read discovery port) text h in
    let asked = asked_guid (ends discovery) (asked_for manager discovery.initiator) first.0 (on_line_ok 0 (manager_of discovery manager) first.0 first.1) in
    let second = bind_ok (unless (guid_fault discovery.nodes (firsts (ends discovery))) first.0) (λ port. text_read discovery port) text first.2 in
    let same = (unless_ok (guid_fault discovery.nodes (firsts (ends discovery))) first.0 second.0 second.1).1 in
    let it = judged_ok discovery (planned_nodes discovery) (cables_meant discovery) second.0 (text_of discovery second.0)
    (topology_within Large (text_of discovery second.0)) text second.2 in
    record {
      guid = second.0;
      asked = still_asked (asked_for manager discovery.initiator) first.0 second.0 asked same;
      plan = it.plan;
      read = still_read (text_of discovery second.0) text it.plan it.same it.is;
      nodes = as_planned discovery (planned_nodes discovery) second.0 it.plan it.passes;
      is_of = others_are_reported discovery (planned_nodes discovery) second.0 it.plan sound it.passes;
    }
