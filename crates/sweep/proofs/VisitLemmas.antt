-- What is noted of a port that is visited: the switch behind it, or the port of an adapter.
use Rattle.std.proofs.Common.{ℕ, suc, ◌+◌, ◌<◌, ◌≤◌, ◌≡◌, inl, inr, ◌∙◌, ◌==◌, not, ap, refl, sym, subst, Bool, true, false, List, [], ◌∷◌, ◌++◌}
use Rattle.std.proofs.Common.{map, length, position, slice_get, Option, Some, None, option_map, Result, Ok, Err, nat_le, unwrap_or, arith}
use Rattle.std.specs.List.{All, IsDistinct, list_all}
use Rattle.std.specs.Option.{option_map_or}
use Rattle.std.proofs.lemmas.Bool.{and_from, false≢true}
use Rattle.std.proofs.lemmas.Bool.Decides.{nat_tests}
use Rattle.std.proofs.lemmas.List.Folds.{list_all-map}
use Rattle.std.proofs.lemmas.List.{append_assoc, append-nil, length-append, length-map}
use Rattle.std.proofs.lemmas.Option.{same_Some, slice_get-map}
use Rattle.step_results.proofs.ListLemmas.{all_have, all_there, list_all_push}
use Rattle.fabric_parts.specs.Cable.{far_end, is_cabled, port}
use Rattle.fabric_parts.specs.declared.cable.PortRef.{PortRef}
use Rattle.smp_wire.specs.FabricState.{FabricState, is_port, is_switch_at}
use Rattle.smp_wire.specs.Walk.{end_of}
use Rattle.sweep.specs.Seen.{name_at, seen_at}
use Rattle.smp_wire.specs.Good.{IsGood}
use Rattle.sweep.specs.Graph.{count_at}
use Rattle.sweep.specs.Limits.{IsTooBig, is_adapter_port}
use Rattle.sweep.specs.OfFabric.{Found, Leads, is_among, link_to, nodes_of, place_of, placed, port_seen, port_to, ports_at, switch_of}
use Rattle.sweep.specs.Progress.{AreMet, IsProgress, IsShownAt, Met, StandsAt, WasMet, ends_met, is_found}
use Rattle.sweep.specs.Survey.{SurveyState}
use Rattle.sweep.specs.Sweeps.{Adds, Comes, GoesOn, IsAllAsked, IsAtPort, IsBehind, IsPlacedAt, IsSweepable, Noted}
use Rattle.sweep.specs.declared.fault.SweepFault.{SweepFault}
use Rattle.sweep.specs.declared.fault.SweepFault.TheVariants.{NoMemory, NoReply, WrongReply, TooManyHops, TooManyNodes}
use Rattle.sweep.specs.declared.graph.GraphPort.{GraphPort}
use Rattle.sweep.specs.declared.graph.GraphSwitch.{GraphSwitch}
use Rattle.sweep.specs.declared.graph.GraphLink.{GraphLink}
use Rattle.sweep.specs.declared.path.TheConstants.{PATH_HOPS}
use Rattle.sweep.specs.declared.seen.Seen.{Seen}
use Rattle.sweep.proofs.FoundLemmas.{all_by, among_at, distinct_push, found_at, found_by, node_there, place_is}
use Rattle.sweep.proofs.MetLemmas.{good_once, met_more, met_on}
use Rattle.sweep.proofs.CabledLemmas.{cabled_of, end_more, far_none}
use Rattle.sweep.proofs.PlaceLemmas.{count_found, found_place, has_guid, not_found, switch_seen}
use Rattle.sweep.proofs.ProgressLemmas.{IsKnownNext, IsNew, NotesAt, links_here, next_switch, node_of, port_more, ports_here, switch_more}
use Rattle.step_results.proofs.RangeLemmas.{get_kept, get_last}

-- ---- each switch that was found is one
pub stands_switch : (fabric : FabricState) (found : List Found) (k : ℕ) (one : Found) → list_all (is_switch_at fabric.nodes) (nodes_of found) ≡ true
    → StandsAt found k one → is_switch_at fabric.nodes one.node ≡ true
stands_switch fabric found k one are there = all_there (is_switch_at fabric.nodes) (nodes_of found) k one.node are (node_there found k one there)

pub is_switch_found : (fabric : FabricState) (found : List Found) (one : Found) (count : ℕ) (survey : SurveyState) (row : List GraphLink) (here : PortRef)
    → IsAtPort fabric found one count survey row here → is_switch_at fabric.nodes one.node ≡ true
is_switch_found fabric found one count survey row here at = stands_switch fabric found here.node one at.progress.discovery.are at.there

-- ---- the switch behind a port was found
known : (fabric : FabricState) (found : List Found) (one : Found) (count : ℕ) (survey : SurveyState) (row : List GraphLink) (here : PortRef)
    (node place : ℕ) (other : Found) → IsAtPort fabric found one count survey row here → StandsAt found place other → other.node ≡ node
    → IsPlacedAt fabric (found ++ []) one here.node count survey row node place
known fabric found one count survey row here node place other at stands is =
    let same : (found ++ []) ++ [] ≡ found = append-nil (found ++ []) ∙ append-nil found in
    record {
      more = [];
      progress = rw same at.progress;
      behind = rw same (found_by found place other node (length one.path + 1) stands is
          (at.progress.asked.ahead place one other at.there stands));
      place_is = rw (same, sym is) (sym (place_is (nodes_of found) place other.node at.progress.discovery.once (node_there found place other stands)));
    }

pub known_place : (fabric : FabricState) (found : List Found) (one : Found) (count : ℕ) (survey : SurveyState) (row : List GraphLink) (here there : PortRef)
    (path : List ℕ) (seen : Seen) (place : ℕ) → IsSweepable fabric → IsAtPort fabric found one count survey row here
    → IsBehind fabric one here there path seen → is_switch_at fabric.nodes there.node ≡ true
    → position (has_guid seen.node_guid) survey.switches ≡ Some place
    → IsPlacedAt fabric found one here.node count survey row there.node place
known_place fabric found one count survey row here there path seen place sweepable at behind switch is =
    let shown = switch_seen fabric there seen switch behind.seen_is in
    let stands = found_place fabric found survey.switches seen.node_guid place there.node sweepable.good at.progress.noted.switches switch shown.guid
    (λ some this. stands_switch fabric found place some at.progress.discovery.are this) is in
    subst (λ (some : List Found). IsPlacedAt fabric some one here.node count survey row there.node place) (append-nil found)
    (known fabric found one count survey row here there.node place stands.one at stands.there stands.node_is)

-- ---- or it is new
long_path : (path : List ℕ) (number : ℕ) → length (path ++ number ∷ []) ≡ length path + 1
long_path path number = length-append path (number ∷ [])

goes_on : (fabric : FabricState) (found : List Found) (one : Found) (count : ℕ) (survey : SurveyState) (row : List GraphLink) (here there : PortRef)
    (path : List ℕ) (seen : Seen) → IsAtPort fabric found one count survey row here → IsBehind fabric one here there path seen
    → Leads fabric (record { node = there.node; path = path })
goes_on fabric found one count survey row here there path seen at behind =
    let was = all_have (Leads fabric) found here.node one at.progress.discovery.lead at.there in
    record {
      rest = was.rest ++ here.port ∷ [];
      leaves = behind.path_is ∙ ap (λ (some : List ℕ). some ++ here.port ∷ []) was.leaves;
      at = there;
      ends = behind.ends;
      node = refl;
      short = behind.short;
    }

is_new : (fabric : FabricState) (found : List Found) (one : Found) (count : ℕ) (survey : SurveyState) (row : List GraphLink) (here there : PortRef)
    (path : List ℕ) (seen : Seen) → IsSweepable fabric → IsAtPort fabric found one count survey row here
    → IsBehind fabric one here there path seen → is_switch_at fabric.nodes there.node ≡ true → is_among (nodes_of found) there.node ≡ false
    → length survey.switches < 64 → IsNew fabric found one (record { node = there.node; path = path })
is_new fabric found one count survey row here there path seen sweepable at behind switch none room =
    let many : length survey.switches ≡ length found = ap (λ (some : List GraphSwitch). length some) at.progress.noted.switches ∙ length-map found (switch_of fabric) in
    record {
      switch = switch;
      not_there = none;
      room = omega (arith, room, many);
      leads = goes_on fabric found one count survey row here there path seen at behind;
      deep = ap (λ (some : List ℕ). length some) behind.path_is ∙ long_path one.path here.port;
      neighbour = record {
        number = there.port;
        there = port one.node here.port;
        cable = good_once fabric (port one.node here.port) there sweepable.good behind.cable;
        among = among_at (nodes_of found) here.node one.node (node_there found here.node one at.there);
      };
    }

over : (fabric : FabricState) (found : List Found) (node : ℕ) → IsDistinct (λ a b. a == b) (nodes_of found)
    → list_all (is_switch_at fabric.nodes) (nodes_of found) ≡ true → is_switch_at fabric.nodes node ≡ true
    → is_among (nodes_of found) node ≡ false → 64 ≤ length found → IsTooBig fabric
over fabric found node once are switch none many = inl (record {
  some = nodes_of found ++ node ∷ [];
  once = distinct_push (λ a b. a == b) (nodes_of found) node once none;
  are = list_all_push (is_switch_at fabric.nodes) (nodes_of found) node are switch;
  many = rw (length-append (nodes_of found) (node ∷ []), length-map found (λ (one : Found). one.node)) (omega (arith, many));
})

abbrev pub IsAdded : FabricState → Found → SurveyState → SurveyState → ℕ → Type 0
IsAdded fabric new old next place =
    (place ≡ length old.switches) × (length old.switches < 64) × (next ≡ record old { switches = old.switches ++ switch_of fabric new ∷ [] })

pub new_place : (fabric : FabricState) (found : List Found) (one : Found) (count : ℕ) (old next : SurveyState) (row : List GraphLink) (here there : PortRef)
    (path : List ℕ) (seen : Seen) (result : Result ℕ SweepFault) → IsSweepable fabric → IsAtPort fabric found one count old row here
    → IsBehind fabric one here there path seen → is_switch_at fabric.nodes there.node ≡ true
    → position (has_guid seen.node_guid) old.switches ≡ None
    → Adds (64 ≤ length old.switches) (IsAdded fabric (record { node = there.node; path = path }) old next) result
    → Comes fabric (IsPlacedAt fabric found one here.node count next row there.node) result
new_place fabric found one count old next row here there path seen (Ok place) sweepable at behind switch is added =
    let new : Found = record { node = there.node; path = path } in
    let shown = switch_seen fabric there seen switch behind.seen_is in
    let none = not_found fabric found old.switches seen.node_guid there.node at.progress.noted.switches shown.guid is in
    let many : length old.switches ≡ length found = ap (λ (some : List GraphSwitch). length some) at.progress.noted.switches ∙ length-map found (switch_of fabric) in
    let fresh = is_new fabric found one count old row here there path seen sweepable at behind switch none added.1 in
    let grown = switch_more fabric found here.node count one new old next row at.there at.progress fresh added.2 in
    let last = get_last found new in
    record {
      more = new ∷ [];
      progress = grown;
      behind = found_by (found ++ new ∷ []) (length found) new there.node (length one.path + 1) last refl (omega (arith, fresh.deep));
      place_is = added.0 ∙ many ∙ sym (place_is (nodes_of (found ++ new ∷ [])) (length found) there.node grown.discovery.once
          (node_there (found ++ new ∷ []) (length found) new last));
    }
new_place fabric found one count old next row here there path seen (Err NoMemory) sweepable at behind switch is added = tt
new_place fabric found one count old next row here there path seen (Err NoReply) sweepable at behind switch is added = added
new_place fabric found one count old next row here there path seen (Err WrongReply) sweepable at behind switch is added = added
new_place fabric found one count old next row here there path seen (Err TooManyHops) sweepable at behind switch is added = absurd added
new_place fabric found one count old next row here there path seen (Err TooManyNodes) sweepable at behind switch is added =
    let shown = switch_seen fabric there seen switch behind.seen_is in
    let none = not_found fabric found old.switches seen.node_guid there.node at.progress.noted.switches shown.guid is in
    let many : length old.switches ≡ length found = ap (λ (some : List GraphSwitch). length some) at.progress.noted.switches ∙ length-map found (switch_of fabric) in
    over fabric found there.node at.progress.discovery.once at.progress.discovery.are switch none (omega (arith, many, added))

-- ---- the link to it
pub right_count : (fabric : FabricState) (found : List Found) (one : Found) (i count : ℕ) (survey : SurveyState) (row : List GraphLink) (there : PortRef)
    (seen : Seen) (place : ℕ) → is_switch_at fabric.nodes there.node ≡ true → IsPlacedAt fabric found one i count survey row there.node place
    → seen_at fabric there ≡ Some seen → count_at survey.switches place ≡ seen.num_ports
right_count fabric found one i count survey row there seen place switch placed_at is =
    let some = found ++ placed_at.more in
    let at = found_at some there.node (length one.path + 1) placed_at.behind in
    let here : place ≡ at.place = placed_at.place_is ∙ ap (place_of (nodes_of some)) (sym at.node_is)
    ∙ place_is (nodes_of some) at.place at.one.node placed_at.progress.discovery.once (node_there some at.place at.one at.there) in
    let count = count_found fabric some survey.switches at.place at.one placed_at.progress.noted.switches at.there in
    let shown = switch_seen fabric there seen switch is in
    ap (count_at survey.switches) here ∙ count ∙ ap (ports_at fabric) at.node_is ∙ sym shown.count

-- nothing more is known of the port than the switch behind it
known_next : (fabric : FabricState) (found : List Found) (one : Found) (here there : PortRef) (path : List ℕ) (seen : Seen)
    → IsBehind fabric one here there path seen → is_found found (length one.path + 1) there.node ≡ true → IsKnownNext fabric found one here.port
known_next fabric found one here there path seen behind is = record {
  found_behind = λ far cable switch.
      let same : there ≡ far = same_Some there far (sym behind.cable ∙ cable) in
      subst (λ (p : PortRef). is_found found (length one.path + 1) p.node ≡ true) same is;
  near_behind = λ far cable deep. absurd (omega (arith, deep, behind.short, ap (λ (some : List ℕ). length some) behind.path_is, long_path one.path here.port));
}

adapter_next : (fabric : FabricState) (found : List Found) (one : Found) (here there : PortRef) (path : List ℕ) (seen : Seen)
    → IsBehind fabric one here there path seen → is_switch_at fabric.nodes there.node ≡ false → IsKnownNext fabric found one here.port
adapter_next fabric found one here there path seen behind adapter = record {
  found_behind = λ far cable switch.
      let same : there ≡ far = same_Some there far (sym behind.cable ∙ cable) in
      absurd (false≢true (sym adapter ∙ ap (λ (p : PortRef). is_switch_at fabric.nodes p.node) same ∙ switch));
  near_behind = λ far cable deep. absurd (omega (arith, deep, behind.short, ap (λ (some : List ℕ). length some) behind.path_is, long_path one.path here.port));
}

-- ---- what is noted
links_at : (fabric : FabricState) (found : List Found) (i number : ℕ) (one : Found) (far : Option PortRef) → StandsAt found i one
    → far_end fabric.cables (port one.node number) ≡ far
    → links_here fabric found i number ≡ option_map_or (link_to fabric (nodes_of found) number) far []
links_at fabric found i number one far stands cable =
    ap (λ (o : Option PortRef). option_map_or (link_to fabric (nodes_of found) number) o [])
    (ap (λ (node : ℕ). far_end fabric.cables (port node number)) (node_of found i one stands) ∙ cable)

ports_at_it : (fabric : FabricState) (found : List Found) (i number : ℕ) (one : Found) (far : Option PortRef) → StandsAt found i one
    → far_end fabric.cables (port one.node number) ≡ far
    → ports_here fabric found i number ≡ option_map_or (port_to fabric (port i number)) far []
ports_at_it fabric found i number one far stands cable =
    ap (λ (o : Option PortRef). option_map_or (port_to fabric (port i number)) o [])
    (ap (λ (node : ℕ). far_end fabric.cables (port node number)) (node_of found i one stands) ∙ cable)

-- a port without a cable
pub nothing_on : (fabric : FabricState) (found : List Found) (one : Found) (count : ℕ) (survey : SurveyState) (row : List GraphLink) (here : PortRef)
    → IsAtPort fabric found one count survey row here → far_end fabric.cables (port one.node here.port) ≡ None
    → GoesOn fabric found here.node here.port survey row
nothing_on fabric found one count survey row here at none =
    let cable : far_end fabric.cables (port one.node (suc count)) ≡ None = ap (λ (n : ℕ). far_end fabric.cables (port one.node n)) (sym at.number) ∙ none in
    let next = port_more fabric found here.node count one survey survey row row at.there at.progress
    (record {
      found_behind = λ there far switch. let clash = sym cable ∙ far in absurd cc;
      near_behind = λ there far deep. let clash = sym cable ∙ far in absurd cc;
    })
    (record {
      switches = refl;
      rows = refl;
      ports = sym (ap (λ (some : List GraphPort). survey.ports ++ some) (ports_at_it fabric found here.node (suc count) one None at.there cable) ∙ append-nil survey.ports);
      links = sym (ap (λ (some : List GraphLink). row ++ some) (links_at fabric found here.node (suc count) one None at.there cable) ∙ append-nil row);
      few = at.progress.noted.few_ports;
      met = met_on fabric found here.node count survey.ports at.progress.noted.met;
    }) in
    record {
      more = [];
      progress = rw (append-nil found, at.number) next;
    }

-- a link
pub link_is : (fabric : FabricState) (nodes : List ℕ) (number : ℕ) (there : PortRef) → is_switch_at fabric.nodes there.node ≡ true
    → link_to fabric nodes number there ≡ record { port = number; to = placed nodes there } ∷ []
link_is fabric nodes number there switch = rw switch refl

pub no_port : (fabric : FabricState) (at there : PortRef) → is_switch_at fabric.nodes there.node ≡ true → port_to fabric at there ≡ []
no_port fabric at there switch = rw switch refl

noted_link : (fabric : FabricState) (found : List Found) (one : Found) (i count : ℕ) (survey : SurveyState) (row : List GraphLink) (there to : PortRef)
    → StandsAt found i one → IsProgress fabric found i count survey row → far_end fabric.cables (port one.node (suc count)) ≡ Some there
    → is_switch_at fabric.nodes there.node ≡ true → to ≡ placed (nodes_of found) there
    → NotesAt fabric found i (suc count) survey survey row (row ++ record { port = suc count; to = to } ∷ [])
noted_link fabric found one i count survey row there to stands progress cable switch is = record {
  switches = refl;
  rows = refl;
  ports = sym (ap (λ (some : List GraphPort). survey.ports ++ some)
      (ports_at_it fabric found i (suc count) one (Some there) stands cable ∙ no_port fabric (port i (suc count)) there switch) ∙ append-nil survey.ports);
  links = ap (λ (p : PortRef). row ++ record { port = suc count; to = p } ∷ []) is
      ∙ sym (ap (λ (some : List GraphLink). row ++ some) (links_at fabric found i (suc count) one (Some there) stands cable ∙ link_is fabric (nodes_of found) (suc count) there switch));
  few = progress.noted.few_ports;
  met = met_on fabric found i count survey.ports progress.noted.met;
}

pub link_on : (fabric : FabricState) (found : List Found) (one : Found) (i count number : ℕ) (survey : SurveyState) (row next : List GraphLink) (there to : PortRef)
    → number ≡ suc count → StandsAt found i one → IsProgress fabric found i count survey row → IsKnownNext fabric found one number
    → far_end fabric.cables (port one.node number) ≡ Some there → is_switch_at fabric.nodes there.node ≡ true
    → to ≡ placed (nodes_of found) there → next ≡ row ++ record { port = number; to = to } ∷ []
    → IsProgress fabric found i number survey next
link_on fabric found one i count number survey row next there to is_next stands progress known cable switch is now =
    rw (now, is_next)
    (port_more fabric found i count one survey survey row (row ++ record { port = suc count; to = to } ∷ []) stands progress
    (rw (sym is_next) known) (noted_link fabric found one i count survey row there to stands progress
    (ap (λ (n : ℕ). far_end fabric.cables (port one.node n)) (sym is_next) ∙ cable) switch is))

pub switch_on : (fabric : FabricState) (found : List Found) (one : Found) (count place : ℕ) (old survey : SurveyState) (row next : List GraphLink) (here there : PortRef)
    (path : List ℕ) (seen : Seen) (result : Result (Unit {0}) SweepFault) → IsAtPort fabric found one count old row here
    → IsBehind fabric one here there path seen → is_switch_at fabric.nodes there.node ≡ true
    → IsPlacedAt fabric found one here.node count survey row there.node place
    → Noted row next here (port place seen.local_port_num) result
    → Comes fabric (λ _. GoesOn fabric found here.node here.port survey next) result
switch_on fabric found one count place old survey row next here there path seen (Ok done) at behind switch placed_at noted =
    let some = found ++ placed_at.more in
    let shown = switch_seen fabric there seen switch behind.seen_is in
    record {
      more = placed_at.more;
      progress = link_on fabric some one here.node count here.port survey row next there (port place seen.local_port_num) at.number
          (get_kept found placed_at.more here.node one at.there) placed_at.progress
          (known_next fabric some one here there path seen behind placed_at.behind) behind.cable switch
          (rw (placed_at.place_is, shown.number) refl) noted;
    }
switch_on fabric found one count place old survey row next here there path seen (Err fault) at behind switch placed_at noted = rw noted tt

-- ---- a port of an adapter
pub port_is : (fabric : FabricState) (at there : PortRef) (seen : Seen) → is_switch_at fabric.nodes there.node ≡ false → seen_at fabric there ≡ Some seen
    → port_to fabric at there ≡ port_seen at (unwrap_or (name_at fabric there) []) seen ∷ []
port_is fabric at there seen adapter is = rw (adapter, is) refl

pub no_link : (fabric : FabricState) (nodes : List ℕ) (number : ℕ) (there : PortRef) → is_switch_at fabric.nodes there.node ≡ false
    → link_to fabric nodes number there ≡ []
no_link fabric nodes number there adapter = rw adapter refl

same_here : (here : PortRef) (count : ℕ) → here.port ≡ suc count → here ≡ port here.node (suc count)
same_here here count is = λ i. record { node = here.node; port = is i }

-- the ports that were met, and this one
met_with : (fabric : FabricState) (found : List Found) (one : Found) (count : ℕ) (survey : SurveyState) (row : List GraphLink) (here there : PortRef)
    (path : List ℕ) (seen : Seen) → IsSweepable fabric → IsAtPort fabric found one count survey row here → IsBehind fabric one here there path seen
    → is_switch_at fabric.nodes there.node ≡ false
    → AreMet fabric found here.node (suc count) (survey.ports ++ port_to fabric (port here.node (suc count)) there)
met_with fabric found one count survey row here there path seen sweepable at behind adapter =
    rw (port_is fabric (port here.node (suc count)) there seen adapter behind.seen_is)
    (met_more fabric found here.node count one there seen (unwrap_or (name_at fabric there) []) survey.ports sweepable.good at.progress.discovery at.there
    (ap (λ (n : ℕ). far_end fabric.cables (port one.node n)) (sym at.number) ∙ behind.cable)
    (omega (arith, at.within, at.number)) adapter behind.seen_is at.progress.noted.met)

one_more : (fabric : FabricState) (at there : PortRef) (seen : Seen) (ports : List GraphPort) → is_switch_at fabric.nodes there.node ≡ false
    → seen_at fabric there ≡ Some seen → length (ports ++ port_to fabric at there) ≡ length ports + 1
one_more fabric at there seen ports adapter is =
    ap (λ (some : List GraphPort). length (ports ++ some)) (port_is fabric at there seen adapter is)
    ∙ length-append ports (port_seen at (unwrap_or (name_at fabric there) []) seen ∷ [])

too_many : (fabric : FabricState) (found : List Found) (i count : ℕ) (ports : List GraphPort) → IsGood fabric
    → AreMet fabric found i count ports → 256 < length ports → IsTooBig fabric
too_many fabric found i count ports good are many = inr (record {
  some = ends_met are.met;
  once = are.once;
  are = all_ends are.met are.shown are.asked;
  many = omega (arith, many, ap (λ (some : List GraphPort). length some) are.ports_are, length-map are.met (λ (one : Met). one.port), length-map are.met (λ (one : Met). one.end));
})
  where
    one_end : (met : Met) → IsShownAt fabric met → WasMet fabric found i count met → is_adapter_port fabric met.end ≡ true
    one_end met shown was = and_from (not (is_switch_at fabric.nodes met.end.node)) _ (ap not shown.adapter)
        (cabled_of fabric.cables met.end _ (good_once fabric _ met.end good was.cable))

    all_ends : (some : List Met) → All (IsShownAt fabric) some → All (WasMet fabric found i count) some
        → list_all (is_adapter_port fabric) (ends_met some) ≡ true
    all_ends some shown asked = list_all-map (is_adapter_port fabric) (λ (met : Met). met.end) some
        ∙ all_by (λ met. is_adapter_port fabric met.end) some
        (λ k met there. one_end met (all_have (IsShownAt fabric) some k met shown there) (all_have (WasMet fabric found i count) some k met asked there))

pub adapter_on : (fabric : FabricState) (found : List Found) (one : Found) (count : ℕ) (old next : SurveyState) (row : List GraphLink) (here there : PortRef)
    (path : List ℕ) (seen : Seen) (result : Result (Unit {0}) SweepFault) → IsSweepable fabric → IsAtPort fabric found one count old row here
    → IsBehind fabric one here there path seen → is_switch_at fabric.nodes there.node ≡ false
    → Adds (256 ≤ length old.ports) (λ _. (length old.ports < 256) × (next ≡ record old { ports = old.ports ++ port_to fabric here there })) result
    → Comes fabric (λ _. GoesOn fabric found here.node here.port next row) result
adapter_on fabric found one count old next row here there path seen (Ok done) sweepable at behind adapter added =
    let cable : far_end fabric.cables (port one.node (suc count)) ≡ Some there = ap (λ (n : ℕ). far_end fabric.cables (port one.node n)) (sym at.number) ∙ behind.cable in
    let is : next ≡ record old { ports = old.ports ++ port_to fabric (port here.node (suc count)) there } =
    added.1 ∙ ap (λ (p : PortRef). record old { ports = old.ports ++ port_to fabric p there }) (same_here here count at.number) in
    let on = port_more fabric found here.node count one old (record old { ports = old.ports ++ port_to fabric (port here.node (suc count)) there }) row row at.there at.progress
    (subst (λ (n : ℕ). IsKnownNext fabric found one n) at.number (adapter_next fabric found one here there path seen behind adapter))
    (record {
      switches = refl;
      rows = refl;
      ports = ap (λ (some : List GraphPort). old.ports ++ some) (sym (ports_at_it fabric found here.node (suc count) one (Some there) at.there cable));
      links = sym (ap (λ (some : List GraphLink). row ++ some) (links_at fabric found here.node (suc count) one (Some there) at.there cable
          ∙ no_link fabric (nodes_of found) (suc count) there adapter) ∙ append-nil row);
      few = omega (arith, one_more fabric (port here.node (suc count)) there seen old.ports adapter behind.seen_is, added.0);
      met = met_with fabric found one count old row here there path seen sweepable at behind adapter;
    }) in
    record {
      more = [];
      progress = rw (append-nil found, at.number, is) on;
    }
adapter_on fabric found one count old next row here there path seen (Err NoMemory) sweepable at behind adapter added = tt
adapter_on fabric found one count old next row here there path seen (Err NoReply) sweepable at behind adapter added = added
adapter_on fabric found one count old next row here there path seen (Err WrongReply) sweepable at behind adapter added = added
adapter_on fabric found one count old next row here there path seen (Err TooManyHops) sweepable at behind adapter added = absurd added
adapter_on fabric found one count old next row here there path seen (Err TooManyNodes) sweepable at behind adapter added =
    too_many fabric found here.node (suc count) (old.ports ++ port_to fabric (port here.node (suc count)) there) sweepable.good
    (met_with fabric found one count old row here there path seen sweepable at behind adapter)
    (omega (arith, one_more fabric (port here.node (suc count)) there seen old.ports adapter behind.seen_is, added))

-- ---- a port that is asked
-- the path to its switch
pub record IsBase (fabric : FabricState) (one : Found) (path : List ℕ) (here at : PortRef) : Type 0 where
  pub ends : end_of fabric path ≡ Some at
  pub node : at.node ≡ one.node
  pub switch : is_switch_at fabric.nodes at.node ≡ true
  pub there : is_port fabric.nodes (port at.node here.port) ≡ true
  pub short : length path ≤ PATH_HOPS

pub base : (fabric : FabricState) (found : List Found) (one : Found) (count : ℕ) (survey : SurveyState) (row : List GraphLink) (here : PortRef) (path : List ℕ)
    → path ≡ one.path → IsAtPort fabric found one count survey row here → (at : PortRef) × IsBase fabric one path here at
base fabric found one count survey row here path is at =
    let leads = all_have (Leads fabric) found here.node one at.progress.discovery.lead at.there in (
      leads.at,
      record {
        ends = ap (end_of fabric) is ∙ leads.ends;
        node = leads.node;
        switch = ap (is_switch_at fabric.nodes) leads.node ∙ is_switch_found fabric found one count survey row here at;
        there = ap (λ (n : ℕ). is_port fabric.nodes (port n here.port)) leads.node ∙ and_from (nat_le 1 here.port) _ (first at.number) (last at.within);
        short = rw is leads.short;
      },
    )
  where
    first : here.port ≡ suc count → nat_le 1 here.port ≡ true
    first h = grind (arith, nat_tests, h)

    last : here.port ≤ ports_at fabric one.node → nat_le here.port (ports_at fabric one.node) ≡ true
    last h = grind (arith, nat_tests, h)

-- what is seen behind it
pub behind_it : (fabric : FabricState) (one : Found) (path next : List ℕ) (here at there : PortRef) (seen : Seen) → path ≡ one.path
    → IsBase fabric one path here at → far_end fabric.cables (port at.node here.port) ≡ Some there
    → next ≡ path ++ here.port ∷ [] → length path < PATH_HOPS → seen_at fabric there ≡ Some seen
    → IsBehind fabric one here there next seen
behind_it fabric one path next here at there seen is base cable goes short seen_is = record {
  cable = ap (λ (n : ℕ). far_end fabric.cables (port n here.port)) (sym base.node) ∙ cable;
  path_is = goes ∙ ap (λ (some : List ℕ). some ++ here.port ∷ []) is;
  ends = ap (end_of fabric) goes ∙ end_more fabric path at there here.port base.ends base.switch base.there cable;
  short = omega (arith, short, ap (λ (some : List ℕ). length some) goes, long_path path here.port);
  seen_is = seen_is;
}

-- ---- what was reported of a link
abbrev pub bit : Bool → Result Bool SweepFault
bit b = Ok b

pub same_bit : (a b v : Bool) → bit a ≡ bit b → a ≡ v → b ≡ v
same_bit a b v reported is = let same : a ≡ b = cc in sym same ∙ is

pub no_cable : (fabric : FabricState) (one : Found) (path : List ℕ) (here at : PortRef) → IsBase fabric one path here at
    → is_cabled fabric.cables (port at.node here.port) ≡ false → far_end fabric.cables (port one.node here.port) ≡ None
no_cable fabric one path here at base none =
    ap (λ (n : ℕ). far_end fabric.cables (port n here.port)) (sym base.node) ∙ far_none fabric.cables (port at.node here.port) none

-- ---- port by port
pub at_next : (fabric : FabricState) (found : List Found) (one : Found) (place before : ℕ) (survey : SurveyState) (row : List GraphLink)
    → StandsAt found place one → before + 1 ≤ ports_at fabric one.node → (on : GoesOn fabric found place before survey row)
    → IsAtPort fabric (found ++ on.more) one before survey row (port place (before + 1))
at_next fabric found one place before survey row stands within on = record {
  there = get_kept found on.more place one stands;
  number = omega arith;
  within = within;
  progress = on.progress;
}

pub on_again : (fabric : FabricState) (found more : List Found) (i count : ℕ) (survey : SurveyState) (row : List GraphLink)
    → GoesOn fabric (found ++ more) i count survey row → GoesOn fabric found i count survey row
on_again fabric found more i count survey row on = record {
  more = more ++ on.more;
  progress = rw (sym (append_assoc found more on.more)) on.progress;
}

pub row_end : (fabric : FabricState) (found : List Found) (one : Found) (place count : ℕ) (survey next : SurveyState) (row : List GraphLink)
    → StandsAt found place one → count ≡ ports_at fabric one.node → next ≡ record survey { rows = survey.rows ++ row ∷ [] }
    → GoesOn fabric found place count survey row → GoesOn fabric found (suc place) 0 next []
row_end fabric found one place count survey next row stands all is on = record {
  more = on.more;
  progress = rw is (next_switch fabric (found ++ on.more) place one survey row (get_kept found on.more place one stands) (rw (sym all) on.progress));
}

-- ---- switch by switch
pub record IsWayTo (fabric : FabricState) (found : List Found) (place num_ports : ℕ) (path : List ℕ) : Type 0 where
  pub one : Found
  pub there : StandsAt found place one
  pub count : num_ports ≡ ports_at fabric one.node
  pub path_is : path ≡ one.path

abbrev pub way_of : GraphSwitch → ℕ × List ℕ
way_of switch = (switch.num_ports, switch.path)

way_by : (fabric : FabricState) (found : List Found) (place num_ports : ℕ) (path : List ℕ) (o : Option Found) → slice_get found place ≡ o
    → option_map way_of (option_map (switch_of fabric) o) ≡ Some (num_ports, path) → IsWayTo fabric found place num_ports path
way_by fabric found place num_ports path None stands is = absurd cc
way_by fabric found place num_ports path (Some one) stands is =
    let same : (ports_at fabric one.node, one.path) ≡ (num_ports, path) = same_Some _ _ is in
    record { one = one; there = stands; count = sym (ap (λ (way : ℕ × List ℕ). way.0) same); path_is = sym (ap (λ (way : ℕ × List ℕ). way.1) same) }

pub way_found : (fabric : FabricState) (found : List Found) (switches : List GraphSwitch) (place num_ports : ℕ) (path : List ℕ)
    → switches ≡ map (switch_of fabric) found → option_map way_of (slice_get switches place) ≡ Some (num_ports, path)
    → IsWayTo fabric found place num_ports path
way_found fabric found switches place num_ports path are is =
    way_by fabric found place num_ports path (slice_get found place) refl
    (ap (option_map way_of) (sym (slice_get-map (switch_of fabric) found place) ∙ ap (λ (some : List GraphSwitch). slice_get some place) (sym are)) ∙ is)

ended : (fabric : FabricState) (found : List Found) (place : ℕ) (survey : SurveyState) → (on : GoesOn fabric found place 0 survey [])
    → length (found ++ on.more) ≡ place → IsAllAsked fabric found survey
ended fabric found place survey on all = record { more = on.more; progress = rw all on.progress }

pub full_asked : (fabric : FabricState) (found : List Found) (place : ℕ) (survey : SurveyState) → GoesOn fabric found place 0 survey []
    → 64 ≤ place → IsAllAsked fabric found survey
full_asked fabric found place survey on past =
    ended fabric found place survey on (omega (arith, on.progress.within, on.progress.discovery.few, past))

-- a switch more
pub switch_again : (fabric : FabricState) (found more : List Found) (place : ℕ) (survey : SurveyState) → GoesOn fabric (found ++ more) (suc place) 0 survey []
    → GoesOn fabric found (place + 1) 0 survey []
switch_again fabric found more place survey on =
    let same : suc place ≡ place + 1 = omega arith in
    subst (λ (i : ℕ). GoesOn fabric found i 0 survey []) same (on_again fabric found more (suc place) 0 survey [] on)
