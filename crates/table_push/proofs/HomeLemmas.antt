-- Where each LID is attached.
use Rattle.std.proofs.Common.{ℕ, suc, ◌≡◌, ◌+◌, ◌-◌, ◌==◌, ◌∙◌, ap, refl, sym, Bool, true, false, if◌then◌else◌, List, [], ◌∷◌, ◌++◌, find, length, map, slice_get, Option, Some, None, option_map, arith}
use Rattle.std.proofs.lemmas.Bool.{eq-eqb, eqb-true, false≢true}
use Rattle.std.proofs.lemmas.Option.{none-some, same_Some, slice_get-map, slice_get_within}
use Rattle.fabric_parts.specs.declared.cable.PortRef.{PortRef}
use Rattle.lid_assign.specs.Lids.{guid_in}
use Rattle.sweep.specs.Graph.{GraphState, IsGraph, end_guids}
use Rattle.sweep.specs.declared.graph.GraphPort.{GraphPort}
use Rattle.sweep.specs.declared.graph.GraphSwitch.{GraphSwitch}
use Rattle.sweep.proofs.FoundLemmas.{one_place}
use Rattle.sweep.proofs.PlaceLemmas.{position_at}
use Rattle.step_results.proofs.DistinctLemmas.{left_part}
use Rattle.step_results.proofs.RangeLemmas.{get_kept}
use Rattle.table_push.proofs.GuidLemmas.{place_is}
use Rattle.table_push.proofs.AttachedLemmas.{found_is, found_own}
use Rattle.updn_routes.specs.Routes.{home_of}
use Rattle.updn_routes.specs.Subnet.{guids_of, home_from, home_in, homes_of, place_of, attachment_of}

-- ---- by the GUID that has the LID
pub home_at : (graph : GraphState) (lids : List ℕ) (lid guid : ℕ) → guid_in lids lid ≡ Some guid → home_of (homes_of graph lids) lid ≡ Some (home_in graph guid)
home_at graph lids lid guid named = by (lid == 0) named
  where
    by : (b : Bool) → (if b then None else slice_get lids (lid - 1)) ≡ Some guid
        → (if b then None else slice_get (homes_of graph lids) (lid - 1)) ≡ Some (home_in graph guid)
    by true named = absurd (none-some guid named)
    by false named = slice_get-map (home_in graph) lids (lid - 1) ∙ ap (option_map (home_in graph)) named

pub record IsHome (graph : GraphState) (lids : List ℕ) (lid : ℕ) (home : PortRef) : Type 0 where
  pub guid : ℕ
  pub named : guid_in lids lid ≡ Some guid
  pub is : home_in graph guid ≡ home

pub at_home : (graph : GraphState) (lids : List ℕ) (lid : ℕ) (home : PortRef) → home_of (homes_of graph lids) lid ≡ Some home → IsHome graph lids lid home
at_home graph lids lid home is = by (lid == 0) refl is
  where
    some : (lid == 0) ≡ false → (o : Option ℕ) → slice_get lids (lid - 1) ≡ o → option_map (home_in graph) o ≡ Some home → IsHome graph lids lid home
    some later None there is = absurd (none-some home is)
    some later (Some guid) there is = record {
      guid = guid;
      named = ap (λ (b : Bool). if b then None else slice_get lids (lid - 1)) later ∙ there;
      is = same_Some (home_in graph guid) home is;
    }

    by : (b : Bool) → (lid == 0) ≡ b → (if b then None else slice_get (homes_of graph lids) (lid - 1)) ≡ Some home → IsHome graph lids lid home
    by true later is = absurd (none-some home is)
    by false later is = some later (slice_get lids (lid - 1)) refl (sym (slice_get-map (home_in graph) lids (lid - 1)) ∙ is)

-- ---- in the list of homes
pub home_there : (homes : List PortRef) (lid : ℕ) (home : PortRef) → home_of homes lid ≡ Some home → slice_get homes (lid - 1) ≡ Some home
home_there homes lid home is = by (lid == 0) is
  where
    by : (b : Bool) → (if b then None else slice_get homes (lid - 1)) ≡ Some home → slice_get homes (lid - 1) ≡ Some home
    by true is = absurd (none-some home is)
    by false is = is

-- ---- GUIDs of end ports
pub later : {X : Type 0} (xs ys : List X) (k : ℕ) (x : X) → slice_get ys k ≡ Some x → slice_get (xs ++ ys) (length xs + k) ≡ Some x
later {X = X} [] ys k x there = let same : length {A = X} [] + k ≡ k = omega arith in ap (slice_get ys) same ∙ there
later (y ∷ xs) ys k x there =
    let same : length (y ∷ xs) + k ≡ suc (length xs + k) = omega arith in
    ap (slice_get (y ∷ (xs ++ ys))) same ∙ later xs ys k x there

abbrev port_guids : GraphState → List ℕ
port_guids graph = map (λ port. port.port_guid) graph.ports

port_end : (graph : GraphState) (k : ℕ) (one : GraphPort) → slice_get graph.ports k ≡ Some one
    → slice_get (end_guids graph.switches graph.ports) (length (guids_of graph) + k) ≡ Some one.port_guid
port_end graph k one there =
    later (guids_of graph) (port_guids graph) k one.port_guid
    (slice_get-map (λ (port : GraphPort). port.port_guid) graph.ports k ∙ ap (option_map (λ (port : GraphPort). port.port_guid)) there)

switch_end : (graph : GraphState) (k : ℕ) (one : GraphSwitch) → slice_get graph.switches k ≡ Some one → slice_get (guids_of graph) k ≡ Some one.guid
switch_end graph k one there =
    slice_get-map (λ (switch : GraphSwitch). switch.guid) graph.switches k ∙ ap (option_map (λ (switch : GraphSwitch). switch.guid)) there

no_switch : (graph : GraphState) (k : ℕ) (one : GraphPort) → IsGraph graph → slice_get graph.ports k ≡ Some one → place_of graph.switches one.port_guid ≡ None
no_switch graph k one is there = by (place_of graph.switches one.port_guid) refl
  where
    by : (o : Option ℕ) → place_of graph.switches one.port_guid ≡ o → o ≡ None
    by None at = refl
    by (Some place) at =
        let switch = position_at (λ switch. switch.guid == one.port_guid) graph.switches place at in
        let guid : slice_get (guids_of graph) place ≡ Some one.port_guid =
        switch_end graph place switch.0 switch.1 ∙ ap (λ (g : ℕ). Some g) (eqb-true switch.0.guid one.port_guid switch.2) in
        let same = one_place (end_guids graph.switches graph.ports) place (length (guids_of graph) + k) one.port_guid is.guids
        (get_kept (guids_of graph) (port_guids graph) place one.port_guid guid) (port_end graph k one there) in
        absurd (omega (arith, same, slice_get_within (guids_of graph) place one.port_guid guid))

-- ---- of an adapter's port, and of a switch
pub port_home : (graph : GraphState) (k : ℕ) (one : GraphPort) → IsGraph graph → slice_get graph.ports k ≡ Some one → home_in graph one.port_guid ≡ one.at
port_home graph k one is there =
    let attachment : attachment_of graph.ports one.port_guid ≡ Some one.at =
    ap (option_map (λ (port : GraphPort). port.at))
    (found_own (λ port. port.port_guid == one.port_guid) graph.ports k one there (eq-eqb one.port_guid one.port_guid refl)
    (λ j other at passes.
    let same = one_place (end_guids graph.switches graph.ports) (length (guids_of graph) + j) (length (guids_of graph) + k) one.port_guid is.guids
    (port_end graph j other at ∙ ap (λ (g : ℕ). Some g) (eqb-true other.port_guid one.port_guid passes)) (port_end graph k one there) in
    let index : j ≡ k = omega (arith, same) in
    same_Some other one (sym at ∙ ap (slice_get graph.ports) index ∙ there))) in
    rw (no_switch graph k one is there, attachment) refl

pub own_switch : (graph : GraphState) (k : ℕ) (one : GraphSwitch) → IsGraph graph → slice_get graph.switches k ≡ Some one → place_of graph.switches one.guid ≡ Some k
own_switch graph k one is there = place_is graph.switches k one (left_part (λ a b. a == b) (guids_of graph) (port_guids graph) is.guids) there

pub switch_home : (graph : GraphState) (k : ℕ) (one : GraphSwitch) → IsGraph graph → slice_get graph.switches k ≡ Some one
    → home_in graph one.guid ≡ record { node = k; port = 0 }
switch_home graph k one is there = rw (own_switch graph k one is there) refl

-- a home at a port from 1 on is a port of an adapter
pub record IsPortHome (graph : GraphState) (guid : ℕ) (home : PortRef) : Type 0 where
  pub index : ℕ
  pub one : GraphPort
  pub there : slice_get graph.ports index ≡ Some one
  pub guid_is : one.port_guid ≡ guid
  pub at_is : one.at ≡ home

pub home_of_port : (graph : GraphState) (guid : ℕ) (home : PortRef) → home_in graph guid ≡ home → (home.port == 0) ≡ false → IsPortHome graph guid home
home_of_port graph guid home is some = by (place_of graph.switches guid) (find (λ port. port.port_guid == guid) graph.ports) refl is
  where
    first : (n : ℕ) → record { node = n; port = 0 } ≡ home → ⊥
    first n same = false≢true (sym (ap (λ (p : PortRef). p.port == 0) same ∙ some))

    by : (place : Option ℕ) (attachment : Option GraphPort) → find (λ port. port.port_guid == guid) graph.ports ≡ attachment
        → home_from place (option_map (λ port. port.at) (find (λ port. port.port_guid == guid) graph.ports)) ≡ home → IsPortHome graph guid home
    by (Some place) attachment found is = absurd (first place is)
    by None None found is = absurd (first 0 (sym (ap (λ (o : Option GraphPort). home_from None (option_map (λ port. port.at) o)) found) ∙ is))
    by None (Some one) found is =
        let at = found_is (λ port. port.port_guid == guid) graph.ports one found in
        record {
          index = at.0;
          one = one;
          there = at.1;
          guid_is = eqb-true one.port_guid guid at.2;
          at_is = sym (ap (λ (o : Option GraphPort). home_from None (option_map (λ port. port.at) o)) found) ∙ is;
        }
