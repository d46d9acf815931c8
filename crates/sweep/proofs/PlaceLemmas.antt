-- A switch that is seen, among those that were found.
use Rattle.std.proofs.Common.{ℕ, ◌<◌, ◌≤◌, ◌≡◌, ◌⊎◌, inl, inr, ◌∙◌, ◌==◌, ap, refl, sym, Bool, true, false, nat_lt, List, map, length, position}
use Rattle.std.proofs.Common.{find, slice_get, get_or, Option, Some, None, option_map, arith}
use Rattle.std.specs.List.{list_any, position_or_len}
use Rattle.std.specs.Option.{option_and_then, option_map_or}
use Rattle.std.proofs.lemmas.Bool.{false≢true}
use Rattle.std.proofs.lemmas.Bool.Decides.{Decides-eqb, nat_tests}
use Rattle.std.proofs.lemmas.List.Folds.{find_at}
use Rattle.std.proofs.lemmas.List.Sums.{passes_at_first}
use Rattle.std.proofs.lemmas.Option.{cond_some, same_Some, slice_get_cases, slice_get_past, slice_get-map}
use Rattle.step_results.proofs.PlaceLemmas.{not_there, place-found, place-none}
use Rattle.fabric_parts.specs.declared.cable.PortRef.{PortRef}
use Rattle.smp_wire.specs.FabricState.{FabricState, is_switch, is_switch_at}
use Rattle.smp_wire.specs.Good.{IsGood, node_guid}
use Rattle.smp_wire.specs.declared.node.Node.{Node}
use Rattle.smp_wire.specs.declared.node.Node.TheVariants.{Switch, Adapter}
use Rattle.sweep.specs.Graph.{count_at}
use Rattle.sweep.specs.OfFabric.{Found, guid_at, is_among, nodes_of, ports_at, switch_of}
use Rattle.sweep.specs.Progress.{StandsAt}
use Rattle.sweep.specs.Seen.{seen_at, seen_in}
use Rattle.sweep.specs.declared.graph.GraphSwitch.{GraphSwitch}
use Rattle.sweep.specs.declared.seen.Seen.{Seen}
use Rattle.sweep.proofs.FoundLemmas.{among_place, any_by, one_place}

-- ---- GUIDs of switches
guid_by : (found : Option Node) → option_map_or is_switch found false ≡ true → option_map node_guid found ≡ Some (option_map_or node_guid found 0)
guid_by None switch = absurd (false≢true switch)
guid_by (Some node) switch = refl

guid_there : (fabric : FabricState) (node : ℕ) → is_switch_at fabric.nodes node ≡ true → slice_get (map node_guid fabric.nodes) node ≡ Some (guid_at fabric node)
guid_there fabric node switch = slice_get-map node_guid fabric.nodes node ∙ guid_by (slice_get fabric.nodes node) switch

pub own_guid : (fabric : FabricState) (a b : ℕ) → IsGood fabric → is_switch_at fabric.nodes a ≡ true → is_switch_at fabric.nodes b ≡ true
    → guid_at fabric a ≡ guid_at fabric b → a ≡ b
own_guid fabric a b good one other same =
    one_place (map node_guid fabric.nodes) a b (guid_at fabric b) good.node_guids.own
    (guid_there fabric a one ∙ ap (λ (n : ℕ). Some n) same) (guid_there fabric b other)

-- ---- what is seen of a switch
pub record IsSwitchSeen (fabric : FabricState) (there : PortRef) (seen : Seen) : Type 0 where
  pub guid : seen.node_guid ≡ guid_at fabric there.node
  pub count : seen.num_ports ≡ ports_at fabric there.node
  pub number : seen.local_port_num ≡ there.port

seen_by : (fabric : FabricState) (there : PortRef) (found : Option Node) (seen : Seen) → slice_get fabric.nodes there.node ≡ found
    → option_map_or is_switch found false ≡ true → option_and_then (λ node. seen_in node there.port) found ≡ Some seen → IsSwitchSeen fabric there seen
seen_by fabric there None seen stands switch is = absurd (false≢true switch)
seen_by fabric there (Some (Adapter ports)) seen stands switch is = absurd (false≢true switch)
seen_by fabric there (Some (Switch held)) seen stands switch is =
    let same = same_Some _ seen is in
    rw (sym same) (record { guid = rw stands refl; count = rw stands refl; number = refl })

pub switch_seen : (fabric : FabricState) (there : PortRef) (seen : Seen) → is_switch_at fabric.nodes there.node ≡ true
    → seen_at fabric there ≡ Some seen → IsSwitchSeen fabric there seen
switch_seen fabric there seen switch is = seen_by fabric there (slice_get fabric.nodes there.node) seen refl switch is

-- ---- a search by GUID
pub position_at : {X : Type 0} (p : X → Bool) (xs : List X) (i : ℕ) → position p xs ≡ Some i → (x : X) × (slice_get xs i ≡ Some x) × (p x ≡ true)
position_at p xs i is = by (slice_get_cases xs i).1
  where
    at : i ≡ position_or_len p xs
    at = place-found p xs i is

    below : position_or_len p xs < length xs
    below = grind (arith, nat_tests, (cond_some (nat_lt (position_or_len p xs) (length xs)) (position_or_len p xs) i is).0)

    by : ((x : _) × (i < length xs) × (slice_get xs i ≡ Some x) × (get_or xs i x ≡ x)) ⊎ ((length xs ≤ i) × (slice_get xs i ≡ None))
        → (x : _) × (slice_get xs i ≡ Some x) × (p x ≡ true)
    by (inl here) = (here.0, here.2, ap p (sym here.3 ∙ ap (λ (k : ℕ). get_or xs k here.0) at) ∙ passes_at_first p xs here.0 below)
    by (inr past) = absurd (omega (arith, past.0, at, below))

abbrev pub has_guid : ℕ → GraphSwitch → Bool
has_guid guid switch = switch.guid == guid

-- it was found
pub record IsFoundAt (fabric : FabricState) (found : List Found) (place node : ℕ) : Type 0 where
  pub one : Found
  pub there : StandsAt found place one
  pub node_is : one.node ≡ node

found_from : (fabric : FabricState) (found : List Found) (place node : ℕ) (o : Option Found) (x : GraphSwitch) → slice_get found place ≡ o
    → option_map (switch_of fabric) o ≡ Some x → x.guid ≡ guid_at fabric node
    → ((one : Found) → StandsAt found place one → guid_at fabric one.node ≡ guid_at fabric node → one.node ≡ node) → IsFoundAt fabric found place node
found_from fabric found place node None x stands is guid own = cc
found_from fabric found place node (Some one) x stands is guid own =
    let same : switch_of fabric one ≡ x = same_Some _ x is in
    record { one = one; there = stands; node_is = own one stands (ap (λ (s : GraphSwitch). s.guid) same ∙ guid) }

pub found_place : (fabric : FabricState) (found : List Found) (switches : List GraphSwitch) (guid place node : ℕ) → IsGood fabric
    → switches ≡ map (switch_of fabric) found → is_switch_at fabric.nodes node ≡ true → guid ≡ guid_at fabric node
    → ((one : Found) → StandsAt found place one → is_switch_at fabric.nodes one.node ≡ true)
    → position (has_guid guid) switches ≡ Some place → IsFoundAt fabric found place node
found_place fabric found switches guid place node good are switch guid_is each is =
    let at = position_at (has_guid guid) switches place is in
    found_from fabric found place node (slice_get found place) at.0 refl
    (sym (slice_get-map (switch_of fabric) found place) ∙ ap (λ (some : List GraphSwitch). slice_get some place) (sym are) ∙ at.1)
    ((Decides-eqb at.0.guid guid).0 at.2 ∙ guid_is)
    (λ one stands same. own_guid fabric one.node node good (each one stands) switch same)

-- or was not
pub not_found : (fabric : FabricState) (found : List Found) (switches : List GraphSwitch) (guid node : ℕ)
    → switches ≡ map (switch_of fabric) found → guid ≡ guid_at fabric node
    → position (has_guid guid) switches ≡ None → is_among (nodes_of found) node ≡ false
not_found fabric found switches guid node are guid_is is = by (is_among (nodes_of found) node) refl
  where
    none : list_any (has_guid guid) switches ≡ false
    none = not_there (has_guid guid) switches is

    clash : (k : ℕ) (o : Option Found) → slice_get found k ≡ o → option_map (λ (one : Found). one.node) o ≡ Some node → true ≡ false
    clash k None stood at = cc
    clash k (Some one) stood at =
        let same : one.node ≡ node = same_Some one.node node at in
        let there : slice_get switches k ≡ Some (switch_of fabric one) =
        ap (λ (some : List GraphSwitch). slice_get some k) are ∙ slice_get-map (switch_of fabric) found k ∙ ap (option_map (switch_of fabric)) stood in
        sym (any_by (has_guid guid) switches k (switch_of fabric one) there ((Decides-eqb (guid_at fabric one.node) guid).1 (ap (guid_at fabric) same ∙ sym guid_is))) ∙ none

    by : (b : Bool) → is_among (nodes_of found) node ≡ b → b ≡ false
    by false among = refl
    by true among =
        let at = among_place (nodes_of found) node among in
        clash at.0 (slice_get found at.0) refl (sym (slice_get-map (λ (one : Found). one.node) found at.0) ∙ at.1)

-- ---- how many ports a switch has that was found
pub count_found : (fabric : FabricState) (found : List Found) (switches : List GraphSwitch) (place : ℕ) (one : Found)
    → switches ≡ map (switch_of fabric) found → StandsAt found place one → count_at switches place ≡ ports_at fabric one.node
count_found fabric found switches place one are there =
    ap (λ (some : List GraphSwitch). count_at some place) are
    ∙ ap (λ (o : Option GraphSwitch). option_map_or (λ (switch : GraphSwitch). switch.num_ports) o 0)
    (slice_get-map (switch_of fabric) found place ∙ ap (option_map (switch_of fabric)) there)

-- ---- what a search finds stands at the place that it finds
pub found_at_place : {X : Type 0} (p : X → Bool) (xs : List X) (k : ℕ) → position p xs ≡ Some k → find p xs ≡ slice_get xs k
found_at_place p xs k is = find_at p xs ∙ ap (slice_get xs) (sym (place-found p xs k is))

pub found_nowhere : {X : Type 0} (p : X → Bool) (xs : List X) → position p xs ≡ None → find p xs ≡ None
found_nowhere p xs is = find_at p xs ∙ slice_get_past xs (position_or_len p xs) (let end = place-none p xs is in omega (arith, end))
