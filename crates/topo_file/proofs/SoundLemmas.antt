-- What stays so with one more node and one more cable, and so of every topology that was read.
use Rattle.std.proofs.Common.{◌≡◌, ◌∙◌, ap₂, Bool, ◌||◌, ℕ, zero, suc, true, false, not, ◌&&◌, nat_eq, nat_le, List, [], ◌∷◌, ◌++◌, Option, Some, None, refl, arith}
use Rattle.std.specs.List.{list_all, list_any, AllByRecursion, IsDistinct}
use Rattle.std.specs.Str.{bytes_eq}
use Rattle.std.proofs.Math.Bool.{and_comm}
use Rattle.std.proofs.lemmas.Bool.{and_parts, and_from, false≢true, or_from, or_parts}
use Rattle.std.proofs.lemmas.Cmp.{nat_eq_equiv}
use Rattle.std.proofs.lemmas.Map.Keys.{IsDistinct-push}
use Rattle.step_results.proofs.ListLemmas.{IsDistinct-nil, list_all_push}
use Rattle.step_results.proofs.PlaceLemmas.{port_still, read_still}
use Rattle.step_results.proofs.TestLemmas.{same_either_way}
use Rattle.std.proofs.lemmas.List.Elements.{All-nil, All-push}
use Rattle.fabric_parts.specs.declared.cable.Cable.{Cable}
use Rattle.fabric_parts.specs.declared.cable.PortRef.{PortRef}
use Rattle.fabric_parts.specs.declared.limits.Limits.{Limits}
use Rattle.topo_file.specs.declared.node.Node.{Node}
use Rattle.topo_file.specs.declared.draft.Manager.{Manager}
use Rattle.topo_file.specs.Node.{HasGuids, is_one_too_many, is_switch, is_switch_at, last_guid, shares_guid}
use Rattle.fabric_parts.specs.Cable.{ends_at, is_cabled, is_same_port}
use Rattle.topo_file.specs.Sound.{is_named, is_port, is_sized_within, ends_at_ports, is_manager_port, joins_right, on_adapter, shares_name, shares_port, AreRoots, AreSoundWithin, IsSoundSoFar}
use Rattle.topo_file.specs.Topology.{DraftState, is_root, nothing}
use Rattle.topo_file.proofs.AcceptedLemmas.{IsNewNode, IsNewCable}
use Rattle.topo_file.proofs.LimitLemmas.{within_limits_more}

-- a port stays a port when a node is added, and of the same kind of node
is_port_still : (nodes : List Node) (node : Node) (port : PortRef) → is_port nodes port ≡ true → is_port (nodes ++ node ∷ []) port ≡ true
is_port_still nodes node port h = port_still (λ one. one.ports) nodes node port.node port.port h

type_still : (nodes : List Node) (node : Node) (port : PortRef) → is_port nodes port ≡ true
    → is_switch_at (nodes ++ node ∷ []) port.node ≡ is_switch_at nodes port.node
type_still nodes node port h = read_still (λ one. one.ports) is_switch false nodes node port.node port.port h

ends_still : (nodes : List Node) (node : Node) (cables : List Cable) → list_all (ends_at_ports nodes) cables ≡ true
    → list_all (ends_at_ports (nodes ++ node ∷ [])) cables ≡ true
ends_still nodes node [] h = refl
ends_still nodes node (cable ∷ cables) h =
    let parts = and_parts (ends_at_ports nodes cable) _ h in
    let ends = and_parts (is_port nodes cable.first) (is_port nodes cable.second) parts.0 in
    and_from (ends_at_ports (nodes ++ node ∷ []) cable) _
    (and_from (is_port (nodes ++ node ∷ []) cable.first) _ (is_port_still nodes node cable.first ends.0) (is_port_still nodes node cable.second ends.1))
    (ends_still nodes node cables parts.1)

manager_port_still : (nodes : List Node) (node : Node) (port : PortRef) → is_manager_port nodes port ≡ true → is_manager_port (nodes ++ node ∷ []) port ≡ true
manager_port_still nodes node port h =
    let parts = and_parts (not (is_switch_at nodes port.node)) (is_port nodes port) h in
    and_from (not (is_switch_at (nodes ++ node ∷ []) port.node)) _ (rw (type_still nodes node port parts.1) parts.0) (is_port_still nodes node port parts.1)

manager_still : (nodes : List Node) (node : Node) (manager : Option Manager) → on_adapter nodes manager ≡ true → on_adapter (nodes ++ node ∷ []) manager ≡ true
manager_still nodes node None h = refl
manager_still nodes node (Some manager) h = manager_port_still nodes node manager.port h

-- ---- nodes with GUIDs of their own
shares_turned : (a b : Node) → shares_guid a b ≡ shares_guid b a
shares_turned a b = and_comm (nat_le a.guid (last_guid b)) (nat_le b.guid (last_guid a))

apart_more : {X : Type 0} (same : X → X → Bool) (x y : X) (zs : List X) → same y x ≡ false
    → AllByRecursion (λ z. same y z ≡ false) zs → AllByRecursion (λ z. same y z ≡ false) (zs ++ x ∷ [])
apart_more same x y [] apart h = (apart, tt)
apart_more same x y (z ∷ zs) apart h = (h.0, apart_more same x y zs apart h.1)

-- one more that the test finds in none of them, the test being the same both ways
distinct_more : {X : Type 0} (same : X → X → Bool) → ((a b : X) → same a b ≡ same b a) → (xs : List X) (x : X)
    → IsDistinct same xs → list_any (same x) xs ≡ false → IsDistinct same (xs ++ x ∷ [])
unfolding IsDistinct
distinct_more same turned [] x own none = (tt, tt)
distinct_more same turned (y ∷ ys) x own none =
    (apart_more same x y ys (turned y x ∙ (or_parts (same x y) _ none).0) own.0, distinct_more same turned ys x own.1 (or_parts (same x y) _ none).1)

-- ---- nodes with names of their own
name_turned : (one other : List ℕ) → bytes_eq one other ≡ bytes_eq other one
name_turned [] [] = refl
name_turned [] (b ∷ other) = refl
name_turned (a ∷ one) [] = refl
name_turned (a ∷ one) (b ∷ other) = ap₂ (λ (x y : Bool). x && y) (same_either_way a b) (name_turned one other)

-- before the first line
pub nothing_sound : (limits : Limits) → IsSoundSoFar (nothing limits)
nothing_sound limits = record {
  lines = record {
    names = refl;
    own_names = IsDistinct-nil shares_name;
    guids = All-nil HasGuids;
    own_guids = IsDistinct-nil shares_guid;
    sizes = refl;
    limits = (omega arith, omega arith);
    ends = refl;
    joins = refl;
    own_ports = IsDistinct-nil shares_port;
  };
  roots = record { switches = refl; own = IsDistinct-nil nat_eq };
  manager = refl;
}

-- ---- cables between nodes that are there
join_still : (nodes : List Node) (node : Node) (cable : Cable) → ends_at_ports nodes cable ≡ true
    → joins_right nodes cable ≡ true → joins_right (nodes ++ node ∷ []) cable ≡ true
join_still nodes node cable ends joins =
    let parts = and_parts (is_port nodes cable.first) (is_port nodes cable.second) ends in
    rw (type_still nodes node cable.first parts.0, type_still nodes node cable.second parts.1) joins

joins_still : (nodes : List Node) (node : Node) (cables : List Cable) → list_all (ends_at_ports nodes) cables ≡ true → list_all (joins_right nodes) cables ≡ true
    → list_all (joins_right (nodes ++ node ∷ [])) cables ≡ true
joins_still nodes node [] ends joins = refl
joins_still nodes node (cable ∷ cables) ends joins =
    let e = and_parts (ends_at_ports nodes cable) _ ends in
    let j = and_parts (joins_right nodes cable) _ joins in
    and_from (joins_right (nodes ++ node ∷ []) cable) _ (join_still nodes node cable e.0 j.0) (joins_still nodes node cables e.1 j.1)

lines_still : (limits : Limits) (nodes : List Node) (node : Node) (cables : List Cable) → AreSoundWithin limits nodes cables → HasGuids node
    → is_one_too_many limits nodes node.node_type node.ports ≡ false → IsNewNode limits nodes node
    → AreSoundWithin limits (nodes ++ node ∷ []) cables
lines_still limits nodes node cables sound guids room new = record {
  names = list_all_push is_named nodes node sound.names new.named;
  own_names = distinct_more shares_name (λ a b. name_turned a.name b.name) nodes node sound.own_names new.own_name;
  guids = All-push HasGuids nodes node sound.guids guids;
  own_guids = distinct_more shares_guid shares_turned nodes node sound.own_guids new.own;
  sizes = list_all_push (is_sized_within limits) nodes node sound.sizes new.sized;
  limits = within_limits_more limits nodes node sound.limits room;
  ends = ends_still nodes node cables sound.ends;
  joins = joins_still nodes node cables sound.ends sound.joins;
  own_ports = sound.own_ports;
}

-- ---- roots
-- a switch stays one when a node is added
switch_still : (nodes : List Node) (node : Node) (place : ℕ) → is_switch_at nodes place ≡ true
    → is_switch_at (nodes ++ node ∷ []) place ≡ true
switch_still [] node place h = absurd (false≢true h)
switch_still (first ∷ nodes) node zero h = h
switch_still (first ∷ nodes) node (suc place) h = switch_still nodes node place h

switches_still : (nodes : List Node) (node : Node) (roots : List ℕ) → list_all (is_switch_at nodes) roots ≡ true
    → list_all (is_switch_at (nodes ++ node ∷ [])) roots ≡ true
switches_still nodes node [] h = refl
switches_still nodes node (root ∷ roots) h =
    let parts = and_parts (is_switch_at nodes root) _ h in
    and_from (is_switch_at (nodes ++ node ∷ []) root) _ (switch_still nodes node root parts.0) (switches_still nodes node roots parts.1)

roots_still : (nodes : List Node) (node : Node) (roots : List ℕ) → AreRoots nodes roots → AreRoots (nodes ++ node ∷ []) roots
roots_still nodes node roots sound = record { switches = switches_still nodes node roots sound.switches; own = sound.own }

-- a switch that is no root yet leaves all sound
pub sound_rooted : (so_far : DraftState) (root : ℕ) → IsSoundSoFar so_far → is_switch_at so_far.nodes root ≡ true
    → is_root so_far.roots root ≡ false → IsSoundSoFar (record so_far { roots = so_far.roots ++ root ∷ [] })
sound_rooted so_far root sound switch own = record {
  lines = sound.lines;
  roots = record {
    switches = list_all_push (is_switch_at so_far.nodes) so_far.roots root sound.roots.switches switch;
    own = IsDistinct-push nat_eq_equiv so_far.roots root sound.roots.own own;
  };
  manager = sound.manager;
}

-- a node with GUIDs of its own and room for it leaves all sound
pub sound_still : (so_far : DraftState) (node : Node) → IsSoundSoFar so_far → HasGuids node
    → is_one_too_many so_far.limits so_far.nodes node.node_type node.ports ≡ false → IsNewNode so_far.limits so_far.nodes node
    → IsSoundSoFar (record so_far { nodes = so_far.nodes ++ node ∷ [] })
sound_still so_far node sound guids room new = record {
  lines = lines_still so_far.limits so_far.nodes node so_far.cables sound.lines guids room new;
  roots = roots_still so_far.nodes node so_far.roots sound.roots;
  manager = manager_still so_far.nodes node so_far.manager sound.manager;
}

-- ---- a cable between ports that have none
same_turned : (a b : PortRef) → is_same_port a b ≡ is_same_port b a
same_turned a b = ap₂ (λ (x y : Bool). x && y) (same_either_way a.node b.node) (same_either_way a.port b.port)

ends_turned : (a b : Cable) → shares_port a b ≡ shares_port b a
ends_turned a b =
    rw (same_turned b.first a.first, same_turned b.second a.first, same_turned b.first a.second, same_turned b.second a.second)
    (crossed (is_same_port a.first b.first) (is_same_port a.first b.second) (is_same_port a.second b.first) (is_same_port a.second b.second))
  where
    crossed : (one two three four : Bool) → ((one || two) || (three || four)) ≡ ((one || three) || (two || four))
    crossed true two three four = refl
    crossed false true true four = refl
    crossed false true false four = refl
    crossed false false true four = refl
    crossed false false false four = refl

-- neither end of the cable has a cable
no_port_shared : (cables : List Cable) (cable : Cable) → is_cabled cables cable.first ≡ false
    → is_cabled cables cable.second ≡ false → list_any (shares_port cable) cables ≡ false
no_port_shared [] cable first second = refl
no_port_shared (other ∷ cables) cable first second =
    let one = or_parts (ends_at cable.first other) _ first in
    let two = or_parts (ends_at cable.second other) _ second in
    or_from (shares_port cable other) _ (or_from (ends_at cable.first other) _ one.0 two.0) (no_port_shared cables cable one.1 two.1)

-- a cable between ports that are there and have none leaves all sound
pub sound_with : (so_far : DraftState) (cable : Cable) → IsSoundSoFar so_far → ends_at_ports so_far.nodes cable ≡ true → IsNewCable so_far.nodes so_far.cables cable
    → IsSoundSoFar (record so_far { cables = so_far.cables ++ cable ∷ [] })
sound_with so_far cable sound ends new = record {
  lines = record {
    names = sound.lines.names;
    own_names = sound.lines.own_names;
    guids = sound.lines.guids;
    own_guids = sound.lines.own_guids;
    sizes = sound.lines.sizes;
    limits = sound.lines.limits;
    ends = list_all_push (ends_at_ports so_far.nodes) so_far.cables cable sound.lines.ends ends;
    joins = list_all_push (joins_right so_far.nodes) so_far.cables cable sound.lines.joins new.joins;
    own_ports = distinct_more shares_port ends_turned so_far.cables cable sound.lines.own_ports (no_port_shared so_far.cables cable new.first new.second);
  };
  roots = sound.roots;
  manager = sound.manager;
}
