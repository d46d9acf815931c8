-- A topology that a text gives is sound.
use Rattle.std.proofs.Common.{ℕ, ◌+◌, ◌-◌, ◌^◌, ◌<◌, ◌≡◌, ◌∙◌, ◌&&◌, ◌||◌, not, nat_le, ap, refl, sym, subst, arith, Bool, true, false, if◌then◌else◌, List, [], ◌∷◌, ◌++◌}
use Rattle.std.proofs.Common.{codes, Option, Some, None, is_some, Result, Ok, Err}
use Rattle.std.specs.Option.{ok_or}
use Rattle.std.specs.Str.{bytes_eq}
use Rattle.std.proofs.lemmas.Bool.{and_from, not-false, or_parts}
use Rattle.std.proofs.lemmas.Bool.Decides.{nat_tests}
use Rattle.fabric_parts.specs.Cable.{is_cabled}
use Rattle.fabric_parts.specs.Limits.{most_ports_within}
use Rattle.fabric_parts.specs.declared.cable.Cable.{Cable}
use Rattle.fabric_parts.specs.declared.cable.PortRef.{PortRef}
use Rattle.fabric_parts.specs.declared.limits.Limits.{Limits}
use Rattle.fabric_parts.specs.declared.limits.Limits.TheVariants.{Simulated}
use Rattle.fabric_parts.specs.declared.node_type.NodeType.{NodeType}
use Rattle.fabric_parts.specs.declared.node_type.NodeType.TheVariants.{Switch, ChannelAdapter}
use Rattle.step_results.proofs.StepLemmas.{bind_done, bind_ok, let_through, not_stopped, same_ok}
use Rattle.step_results.specs.AtLine.{after_lines, on_line}
use Rattle.text_words.specs.Lines.{lines, words_of}
use Rattle.topo_file.proofs.AcceptedLemmas.{new_cable_is, new_node_is}
use Rattle.topo_file.proofs.SoundLemmas.{nothing_sound, sound_rooted, sound_still, sound_with}
use Rattle.topo_file.proofs.WalkLemmas.{joined_if}
use Rattle.topo_file.proofs.WithinLemmas.{lines_stay}
use Rattle.topo_file.specs.Cable.{may_join, port_at}
use Rattle.topo_file.specs.Connectivity.{is_connected}
use Rattle.topo_file.specs.Node.{HasGuids, is_one_too_many, is_switch_at, lacks_guids, last_guid, place_of, ports_at}
use Rattle.topo_file.specs.Sound.{IsSound, IsSoundSoFar, IsSoundWithin, ends_at_ports, is_manager_port, is_port, on_adapter}
use Rattle.topo_file.specs.Topology.{DraftState, TopologyState, after_line, after_words, cable_of, cable_encoded, declarations_within, manager_of, manager_encoded, name_of, new_node}
use Rattle.topo_file.specs.Topology.{node_of, node_encoded, nothing, number_up_to, plan_of, port_of, is_root, root_of, root_encoded, topology_of, topology_within, whole, with_cable, with_manager, with_node, with_root}
use Rattle.topo_file.specs.declared.fault.TopologyCause.{TopologyCause}
use Rattle.topo_file.specs.declared.fault.TopologyCause.TheVariants.{DuplicateGuid, DuplicateName, NoSuchPort, OverLimit, PortTaken, RootNotSwitch, WrongCableEnds, WrongManager}
use Rattle.topo_file.specs.declared.node.Node.{Node}

-- ---- what one line declares
less : (m n : ℕ) → nat_le m n ≡ false → n < m
less m n h = grind (arith, nat_tests, h)

-- a node has GUIDs of 64 bits, and there is room for it
abbrev Fits : Limits → List Node → Node → Type 0
Fits limits nodes node = HasGuids node × (is_one_too_many limits nodes node.node_type node.ports ≡ false)

new_fits : (limits : Limits) (nodes : List Node) (node made : Node) → new_node limits nodes node ≡ Ok made → Fits limits nodes made
new_fits limits nodes node made h =
    let named = not_stopped (is_some (place_of node.name nodes)) DuplicateName _ made h in
    let guids = not_stopped (lacks_guids nodes node) DuplicateGuid _ made named.1 in
    let room = not_stopped (is_one_too_many limits nodes node.node_type node.ports) OverLimit _ made guids.1 in
    subst (Fits limits nodes) (same_ok node made room.1) (less (2 ^ 64) (last_guid node) (or_parts (nat_le (2 ^ 64) (last_guid node)) _ guids.0).0, room.0)

node_fits : (limits : Limits) (kind : NodeType) (nodes : List Node) (words : List (List ℕ)) (made : Node) → node_of limits kind nodes words ≡ Ok made
    → Fits limits nodes made
unfolding node_of node_encoded
node_fits limits kind nodes [] made h = absurd cc
node_fits limits kind nodes (a ∷ []) made h = absurd cc
node_fits limits kind nodes (a ∷ b ∷ []) made h = absurd cc
node_fits limits kind nodes (a ∷ b ∷ c ∷ []) made h =
    let named = bind_ok (name_of a) _ made h in
    let numbered = bind_ok (number_up_to (2 ^ 64 - 1) b) _ made named.2 in
    let counted = bind_ok (number_up_to (most_ports_within limits kind) c) _ made numbered.2 in
    new_fits limits nodes (record { name = named.0; node_type = kind; guid = numbered.0; ports = counted.0 }) made counted.2
node_fits limits kind nodes (a ∷ b ∷ c ∷ d ∷ rest) made h = absurd cc

-- a port that is named is there
port_is : (nodes : List Node) (place number : ℕ) (port : PortRef) → ok_or (port_at nodes place number) NoSuchPort ≡ Ok port
    → is_port nodes port ≡ true
port_is nodes place number port h = by (nat_le 1 number && nat_le number (ports_at nodes place)) refl h
  where
    by : (b : Bool) → (nat_le 1 number && nat_le number (ports_at nodes place)) ≡ b
        → ok_or (if b then Some (record { node = place; port = number }) else None) NoSuchPort ≡ Ok port → is_port nodes port ≡ true
    by true is h = ap (is_port nodes) (sym (same_ok (record { node = place; port = number }) port h)) ∙ is
    by false is h = absurd cc

cable_ends : (nodes : List Node) (cables : List Cable) (words : List (List ℕ)) (made : Cable) → cable_of nodes cables words ≡ Ok made
    → ends_at_ports nodes made ≡ true
unfolding cable_of cable_encoded
cable_ends nodes cables [] made h = absurd cc
cable_ends nodes cables (one ∷ []) made h = absurd cc
cable_ends nodes cables (one ∷ other ∷ []) made h =
    let a = bind_ok (port_of one) _ made h in
    let b = bind_ok (port_of other) _ made a.2 in
    let i = bind_ok (ok_or (place_of a.0.name nodes) _) _ made b.2 in
    let j = bind_ok (ok_or (place_of b.0.name nodes) _) _ made i.2 in
    let first = bind_ok (ok_or (port_at nodes i.0 a.0.number) _) _ made j.2 in
    let second = bind_ok (ok_or (port_at nodes j.0 b.0.number) _) _ made first.2 in
    let free = not_stopped (is_cabled cables first.0 || is_cabled cables second.0) PortTaken _ made second.2 in
    let cable : Cable = record { first = first.0; second = second.0 } in
    let right = let_through (may_join nodes first.0.node second.0.node) (Ok cable) WrongCableEnds made free.1 in
    ap (ends_at_ports nodes) (sym (same_ok cable made right.1))
    ∙ and_from _ _ (port_is nodes i.0 a.0.number first.0 first.1) (port_is nodes j.0 b.0.number second.0 second.1)
cable_ends nodes cables (one ∷ other ∷ more ∷ rest) made h = absurd cc

-- a root is a switch, and no root yet
abbrev IsNewRoot : List Node → List ℕ → ℕ → Type 0
IsNewRoot nodes roots root = (is_switch_at nodes root ≡ true) × (is_root roots root ≡ false)

root_is : (nodes : List Node) (roots : List ℕ) (words : List (List ℕ)) (made : ℕ) → root_of nodes roots words ≡ Ok made
    → IsNewRoot nodes roots made
unfolding root_of root_encoded
root_is nodes roots [] made h = absurd cc
root_is nodes roots (word ∷ []) made h =
    let name = bind_ok (name_of word) _ made h in
    let place = bind_ok (ok_or (place_of name.0 nodes) _) _ made name.2 in
    let switch = not_stopped (not (is_switch_at nodes place.0)) RootNotSwitch _ made place.2 in
    let own = not_stopped (is_root roots place.0) DuplicateName (Ok place.0) made switch.1 in
    subst (IsNewRoot nodes roots) (same_ok place.0 made own.1) (not-false (is_switch_at nodes place.0) switch.0, own.0)
root_is nodes roots (word ∷ more ∷ rest) made h = absurd cc

-- an SM port is one of an adapter
manager_is : (so_far : DraftState) (number : ℕ) (words : List (List ℕ)) (made : _)
    → manager_of so_far.nodes so_far.manager number words ≡ Ok made → is_manager_port so_far.nodes made.port ≡ true
unfolding manager_of manager_encoded
manager_is so_far number [] made h = absurd cc
manager_is so_far number (word ∷ []) made h =
    let nodes = so_far.nodes in
    let a = bind_ok (port_of word) _ made h in
    let i = bind_ok (ok_or (place_of a.0.name nodes) _) _ made a.2 in
    let port = bind_ok (ok_or (port_at nodes i.0 a.0.number) _) _ made i.2 in
    let right = not_stopped (is_some so_far.manager || is_switch_at nodes port.0.node) WrongManager _ made port.2 in
    let adapter = (or_parts (is_some so_far.manager) (is_switch_at nodes port.0.node) right.0).1 in
    ap (λ (m : _). is_manager_port nodes m.port) (sym (same_ok _ made right.1))
    ∙ and_from (not (is_switch_at nodes port.0.node)) _ (ap not adapter) (port_is nodes i.0 a.0.number port.0 port.1)
manager_is so_far number (word ∷ more ∷ rest) made h = absurd cc

-- ---- a line leaves what stands before it sound
either : (next : DraftState) (b : Bool) (r s : Result DraftState TopologyCause) → (if b then r else s) ≡ Ok next
    → (r ≡ Ok next → IsSoundSoFar next) → (s ≡ Ok next → IsSoundSoFar next) → IsSoundSoFar next
either next true r s h one other = one h
either next false r s h one other = other h

module _ (number : ℕ) (so_far next : DraftState) (sound : IsSoundSoFar so_far) where
  after_node : (kind : NodeType) (words : List (List ℕ)) → with_node so_far (node_of so_far.limits kind so_far.nodes words) ≡ Ok next → IsSoundSoFar next
  after_node kind words h =
      let node = bind_done (node_of so_far.limits kind so_far.nodes words) (λ node. record so_far { nodes = so_far.nodes ++ node ∷ [] }) next h in
      let fits = node_fits so_far.limits kind so_far.nodes words node.0 node.1 in
      subst IsSoundSoFar node.2 (sound_still so_far node.0 sound fits.0 fits.1 (new_node_is so_far.limits kind so_far.nodes words node.0 node.1))

  after_cable : (words : List (List ℕ)) → with_cable so_far (cable_of so_far.nodes so_far.cables words) ≡ Ok next → IsSoundSoFar next
  after_cable words h =
      let cable = bind_done (cable_of so_far.nodes so_far.cables words) (λ cable. record so_far { cables = so_far.cables ++ cable ∷ [] }) next h in
      subst IsSoundSoFar cable.2
      (sound_with so_far cable.0 sound (cable_ends so_far.nodes so_far.cables words cable.0 cable.1)
      (new_cable_is so_far.nodes so_far.cables words cable.0 cable.1))

  after_root : (words : List (List ℕ)) → with_root so_far (root_of so_far.nodes so_far.roots words) ≡ Ok next → IsSoundSoFar next
  after_root words h =
      let root = bind_done (root_of so_far.nodes so_far.roots words) (λ root. record so_far { roots = so_far.roots ++ root ∷ [] }) next h in
      let new = root_is so_far.nodes so_far.roots words root.0 root.1 in
      subst IsSoundSoFar root.2 (sound_rooted so_far root.0 sound new.0 new.1)

  after_manager : (words : List (List ℕ)) → with_manager so_far (manager_of so_far.nodes so_far.manager number words) ≡ Ok next
      → IsSoundSoFar next
  after_manager words h =
      let manager = bind_done (manager_of so_far.nodes so_far.manager number words) (λ manager. record so_far { manager = Some manager }) next h in
      subst IsSoundSoFar manager.2
      (record { lines = sound.lines; roots = sound.roots; manager = manager_is so_far number words manager.0 manager.1 })

  after_all : (words : List (List ℕ)) → after_words number so_far words ≡ Ok next → IsSoundSoFar next
  unfolding after_words
  after_all [] h = subst IsSoundSoFar (same_ok so_far next h) sound
  after_all (first ∷ rest) h =
      either next (bytes_eq first (codes "switch")) _ _ h (after_node Switch rest)
      (λ h. either next (bytes_eq first (codes "adapter")) _ _ h (after_node ChannelAdapter rest)
      (λ h. either next (bytes_eq first (codes "cable")) _ _ h (after_cable rest)
      (λ h. either next (bytes_eq first (codes "root")) _ _ h (after_root rest)
      (λ h. either next (bytes_eq first (codes "sm")) _ _ h (after_manager rest) (λ h. absurd cc)))))

  one_line : (line : List ℕ) → after_line number so_far line ≡ Ok next → IsSoundSoFar next
  unfolding after_line
  one_line line h = let words = bind_ok (ok_or (words_of line) _) _ next h in after_all words.0 words.2

-- ---- and so does the whole text
reported : {X Cause : Type 0} (number : ℕ) (r : Result X Cause) (x : X) → on_line number r ≡ Ok x → r ≡ Ok x
reported number (Ok y) x h = ap (λ (z : _). Ok z) (same_ok y x h)
reported number (Err cause) x h = absurd cc

all_lines : (number : ℕ) (so_far all : DraftState) (text : List (List ℕ)) → IsSoundSoFar so_far
    → after_lines after_line number so_far text ≡ Ok all → IsSoundSoFar all
unfolding after_lines
all_lines number so_far all [] sound h = subst IsSoundSoFar (same_ok so_far all h) sound
all_lines number so_far all (line ∷ text) sound h =
    let next = bind_ok (on_line number (after_line number so_far line)) _ all h in
    let still = one_line number so_far next.0 sound line (reported number (after_line number so_far line) next.0 next.1) in
    all_lines (number + 1) next.0 all text still next.2

there : {X Cause : Type 0} (o : Option X) (cause : Cause) (x : X) → ok_or o cause ≡ Ok x → o ≡ Some x
there None cause x h = absurd cc
there (Some y) cause x h = ap (λ (z : _). Some z) (same_ok y x h)

whole_is_sound : (all : DraftState) (plan : TopologyState) → IsSoundSoFar all → whole all ≡ Ok plan → IsSoundWithin all.limits plan
unfolding whole
whole_is_sound all plan sound h =
    let manager = bind_ok (on_line 0 (ok_or all.manager WrongManager)) (plan_of all) plan h in
    let is = there all.manager WrongManager manager.0 (reported 0 (ok_or all.manager WrongManager) manager.0 manager.1) in
    let cabled = not_stopped (not (is_cabled all.cables manager.0.port)) _ _ plan manager.2 in
    let joined = not_stopped (not (is_connected all.nodes all.cables)) _ _ plan cabled.1 in
    subst (IsSoundWithin all.limits) (same_ok _ plan joined.1) (record {
      lines = sound.lines;
      connected = joined_if all.nodes all.cables (not-false (is_connected all.nodes all.cables) joined.0);
      roots = sound.roots;
      manager_port = ap (on_adapter all.nodes) (sym is) ∙ sound.manager;
      manager_cabled = not-false (is_cabled all.cables manager.0.port) cabled.0;
    })

pub is_sound_within : (limits : Limits) (text : List ℕ) (plan : TopologyState) → topology_within limits text ≡ Ok plan → IsSoundWithin limits plan
unfolding topology_within
is_sound_within limits text plan h =
    let all = bind_ok (declarations_within limits text) whole plan h in
    let sound = whole_is_sound all.0 plan (all_lines 1 (nothing limits) all.0 (lines text) (nothing_sound limits) all.1) all.2 in
    subst (λ some. IsSoundWithin some plan) (lines_stay 1 (nothing limits) (lines text) all.0 all.1) sound

pub topology_is_sound : (text : List ℕ) (plan : TopologyState) → topology_of text ≡ Ok plan → IsSound plan
topology_is_sound text plan h = is_sound_within Simulated text plan h
