-- What a topology within some limits has: they stay the same from line to line, and the large ones are passed by none.
use Rattle.std.proofs.Common.{◌≡◌, ◌≤◌, ◌+◌, ◌∙◌, ℕ, Bool, true, false, nat_le, List, [], ◌∷◌, Some, Result, Ok, Err, if◌then◌else◌, refl, sym, ap, arith, codes}
use Rattle.std.specs.Option.{ok_or}
use Rattle.std.specs.Str.{bytes_eq}
use Rattle.std.proofs.lemmas.Bool.{and_from, and_parts, le-leb, leb-true}
use Rattle.step_results.specs.AtLine.{after_lines, on_line}
use Rattle.step_results.specs.Steps.{◌>>=◌}
use Rattle.step_results.proofs.ListLemmas.{list_all_weaker}
use Rattle.step_results.proofs.StepLemmas.{bind_ok, same_ok}
use Rattle.text_words.specs.Lines.{words_of}
use Rattle.fabric_parts.specs.Limits.{most_adapter_ports, most_ports_within, most_switches}
use Rattle.fabric_parts.specs.declared.cable.Cable.{Cable}
use Rattle.fabric_parts.specs.declared.limits.Limits.{Limits}
use Rattle.fabric_parts.specs.declared.limits.Limits.TheVariants.{Large, Simulated}
use Rattle.fabric_parts.specs.declared.node_type.NodeType.{NodeType}
use Rattle.fabric_parts.specs.declared.node_type.NodeType.TheVariants.{ChannelAdapter, Switch}
use Rattle.topo_file.specs.Node.{adapter_ports}
use Rattle.topo_file.specs.Connectivity.{AllJoined}
use Rattle.topo_file.specs.Sound.{AreSoundWithin, IsSoundSoFar, IsSoundWithin, is_sized_within, on_adapter}
use Rattle.topo_file.specs.Topology.{DraftState, after_line, after_words}
use Rattle.topo_file.specs.declared.fault.TopologyCause.{TopologyCause}
use Rattle.topo_file.specs.declared.draft.Manager.{Manager}
use Rattle.topo_file.specs.declared.node.Node.{Node}
use Rattle.fabric_parts.specs.Cable.{is_cabled}

-- ---- the limits of the lines so far stay what they were
abbrev StaysWithin : Limits → Result DraftState TopologyCause → Type 0
StaysWithin limits reported = (made : DraftState) → reported ≡ Ok made → made.limits ≡ limits

either : (limits : Limits) (test : Bool) (one other : Result DraftState TopologyCause) → StaysWithin limits one → StaysWithin limits other
    → StaysWithin limits (if test then one else other)
either limits true one other a b = a
either limits false one other a b = b

kept_by : {X : Type 0} (limits : Limits) (reported : Result X TopologyCause) (more : X → DraftState) → ((x : X) → (more x).limits ≡ limits)
    → StaysWithin limits (reported >>= λ x. Ok (more x))
kept_by limits (Ok x) more same made h = ap (λ state. state.limits) (sym (same_ok (more x) made h)) ∙ same x
kept_by limits (Err cause) more same made h = absurd cc

words_stay : (number : ℕ) (so_far : DraftState) (words : List (List ℕ)) → StaysWithin so_far.limits (after_words number so_far words)
unfolding after_words
words_stay number so_far [] = λ made h. ap (λ state. state.limits) (sym (same_ok so_far made h))
words_stay number so_far (first ∷ rest) =
    either so_far.limits (bytes_eq first (codes "switch")) _ _ (kept_by so_far.limits _ _ (λ x. refl))
    (either so_far.limits (bytes_eq first (codes "adapter")) _ _ (kept_by so_far.limits _ _ (λ x. refl))
    (either so_far.limits (bytes_eq first (codes "cable")) _ _ (kept_by so_far.limits _ _ (λ x. refl))
    (either so_far.limits (bytes_eq first (codes "root")) _ _ (kept_by so_far.limits _ _ (λ x. refl))
    (either so_far.limits (bytes_eq first (codes "sm")) _ _ (kept_by so_far.limits _ _ (λ x. refl))
    (λ made h. absurd cc)))))

line_stays : (number : ℕ) (so_far : DraftState) (line : List ℕ) → StaysWithin so_far.limits (after_line number so_far line)
unfolding after_line
line_stays number so_far line made h =
    let words = bind_ok (ok_or (words_of line) _) _ made h in
    words_stay number so_far words.0 made words.2

on_line_ok : {X Cause : Type 0} (number : ℕ) (r : Result X Cause) (x : X) → on_line number r ≡ Ok x → r ≡ Ok x
on_line_ok number (Ok y) x h = cc
on_line_ok number (Err cause) x h = absurd cc

pub lines_stay : (number : ℕ) (so_far : DraftState) (rest : List (List ℕ)) (made : DraftState) → after_lines after_line number so_far rest ≡ Ok made
    → made.limits ≡ so_far.limits
unfolding after_lines
lines_stay number so_far [] made h = ap (λ state. state.limits) (sym (same_ok so_far made h))
lines_stay number so_far (line ∷ rest) made h =
    let next = bind_ok (on_line number (after_line number so_far line)) _ made h in
    lines_stay (number + 1) next.0 rest made next.2
    ∙ line_stays number so_far line next.0 (on_line_ok number (after_line number so_far line) next.0 next.1)

-- ---- what is within some limits is within the large ones
ports_of_type : (limits : Limits) (node_type : NodeType) → most_ports_within limits node_type ≤ most_ports_within Large node_type
ports_of_type Simulated Switch = omega arith
ports_of_type Simulated ChannelAdapter = omega arith
ports_of_type Large Switch = omega arith
ports_of_type Large ChannelAdapter = omega arith

switches_within : (limits : Limits) → most_switches limits ≤ most_switches Large
switches_within Simulated = omega arith
switches_within Large = omega arith

adapters_within : (limits : Limits) → most_adapter_ports limits ≤ most_adapter_ports Large
adapters_within Simulated = omega arith
adapters_within Large = omega arith

sized : (limits : Limits) (node : Node) → is_sized_within limits node ≡ true → is_sized_within Large node ≡ true
sized limits node h =
    let guid = and_parts (nat_le 1 node.guid) _ h in
    let ports = and_parts (nat_le 1 node.ports) (nat_le node.ports (most_ports_within limits node.node_type)) guid.1 in
    let low = leb-true node.ports (most_ports_within limits node.node_type) ports.1 in
    let most = ports_of_type limits node.node_type in
    and_from (nat_le 1 node.guid) _ guid.0 (and_from (nat_le 1 node.ports) _ ports.0 (le-leb node.ports (most_ports_within Large node.node_type) (omega (arith, low, most))))

pub large_lines : (limits : Limits) (nodes : List Node) (cables : List Cable) → AreSoundWithin limits nodes cables → AreSoundWithin Large nodes cables
large_lines limits nodes cables sound = record {
  names = sound.names;
  own_names = sound.own_names;
  guids = sound.guids;
  own_guids = sound.own_guids;
  sizes = list_all_weaker (is_sized_within limits) (is_sized_within Large) (sized limits) nodes sound.sizes;
  limits = (omega (arith, sound.limits.0, switches_within limits), omega (arith, sound.limits.1, adapters_within limits));
  ends = sound.ends;
  joins = sound.joins;
  own_ports = sound.own_ports;
}

pub few_ports : (so_far : DraftState) → IsSoundSoFar so_far → adapter_ports so_far.nodes ≤ 44000
few_ports so_far sound = omega (arith, sound.lines.limits.1, adapters_within so_far.limits)

pub large_whole : (so_far : DraftState) (manager : Manager) → IsSoundSoFar so_far → so_far.manager ≡ Some manager
    → is_cabled so_far.cables manager.port ≡ true → AllJoined so_far.nodes so_far.cables
    → IsSoundWithin Large (record { nodes = so_far.nodes; cables = so_far.cables; roots = so_far.roots; sm = manager.port })
large_whole so_far manager sound is cabled joined = record {
  lines = large_lines so_far.limits so_far.nodes so_far.cables sound.lines;
  connected = joined;
  roots = sound.roots;
  manager_port = ap (on_adapter so_far.nodes) (sym is) ∙ sound.manager;
  manager_cabled = cabled;
}
