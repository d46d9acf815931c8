-- A topology that is read within the limits of a simulated fabric is read the same within the large limits.
use Rattle.std.proofs.Common.{ℕ, ◌+◌, ◌-◌, ◌^◌, ◌≤◌, ◌≡◌, ◌∙◌, ◌&&◌, ◌++◌, ap, refl, sym, arith, Bool, true, false, nat_le, if◌then◌else◌, is_some, codes, List, [], ◌∷◌, Option, Some, None, Result, Ok, Err}
use Rattle.std.proofs.lemmas.Bool.Decides.{nat_tests}
use Rattle.std.specs.Option.{ok_or}
use Rattle.std.specs.Str.{bytes_eq}
use Rattle.fabric_parts.specs.Limits.{most_ports_within}
use Rattle.fabric_parts.specs.declared.cable.Cable.{Cable}
use Rattle.fabric_parts.specs.declared.limits.Limits.TheVariants.{Large, Simulated}
use Rattle.fabric_parts.specs.declared.limits.Limits.{Limits}
use Rattle.fabric_parts.specs.declared.node_type.NodeType.TheVariants.{ChannelAdapter, Switch}
use Rattle.fabric_parts.specs.declared.node_type.NodeType.{NodeType}
use Rattle.step_results.proofs.StepLemmas.{bind_after, bind_done, bind_ok, not_stopped, same_ok}
use Rattle.step_results.specs.AtLine.{AtLine, after_lines, on_line}
use Rattle.step_results.specs.Steps.{◌>>=◌}
use Rattle.subnet_core.specs.Inventory.{InventoryState, inventory_by, inventory_of, large_inventory_of, of_text}
use Rattle.subnet_core.specs.declared.fault.RunFault.TheVariants.{Topology}
use Rattle.text_words.specs.Lines.{lines, words_of}
use Rattle.text_words.specs.Number.{number_in}
use Rattle.topo_file.proofs.WithinLemmas.{lines_stay}
use Rattle.topo_file.specs.Node.{is_one_too_many, lacks_guids, place_of}
use Rattle.topo_file.specs.Topology.{DraftState, TopologyState, after_line, after_words, cable_of, declarations_within, manager_of, name_of, new_node, node_encoded, node_of, nothing, number_up_to, root_of, topology_of, topology_within, whole, with_cable, with_manager, with_node, with_root, within}
use Rattle.topo_file.specs.declared.fault.TopologyCause.TheVariants.{DuplicateGuid, DuplicateName, Malformed, OverLimit}
use Rattle.topo_file.specs.declared.fault.TopologyCause.{TopologyCause}
use Rattle.topo_file.specs.declared.node.Node.{Node}

-- ---- a node
more_ports : (node_type : NodeType) → most_ports_within Simulated node_type ≤ most_ports_within Large node_type
more_ports Switch = omega arith
more_ports ChannelAdapter = omega arith

up_to_more : (low high : ℕ) (found : Option ℕ) (n : ℕ) → low ≤ high → within low found ≡ Ok n → within high found ≡ Ok n
up_to_more low high None n more is = absurd cc
up_to_more low high (Some m) n more is = by (nat_le 1 m) (nat_le m low) refl refl (nat_le m high) refl is
  where
    by : (one some : Bool) → nat_le 1 m ≡ one → nat_le m low ≡ some → (all : Bool) → nat_le m high ≡ all
        → ◌≡◌ {A = Result ℕ TopologyCause} (if one && some then Ok m else Err Malformed) (Ok n) → within high (Some m) ≡ Ok n
    by true true e f true g is = rw (e, g) is
    by true true e f false g is = absurd (grind (arith, nat_tests, more))
    by true false e f all g is = absurd cc
    by false some e f all g is = absurd cc

room_for_more : (nodes : List Node) (node_type : NodeType) (ports : ℕ) → is_one_too_many Simulated nodes node_type ports ≡ false
    → is_one_too_many Large nodes node_type ports ≡ false
room_for_more nodes Switch ports is = grind (arith, nat_tests)
room_for_more nodes ChannelAdapter ports is = grind (arith, nat_tests)

new_of_more : (nodes : List Node) (node made : Node) → new_node Simulated nodes node ≡ Ok made → new_node Large nodes node ≡ Ok made
new_of_more nodes node made is =
    let named = not_stopped (is_some (place_of node.name nodes)) DuplicateName _ made is in
    let apart = not_stopped (lacks_guids nodes node) DuplicateGuid _ made named.1 in
    let room = not_stopped (is_one_too_many Simulated nodes node.node_type node.ports) OverLimit (Ok node) made apart.1 in
    rw (named.0, apart.0, room_for_more nodes node.node_type node.ports room.0) room.1

encoded_of_more : (node_type : NodeType) (nodes : List Node) (name guid ports : List ℕ) (made : Node)
    → node_encoded Simulated node_type nodes name guid ports ≡ Ok made → node_encoded Large node_type nodes name guid ports ≡ Ok made
unfolding node_encoded
encoded_of_more node_type nodes name guid ports made is =
    let named = bind_ok (name_of name) _ made is in
    let number = bind_ok (number_up_to (2 ^ 64 - 1) guid) _ made named.2 in
    let count = bind_ok (number_up_to (most_ports_within Simulated node_type) ports) _ made number.2 in
    let counted = up_to_more (most_ports_within Simulated node_type) (most_ports_within Large node_type) (number_in ports) count.0 (more_ports node_type) count.1 in
    put named.0 number.0 count.0 named.1 number.1 counted (new_of_more nodes (record { name = named.0; node_type = node_type; guid = number.0; ports = count.0 }) made count.2)
  where
    put : (named : List ℕ) (number count : ℕ) → name_of name ≡ Ok named → number_up_to (2 ^ 64 - 1) guid ≡ Ok number
        → number_up_to (most_ports_within Large node_type) ports ≡ Ok count
        → new_node Large nodes (record { name = named; node_type = node_type; guid = number; ports = count }) ≡ Ok made
        → node_encoded Large node_type nodes name guid ports ≡ Ok made
    put named number count a b c new = rw (a, b, c) new

node_of_more : (node_type : NodeType) (nodes : List Node) (words : List (List ℕ)) (made : Node)
    → node_of Simulated node_type nodes words ≡ Ok made → node_of Large node_type nodes words ≡ Ok made
unfolding node_of
node_of_more node_type nodes [] made is = absurd cc
node_of_more node_type nodes (a ∷ []) made is = absurd cc
node_of_more node_type nodes (a ∷ b ∷ []) made is = absurd cc
node_of_more node_type nodes (a ∷ b ∷ c ∷ []) made is = encoded_of_more node_type nodes a b c made is
node_of_more node_type nodes (a ∷ b ∷ c ∷ d ∷ rest) made is = absurd cc

-- ---- a line
abbrev held_to : Limits → DraftState → DraftState
held_to limits so_far = record so_far { limits = limits }

abbrev Draft : Type 0
Draft = Result DraftState TopologyCause

-- the second has what the first has, held to the large limits
abbrev IsSameOfMore : Draft → Draft → Type 0
IsSameOfMore few more = (made : DraftState) → few ≡ Ok made → more ≡ Ok (held_to Large made)

more_if : (test : Bool) (few more others rest : Draft) → IsSameOfMore few more → IsSameOfMore others rest
    → IsSameOfMore (if test then few else others) (if test then more else rest)
more_if true few more others rest first second = first
more_if false few more others rest first second = second

node_line : (so_far : DraftState) (node_type : NodeType) (words : List (List ℕ))
    → IsSameOfMore (with_node (held_to Simulated so_far) (node_of Simulated node_type so_far.nodes words))
    (with_node (held_to Large so_far) (node_of Large node_type so_far.nodes words))
node_line so_far node_type words made is =
    let step = λ (node : Node). record (held_to Simulated so_far) { nodes = so_far.nodes ++ node ∷ [] } in
    let node = bind_done (node_of Simulated node_type so_far.nodes words) step made is in
    rw (node_of_more node_type so_far.nodes words node.0 node.1) (ap (λ (made : DraftState). Ok (held_to Large made)) node.2)

cable_line : (so_far : DraftState) (given : Result Cable TopologyCause)
    → IsSameOfMore (with_cable (held_to Simulated so_far) given) (with_cable (held_to Large so_far) given)
cable_line so_far (Ok cable) made is = ap (λ (made : DraftState). Ok (held_to Large made)) (same_ok _ made is)
cable_line so_far (Err cause) made is = absurd cc

root_line : (so_far : DraftState) (given : Result ℕ TopologyCause)
    → IsSameOfMore (with_root (held_to Simulated so_far) given) (with_root (held_to Large so_far) given)
root_line so_far (Ok root) made is = ap (λ (made : DraftState). Ok (held_to Large made)) (same_ok _ made is)
root_line so_far (Err cause) made is = absurd cc

manager_line : (so_far : DraftState) (number : ℕ) (words : List (List ℕ))
    → IsSameOfMore (with_manager (held_to Simulated so_far) (manager_of so_far.nodes so_far.manager number words))
    (with_manager (held_to Large so_far) (manager_of so_far.nodes so_far.manager number words))
manager_line so_far number words made is =
    let manager = bind_done (manager_of so_far.nodes so_far.manager number words) (λ manager. record (held_to Simulated so_far) { manager = Some manager }) made is in
    rw manager.1 (ap (λ (made : DraftState). Ok (held_to Large made)) manager.2)

words_of_more : (number : ℕ) (so_far : DraftState) (words : List (List ℕ))
    → IsSameOfMore (after_words number (held_to Simulated so_far) words) (after_words number (held_to Large so_far) words)
unfolding after_words
words_of_more number so_far [] = λ made is. ap (λ (made : DraftState). Ok (held_to Large made)) (same_ok _ made is)
words_of_more number so_far (first ∷ rest) =
    more_if (bytes_eq first (codes "switch")) _ _ _ _ (node_line so_far Switch rest)
    (more_if (bytes_eq first (codes "adapter")) _ _ _ _ (node_line so_far ChannelAdapter rest)
    (more_if (bytes_eq first (codes "cable")) _ _ _ _ (cable_line so_far (cable_of so_far.nodes so_far.cables rest))
    (more_if (bytes_eq first (codes "root")) _ _ _ _ (root_line so_far (root_of so_far.nodes so_far.roots rest))
    (more_if (bytes_eq first (codes "sm")) _ _ (Err Malformed) (Err Malformed) (manager_line so_far number rest)
    (λ made is. absurd cc)))))

line_of_more : (number : ℕ) (so_far : DraftState) (line : List ℕ)
    → IsSameOfMore (after_line number (held_to Simulated so_far) line) (after_line number (held_to Large so_far) line)
unfolding after_line
line_of_more number so_far line = by (words_of line)
  where
    by : (found : Option (List (List ℕ))) → IsSameOfMore (ok_or found Malformed >>= after_words number (held_to Simulated so_far)) (ok_or found Malformed >>= after_words number (held_to Large so_far))
    by (Some words) = words_of_more number so_far words
    by None = λ made is. absurd cc

-- ---- all lines, and the whole
on_line_of_more : (number : ℕ) (few more : Draft) (made : DraftState) → IsSameOfMore few more → on_line number few ≡ Ok made → on_line number more ≡ Ok (held_to Large made)
on_line_of_more number (Ok next) more made same is = rw (same next refl) (ap (λ (made : DraftState). Ok (held_to Large made)) (same_ok next made is))
on_line_of_more number (Err cause) more made same is = absurd cc

-- every draft is held to its own limits
held_as_it_is : (limits : Limits) (so_far : DraftState) → so_far.limits ≡ limits → held_to limits so_far ≡ so_far
held_as_it_is limits so_far is = λ i. record so_far { limits = (sym is) i }

lines_of_more : (number : ℕ) (so_far : DraftState) (left : List (List ℕ)) (made : DraftState) → so_far.limits ≡ Simulated
    → after_lines after_line number so_far left ≡ Ok made → after_lines after_line number (held_to Large so_far) left ≡ Ok (held_to Large made)
unfolding after_lines
lines_of_more number so_far [] made small is = ap (λ (made : DraftState). Ok (held_to Large made)) (same_ok so_far made is)
lines_of_more number so_far (line ∷ rest) made small is =
    let next = bind_ok (on_line number (after_line number so_far line)) _ made is in
    let held = held_as_it_is Simulated so_far small in
    let more = on_line_of_more number (after_line number (held_to Simulated so_far) line) (after_line number (held_to Large so_far) line) next.0
    (line_of_more number so_far line) (ap (λ (draft : DraftState). on_line number (after_line number draft line)) held ∙ next.1) in
    rw more (lines_of_more (number + 1) next.0 rest made (lines_stay number so_far (line ∷ []) next.0 (bind_after (on_line number (after_line number so_far line)) (λ next. Ok next) next.0 next.1) ∙ small) next.2)

whole_of_more : (all : DraftState) → whole (held_to Large all) ≡ whole all
unfolding whole
whole_of_more all = refl

read_of_more : (text : List ℕ) (plan : TopologyState) → topology_of text ≡ Ok plan → topology_within Large text ≡ Ok plan
unfolding topology_within
read_of_more text plan is =
    let all = bind_ok (declarations_within Simulated text) whole plan is in
    rw (lines_of_more 1 (nothing Simulated) (lines text) all.0 refl all.1) (whole_of_more all.0 ∙ all.2)

-- ---- so an inventory is the same
pub found_topology : (text : List ℕ) (plan : TopologyState) → of_text Topology (topology_of text) ≡ Ok plan → topology_of text ≡ Ok plan
found_topology text plan is = by (topology_of text) is
  where
    by : (found : Result TopologyState (AtLine TopologyCause)) → of_text Topology found ≡ Ok plan → found ≡ Ok plan
    by (Ok other) is = ap (λ (one : TopologyState). Ok one) (same_ok other plan is)
    by (Err at) is = absurd cc

pub large_inventory : (topology : List ℕ) (partitions : Option (List ℕ)) (inventory : InventoryState) → inventory_of topology partitions ≡ Ok inventory
    → large_inventory_of topology partitions ≡ Ok inventory
unfolding inventory_by large_inventory_of
large_inventory topology partitions inventory is =
    let plan = bind_ok (of_text Topology (topology_of topology)) _ inventory is in
    rw (read_of_more topology plan.0 (found_topology topology plan.0 plan.1)) plan.2
