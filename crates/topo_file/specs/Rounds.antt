-- How the code finds whether cables join all switches: marks spread from the first switch, round by round. What it
-- finds is `is_connected` of Connectivity, and no other definition stands on this one.
use Rattle.std.specs.Prelude.{ℕ, zero, suc, Bool, true, false, not, ◌==◌, ◌&&◌, ◌||◌, List, length, map, slice_get, Option, Some, None, position, unwrap_or}
use Rattle.std.specs.List.{list_any, list_all, enumerate_from, zip}
use Rattle.fabric_parts.specs.declared.cable.Cable.{Cable}
use Rattle.topo_file.specs.declared.node.Node.{Node}
use Rattle.topo_file.specs.Node.{is_switch, switch_count}

-- marks stand one a node, in the order of the nodes
abbrev pub is_marked : List Bool → ℕ → Bool
is_marked marks place = unwrap_or (slice_get marks place) false

-- the cable leads to this place from one that is marked
abbrev pub leads_to : List Bool → ℕ → Cable → Bool
leads_to marks place cable =
    ((cable.first.node == place) && is_marked marks cable.second.node) || ((cable.second.node == place) && is_marked marks cable.first.node)

-- a round: the switches that were marked, and those that a cable joins to one that was
abbrev pub spread : List Node → List Cable → List Bool → List Bool
spread nodes cables marks =
    map (λ p. is_switch p.1 && (is_marked marks p.0 || list_any (λ cable. leads_to marks p.0 cable) cables)) (enumerate_from 0 nodes)

-- the switches that are marked already
abbrev pub kept : List Node → List Bool → List Bool
kept nodes marks = map (λ p. is_switch p.1 && is_marked marks p.0) (enumerate_from 0 nodes)

-- the same places are marked
abbrev pub is_same_mark : Bool × Bool → Bool
is_same_mark pair = (pair.0 && pair.1) || (not pair.0 && not pair.1)

abbrev pub is_same : List Bool → List Bool → Bool
is_same one other = (length one == length other) && list_all is_same_mark (zip one other)

-- before the first round this place alone is marked
abbrev pub only : List Node → ℕ → List Bool
only nodes place = map (λ p. p.0 == place) (enumerate_from 0 nodes)

abbrev pub after_rounds : List Node → List Cable → ℕ → ℕ → List Bool
after_rounds nodes cables place zero = only nodes place
after_rounds nodes cables place (suc rounds) = spread nodes cables (after_rounds nodes cables place rounds)

-- each switch is marked
abbrev pub marks_all : List Node → List Bool → Bool
marks_all nodes marks = list_all (λ p. not (is_switch p.1) || is_marked marks p.0) (enumerate_from 0 nodes)

-- in as many rounds as there are switches, each switch is marked from this one
abbrev pub leads_to_all_from : List Node → List Cable → Option ℕ → Bool
leads_to_all_from nodes cables None = true
leads_to_all_from nodes cables (Some place) = marks_all nodes (after_rounds nodes cables place (switch_count nodes))

-- from the first switch
abbrev pub leads_to_all : List Node → List Cable → Bool
leads_to_all nodes cables = leads_to_all_from nodes cables (position is_switch nodes)
