-- Whether cables join all switches.
use Rattle.std.specs.Prelude.{◌≡◌, ℕ, zero, suc, Bool, true, ◌==◌, ◌&&◌, ◌||◌, List, [], ◌∷◌, length, filter}
use Rattle.std.specs.List.{list_any, list_all, range_with_len}
use Rattle.fabric_parts.specs.declared.cable.Cable.{Cable}
use Rattle.topo_file.specs.declared.node.Node.{Node}
use Rattle.topo_file.specs.Node.{is_switch_at, switch_count}

-- the cable joins these two nodes
abbrev pub joins : ℕ → ℕ → Cable → Bool
joins a b cable = ((cable.first.node == a) && (cable.second.node == b)) || ((cable.first.node == b) && (cable.second.node == a))

-- a walk goes from switch to switch over cables; its steps are the switches that it comes to, the last of them b
abbrev pub is_walk : List Node → List Cable → ℕ → List ℕ → ℕ → Bool
is_walk nodes cables a [] b = is_switch_at nodes a && (a == b)
is_walk nodes cables a (next ∷ steps) b =
    is_switch_at nodes a && (list_any (λ cable. joins a next cable) cables && is_walk nodes cables next steps b)

-- some walk goes from a to b
abbrev pub Joined : List Node → List Cable → ℕ → ℕ → Type 0
Joined nodes cables a b = (steps : List ℕ) × (is_walk nodes cables a steps b ≡ true)

-- what a topology keeps: every two switches are joined by a walk over cables
abbrev pub AllJoined : List Node → List Cable → Type 0
AllJoined nodes cables = (a b : ℕ) → is_switch_at nodes a ≡ true → is_switch_at nodes b ≡ true → Joined nodes cables a b

-- ---- the same as a test that computes. A walk need not come to a switch twice, so that no more steps than there are
-- switches are ever wanted; `connected_means_joined` is the law that the test and AllJoined agree.

-- the places at which switches stand
abbrev pub switches : List Node → List ℕ
switches nodes = filter (is_switch_at nodes) (range_with_len 0 (length nodes))

-- some walk of at most so many steps goes from the switch a to the switch b
abbrev pub is_joined_within : List Node → List Cable → ℕ → ℕ → ℕ → Bool
is_joined_within nodes cables zero a b = a == b
is_joined_within nodes cables (suc steps) a b =
    (a == b) || list_any (λ next. list_any (λ cable. joins a next cable) cables && is_joined_within nodes cables steps next b)
    (switches nodes)

abbrev pub is_connected : List Node → List Cable → Bool
is_connected nodes cables =
    list_all (λ a. list_all (λ b. is_joined_within nodes cables (switch_count nodes) a b) (switches nodes)) (switches nodes)
