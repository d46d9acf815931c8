-- What is wrong with the wrong rules.
use Rattle.std.proofs.Common.{◌≡◌, refl, ap, codes, length, List, [], ◌∷◌, arith}
use Rattle.std.proofs.lemmas.Bool.{false≢true}
use Rattle.fabric_parts.specs.declared.cable.Cable.{Cable}
use Rattle.fabric_parts.specs.declared.cable.PortRef.{PortRef}
use Rattle.fabric_parts.specs.declared.node_type.NodeType.TheVariants.{Switch}
use Rattle.fabric_parts.specs.Cable.{port}
use Rattle.topo_file.specs.declared.node.Node.{Node}
use Rattle.topo_file.specs.Topology.{TopologyState}
use Rattle.rooted_import.specs.WrongRules.{AllAreWanted, CablesAreWanted, NoOthersAreRoots, NodesAreWanted, TheManagerIsWanted}

-- no node, no cable, and no roots
abbrev nothing : TopologyState
nothing = record { nodes = []; cables = []; roots = []; sm = port 0 1 }

-- a switch is there
pub nodes_are_wanted : NodesAreWanted
nodes_are_wanted law =
    let one : Node = record { name = codes "s"; node_type = Switch; guid = 1; ports = 2 } in
    let none : 0 ≡ 1 = ap (λ (nodes : List Node). length nodes) (law [] nothing (record nothing { nodes = one ∷ [] }) refl).nodes in
    absurd (omega (arith, none))

-- a cable is there
pub cables_are_wanted : CablesAreWanted
cables_are_wanted law =
    let one : Cable = record { first = port 0 1; second = port 1 1 } in
    let none : 0 ≡ 1 = ap (λ (cables : List Cable). length cables) (law [] nothing (record nothing { cables = one ∷ [] }) refl).cables in
    absurd (omega (arith, none))

-- the SM is on port 2
pub the_manager_is_wanted : TheManagerIsWanted
the_manager_is_wanted law =
    let other : 1 ≡ 2 = ap (λ (at : PortRef). at.port) (law [] nothing (record nothing { sm = port 0 2 }) refl).manager in absurd (omega (arith, other))

-- a root is there
pub no_others_are_roots : NoOthersAreRoots
no_others_are_roots law = false≢true ((law [] nothing (record nothing { roots = 0 ∷ [] }) refl).only 0 refl)

-- no node has this GUID
pub all_are_wanted : AllAreWanted
all_are_wanted law = false≢true ((law (7 ∷ []) nothing nothing refl).all 7 refl)
