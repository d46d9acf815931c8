-- What the agents of good nodes give makes attributes.
use Rattle.std.proofs.Common.{ℕ, ◌≡◌, ◌-◌, ◌==◌, Bool, true, false, if◌then◌else◌, List, slice_get, Option, Some, None, option_map, Result, Ok, refl}
use Rattle.std.specs.List.{All}
use Rattle.std.specs.Option.{option_and_then}
use Rattle.mad_layout.specs.declared.status.MadStatus.{MadStatus}
use Rattle.attr_tables.specs.Attribute.{IsAttribute}
use Rattle.attr_tables.specs.declared.smp_attribute.SmpAttribute.{SmpAttribute}
use Rattle.agent_rules.specs.declared.power_up.TheConstants.{LINEAR_TABLE, MULTICAST_TABLE}
use Rattle.step_results.proofs.ListLemmas.{all_have}
use Rattle.port_model.specs.AdapterState.{AdapterState}
use Rattle.port_model.specs.Agent.{get as adapter_gives}
use Rattle.port_model.specs.Good.{IsGoodPort}
use Rattle.port_model.proofs.AgentLemmas.{give_attributes as adapter_given}
use Rattle.switch_model.proofs.GoodLemmas.{give_attributes as switch_given}
use Rattle.fabric_parts.specs.declared.cable.PortRef.{PortRef}
use Rattle.smp_wire.specs.declared.node.Node.{Node}
use Rattle.smp_wire.specs.declared.node.Node.TheVariants.{Switch, Adapter}
use Rattle.smp_wire.specs.FabricState.{FabricState}
use Rattle.smp_wire.specs.Get.{gives_at, node_gives}
use Rattle.smp_wire.specs.Good.{IsGoodNode}

-- what is given, where something is, is an attribute
abbrev pub AreAttributes : Option (Result (List ℕ) MadStatus) → Type 0
AreAttributes given = (bytes : List ℕ) → given ≡ Some (Ok bytes) → IsAttribute bytes

pub nothing_given : AreAttributes None
nothing_given bytes h = absurd (cc)

same_given : (one other : Result (List ℕ) MadStatus) → Some one ≡ Some other → one ≡ other
same_given one other h = cc

port_given : (ports : List AdapterState) (i : ℕ) (found : Option AdapterState) (attribute : SmpAttribute) (modifier : ℕ)
    → All IsGoodPort ports → slice_get ports i ≡ found → AreAttributes (option_map (λ port. adapter_gives port attribute modifier) found)
port_given ports i None attribute modifier all there bytes h = absurd (cc)
port_given ports i (Some port) attribute modifier all there bytes h =
    adapter_given port attribute modifier bytes (all_have IsGoodPort ports i port all there) (same_given _ _ h)

port_unless : (none : Bool) (ports : List AdapterState) (i : ℕ) (attribute : SmpAttribute) (modifier : ℕ)
    → All IsGoodPort ports → AreAttributes (option_map (λ port. adapter_gives port attribute modifier) (if none then None else slice_get ports i))
port_unless true ports i attribute modifier all bytes h = absurd (cc)
port_unless false ports i attribute modifier all bytes h = port_given ports i (slice_get ports i) attribute modifier all refl bytes h

node_given : (node : Node) (n : ℕ) (attribute : SmpAttribute) (modifier : ℕ) → IsGoodNode node
    → AreAttributes (node_gives node n attribute modifier)
node_given (Switch held) n attribute modifier is bytes h =
    switch_given LINEAR_TABLE MULTICAST_TABLE n held attribute modifier bytes is (same_given _ _ h)
node_given (Adapter ports) n attribute modifier is bytes h = port_unless (n == 0) ports (n - 1) attribute modifier is bytes h

found_given : (nodes : List Node) (i n : ℕ) (found : Option Node) (attribute : SmpAttribute) (modifier : ℕ)
    → All IsGoodNode nodes → slice_get nodes i ≡ found
    → AreAttributes (option_and_then (λ node. node_gives node n attribute modifier) found)
found_given nodes i n None attribute modifier all there bytes h = absurd (cc)
found_given nodes i n (Some node) attribute modifier all there bytes h = node_given node n attribute modifier (all_have IsGoodNode nodes i node all there) bytes h

pub attributes_given : (fabric : FabricState) (at : PortRef) (attribute : SmpAttribute) (modifier : ℕ)
    → All IsGoodNode fabric.nodes → AreAttributes (gives_at fabric at attribute modifier)
attributes_given fabric at attribute modifier all bytes h = found_given fabric.nodes at.node at.port (slice_get fabric.nodes at.node) attribute modifier all refl bytes h
