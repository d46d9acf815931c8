-- What a Get reports of a fabric: what the agent at the end of its path gives.
use Rattle.std.specs.Prelude.{ℕ, ◌≡◌, List, slice_get, Option, Some, option_map, Result}
use Rattle.std.specs.Option.{option_and_then}
use Rattle.mad_layout.specs.declared.status.MadStatus.{MadStatus}
use Rattle.attr_tables.specs.declared.smp_attribute.SmpAttribute.{SmpAttribute}
use Rattle.port_model.specs.Agent.{get as adapter_gives}
use Rattle.switch_model.specs.Agent.{get as switch_gives}
use Rattle.fabric_parts.specs.declared.cable.PortRef.{PortRef}
use Rattle.smp_wire.specs.declared.node.Node.{Node}
use Rattle.smp_wire.specs.declared.node.Node.TheVariants.{Switch, Adapter}
use Rattle.smp_wire.specs.FabricState.{FabricState, adapter_port}
use Rattle.smp_wire.specs.Replies.{reported_for, reported_of}
use Rattle.smp_wire.specs.Walk.{end_of, exchange_after}

-- what a node gives at that port; an adapter has no agent at a port that is not there
abbrev pub node_gives : Node → ℕ → SmpAttribute → ℕ → Option (Result (List ℕ) MadStatus)
node_gives (Switch held) number attribute modifier = Some (switch_gives number held attribute modifier)
node_gives (Adapter ports) number attribute modifier =
    option_map (λ port. adapter_gives port attribute modifier) (adapter_port ports number)

abbrev pub gives_at : FabricState → PortRef → SmpAttribute → ℕ → Option (Result (List ℕ) MadStatus)
gives_at fabric at attribute modifier =
    option_and_then (λ node. node_gives node at.port attribute modifier) (slice_get fabric.nodes at.node)

-- nothing if there is no walk, or no agent at its end
abbrev pub gives_along : FabricState → List ℕ → SmpAttribute → ℕ → Option (Result (List ℕ) MadStatus)
gives_along fabric path attribute modifier = option_and_then (λ at. gives_at fabric at attribute modifier) (end_of fabric path)

-- a Get leaves the fabric as it was, and reports what is given
pub record Reads (fabric : FabricState) (smp : List ℕ) (given : Option (Result (List ℕ) MadStatus)) : Type 0 where
  pub unchanged : exchange_after fabric smp ≡ fabric
  pub reported : reported_of fabric smp ≡ reported_for given
