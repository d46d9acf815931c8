-- What a Set does to a fabric: the agent at the end of its path takes it, or refuses it and all stays as it was.
use Rattle.std.specs.Prelude.{ℕ, ◌≡◌, ◌-◌, List, slice_get, slice_set, Option, Some, option_map, Result, Ok, Err}
use Rattle.std.specs.Option.{option_and_then, option_map_or}
use Rattle.std.specs.Result.{result_unwrap_or}
use Rattle.step_results.specs.Steps.{◌>>=◌}
use Rattle.mad_layout.specs.declared.status.MadStatus.{MadStatus}
use Rattle.attr_tables.specs.declared.smp_attribute.SmpAttribute.{SmpAttribute}
use Rattle.port_model.specs.Agent.{set as adapter_set}
use Rattle.switch_model.specs.Agent.{set as switch_set}
use Rattle.fabric_parts.specs.declared.cable.PortRef.{PortRef}
use Rattle.smp_wire.specs.declared.node.Node.{Node}
use Rattle.smp_wire.specs.declared.node.Node.TheVariants.{Switch, Adapter}
use Rattle.smp_wire.specs.FabricState.{FabricState, adapter_port}
use Rattle.smp_wire.specs.Get.{gives_along}
use Rattle.smp_wire.specs.Replies.{reported_for, reported_of}
use Rattle.smp_wire.specs.Walk.{end_of, exchange_after}

-- the node after a Set that came in at that port; an adapter has no agent at a port that is not there
abbrev pub node_takes : Node → ℕ → SmpAttribute → ℕ → List ℕ → Option (Result Node MadStatus)
node_takes (Switch held) number attribute modifier wanted =
    Some (switch_set held attribute modifier wanted >>= λ next. Ok (Switch next))
node_takes (Adapter ports) number attribute modifier wanted =
    option_map (λ port. adapter_set port attribute modifier wanted >>= λ next. Ok (Adapter (slice_set ports (number - 1) next)))
    (adapter_port ports number)

-- the fabric then: that node alone is another
abbrev pub takes_at : FabricState → PortRef → SmpAttribute → ℕ → List ℕ → Option (Result FabricState MadStatus)
takes_at fabric at attribute modifier wanted =
    option_map (λ taken. taken >>= λ next. Ok (record fabric { nodes = slice_set fabric.nodes at.node next }))
    (option_and_then (λ node. node_takes node at.port attribute modifier wanted) (slice_get fabric.nodes at.node))

-- nothing if there is no walk, or no agent at its end
abbrev pub takes_along : FabricState → List ℕ → SmpAttribute → ℕ → List ℕ → Option (Result FabricState MadStatus)
takes_along fabric path attribute modifier wanted =
    option_and_then (λ at. takes_at fabric at attribute modifier wanted) (end_of fabric path)

-- the fabric after a Set; if it is not taken, as it was
abbrev pub set_along : FabricState → List ℕ → SmpAttribute → ℕ → List ℕ → FabricState
set_along fabric path attribute modifier wanted =
    option_map_or (λ taken. result_unwrap_or taken fabric) (takes_along fabric path attribute modifier wanted) fabric

-- what a Set is answered with: if it is taken, what a Get of the same is answered with from then on
abbrev pub set_gives : List ℕ → SmpAttribute → ℕ → Result FabricState MadStatus → Option (Result (List ℕ) MadStatus)
set_gives path attribute modifier (Err status) = Some (Err status)
set_gives path attribute modifier (Ok next) = gives_along next path attribute modifier

abbrev pub set_gives_along : FabricState → List ℕ → SmpAttribute → ℕ → List ℕ → Option (Result (List ℕ) MadStatus)
set_gives_along fabric path attribute modifier wanted =
    option_and_then (set_gives path attribute modifier) (takes_along fabric path attribute modifier wanted)

-- a Set does to the fabric what the agent at the end of its path takes, and reports what that gives then
pub record SetReports (fabric : FabricState) (path : List ℕ) (attribute : SmpAttribute) (modifier : ℕ) (wanted smp : List ℕ) : Type 0 where
  pub after : exchange_after fabric smp ≡ set_along fabric path attribute modifier wanted
  pub reported : reported_of fabric smp ≡ reported_for (set_gives_along fabric path attribute modifier wanted)
  -- and what is taken is shown
  pub shown : (next : FabricState) → takes_along fabric path attribute modifier wanted ≡ Some (Ok next)
      → (bytes : List ℕ) × (reported_of fabric smp ≡ Ok bytes)
