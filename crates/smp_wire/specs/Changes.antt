-- What an exchange may change of a fabric: at most the node at the end of its walk, and of that at most what the
-- SMP names.
use Rattle.std.specs.Prelude.{ℕ, ◌≡◌, ◌≢◌, false, List, length, slice_get, Some, None}
use Rattle.fabric_parts.specs.Cable.{last_of}
use Rattle.mad_layout.specs.Bits.{field}
use Rattle.agent_rules.specs.Request.{is_set}
use Rattle.port_model.specs.AdapterState.{AdapterState}
use Rattle.port_model.specs.Changes.{ChangesAtMost as PortChangesAtMost}
use Rattle.switch_model.specs.Changes.{ChangesAtMost as SwitchChangesAtMost}
use Rattle.fabric_parts.specs.declared.cable.PortRef.{PortRef}
use Rattle.smp_wire.specs.declared.node.Node.{Node}
use Rattle.smp_wire.specs.declared.node.Node.TheVariants.{Switch, Adapter}
use Rattle.smp_wire.specs.FabricState.{FabricState, adapter_port}
use Rattle.smp_wire.specs.Walk.{exchange_reply, walk_of}

-- the ports of a channel adapter: the one that was asked changes at most in what the SMP names, the others stay
pub record AdapterChangesAtMost (number : ℕ) (smp : List ℕ) (old new : List AdapterState) : Type 0 where
  pub count : length new ≡ length old
  pub others : (k : ℕ) → k ≢ number → adapter_port new k ≡ adapter_port old k
  pub asked : (port : AdapterState) → adapter_port old number ≡ Some port
      → (next : AdapterState) × (adapter_port new number ≡ Some next) × PortChangesAtMost port next smp

abbrev pub NodeChangesAtMost : ℕ → List ℕ → Node → Node → Type 0
NodeChangesAtMost number smp (Switch old) (Switch new) = SwitchChangesAtMost old new smp
NodeChangesAtMost number smp (Adapter old) (Adapter new) = AdapterChangesAtMost number smp old new
NodeChangesAtMost number smp _ _ = ⊥

-- the nodes, when an SMP has come to that port of one
pub record NodesChangeAtMost (at : PortRef) (smp : List ℕ) (old new : List Node) : Type 0 where
  pub count : length new ≡ length old
  pub others : (place : ℕ) → place ≢ at.node → slice_get new place ≡ slice_get old place
  pub asked : (node : Node) → slice_get old at.node ≡ Some node
      → (next : Node) × (slice_get new at.node ≡ Some next) × NodeChangesAtMost at.port smp node next

pub record ChangesAtMost (fabric next : FabricState) (smp : List ℕ) : Type 0 where
  -- never the cables, nor where the subnet manager is
  pub cables : next.cables ≡ fabric.cables
  pub manager : next.manager ≡ fabric.manager
  -- nothing if there is no walk
  pub no_walk : walk_of fabric smp ≡ None → next ≡ fabric
  -- at most the node at its end, and of that at most what the SMP names
  pub nodes : (ends : List PortRef) → walk_of fabric smp ≡ Some ends
      → NodesChangeAtMost (last_of fabric.manager ends) smp fabric.nodes next.nodes
  -- and nothing if no reply comes, or a refusal, or if it sets nothing
  pub unanswered : exchange_reply fabric smp ≡ None → next ≡ fabric
  pub refused : (reply : List ℕ) → exchange_reply fabric smp ≡ Some reply → field reply 33 15 ≢ 0 → next ≡ fabric
  pub no_set : is_set smp ≡ false → next ≡ fabric
