-- An exchange as the nodes see it: each knows its own kind and the port by which an SMP came in, goes by the
-- hop rules, and the SMP comes out at the other end of the cable (IBA volume 1, chapter 14).
use Rattle.std.specs.Prelude.{ℕ, ◌≡◌, ◌==◌, ◌↔◌, true, if◌then◌else◌, List, [], ◌∷◌, Some}
use Rattle.smp_route.specs.declared.hop.Hop.TheVariants.{Forward, ToAgent, ToManager}
use Rattle.smp_route.specs.Hops.{Step, outgoing, returning}
use Rattle.smp_route.specs.HopFields.{is_outgoing, turned_round}
use Rattle.fabric_parts.specs.declared.cable.PortRef.{PortRef}
use Rattle.smp_wire.specs.declared.node.Node.{Node}
use Rattle.fabric_parts.specs.Cable.{far_end}
use Rattle.smp_wire.specs.FabricState.{FabricState, after_at, reply_at}
use Rattle.fabric_wire.specs.Hopping.{node_type_at}
use Rattle.smp_wire.specs.Walk.{exchange_after, exchange_reply}

-- an SMP at a node, to which it came by this port; port 0 is the node itself
pub record Visit : Type 0 where
  pub node : ℕ
  pub entered : ℕ
  pub smp : List ℕ

-- what the hop rules say there: those of the way out if its direction bit is 0, else those of the way back
abbrev pub hop_rules : List Node → Visit → Step
hop_rules nodes here =
    if is_outgoing here.smp then outgoing (node_type_at nodes here.node) here.entered here.smp
    else returning (node_type_at nodes here.node) here.entered here.smp

-- by the rules the SMP leaves by a port, and the cable there leads to where it is next
pub record Passes (fabric : FabricState) (here next : Visit) : Type 0 where
  pub port : ℕ
  pub leaves : (hop_rules fabric.nodes here).hop ≡ Forward port
  pub cable : far_end fabric.cables (record { node = here.node; port = port }) ≡ Some (record { node = next.node; port = next.entered })
  pub as_left : next.smp ≡ (hop_rules fabric.nodes here).smp

-- from node to node
abbrev pub Goes : FabricState → Visit → List Visit → Visit → Type 0
Goes fabric here [] last = here ≡ last
Goes fabric here (next ∷ later) last = Passes fabric here next × Goes fabric next later last

-- whose agent it is given to there: that of the port by which it came, and of the SM port
-- if it never left the node
abbrev pub agent_port : PortRef → Visit → PortRef
agent_port manager here = if here.entered == 0 then manager else record { node = here.node; port = here.entered }

-- an SMP that the subnet manager sends out comes to the agent at that port, as this request
pub record ComesTo (fabric : FabricState) (smp : List ℕ) (at : PortRef) (request : List ℕ) : Type 0 where
  pub outgoing : is_outgoing smp ≡ true
  pub way : List Visit
  pub last : Visit
  pub goes : Goes fabric (record { node = fabric.manager.node; entered = 0; smp = smp }) way last
  pub to_agent : (hop_rules fabric.nodes last).hop ≡ ToAgent
  pub at_is : at ≡ agent_port fabric.manager last
  pub request_is : request ≡ (hop_rules fabric.nodes last).smp

-- what an agent of that node answers, its direction bit set, comes to the subnet manager as this reply
pub record ComesHome (fabric : FabricState) (node : ℕ) (answer reply : List ℕ) : Type 0 where
  pub way : List Visit
  pub last : Visit
  pub goes : Goes fabric (record { node = node; entered = 0; smp = turned_round answer }) way last
  pub to_manager : (hop_rules fabric.nodes last).hop ≡ ToManager
  pub home : last.node ≡ fabric.manager.node
  pub reply_is : reply ≡ (hop_rules fabric.nodes last).smp

pub record IsAnswered (fabric : FabricState) (smp reply : List ℕ) : Type 0 where
  pub at : PortRef
  pub request : List ℕ
  pub answer : List ℕ
  pub comes : ComesTo fabric smp at request
  pub answers : reply_at fabric at request ≡ Some answer
  pub comes_home : ComesHome fabric at.node answer reply

-- ---- the walk of the definition is that
pub record GoesByHops (fabric : FabricState) (smp : List ℕ) : Type 0 where
  -- these replies come and no other
  pub replies : (reply : List ℕ) → exchange_reply fabric smp ≡ Some reply ↔ IsAnswered fabric smp reply
  -- the agent that it reaches may have changed; if it reaches none, nothing has
  pub change : (at : PortRef) (request : List ℕ) → ComesTo fabric smp at request
      → exchange_after fabric smp ≡ after_at fabric at request
  pub no_change : ((at : PortRef) (request : List ℕ) → ComesTo fabric smp at request → ⊥) → exchange_after fabric smp ≡ fabric
