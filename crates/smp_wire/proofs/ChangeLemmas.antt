-- What an exchange changes of a good fabric: at one node what the SMP names.
use Rattle.std.proofs.Common.{ℕ, ◌≡◌, ◌≢◌, ◌-◌, ◌==◌, ◌∙◌, ap, refl, sym, subst, inl, inr, Bool, true, false, if◌then◌else◌, List, length, slice_get}
use Rattle.std.proofs.Common.{slice_set, Option, Some, None, option_map, arith}
use Rattle.std.specs.Int.Digits.{AllBelowBase}
use Rattle.std.specs.Option.{option_and_then}
use Rattle.std.proofs.lemmas.Bool.Decides.{nat_tests}
use Rattle.std.proofs.lemmas.List.{length-set}
use Rattle.mad_layout.specs.Bits.{field}
use Rattle.agent_rules.specs.Laws.{AsksSame}
use Rattle.agent_rules.specs.Request.{is_request, is_set}
use Rattle.agent_rules.proofs.AgentLemmas.{reads_alike, settled}
use Rattle.port_model.specs.AdapterState.{AdapterState}
use Rattle.port_model.specs.Agent.{agent_reply as adapter_reply, agent_after as adapter_after, get as adapter_gives, set as adapter_set}
use Rattle.port_model.specs.Changes.{ChangesAtMost as PortChangesAtMost}
use Rattle.port_model.proofs.AgentLemmas.{changes_at_most as adapter_changes, shows as adapter_shows}
use Rattle.switch_model.specs.Agent.{agent_reply as switch_reply, agent_after as switch_after, get as switch_gives, set as switch_set}
use Rattle.switch_model.specs.SwitchState.{SwitchState}
use Rattle.switch_model.proofs.AgentLemmas.{shows as switch_shows}
use Rattle.switch_model.proofs.ChangeLemmas.{changes_at_most as switch_changes}
use Rattle.fabric_parts.specs.declared.cable.PortRef.{PortRef}
use Rattle.smp_wire.specs.Laws.{ExchangesChangeWhatTheyName}
use Rattle.smp_wire.specs.declared.node.Node.{Node}
use Rattle.smp_wire.specs.declared.node.Node.TheVariants.{Switch, Adapter}
use Rattle.smp_wire.specs.Changes.{AdapterChangesAtMost, NodeChangesAtMost, NodesChangeAtMost}
use Rattle.smp_wire.specs.FabricState.{FabricState, adapter_port, adapter_ports_after, after_at, node_after, node_reply, nodes_after, reply_at}
use Rattle.smp_wire.specs.Good.{IsGood}
use Rattle.smp_wire.specs.Walk.{arrived, exchange_after, exchange_reply, returned, walk_of}
use Rattle.smp_wire.proofs.ReplyLemmas.{replies, returned_field}
use Rattle.smp_wire.proofs.WalkedLemmas.{carried, no_walk_after, walk_after, walk_reply}
use Rattle.step_results.proofs.ElementLemmas.{get_other, get_written, set_back}
use Rattle.fabric_parts.specs.Cable.{last_of}

-- ---- what changes no agent changes no node
pub record ChangesNothing (smp : List ℕ) : Type 0 where
  pub switch : (held : SwitchState) → switch_after held smp ≡ held
  pub port : (held : AdapterState) → adapter_after held smp ≡ held

pub unset : (smp : List ℕ) → is_set smp ≡ false → ChangesNothing smp
unfolding switch_after adapter_after
unset smp is = record {
  switch = λ held. (settled (switch_gives 0) switch_set (switch_shows 0)).get held smp is;
  port = λ held. (settled adapter_gives adapter_set adapter_shows).get held smp is;
}

unasked : (smp : List ℕ) → is_request smp ≡ false → ChangesNothing smp
unfolding switch_after adapter_after
unasked smp is = record {
  switch = λ held. (settled (switch_gives 0) switch_set (switch_shows 0)).silent held smp
      is;
  port = λ held. (settled adapter_gives adapter_set adapter_shows).silent held smp is;
}

ports_stay : (none : Bool) (ports : List AdapterState) (number : ℕ) (smp : List ℕ) (found : Option AdapterState)
    → ChangesNothing smp → slice_get ports (number - 1) ≡ found
    → adapter_ports_after ports number smp (if none then None else found) ≡ ports
ports_stay true ports number smp found nothing there = refl
ports_stay false ports number smp None nothing there = refl
ports_stay false ports number smp (Some port) nothing there = set_back ports (number - 1) port _ there (nothing.port port)

node_stays : (node : Node) (number : ℕ) (smp : List ℕ) → ChangesNothing smp → node_after node number smp ≡ node
unfolding node_after
node_stays (Switch held) number smp nothing = ap (λ (one : SwitchState). Switch one) (nothing.switch held)
node_stays (Adapter ports) number smp nothing =
    ap (λ (all : List AdapterState). Adapter all) (ports_stay (number == 0) ports number smp (slice_get ports (number - 1)) nothing refl)

pub nodes_stay : (nodes : List Node) (at : PortRef) (smp : List ℕ) (found : Option Node) → ChangesNothing smp
    → slice_get nodes at.node ≡ found → nodes_after nodes at smp found ≡ nodes
nodes_stay nodes at smp None nothing there = refl
nodes_stay nodes at smp (Some node) nothing there = set_back nodes at.node node _ there (node_stays node at.port smp nothing)

-- ---- nor does what no agent answers
port_silent : (ports : List AdapterState) (number : ℕ) (smp : List ℕ) (found : Option AdapterState)
    → is_request smp ≡ true → option_and_then (λ port. adapter_reply port smp) found ≡ None
    → adapter_ports_after ports number smp found ≡ ports
unfolding adapter_reply
port_silent ports number smp None request silent = refl
port_silent ports number smp (Some port) request silent = let given = rw request at silent in cc

node_silent : (node : Node) (number : ℕ) (smp : List ℕ) → is_request smp ≡ true → node_reply node number smp ≡ None
    → node_after node number smp ≡ node
unfolding node_reply node_after switch_reply
node_silent (Switch held) number smp request silent = let given = rw request at silent in cc
node_silent (Adapter ports) number smp request silent = ap (λ (all : List AdapterState). Adapter all) (port_silent ports number smp (adapter_port ports number) request silent)

found_silent : (nodes : List Node) (at : PortRef) (smp : List ℕ) (found : Option Node) → is_request smp ≡ true
    → slice_get nodes at.node ≡ found → option_and_then (λ node. node_reply node at.port smp) found ≡ None
    → nodes_after nodes at smp found ≡ nodes
found_silent nodes at smp None request there silent = refl
found_silent nodes at smp (Some node) request there silent = set_back nodes at.node node _ there (node_silent node at.port smp request silent)

nodes_silent : (fabric : FabricState) (at : PortRef) (smp : List ℕ) (request : Bool) → is_request smp ≡ request
    → reply_at fabric at smp ≡ None → after_at fabric at smp ≡ fabric
nodes_silent fabric at smp true request silent = ap (λ (nodes : List Node). record fabric { nodes = nodes })
    (found_silent fabric.nodes at smp (slice_get fabric.nodes at.node) request refl silent)
nodes_silent fabric at smp false request silent = ap (λ (nodes : List Node). record fabric { nodes = nodes })
    (nodes_stay fabric.nodes at smp (slice_get fabric.nodes at.node) (unasked smp request) refl)

-- ---- SMPs that ask the same change the same
ports_alike : (ports : List AdapterState) (number : ℕ) (one other : List ℕ) (found : Option AdapterState)
    → AsksSame one other → adapter_ports_after ports number other found ≡ adapter_ports_after ports number one found
unfolding adapter_after
ports_alike ports number one other None same = refl
ports_alike ports number one other (Some port) same = ap (slice_set ports (number - 1)) ((reads_alike adapter_gives adapter_set).held port one other same)

node_alike : (node : Node) (number : ℕ) (one other : List ℕ) → AsksSame one other → node_after node number other ≡ node_after node number one
unfolding node_after switch_after
node_alike (Switch held) number one other same = ap (λ (next : SwitchState). Switch next) ((reads_alike (switch_gives number) switch_set).held held one other same)
node_alike (Adapter ports) number one other same = ap (λ (all : List AdapterState). Adapter all) (ports_alike ports number one other (adapter_port ports number) same)

nodes_alike : (nodes : List Node) (at : PortRef) (one other : List ℕ) (found : Option Node) → AsksSame one other
    → nodes_after nodes at other found ≡ nodes_after nodes at one found
nodes_alike nodes at one other None same = refl
nodes_alike nodes at one other (Some node) same = ap (slice_set nodes at.node) (node_alike node at.port one other same)

-- ---- one node, and the nodes
other_port : (k number : ℕ) (none : Bool) (ports : List AdapterState) (port : AdapterState) → (k == 0) ≡ none → (number == 0) ≡ false → k ≢ number
    → (if none then None else slice_get (slice_set ports (number - 1) port) (k - 1)) ≡ (if none then None else slice_get ports (k - 1))
other_port k number true ports port first some other = refl
other_port k number false ports port first some other = get_other ports (number - 1) (k - 1) port (λ same. other (grind (arith, nat_tests, first, some, same)))

ports_change : (ports : List AdapterState) (number : ℕ) (smp : List ℕ) (found : Option AdapterState) (none : Bool)
    → (number == 0) ≡ none → slice_get ports (number - 1) ≡ found
    → AdapterChangesAtMost number smp ports (adapter_ports_after ports number smp (if none then None else found))
ports_change ports number smp found true first there =
    record { count = refl; others = λ k other. refl; asked = λ port is. absurd (let none : None ≡ Some port = rw first at is in cc) }
ports_change ports number smp None false first there =
    record { count = refl; others = λ k other. refl; asked = λ port is. absurd (let none : None ≡ Some port = rw (first, there) at is in cc) }
ports_change ports number smp (Some port) false first there =
    let next = adapter_after port smp in
    record {
      count = length-set ports (number - 1) next;
      others = λ k other. other_port k number (k == 0) ports next refl first other;
      asked = λ one is.
          let same : Some port ≡ Some one = rw (first, there) at is in
          let was : port ≡ one = cc in
          (next, rw first (get_written ports (number - 1) next port there), subst (λ (old : AdapterState). PortChangesAtMost old next smp) was (adapter_changes port smp));
    }

node_changes : (node : Node) (number : ℕ) (smp : List ℕ) → NodeChangesAtMost number smp node (node_after node number smp)
unfolding node_after
node_changes (Switch held) number smp = switch_changes held smp
node_changes (Adapter ports) number smp = ports_change ports number smp (slice_get ports (number - 1)) (number == 0) refl refl

nodes_change : (nodes : List Node) (at : PortRef) (smp : List ℕ) (found : Option Node)
    → slice_get nodes at.node ≡ found → NodesChangeAtMost at smp nodes (nodes_after nodes at smp found)
nodes_change nodes at smp None there =
    record { count = refl; others = λ place other. refl; asked = λ node is. absurd (let none : None ≡ Some node = sym there ∙ is in cc) }
nodes_change nodes at smp (Some node) there =
    let next = node_after node at.port smp in
    record {
      count = length-set nodes at.node next;
      others = λ place other. get_other nodes at.node place next other;
      asked = λ one is.
          let same : Some node ≡ Some one = sym there ∙ is in
          let was : node ≡ one = cc in
          (next, get_written nodes at.node next node there, subst (λ (old : Node). NodeChangesAtMost at.port smp old next) was (node_changes node at.port smp));
    }

-- ---- an exchange
walk_changes : (fabric : FabricState) (smp : List ℕ) (ends : List PortRef) → IsGood fabric → length smp ≡ 256
    → AllBelowBase 256 smp → walk_of fabric smp ≡ Some ends
    → NodesChangeAtMost (last_of fabric.manager ends) smp fabric.nodes (exchange_after fabric smp).nodes
walk_changes fabric smp ends good long below is =
    let at = last_of fabric.manager ends in
    let found = slice_get fabric.nodes at.node in
    let asks = (carried fabric smp ends good long below is).asks in
    rw (walk_after fabric smp ends is, nodes_alike fabric.nodes at smp (arrived ends smp) found asks) (nodes_change fabric.nodes at smp found refl)

-- what the reply, or its want, says
unanswered_by : (fabric : FabricState) (smp : List ℕ) (ends : List PortRef) (answer : Option (List ℕ))
    → walk_of fabric smp ≡ Some ends → reply_at fabric (last_of fabric.manager ends) (arrived ends smp) ≡ answer
    → option_map returned answer ≡ None → exchange_after fabric smp ≡ fabric
unanswered_by fabric smp ends None is silent none = walk_after fabric smp ends is ∙ nodes_silent fabric
    (last_of fabric.manager ends) (arrived ends smp) (is_request (arrived ends smp)) refl silent
unanswered_by fabric smp ends (Some answer) is silent none = cc

refused_by : (fabric : FabricState) (smp reply : List ℕ) (ends : List PortRef) (answer : Option (List ℕ))
    → IsGood fabric → length smp ≡ 256 → AllBelowBase 256 smp → walk_of fabric smp ≡ Some ends
    → reply_at fabric (last_of fabric.manager ends) (arrived ends smp) ≡ answer → option_map returned answer ≡ Some reply → field reply 33 15 ≢ 0
    → exchange_after fabric smp ≡ fabric
refused_by fabric smp reply ends None good long below is answers replied status = cc
refused_by fabric smp reply ends (Some answer) good long below is answers replied status =
    let carrier = carried fabric smp ends good long below is in
    let of_agent = replies fabric (last_of fabric.manager ends) (arrived ends smp) answer carrier.long good.holdings answers in
    let same : returned answer ≡ reply = cc in
    let kept : field reply 33 15 ≡ field answer 33 15 = ap (λ (one : List ℕ). field one 33 15) (sym same)
    ∙ returned_field answer 33 15 of_agent.below of_agent.long (omega arith) (inr (omega arith))
    (inl (omega arith)) in
    walk_after fabric smp ends is ∙ of_agent.refused (λ zero_is. status (kept ∙ zero_is))

no_set_by : (fabric : FabricState) (smp : List ℕ) (walked : Option (List PortRef)) → IsGood fabric → length smp ≡ 256
    → AllBelowBase 256 smp → walk_of fabric smp ≡ walked → is_set smp ≡ false → exchange_after fabric smp ≡ fabric
no_set_by fabric smp None good long below is no_set = no_walk_after fabric smp is
no_set_by fabric smp (Some ends) good long below is no_set =
    let at = last_of fabric.manager ends in
    let asks = (carried fabric smp ends good long below is).asks in
    walk_after fabric smp ends is
    ∙ ap (λ (nodes : List Node). record fabric { nodes = nodes })
    (nodes_stay fabric.nodes at (arrived ends smp) (slice_get fabric.nodes at.node)
    (unset (arrived ends smp) (asks.set ∙ no_set)) refl)

kept_by : (fabric next : FabricState) (smp : List ℕ) (walked : Option (List PortRef)) → walk_of fabric smp ≡ walked
    → next ≡ exchange_after fabric smp → (next.cables ≡ fabric.cables) × (next.manager ≡ fabric.manager)
kept_by fabric next smp None is after =
    let same = after ∙ no_walk_after fabric smp is in (ap (λ (one : FabricState). one.cables) same, ap (λ (one : FabricState). one.manager) same)
kept_by fabric next smp (Some ends) is after =
    let same = after ∙ walk_after fabric smp ends is in (ap (λ (one : FabricState). one.cables) same, ap (λ (one : FabricState). one.manager) same)

silent_by : (fabric : FabricState) (smp : List ℕ) (walked : Option (List PortRef)) → walk_of fabric smp ≡ walked
    → exchange_reply fabric smp ≡ None → exchange_after fabric smp ≡ fabric
silent_by fabric smp None is none = no_walk_after fabric smp is
silent_by fabric smp (Some ends) is none = unanswered_by fabric smp ends _ is refl (sym (walk_reply fabric smp ends is) ∙ none)

refusal_by : (fabric : FabricState) (smp reply : List ℕ) (walked : Option (List PortRef)) → IsGood fabric
    → length smp ≡ 256 → AllBelowBase 256 smp → walk_of fabric smp ≡ walked
    → exchange_reply fabric smp ≡ Some reply → field reply 33 15 ≢ 0 → exchange_after fabric smp ≡ fabric
refusal_by fabric smp reply None good long below is replied status = no_walk_after fabric smp is
refusal_by fabric smp reply (Some ends) good long below is replied status =
    refused_by fabric smp reply ends _ good long below is refl (sym (walk_reply fabric smp ends is) ∙ replied) status

pub exchanges_change : ExchangesChangeWhatTheyName
exchanges_change fabric smp good long below =
    let kept = kept_by fabric (exchange_after fabric smp) smp _ refl refl in
    record {
      cables = kept.0;
      manager = kept.1;
      no_walk = λ is. no_walk_after fabric smp is;
      nodes = λ ends is. walk_changes fabric smp ends good long below is;
      unanswered = λ none. silent_by fabric smp _ refl none;
      refused = λ reply replied status. refusal_by fabric smp reply _ good long below refl replied status;
      no_set = λ no_set. no_set_by fabric smp _ good long below refl no_set;
    }
