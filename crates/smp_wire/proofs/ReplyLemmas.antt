-- What the agents of a good fabric reply: the request with its method, its status and an attribute.
use Rattle.std.proofs.Common.{ℕ, ◌≡◌, ◌≢◌, ◌⊎◌, ◌+◌, ◌-◌, ◌≤◌, ◌==◌, ◌∙◌, ap, refl, subst, Bool, true, false, if◌then◌else◌, List, [], ◌∷◌, length}
use Rattle.std.proofs.Common.{slice_get, Option, Some, None, Result, Ok, Err, arith}
use Rattle.std.specs.Int.Digits.{AllBelowBase}
use Rattle.std.specs.List.{All}
use Rattle.std.specs.Option.{option_and_then}
use Rattle.mad_layout.specs.Bits.{field, number, put_field}
use Rattle.mad_layout.specs.Layout.{at}
use Rattle.mad_layout.specs.MadStatus.{mad_status_code}
use Rattle.mad_layout.specs.declared.status.MadStatus.{MadStatus}
use Rattle.mad_layout.proofs.AlignedLemmas.{byte_is_set}
use Rattle.mad_layout.proofs.LayoutLemmas.{field-put_apart, length-put_all, length-put_field}
use Rattle.step_results.specs.Steps.{◌>>=◌}
use Rattle.agent_rules.specs.Agent.{Getter, Setter, after, answer, changed, reply_of}
use Rattle.attr_tables.specs.Attribute.{IsAttribute}
use Rattle.agent_rules.specs.Request.{KeepsRest, attribute_asked, is_request, modifier_of, reply_method, reply_to}
use Rattle.attr_tables.specs.declared.smp_attribute.SmpAttribute.{SmpAttribute}
use Rattle.step_results.proofs.StepLemmas.{bind_ok}
use Rattle.agent_rules.proofs.AgentLemmas.{Shows, settled}
use Rattle.agent_rules.proofs.CarryLemmas.{carries}
use Rattle.port_model.specs.AdapterState.{AdapterState}
use Rattle.port_model.specs.Agent.{agent_reply as adapter_reply, agent_after as adapter_after, get as adapter_gives, set as adapter_set}
use Rattle.switch_model.specs.Agent.{agent_reply as switch_reply, agent_after as switch_after, get as switch_gives, set as switch_set}
use Rattle.port_model.proofs.AgentLemmas.{give_attributes as adapter_given, shows as adapter_shows, smps_keep_good as port_stays}
use Rattle.switch_model.proofs.AgentLemmas.{shows as switch_shows}
use Rattle.switch_model.proofs.GoodLemmas.{give_attributes as switch_given, smps_keep_good as switch_stays}
use Rattle.switch_model.specs.SwitchState.{SwitchState}
use Rattle.fabric_parts.specs.declared.cable.PortRef.{PortRef}
use Rattle.smp_wire.specs.declared.node.Node.{Node}
use Rattle.smp_wire.specs.declared.node.Node.TheVariants.{Switch, Adapter}
use Rattle.smp_wire.specs.FabricState.{FabricState, adapter_ports_after, after_at, node_after, node_reply, nodes_after, reply_at}
use Rattle.smp_wire.specs.Good.{IsGoodNode}
use Rattle.smp_wire.specs.Walk.{returned}
use Rattle.smp_wire.proofs.ArrivalLemmas.{put_below}
use Rattle.step_results.proofs.ElementLemmas.{set_back}
use Rattle.step_results.proofs.ListLemmas.{all_have}
use Rattle.agent_rules.specs.declared.power_up.TheConstants.{LINEAR_TABLE, MULTICAST_TABLE}
use Rattle.port_model.specs.Good.{IsGoodPort}
use Rattle.switch_model.specs.Good.{IsGoodSwitch}

pub reply_below : (smp : List ℕ) (given : Result (List ℕ) MadStatus) → AllBelowBase 256 (reply_to smp given)
unfolding reply_to
reply_below smp (Ok bytes) = put_below _ _ _ _
reply_below smp (Err status) = put_below _ _ _ _

pub reply_long : (smp : List ℕ) (given : Result (List ℕ) MadStatus) → length smp ≡ 256 → length (reply_to smp given) ≡ 256
unfolding reply_to
reply_long smp (Ok bytes) long = length-put_all smp (at 24 8 (reply_method smp) ∷ at 33 15 0 ∷ at 512 512 (number bytes) ∷ []) ∙ long
reply_long smp (Err status) long = length-put_all smp (at 24 8 (reply_method smp) ∷ at 33 15 (mad_status_code status) ∷ []) ∙ long

-- a field apart from the direction bit and the hop pointer
pub returned_field : (reply : List ℕ) (off len : ℕ) → AllBelowBase 256 reply → length reply ≡ 256 → off + len ≤ 2048
    → (off + len ≤ 32) ⊎ (33 ≤ off) → (off + len ≤ 48) ⊎ (56 ≤ off)
    → field (returned reply) off len ≡ field reply off len
returned_field reply off len below long within one two =
    let turned = put_field reply 32 1 1 in
    let wide : length turned ≡ 256 = length-put_field reply 32 1 1 ∙ long in
    ap (λ (xs : List ℕ). field xs off len) (byte_is_set turned 6 0 (put_below reply 32 1 1) (omega (arith, wide)) (omega arith))
    ∙ field-put_apart turned 48 8 0 off len (omega (arith, wide)) (omega (arith, wide, within)) (omega arith) two
    ∙ field-put_apart reply 32 1 1 off len (omega (arith, long)) (omega (arith, long, within)) (omega arith) one

-- where it is a refusal, what was asked stays as it was
pub record IsReply (request reply : List ℕ) (Stays : Type 0) : Type 0 where
  pub method_is : field reply 24 8 ≡ reply_method request
  pub keeps : KeepsRest request reply
  pub long : length reply ≡ 256
  pub below : AllBelowBase 256 reply
  pub refused : field reply 33 15 ≢ 0 → Stays

so_stays : {A B : Type 0} (request reply : List ℕ) → (A → B) → IsReply request reply A → IsReply request reply B
so_stays request reply so is = record { method_is = is.method_is; keeps = is.keeps; long = is.long; below = is.below; refused = λ status. so (is.refused status) }

is_reply : (smp : List ℕ) (given : Result (List ℕ) MadStatus) (Stays : Type 0) → length smp ≡ 256
    → ((bytes : List ℕ) → given ≡ Ok bytes → IsAttribute bytes) → ((status : MadStatus) → given ≡ Err status → Stays)
    → IsReply smp (reply_to smp given) Stays
is_reply smp (Ok bytes) Stays long are stays =
    record {
      method_is = (carries.attribute smp bytes long (are bytes refl)).method;
      keeps = (carries.attribute smp bytes long (are bytes refl)).rest;
      long = reply_long smp (Ok bytes)
          long;
      below = reply_below smp (Ok bytes);
      refused = λ status.
          absurd (status ((carries.attribute smp bytes long (are bytes refl)).status));
    }
is_reply smp (Err status) Stays long are stays =
    record {
      method_is = (carries.refusal smp status long).method;
      keeps = (carries.refusal smp status long).rest;
      long = reply_long smp (Err status) long;
      below = reply_below smp (Err status);
      refused = λ not_0. stays status refl;
    }

-- ---- one agent: what answers fills an attribute, where what is held afterwards does
after_is : {S : Type 0} (setter : Setter S) (held next : S) (attribute : SmpAttribute) (smp : List ℕ)
    → is_request smp ≡ true → attribute_asked smp ≡ Ok attribute → changed setter held attribute smp ≡ Ok next
    → after setter held smp ≡ next
after_is setter held next attribute smp request asked done = rw (request, asked, done) refl

encoded : {S : Type 0} (getter : Getter S) (setter : Setter S) (held : S) (smp bytes : List ℕ) (Holds : S → Type 0) → is_request smp ≡ true
    → ((next : S) (attribute : SmpAttribute) → Holds next → getter next attribute (modifier_of smp) ≡ Ok bytes → IsAttribute bytes)
    → Holds (after setter held smp) → answer getter setter held smp ≡ Ok bytes → IsAttribute bytes
encoded getter setter held smp bytes Holds request each holds h =
    let asked = bind_ok (attribute_asked smp) (λ attribute. changed setter held attribute smp >>= λ next. getter next attribute (modifier_of smp)) bytes h in
    let done = bind_ok (changed setter held asked.0 smp) (λ next. getter next asked.0 (modifier_of smp)) bytes asked.2 in
    each done.0 asked.0 (subst Holds (after_is setter held done.0 asked.0 smp request asked.1 done.1) holds) done.2

replied_if : {S : Type 0} (getter : Getter S) (setter : Setter S) (held : S) (smp reply : List ℕ) (request : Bool)
    → Shows getter setter → is_request smp ≡ request → length smp ≡ 256
    → (is_request smp ≡ true → (bytes : List ℕ) → answer getter setter held smp ≡ Ok bytes → IsAttribute bytes)
    → (if request then Some (reply_to smp (answer getter setter held smp)) else None) ≡ Some reply → IsReply smp reply (after setter held smp ≡ held)
replied_if getter setter held smp reply true shows request long are h =
    let same : reply_to smp (answer getter setter held smp) ≡ reply = cc in
    subst (λ (one : List ℕ). IsReply smp one (after setter held smp ≡ held)) same
    (is_reply smp (answer getter setter held smp) _ long (are request) (λ status refused. (settled getter setter shows).refused held smp status refused))
replied_if getter setter held smp reply false shows request long are h = cc

replied : {S : Type 0} (getter : Getter S) (setter : Setter S) (held : S) (smp reply : List ℕ) (Holds : S → Type 0)
    → Shows getter setter → length smp ≡ 256
    → ((next : S) (attribute : SmpAttribute) (bytes : List ℕ) → Holds next → getter next attribute (modifier_of smp) ≡ Ok bytes → IsAttribute bytes)
    → Holds (after setter held smp) → reply_of getter setter held smp ≡ Some reply → IsReply smp reply (after setter held smp ≡ held)
replied getter setter held smp reply Holds shows long each holds h =
    replied_if getter setter held smp reply (is_request smp) shows refl long
    (λ request bytes given. encoded getter setter held smp bytes Holds request (λ next attribute. each next attribute bytes) holds given) h

-- ---- an adapter, of which a port stays as it was
adapter_replies : (ports : List AdapterState) (number place : ℕ) (found : Option AdapterState) (smp reply : List ℕ)
    → number - 1 ≡ place → length smp ≡ 256 → All IsGoodPort ports → slice_get ports place ≡ found
    → option_and_then (λ port. adapter_reply port smp) found ≡ Some reply → IsReply smp reply (adapter_ports_after ports number smp found ≡ ports)
unfolding adapter_reply adapter_after
adapter_replies ports number place None smp reply at long all there h = cc
adapter_replies ports number place (Some port) smp reply at long all there h =
    let is = all_have IsGoodPort ports place port all there in
    so_stays smp reply (λ same. rw at (set_back ports place port _ there same))
    (replied adapter_gives adapter_set port smp reply IsGoodPort adapter_shows long
    (λ next attribute bytes holds given. adapter_given next attribute (modifier_of smp) bytes holds given) (port_stays port smp is) h)

port_replies : (none : Bool) (ports : List AdapterState) (number : ℕ) (smp reply : List ℕ) → length smp ≡ 256
    → All IsGoodPort ports → option_and_then (λ port. adapter_reply port smp) (if none then None else slice_get ports (number - 1)) ≡ Some reply
    → IsReply smp reply (adapter_ports_after ports number smp (if none then None else slice_get ports (number - 1)) ≡ ports)
port_replies true ports number smp reply long all h = cc
port_replies false ports number smp reply long all h = adapter_replies ports number (number - 1) (slice_get ports (number - 1)) smp reply refl long all refl h

-- ---- a node, and the node at a port
node_replies : (node : Node) (number : ℕ) (smp reply : List ℕ) → length smp ≡ 256 → IsGoodNode node
    → node_reply node number smp ≡ Some reply
    → IsReply smp reply (node_after node number smp ≡ node)
unfolding node_reply node_after switch_reply switch_after
node_replies (Switch held) number smp reply long is h =
    so_stays smp reply (λ same. ap (λ (one : SwitchState). Switch one) same)
    (replied (switch_gives number) switch_set held smp reply (IsGoodSwitch LINEAR_TABLE MULTICAST_TABLE) (switch_shows number) long
    (λ next attribute bytes holds given. switch_given LINEAR_TABLE MULTICAST_TABLE number next attribute (modifier_of smp) bytes holds given)
    (switch_stays LINEAR_TABLE MULTICAST_TABLE held smp is) h)
node_replies (Adapter ports) number smp reply long is h =
    so_stays smp reply (λ same. ap (λ (all : List AdapterState). Adapter all) same) (port_replies (number == 0) ports number smp reply long is h)

found_replies : (nodes : List Node) (at : PortRef) (found : Option Node) (smp reply : List ℕ) → length smp ≡ 256
    → All IsGoodNode nodes → slice_get nodes at.node ≡ found
    → option_and_then (λ node. node_reply node at.port smp) found ≡ Some reply → IsReply smp reply (nodes_after nodes at smp found ≡ nodes)
found_replies nodes at None smp reply long all there h = cc
found_replies nodes at (Some node) smp reply long all there h =
    so_stays smp reply (λ same. set_back nodes at.node node _ there same)
    (node_replies node at.port smp reply long (all_have IsGoodNode nodes at.node node all there) h)

pub replies : (fabric : FabricState) (at : PortRef) (smp reply : List ℕ) → length smp ≡ 256
    → All IsGoodNode fabric.nodes → reply_at fabric at smp ≡ Some reply
    → IsReply smp reply (after_at fabric at smp ≡ fabric)
replies fabric at smp reply long all h =
    so_stays smp reply (λ same. ap (λ (nodes : List Node). record fabric { nodes = nodes }) same)
    (found_replies fabric.nodes at (slice_get fabric.nodes at.node) smp reply long all refl h)
