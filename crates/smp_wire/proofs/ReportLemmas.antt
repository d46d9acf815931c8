-- What a Get reports: its reply carries what is given.
use Rattle.std.proofs.Common.{ℕ, ◌≡◌, ◌==◌, ◌∙◌, ap, refl, sym, inl, inr, true, false, List, length, take, drop, slice_get, Option, Some, None, option_map, Result, Ok, Err, arith}
use Rattle.std.specs.Int.Digits.{AllBelowBase}
use Rattle.std.specs.Option.{option_and_then}
use Rattle.std.proofs.lemmas.List.{length-set}
use Rattle.fabric_parts.specs.Cable.{last_of}
use Rattle.mad_layout.specs.Bits.{field, number, put_field}
use Rattle.mad_layout.specs.MadStatus.{mad_status_code}
use Rattle.mad_layout.specs.declared.method.Method.{Method}
use Rattle.mad_layout.specs.declared.method.Method.TheVariants as method
use Rattle.mad_layout.specs.declared.status.MadStatus.{MadStatus}
use Rattle.mad_layout.proofs.AlignedLemmas.{byte_is_set, bytes_stand, field_aligned}
use Rattle.mad_layout.proofs.LayoutLemmas.{length-put_field}
use Rattle.attr_tables.specs.Attribute.{IsAttribute}
use Rattle.attr_tables.specs.SmpAttribute.{smp_attribute_code, smp_attribute_of}
use Rattle.attr_tables.specs.declared.smp_attribute.SmpAttribute.{SmpAttribute}
use Rattle.attr_tables.specs.declared.smp_attribute.SmpAttribute.TheVariants.{NodeDescription, NodeInfo, SwitchInfo, PortInfo, PKeyTable}
use Rattle.attr_tables.specs.declared.smp_attribute.SmpAttribute.TheVariants.{LinearForwardingTable, MulticastForwardingTable}
use Rattle.agent_rules.specs.Agent.{Getter, Setter, reply_of}
use Rattle.agent_rules.specs.Request.{attribute_asked, is_request, is_set, modifier_of, reply_method, reply_to}
use Rattle.agent_rules.proofs.CarryLemmas.{carries}
use Rattle.port_model.specs.AdapterState.{AdapterState}
use Rattle.port_model.specs.Agent.{agent_reply as adapter_reply, get as adapter_gives, set as adapter_set}
use Rattle.switch_model.specs.Agent.{agent_reply as switch_reply, get as switch_gives, set as switch_set}
use Rattle.fabric_parts.specs.declared.cable.PortRef.{PortRef}
use Rattle.smp_wire.specs.Laws.{GetsReport}
use Rattle.smp_wire.specs.declared.node.Node.{Node}
use Rattle.smp_wire.specs.declared.node.Node.TheVariants.{Switch, Adapter}
use Rattle.smp_wire.specs.FabricState.{FabricState, adapter_port, node_reply}
use Rattle.smp_wire.specs.Get.{Reads, gives_at, node_gives}
use Rattle.smp_wire.specs.Good.{IsGood}
use Rattle.smp_wire.specs.Replies.{answers, reported_by, reported_for, reported_of}
use Rattle.smp_wire.specs.Requests.{AsksFor, AsksToGet}
use Rattle.smp_wire.specs.Walk.{arrived, exchange_reply, returned, walk, walk_of}
use Rattle.smp_wire.proofs.ArrivalLemmas.{IsCarrier, put_below}
use Rattle.smp_wire.proofs.ChangeLemmas.{nodes_stay, unset}
use Rattle.smp_wire.proofs.GivenLemmas.{AreAttributes, attributes_given, nothing_given}
use Rattle.smp_wire.proofs.ReplyLemmas.{reply_below, reply_long, returned_field}
use Rattle.smp_wire.proofs.ReplyToLemmas.{answers_true, replies_answer}
use Rattle.smp_wire.proofs.WalkedLemmas.{carried, no_walk_after, no_walk_reply, walk_after, walk_reply}
use Rattle.mad_layout.proofs.StatusLemmas.{never_0}

-- ---- one agent: a Get changes nothing, and is answered by what is given
pub record IsGetOf (attribute : SmpAttribute) (modifier : ℕ) (smp : List ℕ) : Type 0 where
  pub request : is_request smp ≡ true
  pub set : is_set smp ≡ false
  pub asked_is : attribute_asked smp ≡ Ok attribute
  pub modifier_is : modifier_of smp ≡ modifier

replied_by : {S : Type 0} (getter : Getter S) (setter : Setter S) (held : S) (attribute : SmpAttribute) (modifier : ℕ) (smp : List ℕ)
    → IsGetOf attribute modifier smp
    → reply_of getter setter held smp ≡ Some (reply_to smp (getter held attribute modifier))
replied_by getter setter held attribute modifier smp asks = rw (asks.request, asks.asked_is, asks.set, asks.modifier_is) refl

adapter_replied : (port : Option AdapterState) (attribute : SmpAttribute) (modifier : ℕ) (smp : List ℕ) → IsGetOf attribute modifier smp
    → option_and_then (λ one. adapter_reply one smp) port ≡ option_map (λ given. reply_to smp given) (option_map (λ one. adapter_gives one attribute modifier) port)
unfolding adapter_reply
adapter_replied None attribute modifier smp asks = refl
adapter_replied (Some port) attribute modifier smp asks = replied_by adapter_gives adapter_set port attribute modifier smp asks

node_replied : (node : Node) (n : ℕ) (attribute : SmpAttribute) (modifier : ℕ) (smp : List ℕ) → IsGetOf attribute modifier smp
    → node_reply node n smp ≡ option_map (λ given. reply_to smp given) (node_gives node n attribute modifier)
unfolding node_reply switch_reply
node_replied (Switch held) n attribute modifier smp asks = replied_by (switch_gives n) switch_set held attribute modifier smp asks
node_replied (Adapter ports) n attribute modifier smp asks = adapter_replied (adapter_port ports n) attribute modifier smp asks

-- ---- the fabric
replied_at : (found : Option Node) (n : ℕ) (attribute : SmpAttribute) (modifier : ℕ) (smp : List ℕ) → IsGetOf attribute modifier smp
    → option_and_then (λ node. node_reply node n smp) found ≡ option_map (λ given. reply_to smp given) (option_and_then (λ node. node_gives node n attribute modifier) found)
replied_at None n attribute modifier smp asks = refl
replied_at (Some node) n attribute modifier smp asks = node_replied node n attribute modifier smp asks

-- ---- what an SMP asks that asks for an attribute
code_named : (attribute : SmpAttribute) → smp_attribute_of (smp_attribute_code attribute) ≡ Some attribute
code_named NodeDescription = refl
code_named NodeInfo = refl
code_named SwitchInfo = refl
code_named PortInfo = refl
code_named PKeyTable = refl
code_named LinearForwardingTable = refl
code_named MulticastForwardingTable = refl

pub get_asked : (attribute : SmpAttribute) (modifier : ℕ) (path smp : List ℕ) → AsksFor method.Get attribute modifier path smp
    → attribute_asked smp ≡ Ok attribute
unfolding attribute_asked
get_asked attribute modifier path smp asks = rw (asks.version, asks.method_is, asks.attribute_id, code_named attribute) refl

pub set_asked : (attribute : SmpAttribute) (modifier : ℕ) (path smp : List ℕ) → AsksFor method.Set attribute modifier path smp
    → attribute_asked smp ≡ Ok attribute
unfolding attribute_asked
set_asked attribute modifier path smp asks = rw (asks.version, asks.method_is, asks.attribute_id, code_named attribute) refl

pub carrier_gets : (attribute : SmpAttribute) (modifier : ℕ) (path sent smp : List ℕ)
    → AsksToGet attribute modifier path sent → IsCarrier sent smp → IsGetOf attribute modifier smp
carrier_gets attribute modifier path sent smp asks here = record {
  request = here.asks.request ∙ asks.request;
  set = here.asks.set ∙ ap (λ (method : ℕ). method == 2) asks.method_is;
  asked_is = here.asks.attribute ∙ get_asked attribute modifier path sent asks;
  modifier_is = here.asks.modifier ∙ asks.modifier_is;
}

-- ---- the answer as the subnet manager reads it
returned_below : (reply : List ℕ) → length reply ≡ 256 → AllBelowBase 256 (returned reply)
returned_below reply long =
    let wide : length (put_field reply 32 1 1) ≡ 256 = length-put_field reply 32 1 1 ∙ long in
    rw (byte_is_set (put_field reply 32 1 1) 6 0 (put_below reply 32 1 1) (omega (arith, wide)) (omega arith)) (put_below (put_field reply 32 1 1) 48 8 0)

returned_long : (reply : List ℕ) → length reply ≡ 256 → length (returned reply) ≡ 256
returned_long reply long = length-set (put_field reply 32 1 1) 6 0 ∙ length-put_field reply 32 1 1 ∙ long

-- what a reply with an attribute carries
record IsGiven (reply bytes : List ℕ) : Type 0 where
  status : field (returned reply) 33 15 ≡ 0
  data_is : take 64 (drop 64 (returned reply)) ≡ bytes

given_is : (smp bytes : List ℕ) → length smp ≡ 256 → IsAttribute bytes → IsGiven (reply_to smp (Ok bytes)) bytes
given_is smp bytes long is =
    let reply = reply_to smp (Ok bytes) in
    let wide : length reply ≡ 256 = reply_long smp (Ok bytes) long in
    let low : AllBelowBase 256 reply = reply_below smp (Ok bytes) in
    let encoded : number bytes ≡ field reply 512 512 = ap number (sym (carries.attribute smp bytes long is).attribute)
    ∙ field_aligned reply 64 64 512 512 low (omega (arith, wide)) refl refl in
    let there : number bytes ≡ field (returned reply) 512 512 = encoded
    ∙ sym (returned_field reply 512 512 low wide (omega arith) (inr (omega arith)) (inr (omega arith))) in
    record {
      status = returned_field reply 33 15 low wide (omega arith) (inr (omega arith)) (inl (omega arith)) ∙ (carries.attribute smp bytes long is).status;
      data_is = bytes_stand (returned reply) bytes 64 64 (returned_below reply wide) is.small (omega (arith, returned_long reply wide)) is.count there;
    }

read_given : (sent smp bytes : List ℕ) → length smp ≡ 256 → IsAttribute bytes → answers sent (returned (reply_to smp (Ok bytes))) ≡ true
    → reported_by sent (returned (reply_to smp (Ok bytes))) ≡ Ok bytes
unfolding reported_by
read_given sent smp bytes long is answering =
    let given = given_is smp bytes long is in
    rw (given.status, answering) (ap (λ (xs : List ℕ). Ok xs) given.data_is)

read_refused : (sent smp : List ℕ) (status : MadStatus) → length smp ≡ 256
    → reported_by sent (returned (reply_to smp (Err status))) ≡ reported_for (Some (Err status))
unfolding reported_by
read_refused sent smp status long =
    let reply = reply_to smp (Err status) in
    let wide : length reply ≡ 256 = reply_long smp (Err status) long in
    let code : field (returned reply) 33 15 ≡ mad_status_code status = returned_field reply 33 15
    (reply_below smp (Err status)) wide (omega arith) (inr (omega arith)) (inl (omega arith))
    ∙ (carries.refusal smp status long).code in
    rw (code, never_0 status) refl

-- ---- all of it
-- an SMP that is answered by a GetResp
pub record IsAsked (fabric : FabricState) (sent : List ℕ) : Type 0 where
  pub good : IsGood fabric
  pub method_is : reply_method sent ≡ 129
  pub long : length sent ≡ 256
  pub below : AllBelowBase 256 sent

pub reported_is : (fabric : FabricState) (sent smp : List ℕ) (given : Option (Result (List ℕ) MadStatus)) → IsAsked fabric sent
    → length smp ≡ 256 → AreAttributes given
    → exchange_reply fabric sent ≡ option_map returned (option_map (λ one. reply_to smp one) given) → reported_of fabric sent ≡ reported_for given
reported_is fabric sent smp None asked long are reply = rw reply refl
reported_is fabric sent smp (Some (Err status)) asked long are reply = rw reply (read_refused sent smp status long)
reported_is fabric sent smp (Some (Ok bytes)) asked long are reply =
    let to = replies_answer fabric sent (returned (reply_to smp (Ok bytes))) asked.good asked.long asked.below reply in
    rw reply (read_given sent smp bytes long (are bytes refl) (answers_true sent (returned (reply_to smp (Ok bytes))) asked.method_is to))

pub walk_is : (fabric : FabricState) (by : Method) (attribute : SmpAttribute) (modifier : ℕ) (path smp : List ℕ) → AsksFor by attribute modifier path smp
    → walk_of fabric smp ≡ walk fabric.nodes fabric.cables true fabric.manager path
walk_is fabric by attribute modifier path smp asks = rw (asks.sent, asks.path_is) refl

pub get_is_asked : (fabric : FabricState) (attribute : SmpAttribute) (modifier : ℕ) (path smp : List ℕ) → IsGood fabric
    → AsksToGet attribute modifier path smp → IsAsked fabric smp
get_is_asked fabric attribute modifier path smp good asks =
    record { good = good; method_is = rw asks.method_is refl; long = asks.long; below = asks.bytes }

by_walk : (fabric : FabricState) (attribute : SmpAttribute) (modifier : ℕ) (path smp : List ℕ) (walked : Option (List PortRef))
    → IsGood fabric → AsksToGet attribute modifier path smp
    → walk fabric.nodes fabric.cables true fabric.manager path ≡ walked
    → Reads fabric smp (option_and_then (λ at. gives_at fabric at attribute modifier) (option_map (last_of fabric.manager) walked))
by_walk fabric attribute modifier path smp None good asks is =
    let no = walk_is fabric method.Get attribute modifier path smp asks ∙ is in
    record {
      unchanged = no_walk_after fabric smp no;
      reported = reported_is fabric smp smp None (get_is_asked fabric attribute modifier path smp good asks) asks.long nothing_given (no_walk_reply fabric smp no);
    }
by_walk fabric attribute modifier path smp (Some ends) good asks is =
    let so = walk_is fabric method.Get attribute modifier path smp asks ∙ is in
    let carrier = carried fabric smp ends good asks.long asks.bytes so in
    let gets = carrier_gets attribute modifier path smp (arrived ends smp) asks carrier in
    let at = last_of fabric.manager ends in
    record {
      unchanged = walk_after fabric smp ends so ∙ (ap (λ (nodes : List Node). record fabric { nodes = nodes })
          (nodes_stay fabric.nodes at (arrived ends smp) (slice_get fabric.nodes at.node) (unset (arrived ends smp) gets.set) refl));
      reported = reported_is fabric smp (arrived ends smp) (gives_at fabric at attribute modifier)
          (get_is_asked fabric attribute modifier path smp good asks) carrier.long (attributes_given fabric at attribute modifier good.holdings)
          (walk_reply fabric smp ends so
          ∙ (ap (option_map returned) (replied_at (slice_get fabric.nodes at.node) at.port attribute modifier (arrived ends smp) gets)));
    }

pub gets_report : GetsReport
gets_report fabric attribute modifier path smp good asks =
    by_walk fabric attribute modifier path smp (walk fabric.nodes fabric.cables true fabric.manager path) good asks refl
