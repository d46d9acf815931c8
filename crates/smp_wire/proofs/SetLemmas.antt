-- What a Set does and reports: what the agent at the end of its path takes.
use Rattle.std.proofs.Common.{ℕ, ◌≡◌, ◌-◌, ◌==◌, ◌∙◌, ap, refl, sym, Bool, true, false, List, slice_get, slice_set, Option, Some, None, option_map, Result, Ok, Err}
use Rattle.std.specs.Option.{option_and_then, option_map_or}
use Rattle.std.specs.Result.{result_unwrap_or}
use Rattle.mad_layout.specs.declared.method.Method.TheVariants as method
use Rattle.mad_layout.specs.declared.status.MadStatus.{MadStatus}
use Rattle.attr_tables.specs.declared.smp_attribute.SmpAttribute.{SmpAttribute}
use Rattle.step_results.specs.Steps.{◌>>=◌}
use Rattle.agent_rules.specs.Agent.{Getter, Setter, after, reply_of}
use Rattle.agent_rules.specs.Request.{attribute_asked, data_of, is_request, is_set, modifier_of, reply_to}
use Rattle.port_model.specs.AdapterState.{AdapterState}
use Rattle.port_model.specs.Agent.{agent_after as adapter_after, agent_reply as adapter_reply, get as adapter_gives, set as adapter_set}
use Rattle.port_model.proofs.AgentLemmas.{shows as adapter_shows}
use Rattle.switch_model.specs.Agent.{agent_after as switch_after, agent_reply as switch_reply, get as switch_gives, set as switch_set}
use Rattle.switch_model.specs.SwitchState.{SwitchState}
use Rattle.switch_model.proofs.AgentLemmas.{shows as switch_shows}
use Rattle.fabric_parts.specs.declared.cable.PortRef.{PortRef}
use Rattle.smp_wire.specs.Laws.{SetsReport}
use Rattle.smp_wire.specs.declared.node.Node.{Node}
use Rattle.smp_wire.specs.declared.node.Node.TheVariants.{Switch, Adapter}
use Rattle.smp_wire.specs.FabricState.{FabricState, adapter_port, node_after, node_reply, nodes_after, reply_at}
use Rattle.smp_wire.specs.Get.{gives_along, gives_at, node_gives}
use Rattle.smp_wire.specs.Good.{IsGood}
use Rattle.smp_wire.specs.Replies.{reported_for, reported_of}
use Rattle.smp_wire.specs.Requests.{AsksToSet}
use Rattle.smp_wire.specs.Set.{SetReports, node_takes, takes_along}
use Rattle.smp_wire.specs.Walk.{arrived, exchange_after, returned, walk}
use Rattle.smp_wire.proofs.ArrivalLemmas.{IsCarrier}
use Rattle.smp_wire.proofs.GivenLemmas.{AreAttributes, attributes_given, nothing_given}
use Rattle.smp_wire.proofs.KeptLemmas.{after_exchange, good, walk_same}
use Rattle.step_results.proofs.ElementLemmas.{get_written, set_back}
use Rattle.fabric_parts.specs.Cable.{last_of}
use Rattle.smp_wire.proofs.ReportLemmas.{IsAsked, set_asked, reported_is, walk_is}
use Rattle.smp_wire.proofs.WalkedLemmas.{carried, no_walk_after, no_walk_reply, walk_after, walk_reply}

-- ---- one agent
pub record IsSetOf (attribute : SmpAttribute) (modifier : ℕ) (wanted smp : List ℕ) : Type 0 where
  pub request : is_request smp ≡ true
  pub set : is_set smp ≡ true
  pub asked_is : attribute_asked smp ≡ Ok attribute
  pub modifier_is : modifier_of smp ≡ modifier
  pub data_is : data_of smp ≡ wanted

agent_replies : {S : Type 0} (getter : Getter S) (setter : Setter S) (held : S) (attribute : SmpAttribute) (modifier : ℕ) (wanted smp : List ℕ)
    → IsSetOf attribute modifier wanted smp
    → reply_of getter setter held smp ≡ Some (reply_to smp (setter held attribute modifier wanted >>= λ next. getter next attribute modifier))
agent_replies getter setter held attribute modifier wanted smp asks =
    rw (asks.request, asks.asked_is, asks.set, asks.modifier_is, asks.data_is) refl

agent_holds : {S : Type 0} (setter : Setter S) (held : S) (attribute : SmpAttribute) (modifier : ℕ) (wanted smp : List ℕ)
    → IsSetOf attribute modifier wanted smp
    → after setter held smp ≡ result_unwrap_or (setter held attribute modifier wanted) held
agent_holds setter held attribute modifier wanted smp asks =
    rw (asks.request, asks.asked_is, asks.set, asks.modifier_is, asks.data_is) refl

-- ---- one node: what it holds then, and what it answers
-- what it answers where this comes of the Set
abbrev pub taken_gives : ℕ → SmpAttribute → ℕ → Result Node MadStatus → Option (Result (List ℕ) MadStatus)
taken_gives n attribute modifier (Err status) = Some (Err status)
taken_gives n attribute modifier (Ok next) = node_gives next n attribute modifier

pub record NodeSet (node : Node) (n : ℕ) (attribute : SmpAttribute) (modifier : ℕ) (wanted smp : List ℕ) : Type 0 where
  pub reply : node_reply node n smp ≡ option_map (λ given. reply_to smp given)
      (option_and_then (taken_gives n attribute modifier) (node_takes node n attribute modifier wanted))
  pub holds : node_after node n smp ≡ option_map_or (λ taken. result_unwrap_or taken node) (node_takes node n attribute modifier wanted) node
  -- what is taken is shown
  pub shown : (next : Node) → node_takes node n attribute modifier wanted ≡ Some (Ok next)
      → (bytes : List ℕ) × (node_gives next n attribute modifier ≡ Some (Ok bytes))

switch_set_by : (held : SwitchState) (n : ℕ) (attribute : SmpAttribute) (modifier : ℕ) (wanted smp : List ℕ) (x : Result SwitchState MadStatus)
    → IsSetOf attribute modifier wanted smp → switch_set held attribute modifier wanted ≡ x
    → NodeSet (Switch held) n attribute modifier wanted smp
unfolding node_reply node_after switch_reply switch_after
switch_set_by held n attribute modifier wanted smp (Err status) asks is = record {
  reply = agent_replies (switch_gives n) switch_set held attribute modifier wanted smp asks ∙ rw is refl;
  holds = ap (λ (one : SwitchState). Switch one) (agent_holds switch_set held attribute modifier wanted smp asks) ∙ rw is refl;
  shown = λ next h. absurd (let none = rw is at h in cc);
}
switch_set_by held n attribute modifier wanted smp (Ok next) asks is = record {
  reply = agent_replies (switch_gives n) switch_set held attribute modifier wanted smp asks ∙ rw is refl;
  holds = ap (λ (one : SwitchState). Switch one) (agent_holds switch_set held attribute modifier wanted smp asks) ∙ rw is refl;
  shown = λ node h.
      let some : Some (Ok (Switch next)) ≡ Some (Ok node) = rw is at h in
      let same : Switch next ≡ node = cc in
      let bytes = switch_shows n held next attribute modifier wanted is in
      rw (sym same) (bytes.0, ap (λ (given : Result (List ℕ) MadStatus). Some given) bytes.1);
}

port_set_by : (ports : List AdapterState) (n : ℕ) (port : AdapterState) (attribute : SmpAttribute) (modifier : ℕ) (wanted smp : List ℕ) (x : Result AdapterState MadStatus)
    → IsSetOf attribute modifier wanted smp → (n == 0) ≡ false → slice_get ports (n - 1) ≡ Some port
    → adapter_set port attribute modifier wanted ≡ x → NodeSet (Adapter ports) n attribute modifier wanted smp
unfolding node_reply node_after adapter_reply adapter_after
port_set_by ports n port attribute modifier wanted smp (Err status) asks some there is = record {
  reply = rw (some, there) (agent_replies adapter_gives adapter_set port attribute modifier wanted smp asks ∙ rw is refl);
  holds = rw (some, there, is) (ap (λ (all : List AdapterState). Adapter all)
      (set_back ports (n - 1) port _ there (agent_holds adapter_set port attribute modifier wanted smp asks ∙ rw is refl)));
  shown = λ next h. absurd (let none = rw (some, there, is) at h in cc);
}
port_set_by ports n port attribute modifier wanted smp (Ok next) asks some there is =
    let again : slice_get (slice_set ports (n - 1) next) (n - 1) ≡ Some next = get_written ports (n - 1) next port there in
    record {
      reply = rw (some, there, is, some, again) (agent_replies adapter_gives adapter_set port attribute modifier wanted smp asks ∙ rw is refl);
      holds = rw (some, there, is) (ap (λ (one : AdapterState). Adapter (slice_set ports (n - 1) one))
          (agent_holds adapter_set port attribute modifier wanted smp asks ∙ rw is refl));
      shown = λ node h.
          let set : Some (Ok (Adapter (slice_set ports (n - 1) next))) ≡ Some (Ok node) = rw (some, there, is) at h in
          let same : Adapter (slice_set ports (n - 1) next) ≡ node = cc in
          let bytes = adapter_shows port next attribute modifier wanted is in
          rw (sym same, some, again) (bytes.0, ap (λ (given : Result (List ℕ) MadStatus). Some given) bytes.1);
    }

no_port : (ports : List AdapterState) (n : ℕ) (attribute : SmpAttribute) (modifier : ℕ) (wanted smp : List ℕ) → adapter_port ports n ≡ None
    → NodeSet (Adapter ports) n attribute modifier wanted smp
unfolding node_reply node_after
no_port ports n attribute modifier wanted smp none = record {
  reply = rw none refl;
  holds = rw none refl;
  shown = λ next h. absurd (let nothing = rw none at h in cc);
}

port_found : (ports : List AdapterState) (n : ℕ) (attribute : SmpAttribute) (modifier : ℕ) (wanted smp : List ℕ) (none : Bool) (found : Option AdapterState)
    → IsSetOf attribute modifier wanted smp → (n == 0) ≡ none → slice_get ports (n - 1) ≡ found
    → NodeSet (Adapter ports) n attribute modifier wanted smp
port_found ports n attribute modifier wanted smp true found asks first there = no_port ports n attribute modifier wanted smp (rw first refl)
port_found ports n attribute modifier wanted smp false None asks first there = no_port ports n attribute modifier wanted smp (rw (first, there) refl)
port_found ports n attribute modifier wanted smp false (Some port) asks first there =
    port_set_by ports n port attribute modifier wanted smp (adapter_set port attribute modifier wanted) asks first there refl

node_set : (node : Node) (n : ℕ) (attribute : SmpAttribute) (modifier : ℕ) (wanted smp : List ℕ) → IsSetOf attribute modifier wanted smp
    → NodeSet node n attribute modifier wanted smp
node_set (Switch held) n attribute modifier wanted smp asks =
    switch_set_by held n attribute modifier wanted smp (switch_set held attribute modifier wanted) asks refl
node_set (Adapter ports) n attribute modifier wanted smp asks =
    port_found ports n attribute modifier wanted smp (n == 0) (slice_get ports (n - 1)) asks refl refl

-- ---- the fabric, where the walk ends at a port
carrier_sets : (attribute : SmpAttribute) (modifier : ℕ) (path wanted sent smp : List ℕ)
    → AsksToSet attribute modifier path wanted sent → IsCarrier sent smp → IsSetOf attribute modifier wanted smp
carrier_sets attribute modifier path wanted sent smp set here = record {
  request = here.asks.request ∙ set.asks.request;
  set = here.asks.set ∙ ap (λ (method : ℕ). method == 2) set.asks.method_is;
  asked_is = here.asks.attribute ∙ set_asked attribute modifier path sent set.asks;
  modifier_is = here.asks.modifier ∙ set.asks.modifier_is;
  data_is = here.asks.attribute_is ∙ set.data_is;
}

-- the walk ends at this port
pub record Ends (fabric : FabricState) (path : List ℕ) (smp : List ℕ) (ends : List PortRef) : Type 0 where
  pub walked : walk fabric.nodes fabric.cables true fabric.manager path ≡ Some ends
  pub carrier : IsCarrier smp (arrived ends smp)
  pub holds : exchange_after fabric smp ≡ record fabric {
    nodes = nodes_after fabric.nodes (last_of fabric.manager ends) (arrived ends smp)
        (slice_get fabric.nodes (last_of fabric.manager ends).node);
  }
  pub reply : (given : Option (Result (List ℕ) MadStatus))
      → reply_at fabric (last_of fabric.manager ends) (arrived ends smp) ≡ option_map (λ one. reply_to (arrived ends smp) one) given
      → AreAttributes given → reported_of fabric smp ≡ reported_for given

reports_nothing : (fabric : FabricState) (attribute : SmpAttribute) (modifier : ℕ) (path wanted smp : List ℕ)
    → takes_along fabric path attribute modifier wanted ≡ None → exchange_after fabric smp ≡ fabric → reported_of fabric smp ≡ reported_for None
    → SetReports fabric path attribute modifier wanted smp
reports_nothing fabric attribute modifier path wanted smp none stays reported = record {
  after = stays ∙ rw none refl;
  reported = reported ∙ rw none refl;
  shown = λ next h. absurd (let nothing = sym none ∙ h in cc);
}

reports_refused : (fabric : FabricState) (attribute : SmpAttribute) (modifier : ℕ) (path wanted smp : List ℕ) (status : MadStatus)
    → takes_along fabric path attribute modifier wanted ≡ Some (Err status) → exchange_after fabric smp ≡ fabric
    → reported_of fabric smp ≡ reported_for (Some (Err status)) → SetReports fabric path attribute modifier wanted smp
reports_refused fabric attribute modifier path wanted smp status refused stays reported = record {
  after = stays ∙ rw refused refl;
  reported = reported ∙ rw refused refl;
  shown = λ next h. absurd (let other = sym refused ∙ h in cc);
}

reports_taken : (fabric next : FabricState) (attribute : SmpAttribute) (modifier : ℕ) (path wanted smp bytes : List ℕ)
    → takes_along fabric path attribute modifier wanted ≡ Some (Ok next) → exchange_after fabric smp ≡ next
    → gives_along next path attribute modifier ≡ Some (Ok bytes)
    → reported_of fabric smp ≡ Ok bytes → SetReports fabric path attribute modifier wanted smp
reports_taken fabric next attribute modifier path wanted smp bytes taken becomes given reported = record {
  after = becomes ∙ rw taken refl;
  reported = reported ∙ rw (taken, given) refl;
  shown = λ other h. (bytes, reported);
}

-- by what the node there takes
by_taken : (fabric : FabricState) (attribute : SmpAttribute) (modifier : ℕ) (path wanted smp : List ℕ) (ends : List PortRef) (node : Node) (taken : Option (Result Node MadStatus))
    → IsGood fabric → Ends fabric path smp ends → slice_get fabric.nodes (last_of fabric.manager ends).node ≡ Some node
    → NodeSet node (last_of fabric.manager ends).port attribute modifier wanted (arrived ends smp)
    → node_takes node (last_of fabric.manager ends).port attribute modifier wanted ≡ taken
    → SetReports fabric path attribute modifier wanted smp
by_taken fabric attribute modifier path wanted smp ends node None is_good here there set takes =
    let at = last_of fabric.manager ends in
    reports_nothing fabric attribute modifier path wanted smp (rw (here.walked, there, takes) refl)
    (here.holds ∙ rw there (ap (λ (nodes : List Node). record fabric { nodes = nodes })
    (set_back fabric.nodes at.node node _ there (set.holds ∙ rw takes refl))))
    (here.reply None (rw there (set.reply ∙ rw takes refl)) nothing_given)
by_taken fabric attribute modifier path wanted smp ends node (Some (Err status)) is_good here there set takes =
    let at = last_of fabric.manager ends in
    reports_refused fabric attribute modifier path wanted smp status (rw (here.walked, there, takes) refl)
    (here.holds ∙ rw there (ap (λ (nodes : List Node). record fabric { nodes = nodes })
    (set_back fabric.nodes at.node node _ there (set.holds ∙ rw takes refl))))
    (here.reply (Some (Err status)) (rw there (set.reply ∙ rw takes refl)) (λ bytes h. absurd (cc)))
by_taken fabric attribute modifier path wanted smp ends node (Some (Ok after)) is_good here there set takes =
    let at = last_of fabric.manager ends in
    let next : FabricState = record fabric { nodes = slice_set fabric.nodes at.node after } in
    let shown = set.shown after takes in
    let becomes : exchange_after fabric smp ≡ next = here.holds
    ∙ rw there (ap (λ (one : Node). record fabric { nodes = slice_set fabric.nodes at.node one }) (set.holds ∙ rw takes refl)) in
    let kept = walk_same fabric (exchange_after fabric smp) (after_exchange fabric smp) true fabric.manager path in
    let walked : walk next.nodes next.cables true next.manager path ≡ Some ends =
    ap (λ (one : FabricState). walk one.nodes one.cables true fabric.manager path) (sym becomes) ∙ kept ∙ here.walked in
    let again : slice_get (slice_set fabric.nodes at.node after) at.node ≡ Some after = get_written fabric.nodes at.node after node there in
    let given : gives_along next path attribute modifier ≡ Some (Ok shown.0) = rw (walked, again) shown.1 in
    let good_next : IsGood next = rw (sym becomes) (good fabric smp is_good) in
    let attributes : AreAttributes (gives_at next at attribute modifier) = attributes_given next at attribute modifier good_next.holdings in
    let given_there : gives_at next at attribute modifier ≡ Some (Ok shown.0) = rw again shown.1 in
    reports_taken fabric next attribute modifier path wanted smp shown.0 (rw (here.walked, there, takes) refl) becomes given
    (here.reply (Some (Ok shown.0)) (rw there (set.reply ∙ rw (takes, shown.1) refl)) (rw (sym given_there) attributes))

by_node : (fabric : FabricState) (attribute : SmpAttribute) (modifier : ℕ) (path wanted smp : List ℕ) (ends : List PortRef) (found : Option Node)
    → IsGood fabric → Ends fabric path smp ends → slice_get fabric.nodes (last_of fabric.manager ends).node ≡ found
    → IsSetOf attribute modifier wanted (arrived ends smp) → SetReports fabric path attribute modifier wanted smp
by_node fabric attribute modifier path wanted smp ends None is_good here there asks =
    reports_nothing fabric attribute modifier path wanted smp (rw (here.walked, there) refl) (here.holds ∙ rw there refl)
    (here.reply None (rw there refl) nothing_given)
by_node fabric attribute modifier path wanted smp ends (Some node) is_good here there asks =
    by_taken fabric attribute modifier path wanted smp ends node
    (node_takes node (last_of fabric.manager ends).port attribute modifier wanted) is_good here there
    (node_set node (last_of fabric.manager ends).port attribute modifier wanted (arrived ends smp) asks) refl

pub set_is_asked : (fabric : FabricState) (attribute : SmpAttribute) (modifier : ℕ) (path wanted smp : List ℕ) → IsGood fabric
    → AsksToSet attribute modifier path wanted smp → IsAsked fabric smp
set_is_asked fabric attribute modifier path wanted smp is_good set =
    record { good = is_good; method_is = rw set.asks.method_is refl; long = set.asks.long; below = set.asks.bytes }

by_walk : (fabric : FabricState) (attribute : SmpAttribute) (modifier : ℕ) (path wanted smp : List ℕ) (walked : Option (List PortRef))
    → IsGood fabric → AsksToSet attribute modifier path wanted smp → walk fabric.nodes fabric.cables true fabric.manager path ≡ walked
    → SetReports fabric path attribute modifier wanted smp
by_walk fabric attribute modifier path wanted smp None is_good set is =
    let no = walk_is fabric method.Set attribute modifier path smp set.asks ∙ is in
    let asked = set_is_asked fabric attribute modifier path wanted smp is_good set in
    reports_nothing fabric attribute modifier path wanted smp (rw is refl) (no_walk_after fabric smp no)
    (reported_is fabric smp smp None asked set.asks.long nothing_given (no_walk_reply fabric smp no))
by_walk fabric attribute modifier path wanted smp (Some ends) is_good set is =
    let so = walk_is fabric method.Set attribute modifier path smp set.asks ∙ is in
    let carrier = carried fabric smp ends is_good set.asks.long set.asks.bytes so in
    let asked = set_is_asked fabric attribute modifier path wanted smp is_good set in
    let here : Ends fabric path smp ends = record {
      walked = is;
      carrier = carrier;
      holds = walk_after fabric smp ends so;
      reply = λ given replied are. reported_is fabric smp (arrived ends smp) given asked carrier.long are
          (walk_reply fabric smp ends so ∙ ap (option_map returned) replied);
    } in
    by_node fabric attribute modifier path wanted smp ends (slice_get fabric.nodes (last_of fabric.manager ends).node) is_good here refl
    (carrier_sets attribute modifier path wanted smp (arrived ends smp) set carrier)

pub sets_report : SetsReport
sets_report fabric attribute modifier path wanted smp is_good set =
    by_walk fabric attribute modifier path wanted smp (walk fabric.nodes fabric.cables true fabric.manager path) is_good set refl
