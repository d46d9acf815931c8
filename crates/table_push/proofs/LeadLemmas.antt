-- Paths that lead to switches, and what a Set does there.
use Rattle.std.proofs.Common.{ℕ, zero, suc, ◌≡◌, ◌∙◌, ap, refl, sym, subst, true, false, List, [], ◌∷◌, map, slice_get, slice_set, Option, Some, None, Result, Ok, Err}
use Rattle.std.specs.Option.{option_map_or}
use Rattle.std.proofs.lemmas.Bool.{false≢true}
use Rattle.attr_tables.specs.declared.smp_attribute.SmpAttribute.{SmpAttribute}
use Rattle.fabric_parts.specs.declared.cable.PortRef.{PortRef}
use Rattle.step_results.proofs.ListLemmas.{all_have}
use Rattle.smp_wire.specs.FabricState.{FabricState, is_switch, is_switch_at}
use Rattle.smp_wire.specs.Get.{gives_along}
use Rattle.smp_wire.specs.Good.{IsGood, IsGoodNode, node_guid}
use Rattle.smp_wire.specs.Set.{takes_along}
use Rattle.smp_wire.specs.Shape.{IsSameShape}
use Rattle.smp_wire.specs.Walk.{end_of}
use Rattle.smp_wire.specs.declared.node.Node.{Node}
use Rattle.smp_wire.specs.declared.node.Node.TheVariants.{Switch, Adapter}
use Rattle.step_results.proofs.ElementLemmas.{get_written, or_same}
use Rattle.agent_rules.specs.declared.power_up.TheConstants.{LINEAR_TABLE, MULTICAST_TABLE}
use Rattle.switch_model.specs.Agent.{get as switch_gives, set as switch_set}
use Rattle.switch_model.specs.Good.{IsGoodSwitch}
use Rattle.switch_model.specs.SwitchState.{SwitchState}
use Rattle.sweep.specs.Graph.{GraphState}
use Rattle.sweep.specs.OfFabric.{Found, IsGraphOf, Leads, guid_at, nodes_of, switch_of}
use Rattle.sweep.specs.declared.graph.GraphSwitch.{GraphSwitch}
use Rattle.sweep.proofs.FoundLemmas.{among_at, node_there}
use Rattle.table_push.specs.Nodes.{on_switch, with_switches}
use Rattle.table_push.specs.Pushes.{Gives, LeadsToSwitch, Leaves, Stands}
use Rattle.table_push.specs.declared.fault.PushFault.{PushFault}
use Rattle.table_push.proofs.NodeLemmas.{written_there}

-- ---- as long as the shape stays
pub ends_on : (old new : FabricState) (path : List ℕ) (at : PortRef) → IsSameShape old new → end_of old path ≡ Some at → end_of new path ≡ Some at
ends_on old new path at same ends = rw (same.manager, same.walks true old.manager path) ends

pub leads_on : (old new : FabricState) (path : List ℕ) (guid : ℕ) → IsSameShape old new → LeadsToSwitch old path guid → LeadsToSwitch new path guid
leads_on old new path guid same leads = record {
  at = leads.at;
  ends = ends_on old new path leads.at same leads.ends;
  switch = or_same is_switch false old.nodes new.nodes leads.at.node same.switches ∙ leads.switch;
  guid_is = or_same node_guid 0 old.nodes new.nodes leads.at.node same.node_guids ∙ leads.guid_is;
}

pub same_shape : (one two three : FabricState) → IsSameShape one two → IsSameShape two three → IsSameShape one three
same_shape one two three first second = record {
  cables = second.cables ∙ first.cables;
  cut = second.cut ∙ first.cut;
  manager = second.manager ∙ first.manager;
  switches = second.switches ∙ first.switches;
  node_guids = second.node_guids ∙ first.node_guids;
  end_port_guids = second.end_port_guids ∙ first.end_port_guids;
  port_counts = second.port_counts ∙ first.port_counts;
  walks = λ starts here numbers. second.walks starts here numbers ∙ first.walks starts here numbers;
}

pub itself : (fabric : FabricState) → IsSameShape fabric fabric
itself fabric = record {
  cables = refl;
  cut = refl;
  manager = refl;
  switches = refl;
  node_guids = refl;
  end_port_guids = refl;
  port_counts = refl;
  walks = λ starts here numbers. refl;
}

-- ---- the switch there
pub record SwitchThere (fabric : FabricState) (path : List ℕ) (guid : ℕ) : Type 0 where
  pub at : PortRef
  pub held : SwitchState
  pub ends : end_of fabric path ≡ Some at
  pub there : slice_get fabric.nodes at.node ≡ Some (Switch held)
  pub guid_is : held.node_guid ≡ guid

pub switch_there : (fabric : FabricState) (path : List ℕ) (guid : ℕ) → LeadsToSwitch fabric path guid → SwitchThere fabric path guid
switch_there fabric path guid leads = by (slice_get fabric.nodes leads.at.node) refl
  where
    by : (found : Option Node) → slice_get fabric.nodes leads.at.node ≡ found → SwitchThere fabric path guid
    by None is = absurd (false≢true (ap (λ (o : Option Node). option_map_or is_switch o false) (sym is) ∙ leads.switch))
    by (Some (Adapter ports)) is = absurd (false≢true (ap (λ (o : Option Node). option_map_or is_switch o false) (sym is) ∙ leads.switch))
    by (Some (Switch held)) is = record {
      at = leads.at;
      held = held;
      ends = leads.ends;
      there = is;
      guid_is = ap (λ (o : Option Node). option_map_or node_guid o 0) (sym is) ∙ leads.guid_is;
    }

pub good_switch : (fabric : FabricState) (path : List ℕ) (guid : ℕ) → IsGood fabric → (here : SwitchThere fabric path guid)
    → IsGoodSwitch LINEAR_TABLE MULTICAST_TABLE here.held
good_switch fabric path guid good here = all_have IsGoodNode fabric.nodes here.at.node (Switch here.held) good.holdings here.there

-- ---- what a Set changes there
pub set_there : (fabric : FabricState) (path : List ℕ) (guid : ℕ) (change : SwitchState → SwitchState) → IsGood fabric
    → (here : SwitchThere fabric path guid)
    → with_switches (on_switch guid change) fabric ≡ record fabric { nodes = slice_set fabric.nodes here.at.node (Switch (change here.held)) }
set_there fabric path guid change good here =
    subst (λ (one : ℕ). with_switches (on_switch one change) fabric ≡ record fabric { nodes = slice_set fabric.nodes here.at.node (Switch (change here.held)) })
    here.guid_is
    (ap (λ (nodes : List Node). record fabric { nodes = nodes }) (written_there change fabric.nodes here.at.node here.held good.node_guids.own here.there))

takes_there : (fabric : FabricState) (path : List ℕ) (at : PortRef) (held after : SwitchState) (attribute : SmpAttribute) (modifier : ℕ) (wanted : List ℕ)
    → end_of fabric path ≡ Some at → slice_get fabric.nodes at.node ≡ Some (Switch held) → switch_set held attribute modifier wanted ≡ Ok after
    → takes_along fabric path attribute modifier wanted ≡ Some (Ok (record fabric { nodes = slice_set fabric.nodes at.node (Switch after) }))
takes_there fabric path at held after attribute modifier wanted ends there set = rw (ends, there, set) refl

pub switch_takes : (fabric : FabricState) (path : List ℕ) (guid : ℕ) (change : SwitchState → SwitchState) (attribute : SmpAttribute) (modifier : ℕ)
    (wanted : List ℕ) → IsGood fabric → (here : SwitchThere fabric path guid) → switch_set here.held attribute modifier wanted ≡ Ok (change here.held)
    → takes_along fabric path attribute modifier wanted ≡ Some (Ok (with_switches (on_switch guid change) fabric))
switch_takes fabric path guid change attribute modifier wanted good here set =
    takes_there fabric path here.at here.held (change here.held) attribute modifier wanted here.ends here.there set
    ∙ ap (λ (next : FabricState). Some (Ok next)) (sym (set_there fabric path guid change good here))

gives_there : (next : FabricState) (path bytes : List ℕ) (at : PortRef) (after : SwitchState) (attribute : SmpAttribute) (modifier : ℕ)
    → end_of next path ≡ Some at → slice_get next.nodes at.node ≡ Some (Switch after) → switch_gives at.port after attribute modifier ≡ Ok bytes
    → gives_along next path attribute modifier ≡ Some (Ok bytes)
gives_there next path bytes at after attribute modifier ends there gives = rw (ends, there, gives) refl

pub switch_gives_then : (fabric : FabricState) (path : List ℕ) (guid : ℕ) (change : SwitchState → SwitchState) (attribute : SmpAttribute) (modifier : ℕ)
    (bytes : List ℕ) → IsGood fabric → (here : SwitchThere fabric path guid)
    → switch_gives here.at.port (change here.held) attribute modifier ≡ Ok bytes
    → IsSameShape fabric (with_switches (on_switch guid change) fabric)
    → gives_along (with_switches (on_switch guid change) fabric) path attribute modifier ≡ Some (Ok bytes)
switch_gives_then fabric path guid change attribute modifier bytes good here gives same =
    let next = with_switches (on_switch guid change) fabric in
    let nodes_are : next.nodes ≡ slice_set fabric.nodes here.at.node (Switch (change here.held)) =
    ap (λ (one : FabricState). one.nodes) (set_there fabric path guid change good here) in
    let there : slice_get next.nodes here.at.node ≡ Some (Switch (change here.held)) =
    ap (λ (nodes : List Node). slice_get nodes here.at.node) nodes_are
    ∙ get_written fabric.nodes here.at.node (Switch (change here.held)) (Switch here.held) here.there in
    gives_there next path bytes here.at (change here.held) attribute modifier
    (ends_on fabric next path here.at same here.ends) there gives

-- ---- the switches of a graph
pub found_at_place : (fabric : FabricState) (found : List Found) (place : ℕ) (switch : GraphSwitch)
    → slice_get (map (switch_of fabric) found) place ≡ Some switch → (one : Found) × (slice_get found place ≡ Some one) × (switch ≡ switch_of fabric one)
found_at_place fabric [] place switch there = absurd (cc)
found_at_place fabric (one ∷ found) zero switch there = (one, refl, cc)
found_at_place fabric (one ∷ found) (suc place) switch there = found_at_place fabric found place switch there

pub graph_leads : (fabric : FabricState) (graph : GraphState) (place : ℕ) (switch : GraphSwitch) → IsGraphOf graph fabric
    → slice_get graph.switches place ≡ Some switch → LeadsToSwitch fabric switch.path switch.guid
graph_leads fabric graph place switch of there =
    let at = found_at_place fabric of.layout.found place switch (ap (λ (switches : List GraphSwitch). slice_get switches place) (sym of.layout.switches) ∙ there) in
    let leads = all_have (Leads fabric) of.layout.found place at.0 of.lead at.1 in
    let among = among_at (nodes_of of.layout.found) place at.0.node (node_there of.layout.found place at.0 at.1) in
    let is : is_switch_at fabric.nodes at.0.node ≡ true = sym (of.layout.all at.0.node) ∙ among in
    subst (λ (one : GraphSwitch). LeadsToSwitch fabric one.path one.guid) (sym at.2)
    (record {
      at = leads.at;
      ends = leads.ends;
      switch = ap (λ (node : ℕ). is_switch_at fabric.nodes node) leads.node ∙ is;
      guid_is = ap (guid_at fabric) leads.node;
    })

-- ---- from one fabric to the next
pub goes_on : (result : Result (Unit {0}) PushFault) (stood left : Option FabricState) (was now next after : FabricState)
    → Stands stood was now → Leaves result left now next → next ≡ after → Leaves result left was after
goes_on result stood left was now next after stands leaves same =
    subst (Leaves result left was) same (record {
      done = leaves.done;
      stands = record { is = leaves.stands.is; good = leaves.stands.good; shape = same_shape was now next stands.shape leaves.stands.shape };
    })

pub begins_as : (stood : Option FabricState) (fabric same : FabricState) → stood ≡ Some fabric → IsGood fabric → same ≡ fabric → Stands stood fabric same
begins_as stood fabric same is good equal =
    subst (Stands stood fabric) (sym equal) (record { is = is; good = good; shape = itself fabric })

pub ends_as : (stood : Option FabricState) (was now same : FabricState) → Stands stood was now → now ≡ same
    → Leaves {X = Unit {0}} (Ok tt) stood was same
ends_as stood was now same stands equal = record { done = refl; stands = subst (Stands stood was) equal stands }

-- what one Set is known to do, over whatever a wire stands for
abbrev pub SetsAt : Option FabricState → Option FabricState → Result (Unit {0}) PushFault → List ℕ → SmpAttribute → ℕ → List ℕ → Type 0
SetsAt stood left result path attribute modifier wanted =
    (fabric : FabricState) → stood ≡ Some fabric → (next : FabricState) → IsGood fabric
    → takes_along fabric path attribute modifier wanted ≡ Some (Ok next)
    → (IsSameShape fabric next → Gives next path attribute modifier wanted)
    → Leaves result left fabric next

-- a fault is none where it is done
pub no_fault : {X : Type 0} (fault : PushFault) (left : Option FabricState) (was next : FabricState) → Leaves {X = X} (Err fault) left was next → ⊥
no_fault fault left was next leaves = false≢true leaves.done
