-- SwitchInfo that is read, changed and set again, and LinearFDBTop of all switches.
use Rattle.std.proofs.Common.{ℕ, ◌≡◌, ◌+◌, ◌<◌, ◌≤◌, ◌==◌, ◌||◌, ◌∙◌, ap, refl, sym, subst, Bool, true, false, if◌then◌else◌, List, map, length, take, replicate, slice_get, Option, Some, Result, Ok, Err, length-append, arith}
use Rattle.std.specs.Int.Digits.{AllBelowBase}
use Rattle.std.specs.List.{All, list_any}
use Rattle.std.specs.Option.{option_map_or}
use Rattle.std.proofs.lemmas.Bool.{eq-eqb, lt-ltb}
use Rattle.std.proofs.lemmas.List.{length-map, take_all}
use Rattle.std.proofs.lemmas.List.Folds.{list_any_more}
use Rattle.std.proofs.lemmas.Option.{get_or_from_slice_get, slice_get-get_or}
use Rattle.agent_rules.proofs.CarriedLemmas.{encoded_is_read}
use Rattle.attr_tables.specs.SwitchInfo.{switch_info, switch_info_bytes}
use Rattle.attr_tables.specs.declared.smp_attribute.SmpAttribute.TheVariants.{SwitchInfo as SwitchInfoAsked}
use Rattle.attr_tables.specs.declared.switch_info.SwitchInfo.{SwitchInfo}
use Rattle.lid_assign.specs.Lids.{AreLids, adapter_end, end_ports, switch_end}
use Rattle.mad_layout.specs.Layout.{Fits, Holds, put_all}
use Rattle.mad_layout.proofs.AlignedLemmas.{same_bit}
use Rattle.mad_layout.proofs.LayoutLemmas.{encoded_below, holds_put_all, zeros_below}
use Rattle.smp_wire.specs.FabricState.{FabricState, is_switch, is_switch_at}
use Rattle.smp_wire.specs.Get.{gives_along}
use Rattle.smp_wire.specs.Good.{IsGood, node_guid}
use Rattle.smp_wire.specs.Replies.{reported_for}
use Rattle.smp_wire.specs.declared.node.Node.{Node}
use Rattle.smp_wire.specs.declared.node.Node.TheVariants.{Switch, Adapter}
use Rattle.smp_wire.specs.declared.reply.ReplyFault.{ReplyFault}
use Rattle.switch_model.specs.Agent.{get as switch_gives, set as switch_set}
use Rattle.switch_model.specs.SwitchState.{SwitchState}
use Rattle.sweep.specs.Graph.{GraphState}
use Rattle.sweep.specs.OfFabric.{IsGraphOf, guid_at, nodes_of, switch_of}
use Rattle.sweep.specs.declared.graph.GraphPort.{GraphPort}
use Rattle.sweep.specs.declared.graph.GraphSwitch.{GraphSwitch}
use Rattle.sweep.proofs.FoundLemmas.{among_place, any_by}
use Rattle.table_push.specs.Fault.{compared}
use Rattle.table_push.specs.Nodes.{on_switch, switch_by, with_infos, with_switches}
use Rattle.table_push.specs.Ports.{change_wanted, changed, ports_pushed, set_top, with_top}
use Rattle.table_push.specs.Pushes.{LeadsToSwitch, Leaves, Stands}
use Rattle.table_push.specs.declared.fault.PushFault.{PushFault}
use Rattle.table_push.proofs.InfoLemmas.{put_over, put_own}
use Rattle.table_push.proofs.LawLemmas.{found_there, switch_at}
use Rattle.table_push.proofs.LeadLemmas.{SetsAt, SwitchThere, begins_as, ends_as, goes_on, good_switch, leads_on, switch_gives_then, switch_takes, switch_there}
use Rattle.table_push.proofs.NodeLemmas.{both_written, map_alike, none_written}
use Rattle.updn_routes.specs.Subnet.{RoutesState}

-- ---- what bytes hold is one SwitchInfo
pub info_is : (bytes : List ℕ) (a b : SwitchInfo) → Holds bytes (switch_info a) → Holds bytes (switch_info b) → a ≡ b
info_is bytes a b g h =
    let g1 = g.1.1.1.1.1.1.1.1 in
    let h1 = h.1.1.1.1.1.1.1.1 in
    let port_state_change = same_bit a.port_state_change b.port_state_change (g1.0 ∙ sym h1.0) in
    let inbound_enforcement_cap = same_bit a.inbound_enforcement_cap b.inbound_enforcement_cap (g1.1.1.1.0 ∙ sym h1.1.1.1.0) in
    let outbound_enforcement_cap = same_bit a.outbound_enforcement_cap b.outbound_enforcement_cap (g1.1.1.1.1.0 ∙ sym h1.1.1.1.1.0) in
    let filter_raw_inbound_cap = same_bit a.filter_raw_inbound_cap b.filter_raw_inbound_cap (g1.1.1.1.1.1.0 ∙ sym h1.1.1.1.1.1.0) in
    let filter_raw_outbound_cap = same_bit a.filter_raw_outbound_cap b.filter_raw_outbound_cap (g1.1.1.1.1.1.1.0 ∙ sym h1.1.1.1.1.1.1.0) in
    let enhanced_port0 = same_bit a.enhanced_port0 b.enhanced_port0 (g1.1.1.1.1.1.1.1.0 ∙ sym h1.1.1.1.1.1.1.1.0) in
    λ place. record {
      linear_fdb_cap = (g.0 ∙ sym h.0) place;
      random_fdb_cap = (g.1.0 ∙ sym h.1.0) place;
      multicast_fdb_cap = (g.1.1.0 ∙ sym h.1.1.0) place;
      linear_fdb_top = (g.1.1.1.0 ∙ sym h.1.1.1.0) place;
      default_port = (g.1.1.1.1.0 ∙ sym h.1.1.1.1.0) place;
      default_multicast_primary_port = (g.1.1.1.1.1.0 ∙ sym h.1.1.1.1.1.0) place;
      default_multicast_not_primary_port = (g.1.1.1.1.1.1.0 ∙ sym h.1.1.1.1.1.1.0) place;
      life_time_value = (g.1.1.1.1.1.1.1.0 ∙ sym h.1.1.1.1.1.1.1.0) place;
      port_state_change = port_state_change place;
      lids_per_port = (g1.1.0 ∙ sym h1.1.0) place;
      partition_enforcement_cap = (g1.1.1.0 ∙ sym h1.1.1.0) place;
      inbound_enforcement_cap = inbound_enforcement_cap place;
      outbound_enforcement_cap = outbound_enforcement_cap place;
      filter_raw_inbound_cap = filter_raw_inbound_cap place;
      filter_raw_outbound_cap = filter_raw_outbound_cap place;
      enhanced_port0 = enhanced_port0 place;
    }

info_holds : (info : SwitchInfo) → Fits (switch_info info) → Holds (switch_info_bytes info) (switch_info info)
unfolding switch_info_bytes
info_holds info fits = holds_put_all (replicate 64 0) (switch_info info) refl fits

-- what stands outside the fields of a SwitchInfo is 0 at a good agent
info_over : (held info : SwitchInfo) → Fits (switch_info held) → Fits (switch_info info) → put_all (switch_info_bytes held) (switch_info info) ≡ switch_info_bytes info
unfolding switch_info_bytes
info_over held info held_fits fits = put_over (replicate 64 0) (switch_info held) (switch_info info) refl refl held_fits fits (zeros_below 64)

top_fits : (lid : ℕ) (info : SwitchInfo) → lid < 512 → Fits (switch_info info) → Fits (switch_info (with_top lid info))
top_fits lid info small f = (f.0, (f.1.0, (f.1.1.0, (omega (arith, small), f.1.1.1.1))))

-- ---- one switch
gives_info : (held : SwitchState) (in_port : ℕ) → switch_gives in_port held SwitchInfoAsked 0 ≡ Ok (switch_info_bytes held.info)
unfolding switch_gives
gives_info held in_port = refl

given : (fabric : FabricState) (path : List ℕ) (guid : ℕ) → (here : SwitchThere fabric path guid)
    → gives_along fabric path SwitchInfoAsked 0 ≡ Some (Ok (switch_info_bytes here.held.info))
given fabric path guid here = rw (here.ends, here.there, gives_info here.held here.at.port) refl

takes_top : (held : SwitchState) (lid : ℕ) (bytes : List ℕ) → lid < 512 → length held.linear ≡ 512 → Fits (switch_info held.info)
    → bytes ≡ switch_info_bytes (with_top lid held.info) → switch_set held SwitchInfoAsked 0 bytes ≡ Ok (set_top lid held)
unfolding switch_set
takes_top held lid bytes small long fits same =
    rw (same, encoded_is_read.linear_fdb_top (with_top lid held.info) (top_fits lid held.info small fits), long, lt-ltb lid 512 small) refl

compares : (bytes : List ℕ) → AllBelowBase 256 bytes → compared SwitchInfoAsked bytes bytes ≡ bytes
unfolding compared
compares bytes small = put_own bytes 93 1 small

bytes_below : (info : SwitchInfo) → AllBelowBase 256 (switch_info_bytes info)
unfolding switch_info_bytes
bytes_below info = encoded_below (switch_info info) 64

same_bytes : (fabric : FabricState) (path bytes some : List ℕ) → gives_along fabric path SwitchInfoAsked 0 ≡ Some (Ok some)
    → Ok bytes ≡ reported_for (gives_along fabric path SwitchInfoAsked 0) → bytes ≡ some
same_bytes fabric path bytes some gives reports = same (reports ∙ ap reported_for gives)
  where
    same : ◌≡◌ {A = Result (List ℕ) ReplyFault} (Ok bytes) (Ok some) → bytes ≡ some
    same h = cc

-- it is reported, and no fault
pub no_refusal : (fabric : FabricState) (path : List ℕ) (guid : ℕ) (fault : ReplyFault) → LeadsToSwitch fabric path guid
    → Err fault ≡ reported_for (gives_along fabric path SwitchInfoAsked 0) → ⊥
no_refusal fabric path guid fault leads reports =
    let same = reports ∙ ap reported_for (given fabric path guid (switch_there fabric path guid leads)) in
    absurd (cc)

pub top_set : (fabric : FabricState) (stood left : Option FabricState) (result : Result (Unit {0}) PushFault) (path : List ℕ) (guid lid : ℕ)
    (bytes wanted : List ℕ) → IsGood fabric → stood ≡ Some fabric → LeadsToSwitch fabric path guid → lid < 512
    → Ok bytes ≡ reported_for (gives_along fabric path SwitchInfoAsked 0)
    → ((info : SwitchInfo) → Holds bytes (switch_info info) → wanted ≡ put_all bytes (switch_info (with_top lid info)))
    → SetsAt stood left result path SwitchInfoAsked 0 wanted → Leaves result left fabric (with_switches (on_switch guid (set_top lid)) fabric)
top_set fabric stood left result path guid lid bytes wanted good stands leads small reports is sets =
    let here = switch_there fabric path guid leads in
    let fine = good_switch fabric path guid good here in
    let are = same_bytes fabric path bytes (switch_info_bytes here.held.info) (given fabric path guid here) reports in
    let holds = subst (λ (some : List ℕ). Holds some (switch_info here.held.info)) (sym are) (info_holds here.held.info fine.info) in
    let wanted_is : wanted ≡ switch_info_bytes (with_top lid here.held.info) =
    is here.held.info holds ∙ ap (λ (some : List ℕ). put_all some (switch_info (with_top lid here.held.info))) are
    ∙ info_over here.held.info (with_top lid here.held.info) fine.info (top_fits lid here.held.info small fine.info) in
    sets fabric stands (with_switches (on_switch guid (set_top lid)) fabric) good
    (switch_takes fabric path guid (set_top lid) SwitchInfoAsked 0 wanted good here (takes_top here.held lid wanted small fine.linear.count fine.info wanted_is))
    (λ shape. record {
      bytes = wanted;
      given = switch_gives_then fabric path guid (set_top lid) SwitchInfoAsked 0 wanted good here
          (gives_info (set_top lid here.held) here.at.port ∙ ap (λ (some : List ℕ). Ok some) (sym wanted_is)) shape;
      same = compares wanted (subst (AllBelowBase 256) (sym wanted_is) (bytes_below (with_top lid here.held.info)));
    })

-- ---- all switches
-- the switches at the first places of the graph
abbrev pub top_before : ℕ → List GraphSwitch → ℕ → SwitchState → SwitchState
top_before lid switches guid held = if list_any (λ switch. switch.guid == guid) switches then set_top lid held else held

keeps_guid : (lid : ℕ) (switches : List GraphSwitch) (guid : ℕ) (held : SwitchState) → (top_before lid switches guid held).node_guid ≡ held.node_guid
keeps_guid lid switches guid held = by (list_any (λ switch. switch.guid == guid) switches)
  where
    by : (b : Bool) → (if b then set_top lid held else held).node_guid ≡ held.node_guid
    by true = refl
    by false = refl

one_more : (lid : ℕ) (held : SwitchState) (a b : Bool)
    → (if b then set_top lid (if a then set_top lid held else held) else (if a then set_top lid held else held)) ≡ (if (a || b) then set_top lid held else held)
one_more lid held true true = refl
one_more lid held true false = refl
one_more lid held false true = refl
one_more lid held false false = refl

-- what the Set at one switch is known to do
abbrev pub SetsTop : Option FabricState → Option FabricState → Result (Unit {0}) PushFault → List ℕ → ℕ → Type 0
SetsTop stood left result path lid =
    (fabric : FabricState) → stood ≡ Some fabric → (guid : ℕ) → IsGood fabric → LeadsToSwitch fabric path guid
    → Leaves result left fabric (with_switches (on_switch guid (set_top lid)) fabric)

pub top_along : (stood left : Option FabricState) (result : Result (Unit {0}) PushFault) (one other : List ℕ) (some lid : ℕ) → one ≡ other → some ≡ lid
    → SetsTop stood left result one some → SetsTop stood left result other lid
top_along stood left result one other some lid path same sets =
    subst (λ (n : ℕ). SetsTop stood left result other n) same (subst (λ (way : List ℕ). SetsTop stood left result way some) path sets)

pub tops_begin : (stood : Option FabricState) (fabric : FabricState) (lid : ℕ) (switches : List GraphSwitch) → stood ≡ Some fabric → IsGood fabric
    → Stands stood fabric (with_switches (top_before lid (take 0 switches)) fabric)
tops_begin stood fabric lid switches stands good = begins_as stood fabric _ stands good (none_written (top_before lid (take 0 switches)) fabric (λ guid held. refl))

pub tops_more : (stood left : Option FabricState) (result : Result (Unit {0}) PushFault) (fabric : FabricState) (lid place : ℕ) (switches : List GraphSwitch) (switch : GraphSwitch)
    → place < length switches → slice_get switches place ≡ Some switch → LeadsToSwitch fabric switch.path switch.guid
    → Stands stood fabric (with_switches (top_before lid (take place switches)) fabric)
    → SetsTop stood left result switch.path lid
    → Leaves result left fabric (with_switches (top_before lid (take (place + 1) switches)) fabric)
tops_more stood left result fabric lid place switches switch within there leads stands sets =
    let now = with_switches (top_before lid (take place switches)) fabric in
    let leaves = sets now stands.is switch.guid stands.good (leads_on fabric now switch.path switch.guid stands.shape leads) in
    let grown : (guid : ℕ) → list_any (λ one. one.guid == guid) (take (place + 1) switches) ≡ (list_any (λ one. one.guid == guid) (take place switches) || (switch.guid == guid)) =
    λ guid. list_any_more (λ one. one.guid == guid) switches place switch within
    ∙ ap (λ (one : GraphSwitch). list_any (λ other. other.guid == guid) (take place switches) || (one.guid == guid)) (get_or_from_slice_get switches place switch switch there) in
    goes_on result stood left fabric now _ _ stands leaves
    (both_written (on_switch switch.guid (set_top lid)) (top_before lid (take place switches)) (top_before lid (take (place + 1) switches)) fabric
    (keeps_guid lid (take place switches))
    (λ guid held. rw (grown guid) (one_more lid held (list_any (λ one. one.guid == guid) (take place switches)) (switch.guid == guid))))

-- no switch is left out
every_switch : (fabric : FabricState) (graph : GraphState) (node : ℕ) (held : SwitchState) → IsGraphOf graph fabric → slice_get fabric.nodes node ≡ Some (Switch held)
    → list_any (λ switch. switch.guid == held.node_guid) graph.switches ≡ true
every_switch fabric graph node held of there =
    let switch : is_switch_at fabric.nodes node ≡ true = ap (λ (o : Option Node). option_map_or is_switch o false) there in
    let at = among_place (nodes_of of.layout.found) node (of.layout.all node ∙ switch) in
    let found = found_there of.layout.found at.0 node at.1 in
    let stands : slice_get graph.switches at.0 ≡ Some (switch_of fabric found.0) =
    ap (λ (switches : List GraphSwitch). slice_get switches at.0) of.layout.switches ∙ switch_at fabric of.layout.found at.0 found.0 found.1 in
    any_by (λ (one : GraphSwitch). one.guid == held.node_guid) graph.switches at.0 (switch_of fabric found.0) stands
    (eq-eqb (guid_at fabric found.0.node) held.node_guid (ap (guid_at fabric) found.2 ∙ ap (λ (o : Option Node). option_map_or node_guid o 0) there))

record IsKnown (graph : GraphState) (node : Node) : Type 0 where
  known : (held : SwitchState) → node ≡ Switch held → list_any (λ switch. switch.guid == held.node_guid) graph.switches ≡ true

all_known : (fabric : FabricState) (graph : GraphState) → IsGraphOf graph fabric → All (IsKnown graph) fabric.nodes
all_known fabric graph of = λ i d within. record {
  known = λ held is. every_switch fabric graph i held of (slice_get-get_or fabric.nodes i d within ∙ ap (λ (node : Node). Some node) is);
}

pub tops_end : (stood : Option FabricState) (fabric : FabricState) (graph : GraphState) (lid count : ℕ) → IsGraphOf graph fabric → length graph.switches ≤ count
    → Stands stood fabric (with_switches (top_before lid (take count graph.switches)) fabric)
    → Leaves {X = Unit {0}} (Ok tt) stood fabric (with_switches (λ guid. set_top lid) fabric)
tops_end stood fabric graph lid count of all stands =
    ends_as stood fabric (with_switches (top_before lid (take count graph.switches)) fabric) _ stands
    (ap (λ (switches : List GraphSwitch). with_switches (top_before lid switches) fabric) (take_all count graph.switches all)
    ∙ ap (λ (nodes : List Node). record fabric { nodes = nodes })
    (map_alike (IsKnown graph) (switch_by (top_before lid graph.switches)) (switch_by (λ guid. set_top lid)) fabric.nodes (all_known fabric graph of) one))
  where
    one : (node : Node) → IsKnown graph node → switch_by (top_before lid graph.switches) node ≡ switch_by (λ guid. set_top lid) node
    one (Adapter ports) is = refl
    one (Switch held) is = ap (λ (b : Bool). Switch (if b then set_top lid held else held)) (is.known held refl)

-- ---- all of it
pub whole : (routes : RoutesState) (fabric : FabricState) (lid : ℕ) → lid ≡ length routes.lids
    → with_switches (λ guid. set_top lid) (with_infos (λ guid number. changed (change_wanted routes guid number)) fabric) ≡ ports_pushed routes fabric
whole routes fabric lid is =
    ap (λ (n : ℕ). with_switches (λ guid. set_top n) (with_infos (λ guid number. changed (change_wanted routes guid number)) fabric)) is

-- the greatest LID is the number of LIDs, which is that of end ports
pub greatest : (graph reported : GraphState) (switches : List GraphSwitch) (ports : List GraphPort) (lids : List ℕ) → AreLids (end_ports graph) lids → reported ≡ graph
    → switches ≡ reported.switches → ports ≡ reported.ports → length switches + length ports ≡ length lids
greatest graph reported switches ports lids are same switches_are ports_are =
    let count = length-append (map switch_end graph.switches) (map (adapter_end graph.manager) graph.ports) in
    let left = length-map graph.switches switch_end in
    let right = length-map graph.ports (adapter_end graph.manager) in
    omega (
      arith,
      are.count,
      count,
      left,
      right,
      ap length switches_are,
      ap length ports_are,
      ap (λ (g : GraphState). length g.switches) same,
      ap (λ (g : GraphState). length g.ports) same,
    )
