-- Whether a port of a switch has a cable is what its PortInfo reports.
use Rattle.std.proofs.Common.{ℕ, ◌≡◌, ◌∙◌, ◌^◌, ◌<◌, ◌≤◌, ◌==◌, ◌&&◌, ap, refl, sym, not, nat_le, Bool, true, false, List, length, replicate, get_or}
use Rattle.std.proofs.Common.{slice_get, Option, Some, None, Result, Ok, Err, ◌⊎◌, inl, inr, arith}
use Rattle.std.specs.Option.{option_and_then, option_map_or}
use Rattle.std.proofs.lemmas.Option.{slice_get_cases}
use Rattle.step_results.proofs.BoolLemmas.{not_twice}
use Rattle.mad_layout.specs.Layout.{Fits, Holds}
use Rattle.mad_layout.specs.declared.status.MadStatus.{MadStatus}
use Rattle.mad_layout.proofs.LayoutLemmas.{holds_put_all}
use Rattle.fabric_parts.specs.Cable.{is_cabled, port}
use Rattle.fabric_parts.specs.declared.cable.PortRef.{PortRef}
use Rattle.attr_tables.specs.declared.port_info.PortInfo.{PortInfo}
use Rattle.attr_tables.specs.declared.smp_attribute.SmpAttribute.TheVariants.{PortInfo as LinkAsked}
use Rattle.attr_tables.specs.PortInfo.{port_info, port_info_bytes}
use Rattle.agent_rules.specs.Agent.{shown_at}
use Rattle.agent_rules.specs.PortSetting.{is_down}
use Rattle.switch_model.specs.Agent.{get as switch_gives}
use Rattle.switch_model.specs.SwitchState.{SwitchState, num_ports}
use Rattle.switch_model.specs.declared.switch_port.SwitchPort.{SwitchPort}
use Rattle.smp_wire.specs.declared.node.Node.{Node}
use Rattle.smp_wire.specs.declared.node.Node.TheVariants.{Switch, Adapter}
use Rattle.smp_wire.specs.FabricState.{FabricState, is_port, is_switch, is_switch_at, port_count}
use Rattle.smp_wire.specs.Get.{gives_along, gives_at, node_gives}
use Rattle.smp_wire.specs.Good.{IsGood, ShowsLinks, info_at}
use Rattle.smp_wire.specs.Replies.{reported_for}
use Rattle.smp_wire.specs.Walk.{end_of}
use Rattle.smp_wire.proofs.ArrivalLemmas.{port_small}
use Rattle.smp_wire.proofs.PortLemmas.{ports_are_good}
use Rattle.sweep.specs.Fault.{heard}
use Rattle.sweep.specs.declared.fault.SweepFault.{SweepFault}
use Rattle.sweep.proofs.EndLemmas.{end_port}
use Rattle.sweep.proofs.ShownLemmas.{count_within}

-- ---- PortInfo that is written is read again, by whatever port it was asked
shown_fits : (info : PortInfo) (n : ℕ) → n < 2 ^ 8 → Fits (port_info info) → Fits (port_info (shown_at n info))
shown_fits info n small f =
    (f.0, (f.1.0, (f.1.1.0, (f.1.1.1.0, (f.1.1.1.1.0, (f.1.1.1.1.1.0, (f.1.1.1.1.1.1.0, (small, f.1.1.1.1.1.1.1.1))))))))

pub info_holds : (info : PortInfo) → Fits (port_info info) → Holds (port_info_bytes info) (port_info info)
unfolding port_info_bytes
info_holds info fits = holds_put_all (replicate 64 0) (port_info info) refl fits

same_state : (bytes : List ℕ) (read info : PortInfo) → Holds bytes (port_info read) → Holds bytes (port_info info) → read.port_state ≡ info.port_state
same_state bytes read info r i = r.1.1.1.1.1.1.1.1.1.1.1.1.0 ∙ sym i.1.1.1.1.1.1.1.1.1.1.1.1.0

-- given are bytes, which are read as a port that is Down or is not
pub record Links (given : Option (Result (List ℕ) MadStatus)) (down : Bool) : Type 0 where
  pub bytes : List ℕ
  pub gives : given ≡ Some (Ok bytes)
  pub reads : (read : PortInfo) → Holds bytes (port_info read) → is_down read ≡ down

port_links : (held : SwitchState) (in_port number : ℕ) (one : SwitchPort) → slice_get held.ports number ≡ Some one
    → Fits (port_info one.info) → in_port < 2 ^ 8 → Links (node_gives (Switch held) in_port LinkAsked number) (is_down one.info)
unfolding switch_gives
port_links held in_port number one there fits small =
    let info = shown_at in_port one.info in
    record {
      bytes = port_info_bytes info;
      gives = rw there refl;
      reads = λ read holds. ap (λ (state : ℕ). state == 1) (same_state (port_info_bytes info) read info holds (info_holds info (shown_fits one.info in_port small fits)));
    }

switch_links : (fabric : FabricState) (at : PortRef) (number : ℕ) (held : SwitchState) → IsGood fabric → ShowsLinks fabric
    → slice_get fabric.nodes at.node ≡ Some (Switch held) → is_port fabric.nodes (port at.node number) ≡ true → at.port < 256
    → ((one : SwitchPort) × (number < length held.ports) × (slice_get held.ports number ≡ Some one)) ⊎ (length held.ports ≤ number)
    → 1 ≤ number → number ≤ num_ports held
    → Links (node_gives (Switch held) at.port LinkAsked number) (not (is_cabled fabric.cables (port at.node number)))
switch_links fabric at number held good links there is_there small (inr past) first last = absurd (omega (arith, past, first, last))
switch_links fabric at number held good links there is_there small (inl here) first last =
    let one = here.0 in
    let info : info_at fabric (port at.node number) ≡ Some one.info = rw (there, here.2) refl in
    let fits = (ports_are_good fabric (port at.node number) one.info good info).fits in
    let given = port_links held at.port number one here.2 fits small in
    let down = links (port at.node number) one.info is_there info in
    record { bytes = given.bytes; gives = given.gives; reads = λ read holds. given.reads read holds ∙ down }

short_cases : (ports : List SwitchPort) (number : ℕ)
    → ((one : SwitchPort) × (number < length ports) × (slice_get ports number ≡ Some one)) ⊎ (length ports ≤ number)
short_cases ports number = by (slice_get_cases ports number).1
  where
    by : ((x : SwitchPort) × (number < length ports) × (slice_get ports number ≡ Some x) × (get_or ports number x ≡ x))
        ⊎ ((length ports ≤ number) × (slice_get ports number ≡ None))
        → ((one : SwitchPort) × (number < length ports) × (slice_get ports number ≡ Some one)) ⊎ (length ports ≤ number)
    by (inl here) = inl (here.0, here.1, here.2)
    by (inr past) = inr past.0

found_links : (fabric : FabricState) (at : PortRef) (number : ℕ) (found : Option Node) → IsGood fabric → ShowsLinks fabric
    → slice_get fabric.nodes at.node ≡ found → option_map_or is_switch found false ≡ true
    → is_port fabric.nodes (port at.node number) ≡ true → nat_le 1 number && nat_le number (option_map_or port_count found 0) ≡ true → at.port < 256
    → Links (option_and_then (λ node. node_gives node at.port LinkAsked number) found) (not (is_cabled fabric.cables (port at.node number)))
found_links fabric at number None good links there switch is_there within small = absurd (cc)
found_links fabric at number (Some (Adapter ports)) good links there switch is_there within small = absurd (cc)
found_links fabric at number (Some (Switch held)) good links there switch is_there within small =
    let so = count_within number (num_ports held) within in
    switch_links fabric at number held good links there is_there small (short_cases held.ports number) so.0 so.1

pub gives_link : (fabric : FabricState) (at : PortRef) (number : ℕ) → IsGood fabric → ShowsLinks fabric
    → is_port fabric.nodes at ≡ true → is_switch_at fabric.nodes at.node ≡ true → is_port fabric.nodes (port at.node number) ≡ true
    → Links (gives_at fabric at LinkAsked number) (not (is_cabled fabric.cables (port at.node number)))
gives_link fabric at number good links from switch is_there =
    found_links fabric at number (slice_get fabric.nodes at.node) good links refl switch is_there is_there
    (port_small fabric.nodes at good.counts from)

-- ---- along a path
abbrev reported_bytes : List ℕ → Result (List ℕ) SweepFault
reported_bytes bytes = Ok bytes

abbrev reported_fault : SweepFault → Result (List ℕ) SweepFault
reported_fault fault = Err fault

same_Ok : (a b : List ℕ) → reported_bytes a ≡ reported_bytes b → a ≡ b
same_Ok a b h = cc

given_along : (fabric : FabricState) (at : PortRef) (path : List ℕ) (number : ℕ) (reported : Result (List ℕ) SweepFault) → end_of fabric path ≡ Some at
    → reported ≡ heard (reported_for (gives_along fabric path LinkAsked number)) → reported ≡ heard (reported_for (gives_at fabric at LinkAsked number))
given_along fabric at path number reported ends is =
    is ∙ ap (λ (ended : Option PortRef). heard (reported_for (option_and_then (λ one. gives_at fabric one LinkAsked number) ended))) ends

pub linked : (fabric : FabricState) (at : PortRef) (path bytes : List ℕ) (number : ℕ) (read : PortInfo) → IsGood fabric → ShowsLinks fabric
    → end_of fabric path ≡ Some at → is_switch_at fabric.nodes at.node ≡ true → is_port fabric.nodes (port at.node number) ≡ true
    → reported_bytes bytes ≡ heard (reported_for (gives_along fabric path LinkAsked number)) → Holds bytes (port_info read)
    → not (is_down read) ≡ is_cabled fabric.cables (port at.node number)
linked fabric at path bytes number read good links ends switch is_there reported holds =
    let given = gives_link fabric at number good links (end_port fabric path at good ends) switch is_there in
    let so = given_along fabric at path number (reported_bytes bytes) ends reported in
    let same : bytes ≡ given.bytes = same_Ok bytes given.bytes (so ∙ ap (λ (one : Option (Result (List ℕ) MadStatus)). heard (reported_for one)) given.gives) in
    ap not (given.reads read (rw (sym same) holds)) ∙ not_twice (is_cabled fabric.cables (port at.node number))

pub not_linked : (fabric : FabricState) (at : PortRef) (path : List ℕ) (number : ℕ) (fault : SweepFault) → IsGood fabric → ShowsLinks fabric
    → end_of fabric path ≡ Some at → is_switch_at fabric.nodes at.node ≡ true → is_port fabric.nodes (port at.node number) ≡ true
    → reported_fault fault ≡ heard (reported_for (gives_along fabric path LinkAsked number)) → ⊥
not_linked fabric at path number fault good links ends switch is_there reported =
    let given = gives_link fabric at number good links (end_port fabric path at good ends) switch is_there in
    let so = given_along fabric at path number (reported_fault fault) ends reported ∙ ap (λ (one : Option (Result (List ℕ) MadStatus)). heard (reported_for one)) given.gives in
    absurd (cc)

-- by the code of Down
pub link_reported : (fabric : FabricState) (at : PortRef) (path bytes : List ℕ) (number code : ℕ) (read : PortInfo) → code ≡ 1 → IsGood fabric → ShowsLinks fabric
    → end_of fabric path ≡ Some at → is_switch_at fabric.nodes at.node ≡ true → is_port fabric.nodes (port at.node number) ≡ true
    → reported_bytes bytes ≡ heard (reported_for (gives_along fabric path LinkAsked number)) → Holds bytes (port_info read)
    → not (read.port_state == code) ≡ is_cabled fabric.cables (port at.node number)
link_reported fabric at path bytes number code read is good links ends switch is_there reported holds =
    ap (λ (state : ℕ). not (read.port_state == state)) is ∙ linked fabric at path bytes number read good links ends switch is_there reported holds
