-- What the ports of a good fabric have.
use Rattle.std.proofs.Common.{ℕ, ◌≡◌, ◌-◌, ◌==◌, ◌∙◌, ap, refl, sym, not, Bool, true, false, nat_le, ◌&&◌, if◌then◌else◌, List, slice_get, Option, Some, None, option_map, arith}
use Rattle.std.specs.List.{All}
use Rattle.std.specs.Option.{option_and_then}
use Rattle.std.proofs.lemmas.Bool.{and_parts}
use Rattle.std.proofs.lemmas.Bool.Decides.{nat_tests}
use Rattle.std.proofs.lemmas.Option.{same_Some}
use Rattle.fabric_parts.specs.declared.lid.TheConstants.{LAST_UNICAST_LID}
use Rattle.fabric_parts.specs.declared.cable.PortRef.{PortRef}
use Rattle.attr_tables.specs.declared.port_info.PortInfo.{PortInfo}
use Rattle.agent_rules.specs.Good.{IsGoodInfo}
use Rattle.step_results.proofs.ListLemmas.{all_have}
use Rattle.port_model.specs.AdapterState.{AdapterState}
use Rattle.port_model.specs.Good.{IsGoodPort}
use Rattle.switch_model.specs.Good.{IsGoodPort as IsGoodSwitchPort}
use Rattle.switch_model.specs.declared.switch_port.SwitchPort.{SwitchPort}
use Rattle.smp_wire.specs.declared.node.Node.{Node}
use Rattle.smp_wire.specs.declared.node.Node.TheVariants.{Switch, Adapter}
use Rattle.smp_wire.specs.Good.{IsGoodNode, port_info_at}
use Rattle.smp_wire.specs.Laws.{CabledPortsAreUp, PortsAreGood}

switch_port : (ports : List SwitchPort) (number : ℕ) (found : Option SwitchPort) (info : PortInfo) → All IsGoodSwitchPort ports
    → slice_get ports number ≡ found → option_map (λ port. port.info) found ≡ Some info → IsGoodInfo info
switch_port ports number None info all there is = cc
switch_port ports number (Some port) info all there is =
    let same : port.info ≡ info = same_Some _ _ is in
    rw (sym same) (all_have IsGoodSwitchPort ports number port all there).info

adapter_port : (ports : List AdapterState) (place : ℕ) (found : Option AdapterState) (info : PortInfo) → All IsGoodPort ports
    → slice_get ports place ≡ found → option_map (λ (port : AdapterState). port.info) found ≡ Some info → IsGoodInfo info
adapter_port ports place None info all there is = cc
adapter_port ports place (Some port) info all there is =
    let same : port.info ≡ info = same_Some _ _ is in
    rw (sym same) (all_have IsGoodPort ports place port all there).info

port_unless : (none : Bool) (ports : List AdapterState) (place : ℕ) (info : PortInfo) → All IsGoodPort ports
    → option_map (λ (port : AdapterState). port.info) (if none then None else slice_get ports place) ≡ Some info → IsGoodInfo info
port_unless true ports place info all is = cc
port_unless false ports place info all is = adapter_port ports place (slice_get ports place) info all refl is

node_port : (node : Node) (number : ℕ) (info : PortInfo) → IsGoodNode node → port_info_at node number ≡ Some info → IsGoodInfo info
node_port (Switch held) number info good is = switch_port held.ports number (slice_get held.ports number) info good.ports refl is
node_port (Adapter ports) number info good is = port_unless (number == 0) ports (number - 1) info good is

found_port : (nodes : List Node) (at : PortRef) (found : Option Node) (info : PortInfo) → All IsGoodNode nodes
    → slice_get nodes at.node ≡ found → option_and_then (λ node. port_info_at node at.port) found ≡ Some info → IsGoodInfo info
found_port nodes at None info all there is = cc
found_port nodes at (Some node) info all there is = node_port node at.port info (all_have IsGoodNode nodes at.node node all there) is

pub ports_are_good : PortsAreGood
ports_are_good fabric at info good is = found_port fabric.nodes at (slice_get fabric.nodes at.node) info good.holdings refl is

above_down : (state : ℕ) → nat_le 1 state && nat_le state 4 ≡ true → (state == 1) ≡ false → nat_le 2 state && nat_le state 4 ≡ true
above_down state within up = grind (arith, nat_tests, within, up)

pub cabled_ports_are_up : CabledPortsAreUp
cabled_ports_are_up fabric at info good links port cabled is =
    let regular = (ports_are_good fabric at info good is).regular in
    let a = and_parts (info.lmc == 0) _ regular in
    let b = and_parts (nat_le 1 info.neighbor_mtu && nat_le info.neighbor_mtu 4) _ a.1 in
    let c = and_parts (nat_le info.lid LAST_UNICAST_LID) _ b.1 in
    above_down info.port_state c.1 (links at info port is ∙ ap not cabled)
