use Rattle.std.proofs.Common.{◌<◌, ◌∙◌, ap, nat_eq, option_map, sym, Some, ℕ}
use Rattle.std.specs.Option.{option_copied}
use Rattle.indexmap.specs.IndexMap.{get}
use Rattle.port_model.specs.AdapterState.{AdapterState}
use Rattle.fabric_wire.proofs.EndPortLemmas.{are_few, known_distinct, next_node, with_port, without_port}
use Rattle.fabric_wire.proofs.adapter_ports.put_ports.Goals as goal
use Rattle.fabric_wire.proofs.adapter_ports.put_ports.Goals.{in-Some+in_ok-insert, in_default}

pub loop-port-preserved : goal.loop-port-preserved
loop-port-preserved c =
    let guid_of = λ (port : AdapterState). port.port_guid in
    elim c.match-adapter_at.branch [
      | in-Some+in_ok-insert w ↦
          rw w.places-is
          (with_port c.args.nodes.now (get nat_eq c.loop-port.places) (get nat_eq w.insert.new.self) c.args.node c.loop-port.port
          w.port_guid.result (known_distinct c.args.nodes.now c.requires.own) c.loop-port.invariant
          (ap (option_map guid_of) (sym c.adapter_at.ensures ∙ ap option_copied w.in-Some.is)
          ∙ ap (λ (guid : ℕ). Some guid) (sym w.port_guid.ensures))
          w.in_ok-insert.ensures.updates.0)
      | in_default w ↦
          rw w.places-is
          (without_port c.args.nodes.now (get nat_eq c.loop-port.places) c.args.node c.loop-port.port c.loop-port.invariant
          (ap (option_map guid_of) (sym c.adapter_at.ensures ∙ ap option_copied w.in_default.is)))
    ]

pub returns : goal.returns
returns c =
    let past : 8 < c.loop-port.port = rw c.most_ports-port-end.ensures at c.loop-port-test.false in
    next_node c.args.nodes.now (get nat_eq c.loop-port.places) c.args.node c.loop-port.port 8
    (are_few c.args.nodes.now c.requires.counts) past c.loop-port.invariant
