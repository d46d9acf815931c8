use Rattle.std.proofs.Common.{◌==◌, List, filter, sym, ◌∙◌, ap}
use Rattle.subnet_model.specs.declared.subnet_port.SubnetPort.{SubnetPort}
use Rattle.sa_answer.specs.Asked.{is_reported}
use Rattle.sa_answer.proofs.OutLemmas.{node_out}
use Rattle.sa_answer.proofs.SelectLemmas.{filter_of_some}
use Rattle.sa_answer.proofs.node.nodes_asked.Goals as goal

pub returns-then-asks : goal.returns-then-asks
returns-then-asks c = λ own.
    ap (λ (ports : List SubnetPort). filter (is_reported own c.args.mask c.args.asked.now) ports) c.of_lid.ensures
    ∙ filter_of_some (is_reported own c.args.mask c.args.asked.now) (λ (port : SubnetPort). port.lid == c.args.asked.now.lid)
    (λ port other. node_out own c.args.mask c.args.asked.now port (sym c.asks.ensures ∙ c.if-asks.true) other) c.args.store.now.configuration.ports
