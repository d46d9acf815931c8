use Rattle.std.proofs.Common.{◌≡◌, ◌==◌, List, Some, sym, ◌∙◌, ap}
use Rattle.std.specs.List.{flat_map}
use Rattle.subnet_model.specs.declared.subnet_port.SubnetPort.{SubnetPort}
use Rattle.sa_model.specs.Selected.{few_paths}
use Rattle.sa_answer.specs.Asked.{guid_in}
use Rattle.sa_answer.proofs.OutLemmas.{guid_out, lid_out}
use Rattle.sa_answer.proofs.SelectLemmas.{flat_of_some}
use Rattle.sa_answer.proofs.path.destinations_asked.Goals as goal

pub returns : goal.returns
returns c = λ most own.
    let mask = c.args.mask in
    let asked = c.args.asked.now in
    let guid = c.in-Some.guid in
    let is : guid_in asked.dgid ≡ Some guid = sym c.in-Some.ensures in
    ap (λ (ports : List SubnetPort). flat_map (few_paths most mask asked own) ports) c.of_guid.ensures.ports
    ∙ flat_of_some (few_paths most mask asked own) (λ (port : SubnetPort). port.guid == guid)
    (λ port other. guid_out most mask asked own port guid (sym c.asks.ensures ∙ c.if-asks.true) is other) c.args.store.now.configuration.ports

pub returns-then-asks-2 : goal.returns-then-asks-2
returns-then-asks-2 c = λ most own.
    let mask = c.args.mask in
    let asked = c.args.asked.now in
    ap (λ (ports : List SubnetPort). flat_map (few_paths most mask asked own) ports) c.of_lid.ensures
    ∙ flat_of_some (few_paths most mask asked own) (λ (port : SubnetPort). port.lid == asked.dlid)
    (λ port other. lid_out most mask asked own port (sym c.asks-2.ensures ∙ c.if-asks-2.true) other) c.args.store.now.configuration.ports
