use Rattle.smp_wire.proofs.AskLemmas.{get_left, get_reported}
use Rattle.smp_wire.proofs.asking.get_attribute.Goals as goal

pub returns-clause-reported : goal.returns-clause-reported
returns-clause-reported g c =
    get_reported _ c.args.attribute c.args.modifier c.args.path.now c.get_request-request.result _
    c.get_request-request.ensures.asks c.ask.ensures.reported

pub returns-clause-left : goal.returns-clause-left
returns-clause-left g c =
    get_left _ _ c.args.attribute c.args.modifier c.args.path.now c.get_request-request.result
    c.get_request-request.ensures.asks c.ask.ensures.change
