use Rattle.smp_wire.proofs.AskLemmas.{set_good, set_left, set_shape, set_shown, set_reported}
use Rattle.smp_wire.proofs.asking.set_attribute.Goals as goal

pub returns-clause-reported : goal.returns-clause-reported
returns-clause-reported g c =
    set_reported _ c.args.attribute c.args.modifier c.args.path.now c.args.wanted.now c.set_request-request.result _
    c.set_request-request.ensures.asks c.ask.ensures.reported

pub returns-clause-left : goal.returns-clause-left
returns-clause-left g c =
    set_left _ _ c.args.attribute c.args.modifier c.args.path.now c.args.wanted.now c.set_request-request.result
    c.set_request-request.ensures.asks c.ask.ensures.change

pub returns-clause-taken : goal.returns-clause-taken
returns-clause-taken g c =
    set_shown _ c.args.attribute c.args.modifier c.args.path.now c.args.wanted.now c.set_request-request.result _
    c.set_request-request.ensures.asks c.ask.ensures.reported

pub returns-clause-good : goal.returns-clause-good
returns-clause-good g c =
    set_good c.args.attribute c.args.modifier c.args.path.now c.args.wanted.now c.set_request-request.result
    c.set_request-request.ensures.asks

pub returns-clause-shape : goal.returns-clause-shape
returns-clause-shape g c =
    set_shape c.args.attribute c.args.modifier c.args.path.now c.args.wanted.now c.set_request-request.result
    c.set_request-request.ensures.asks
