use Rattle.std.proofs.Common.{◌∙◌, sym, arith}
use Rattle.fabric_wire.proofs.SpreadLemmas.{are_reached, few_ports, goes_on, past_end}
use Rattle.fabric_wire.proofs.spreading.reached.Goals as goal

pub returns-in_default : goal.returns-in_default
returns-in_default c =
    are_reached c.args.nodes.now c.args.cabling.now.cables c.args.packet.now c.args.first c.loop-place.place c.loop-place.ports.keys
    c.loop-place.invariant
    (past_end c.loop-place.ports.keys c.loop-place.place (sym c.get_index.ensures.key ∙ sym c.copied.ensures ∙ c.in_default.is))

pub loop-place-preserved : goal.loop-place-preserved
loop-place-preserved c =
    goes_on c.args.nodes.now c.args.cabling.now.cables c.args.packet.now c.args.first c.loop-place.place c.in-Some.here
    c.loop-place.ports.keys c.go_on.new.ports.keys c.loop-place.invariant
    (sym c.get_index.ensures.key ∙ sym c.copied.ensures ∙ c.in-Some.is) c.in_ok-go_on.ensures

pub returns : goal.returns
returns c =
    let few = few_ports c.args.nodes.now c.args.cabling.now.cables c.args.packet.now c.args.first c.loop-place.place c.loop-place.ports.keys
    c.loop-place.invariant in
    let ended = c.loop-place-test.false in
    let count = c.count_ends-place-end.ensures in
    are_reached c.args.nodes.now c.args.cabling.now.cables c.args.packet.now c.args.first c.loop-place.place c.loop-place.ports.keys
    c.loop-place.invariant (omega (arith, few, ended, count))
