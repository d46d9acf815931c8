use Rattle.std.proofs.Common.{◌∙◌, ap, sym}
use Rattle.std.proofs.lemmas.Bool.{false≢true}
use Rattle.std.proofs.lemmas.Option.{none-some, same_Some}
use Rattle.port_model.specs.AdapterState.{AdapterState}
use Rattle.port_model.specs.Packets.{accepts_packet}
use Rattle.smp_wire.proofs.WayLemmas.{at_end, way_ends}
use Rattle.fabric_wire.proofs.carrying.receiver.Goals as goal

pub returns-in_err-last-clause-none : goal.returns-in_err-last-clause-none
returns-in_err-last-clause-none c =
    λ none at port is. c.end_of_way.ensures.none c.in_err-last.was at
    (way_ends c.args.nodes.now c.args.cabling.now.cables c.args.packet.now c.requires.unicast c.args.from c.in_ok-first.first at port
    (sym c.far_end.ensures ∙ c.in_ok-first.was) is)

pub returns-in_err-port-clause-none : goal.returns-in_err-port-clause-none
returns-in_err-port-clause-none c =
    λ none at port is.
    none-some port
    (c.in_err-port.ensures
    ∙ at_end c.args.nodes.now c.args.cabling.now.cables c.args.packet.now c.requires.unicast c.args.from c.in_ok-first.first at port c.in_ok-last.last
    (sym c.far_end.ensures ∙ c.in_ok-first.was) c.in_ok-last.ensures.some is)

pub returns-else-accept-clause-none : goal.returns-else-accept-clause-none
returns-else-accept-clause-none c =
    λ none at port is.
    let same = same_Some c.in_ok-port.port.now port
    (c.in_ok-port.ensures
    ∙ at_end c.args.nodes.now c.args.cabling.now.cables c.args.packet.now c.requires.unicast c.args.from c.in_ok-first.first at port c.in_ok-last.last
    (sym c.far_end.ensures ∙ c.in_ok-first.was) c.in_ok-last.ensures.some is) in
    false≢true (c.if-accept.ensures ∙ ap (λ (p : AdapterState). accepts_packet p c.args.packet.now) same ∙ is.accepts)
