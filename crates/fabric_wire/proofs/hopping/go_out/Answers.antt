use Rattle.std.proofs.Common.{◌∙◌, sym}
use Rattle.fabric_wire.proofs.OutwardLemmas.{arrived, bare_port, begun, goes, lost}
use Rattle.fabric_wire.proofs.hopping.go_out.Goals as goal

pub loop-hops-init : goal.loop-hops-init
loop-hops-init c = begun c.args.nodes.now c.args.cabling.now.cables c.args.manager c.args.sent.now c.told-sent c.requires.sent

pub returns-in-ToAgent : goal.returns-in-ToAgent
returns-in-ToAgent c =
    let to = sym (rw c.node_type_at.ensures at c.outward.ensures.hop) ∙ c.in-ToAgent.is in
    rw (c.outward.ensures.smp, c.node_type_at.ensures)
    (arrived c.args.nodes.now c.args.cabling.now.cables c.args.manager c.args.sent.now c.loop-hops._hops c.loop-hops.at
    c.loop-hops.entered c.loop-hops.smp c.requires.cables c.loop-hops.invariant to)

pub returns-in-ToManager : goal.returns-in-ToManager
returns-in-ToManager c =
    lost c.args.nodes.now c.args.cabling.now.cables c.args.manager c.args.sent.now c.loop-hops._hops c.loop-hops.at
    c.loop-hops.entered c.loop-hops.smp c.requires.cables c.loop-hops.invariant
    _ (rw c.node_type_at.ensures at c.outward.ensures.hop) c.in-ToManager.is

pub returns-in_default : goal.returns-in_default
returns-in_default c =
    let to = sym (rw c.node_type_at.ensures at c.outward.ensures.hop) ∙ c.in-Forward.is in
    bare_port c.args.nodes.now c.args.cabling.now.cables c.args.manager c.args.sent.now c.loop-hops._hops c.loop-hops.at
    c.loop-hops.entered c.loop-hops.smp c.in-Forward.port c.requires.cables c.loop-hops.invariant to
    (sym c.far_end.ensures ∙ c.in_default.is)

pub loop-hops-preserved : goal.loop-hops-preserved
loop-hops-preserved c =
    let to = sym (rw c.node_type_at.ensures at c.outward.ensures.hop) ∙ c.in-Forward.is in
    rw (c.outward.ensures.smp, c.node_type_at.ensures)
    (goes c.args.nodes.now c.args.cabling.now.cables c.args.manager c.args.sent.now c.loop-hops._hops c.loop-hops.at
    c.in-Some.there c.loop-hops.entered c.loop-hops.smp c.in-Forward.port c.requires.cables
    c.loop-hops.invariant to
    (sym c.far_end.ensures ∙ c.in-Some.is))
