use Rattle.std.proofs.Common.{◌∙◌, sym}
use Rattle.fabric_wire.proofs.ReturnLemmas.{bare_port, came, goes, lost, set_out}
use Rattle.fabric_wire.proofs.hopping.come_home.Goals as goal

pub loop-hops-init : goal.loop-hops-init
loop-hops-init c = set_out c.args.nodes.now c.args.cabling.now.cables c.args.manager.node c.args.smp.now c.args.agent
    c.told-smp c.requires.count c.requires.pointer

pub returns-in-ToAgent-clause-home : goal.returns-in-ToAgent-clause-home
returns-in-ToAgent-clause-home c =
    lost c.args.nodes.now c.args.cabling.now.cables c.args.manager.node _ c.args.smp.now c.loop-hops._hops c.loop-hops.at
    c.loop-hops.came_by c.loop-hops.smp c.requires.cables c.loop-hops.invariant
    _ (rw c.node_type_at.ensures at c.back.ensures.hop) c.in-ToAgent.is

pub returns-in-ToManager-clause-home : goal.returns-in-ToManager-clause-home
returns-in-ToManager-clause-home c =
    let to = sym (rw c.node_type_at.ensures at c.back.ensures.hop) ∙ c.in-ToManager.is in
    (came c.args.nodes.now c.args.cabling.now.cables c.args.manager.node _ c.args.smp.now c.loop-hops._hops c.loop-hops.at
    c.loop-hops.came_by c.loop-hops.smp c.requires.cables c.loop-hops.invariant to).0

pub returns-in-ToManager-clause-smp : goal.returns-in-ToManager-clause-smp
returns-in-ToManager-clause-smp c =
    let to = sym (rw c.node_type_at.ensures at c.back.ensures.hop) ∙ c.in-ToManager.is in
    λ is. rw (c.back.ensures.smp, c.node_type_at.ensures)
    (came c.args.nodes.now c.args.cabling.now.cables c.args.manager.node _ c.args.smp.now c.loop-hops._hops c.loop-hops.at
    c.loop-hops.came_by c.loop-hops.smp c.requires.cables c.loop-hops.invariant to).1

pub returns-in_default-clause-home : goal.returns-in_default-clause-home
returns-in_default-clause-home c =
    let to = sym (rw c.node_type_at.ensures at c.back.ensures.hop) ∙ c.in-Forward.is in
    bare_port c.args.nodes.now c.args.cabling.now.cables c.args.manager.node _ c.args.smp.now c.loop-hops._hops
    c.loop-hops.at c.loop-hops.came_by c.loop-hops.smp c.in-Forward.port c.requires.cables c.loop-hops.invariant
    to
    (sym c.far_end.ensures ∙ c.in_default.is)

pub loop-hops-preserved : goal.loop-hops-preserved
loop-hops-preserved c =
    let to = sym (rw c.node_type_at.ensures at c.back.ensures.hop) ∙ c.in-Forward.is in
    rw (c.back.ensures.smp, c.node_type_at.ensures)
    (goes c.args.nodes.now c.args.cabling.now.cables c.args.manager.node _ c.args.smp.now c.loop-hops._hops c.loop-hops.at
    c.in-Some.there c.loop-hops.came_by c.loop-hops.smp c.in-Forward.port c.requires.cables
    c.loop-hops.invariant to
    (sym c.far_end.ensures ∙ c.in-Some.is))
