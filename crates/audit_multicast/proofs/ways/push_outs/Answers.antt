use Rattle.std.proofs.Common.{ℕ, List, ◌≡◌, ◌++◌, flat_map, ap, le_antisymm, ◌∙◌}
use Rattle.std.specs.List.{range_with_len}
use Rattle.fabric_parts.specs.declared.cable.PortRef.{PortRef}
use Rattle.topo_file.specs.declared.node.Node.{Node}
use Rattle.topo_file.specs.Node.{ports_at}
use Rattle.audit_plan.proofs.RangeLemmas.{flat_onto}
use Rattle.audit_plan.specs.Plan.{PlanState}
use Rattle.audit_multicast.specs.Scanning.{out_behind}
use Rattle.audit_multicast.proofs.WayLemmas.{all_outs_behind}
use Rattle.audit_multicast.proofs.ways.push_outs.Goals as goal

pub loop-number-preserved : goal.loop-number-preserved
loop-number-preserved c =
    flat_onto (out_behind c.args.net.now c.args.masks.now c.args.here) c.args.ports.now.items c.loop-number.ports.items c.push_out.new.ports.items c.loop-number.number
    c.loop-number.invariant c.in_ok-push_out.ensures

pub returns : goal.returns
returns c =
    let net = c.args.net.now in
    let here = c.args.here in
    let end : c.loop-number.number ≡ ports_at net.plan.nodes here.node =
    le_antisymm c.loop-number.auto.number-end c.loop-number-test.false ∙ c.ports_at-number-end.ensures ∙ ap (λ (nodes : List Node). ports_at nodes here.node) (c.nodes.ensures ∙ ap (λ (of : PlanState). of.nodes) c.plan.ensures) in
    c.loop-number.invariant ∙ ap (λ (n : ℕ). c.args.ports.now.items ++ flat_map (out_behind net c.args.masks.now here) (range_with_len 0 n)) end
    ∙ ap (λ (more : List PortRef). c.args.ports.now.items ++ more) (all_outs_behind net c.args.masks.now here (ports_at net.plan.nodes here.node))
