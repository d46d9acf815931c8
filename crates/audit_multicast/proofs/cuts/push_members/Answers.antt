use Rattle.std.proofs.Common.{ℕ, List, ◌≡◌, ◌++◌, flat_map, ap, le_antisymm, ◌∙◌}
use Rattle.std.specs.List.{range_with_len}
use Rattle.fabric_parts.specs.declared.cable.PortRef.{PortRef}
use Rattle.topo_file.specs.declared.node.Node.{Node}
use Rattle.topo_file.specs.Node.{ports_at}
use Rattle.audit_plan.proofs.RangeLemmas.{flat_onto}
use Rattle.audit_plan.specs.Plan.{PlanState}
use Rattle.audit_multicast.specs.Scanning.{member_behind}
use Rattle.audit_multicast.proofs.CutLemmas.{all_members_behind}
use Rattle.audit_multicast.proofs.cuts.push_members.Goals as goal

pub loop-number-preserved : goal.loop-number-preserved
loop-number-preserved c =
    flat_onto (member_behind c.args.net.now c.args.masks.now c.args.place) c.args.members.now.items c.loop-number.members.items c.push_member.new.members.items c.loop-number.number
    c.loop-number.invariant c.in_ok-push_member.ensures

pub returns : goal.returns
returns c =
    let net = c.args.net.now in
    let place = c.args.place in
    let end : c.loop-number.number ≡ ports_at net.plan.nodes place =
    le_antisymm c.loop-number.auto.number-end c.loop-number-test.false ∙ c.ports_at-number-end.ensures ∙ ap (λ (nodes : List Node). ports_at nodes place) (c.nodes.ensures ∙ ap (λ (of : PlanState). of.nodes) c.plan.ensures) in
    c.loop-number.invariant ∙ ap (λ (n : ℕ). c.args.members.now.items ++ flat_map (member_behind net c.args.masks.now place) (range_with_len 0 n)) end
    ∙ ap (λ (more : List PortRef). c.args.members.now.items ++ more) (all_members_behind net c.args.masks.now place (ports_at net.plan.nodes place))
