use Rattle.std.proofs.Common.{ℕ, List, ◌≡◌, ◌++◌, flat_map, ap, le_antisymm, ◌∙◌}
use Rattle.std.specs.List.{range_with_len}
use Rattle.fabric_parts.specs.declared.cable.PortRef.{PortRef}
use Rattle.topo_file.specs.declared.node.Node.{Node}
use Rattle.topo_file.specs.Node.{ports_at}
use Rattle.audit_plan.specs.Plan.{PlanState}
use Rattle.audit_loops.specs.Waits.{channel_behind}
use Rattle.audit_loops.proofs.ChannelLemmas.{all_behind}
use Rattle.audit_plan.proofs.RangeLemmas.{flat_onto}
use Rattle.audit_loops.proofs.channels.push_channels_of.Goals as goal

pub loop-number-preserved : goal.loop-number-preserved
loop-number-preserved c =
    flat_onto (channel_behind c.args.net.now c.args.place) c.args.channels.now.items c.loop-number.channels.items c.push_channel.new.channels.items c.loop-number.number
    c.loop-number.invariant c.in_ok-push_channel.ensures

pub returns : goal.returns
returns c =
    let net = c.args.net.now in
    let place = c.args.place in
    let end : c.loop-number.number ≡ ports_at net.plan.nodes place =
    le_antisymm c.loop-number.auto.number-end c.loop-number-test.false ∙ c.ports_at-number-end.ensures ∙ ap (λ (nodes : List Node). ports_at nodes place) (c.nodes.ensures ∙ ap (λ (of : PlanState). of.nodes) c.plan.ensures) in
    c.loop-number.invariant ∙ ap (λ (n : ℕ). c.args.channels.now.items ++ flat_map (channel_behind net place) (range_with_len 0 n)) end
    ∙ ap (λ (more : List PortRef). c.args.channels.now.items ++ more) (all_behind net place (ports_at net.plan.nodes place))
