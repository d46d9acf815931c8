use Rattle.std.proofs.Common.{ℕ, List, ◌≡◌, ◌++◌, ◌∷◌, [], ◌+◌, ap, sym, flat_map, le_antisymm, map, ◌∙◌}
use Rattle.std.specs.List.{range_with_len}
use Rattle.fabric_parts.specs.Cable.{port}
use Rattle.fabric_parts.specs.declared.cable.PortRef.{PortRef}
use Rattle.topo_file.specs.declared.node.Node.{Node}
use Rattle.topo_file.specs.Node.{ports_at}
use Rattle.audit_plan.specs.Plan.{PlanState}
use Rattle.audit_loops.specs.Channels.{nexts}
use Rattle.audit_loops.specs.Waits.{channel_behind, group_of, next_if}
use Rattle.audit_loops.proofs.ChannelLemmas.{all_behind}
use Rattle.audit_loops.proofs.WaitLemmas.{none_more, one_more}
use Rattle.audit_loops.proofs.channels.push_dependencies.Goals.{in-Some+in_ok-nexts+in_ok-push, in_default}
use Rattle.audit_loops.proofs.channels.push_dependencies.Goals as goal

pub loop-number-preserved : goal.loop-number-preserved
loop-number-preserved c =
    let net = c.args.net.now in
    let courses = c.args.courses.now in
    let place = c.args.place in
    let n = c.loop-number.number in
    let before = c.args.graph.now.items in
    let items = c.loop-number.graph.items in
    elim c.match-switch_behind.branch [
      | in-Some+in_ok-nexts+in_ok-push w ↦
          let there = w.in-Some.there in
          let group = w.group_of.ensures ∙ ap (λ (all : List (List (ℕ × PortRef))). group_of all there.node) c.requires in
          rw w.graph-is
          (one_more net courses place n before items w.push.new.self.items there c.loop-number.invariant (sym c.switch_behind.ensures ∙ w.in-Some.is)
          (w.in_ok-push.ensures.items ∙ ap (λ (one : List ℕ). items ++ one ∷ []) (w.of.ensures ∙ w.in_ok-nexts.ensures ∙ ap (flat_map (next_if net courses (port place (n + 1)))) group)))
      | in_default w ↦ rw w.graph-is (none_more net courses place n before items c.loop-number.invariant (sym c.switch_behind.ensures ∙ w.in_default.is))
    ]

pub returns : goal.returns
returns c =
    let net = c.args.net.now in
    let place = c.args.place in
    let before = c.args.graph.now.items in
    let end : c.loop-number.number ≡ ports_at net.plan.nodes place =
    le_antisymm c.loop-number.auto.number-end c.loop-number-test.false ∙ c.ports_at-number-end.ensures ∙ ap (λ (nodes : List Node). ports_at nodes place) (c.nodes.ensures ∙ ap (λ (of : PlanState). of.nodes) c.plan.ensures) in
    c.loop-number.invariant ∙ ap (λ (n : ℕ). before ++ map (nexts net c.args.courses.now) (flat_map (channel_behind net place) (range_with_len 0 n))) end
    ∙ ap (λ (channels : List PortRef). before ++ map (nexts net c.args.courses.now) channels) (all_behind net place (ports_at net.plan.nodes place))
