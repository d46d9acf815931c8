use Rattle.std.proofs.Common.{ℕ, List, Option, ap, flat_map, refl, ◌∙◌}
use Rattle.std.specs.List.{enumerate_from}
use Rattle.fabric_parts.specs.Cable.{far_end}
use Rattle.fabric_parts.specs.declared.cable.PortRef.{PortRef}
use Rattle.audit_net.specs.Net.{NetState}
use Rattle.audit_plan.specs.Plan.{PlanState}
use Rattle.audit_lanes.specs.declared.lane.Lane.{Lane}
use Rattle.audit_lanes.specs.Keys.{all_groups, group_behind, next_if}
use Rattle.audit_lanes.proofs.WaitLemmas.{nexts_are}
use Rattle.audit_lanes.proofs.graph.nexts.Goals as goal

pub returns : goal.returns
returns c =
    let known = c.args.waits.now in
    let all = c.args.all.now in
    let a = c.args.first in
    let far =
    c.far_end-there.ensures ∙ ap (λ (plan : PlanState). far_end plan.cables a.at) (c.links.ensures ∙ ap (λ (net : NetState). net.plan) c.net.ensures) in
    c.in_ok-places.ensures
    ∙ ap (flat_map (next_if known a))
    (c.group_behind.ensures ∙ ap (λ (groups : List (List (ℕ × Lane))). group_behind groups c.args.numbered.now c.far_end-there.result) c.requires.groups
    ∙ ap (λ (some : List (ℕ × Lane)). group_behind (all_groups known.net all) some c.far_end-there.result) c.requires.numbered
    ∙ ap (λ (there : Option PortRef). group_behind (all_groups known.net all) (enumerate_from 0 all) there) far)
    ∙ nexts_are known all a (far_end known.net.plan.cables a.at) refl
