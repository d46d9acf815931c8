use Rattle.std.proofs.Common.{◌==◌, ap, ◌∙◌}
use Rattle.step_results.proofs.PlaceLemmas.{place_by_key}
use Rattle.topology_import.specs.Text.{place_with}
use Rattle.topology_import.proofs.planned.PlannedList.place_with.Goals as goal

pub returns : goal.returns
returns c =
    c.place_of.ensures
    ∙ place_by_key (λ other. c.args.guid == other) (λ node. node.guid) c.self.inside.guids c.self.inside.nodes.items c.self.invariant.0
    ∙ ap (place_with c.args.guid) c.self.view_is
