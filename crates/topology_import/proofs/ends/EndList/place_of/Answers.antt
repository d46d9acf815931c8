use Rattle.std.proofs.Common.{◌==◌, ap, ◌∙◌}
use Rattle.step_results.proofs.PlaceLemmas.{place_by_key}
use Rattle.topology_import.specs.Ends.{guid_of, place_of_end}
use Rattle.topology_import.proofs.ends.EndList.place_of.Goals as goal

pub returns : goal.returns
returns c =
    c.place_of.ensures
    ∙ place_by_key (λ other. c.args.guid == other) (λ line. guid_of line) c.self.inside.guids c.self.inside.lines.items c.self.invariant
    ∙ ap (place_of_end c.args.guid) c.self.view_is
