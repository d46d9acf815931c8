use Rattle.std.proofs.Common.{◌∙◌, ◌==◌, ap, List, position}
use Rattle.sweep.specs.declared.graph.GraphSwitch.{GraphSwitch}
use Rattle.sweep.proofs.GuidLemmas.{place_by_guid}
use Rattle.sweep.proofs.switch_list.SwitchList.place_of.Goals as goal

pub returns : goal.returns
returns c =
    c.get_index_of.ensures.index
    ∙ ap (position (λ key. c.args.guid == key)) c.self.invariant
    ∙ place_by_guid c.args.guid c.self.inside.switches.items
    ∙ ap (λ (switches : List GraphSwitch). position (λ switch. switch.guid == c.args.guid) switches) c.self.view_is
