use Rattle.std.proofs.Common.{◌∙◌, ◌==◌, ap, List}
use Rattle.std.specs.List.{list_any}
use Rattle.sweep.specs.declared.graph.GraphSwitch.{GraphSwitch}
use Rattle.sweep.proofs.GuidLemmas.{any_by_guid}
use Rattle.sweep.proofs.switch_list.SwitchList.has.Goals as goal

pub returns : goal.returns
returns c =
    c.contains.ensures
    ∙ ap (list_any (λ key. c.args.guid == key)) c.self.invariant
    ∙ any_by_guid c.args.guid c.self.inside.switches.items
    ∙ ap (λ (switches : List GraphSwitch). list_any (λ switch. switch.guid == c.args.guid) switches) c.self.view_is
