use Rattle.std.proofs.Common.{◌==◌, ◌∙◌, sym, ap, Some}
use Rattle.std.proofs.lemmas.List.Quantifiers.{position-Some}
use Rattle.std.proofs.lemmas.Option.{slice_get-get_or}
use Rattle.sweep.proofs.PlaceLemmas.{found_at_place, found_nowhere}
use Rattle.sweep.specs.declared.graph.GraphSwitch.{GraphSwitch}
use Rattle.sweep.proofs.graph.Graph.switch.Goals as goal

pub returns-in-None : goal.returns-in-None
returns-in-None c =
    sym (found_nowhere (λ switch. switch.guid == c.args.guid) c.args.self.now.switches (sym c.place_of.ensures ∙ c.in-None.is))

pub returns-in-Some : goal.returns-in-Some
returns-in-Some c =
    let test = λ (switch : GraphSwitch). switch.guid == c.args.guid in
    let found = sym c.place_of.ensures ∙ c.in-Some.is in
    let there = position-Some test c.args.self.now.switches c.in-Some.place c.index-switches-place.result found in
    sym (found_at_place test c.args.self.now.switches c.in-Some.place found
    ∙ (slice_get-get_or c.args.self.now.switches c.in-Some.place c.index-switches-place.result there.0
    ∙ ap (λ (x : GraphSwitch). Some x) (rw (← c.switches.ensures) (sym c.index-switches-place.is))))
