use Rattle.std.proofs.Common.{List, None, Some, map, subst, sym, ℕ}
use Rattle.std.specs.List.{flat_map}
use Rattle.sa_model.specs.Selected.{few_paths, Query}
use Rattle.sa_model.specs.Shown.{path_entry}
use Rattle.sa_answer.proofs.BroughtLemmas.{get_refused, get_taken, paths_shown}
use Rattle.sa_answer.specs.Taken.{Walks}
use Rattle.sa_answer.specs.declared.taken.Taken.TheVariants.{One}
use Rattle.sa_answer.proofs.path.got.Goals as goal

pub returns-in-Some : goal.returns-in-Some
returns-in-Some c =
    get_refused c.args.store.now.configuration.ports c.args.own.now.port c.args.store.now.administration.remembered (Query.for_paths c.args.mask c.args.asked.now) c.in-Some.status (rw c.port.ensures at (sym c.in-Some.ensures))

pub returns : goal.returns
returns c =
    let own = c.args.own.now.port in
    let mask = c.args.mask in
    let asked = c.args.asked.now in
    let state = c.args.store.now in
    let entries = map path_entry (flat_map (few_paths (Some 1) mask asked own) state.configuration.ports) in
    let shown = paths_shown state.configuration.ports own (Some 1) mask asked c.destinations_asked-others.result.now (c.destinations_asked-others.ensures (Some 1) own) in
    let walks = subst (λ (shown : List (List ℕ)). Walks shown (One None) c.walk-walked.new.taken c.walk-walked.result) shown c.walk-walked.ensures in
    rw (get_taken state.configuration.ports own state.administration.remembered (Query.for_paths mask asked) (rw c.port.ensures at (sym c.in_default.ensures)))
    (c.got_by.ensures state.administration.remembered entries walks)
