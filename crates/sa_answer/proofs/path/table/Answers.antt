use Rattle.std.proofs.Common.{List, map, refl, subst, sym, ℕ}
use Rattle.std.specs.List.{flat_map}
use Rattle.sa_model.specs.Selected.{few_paths, paths_wanted, Query}
use Rattle.sa_model.specs.Shown.{path_entry}
use Rattle.sa_answer.proofs.BroughtLemmas.{paths_shown, table_refused, table_taken}
use Rattle.sa_answer.specs.Taken.{Walks, bytes_of}
use Rattle.sa_answer.specs.declared.taken.Taken.TheVariants.{All}
use Rattle.sa_answer.proofs.TakenLemmas.{taken_table}
use Rattle.sa_answer.proofs.path.table.Goals as goal

pub returns-in-Some : goal.returns-in-Some
returns-in-Some c =
    rw (table_refused c.args.store.now.configuration.ports c.args.own.now.port c.args.store.now.administration.remembered (Query.for_paths c.args.mask c.args.asked.now) c.in-Some.status (rw c.port.ensures at (sym c.in-Some.ensures))) refl

pub returns : goal.returns
returns c =
    let own = c.args.own.now.port in
    let mask = c.args.mask in
    let asked = c.args.asked.now in
    let state = c.args.store.now in
    let entries = map path_entry (flat_map (few_paths (paths_wanted (Query.for_paths mask asked)) mask asked own) state.configuration.ports) in
    let shown = paths_shown state.configuration.ports own (paths_wanted (Query.for_paths mask asked)) mask asked c.destinations_asked-others.result.now (c.destinations_asked-others.ensures (paths_wanted (Query.for_paths mask asked)) own) in
    let walks = subst (λ (shown : List (List ℕ)). Walks shown (All c.new.result) c.walk-walked.new.taken c.walk-walked.result) shown (rw c.paths_wanted-most.ensures at c.walk-walked.ensures) in
    rw (table_taken state.configuration.ports own state.administration.remembered (Query.for_paths mask asked) (rw c.port.ensures at (sym c.in_default.ensures)))
    (c.in_ok-outcome.ensures state.administration.remembered entries (taken_table (bytes_of entries) c.new.result c.walk-walked.new.taken c.walk-walked.result c.new.ensures.items walks))
