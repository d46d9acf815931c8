use Rattle.std.proofs.Common.{List, map, refl, subst, sym, ℕ}
use Rattle.sa_model.specs.Selected.{groups_selected, Query}
use Rattle.sa_model.specs.Shown.{group_entry}
use Rattle.sa_model.specs.Visible.{visible_groups}
use Rattle.sa_answer.proofs.GroupLemmas.{groups_are}
use Rattle.sa_answer.proofs.BroughtLemmas.{table_refused, table_taken}
use Rattle.sa_answer.specs.Taken.{Walks, bytes_of}
use Rattle.sa_answer.specs.declared.taken.Taken.TheVariants.{All}
use Rattle.sa_answer.proofs.TakenLemmas.{taken_table}
use Rattle.sa_answer.proofs.mc_member.table.Goals as goal

pub returns-in-Some : goal.returns-in-Some
returns-in-Some c =
    rw (table_refused c.args.store.now.configuration.ports c.args.own.now.port c.args.store.now.administration.remembered (Query.for_groups c.args.mask c.args.asked.now) c.in-Some.status (sym (c.in-Some.ensures c.args.own.now.port))) refl

pub returns : goal.returns
returns c =
    let own = c.args.own.now.port in
    let mask = c.args.mask in
    let asked = c.args.asked.now in
    let state = c.args.store.now in
    let entries = map group_entry (groups_selected mask asked (visible_groups own state.administration.remembered.partitions)) in
    let shown = groups_are own mask asked state.administration.remembered.partitions in
    let walks = subst (λ (shown : List (List ℕ)). Walks shown (All c.new.result) c.walk-walked.new.taken c.walk-walked.result) shown (rw (c.port.ensures, c.partitions.ensures) at c.walk-walked.ensures) in
    rw (table_taken state.configuration.ports own state.administration.remembered (Query.for_groups mask asked) (sym (c.in_default.ensures own)))
    (c.in_ok-outcome.ensures state.administration.remembered entries (taken_table (bytes_of entries) c.new.result c.walk-walked.new.taken c.walk-walked.result c.new.ensures.items walks))
