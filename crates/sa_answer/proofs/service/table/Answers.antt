use Rattle.std.proofs.Common.{List, map, subst, ℕ}
use Rattle.sa_model.specs.Selected.{services_selected}
use Rattle.sa_model.specs.Shown.{service_entry}
use Rattle.sa_model.specs.Visible.{visible_services}
use Rattle.sa_answer.proofs.OfferLemmas.{services_are}
use Rattle.sa_answer.specs.Taken.{Walks, bytes_of}
use Rattle.sa_answer.specs.declared.taken.Taken.TheVariants.{All}
use Rattle.sa_answer.proofs.TakenLemmas.{taken_table}
use Rattle.sa_answer.proofs.service.table.Goals as goal

pub returns : goal.returns
returns c = λ listed.
    let own = c.args.own.now.port in
    let mask = c.args.mask in
    let asked = c.args.asked.now in
    let state = c.args.store.now in
    let entries = map service_entry (services_selected mask asked (visible_services state.configuration.ports own state.administration.remembered.services)) in
    let shown = services_are own mask asked c.offerers_asked-others.result.now (services_selected mask asked (visible_services state.configuration.ports own state.administration.remembered.services)) (c.offerers_asked-others.ensures own listed) in
    let walks = subst (λ (shown : List (List ℕ)). Walks shown (All c.new.result) c.walk-walked.new.taken c.walk-walked.result) shown c.walk-walked.ensures in
    c.in_ok-outcome.ensures state.administration.remembered entries (taken_table (bytes_of entries) c.new.result c.walk-walked.new.taken c.walk-walked.result c.new.ensures.items walks)
