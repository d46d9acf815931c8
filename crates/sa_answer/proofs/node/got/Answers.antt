use Rattle.std.proofs.Common.{List, None, map, refl, subst, ℕ}
use Rattle.sa_model.specs.Selected.{nodes_selected, Query}
use Rattle.sa_model.specs.Shown.{node_entry}
use Rattle.sa_model.specs.Visible.{visible_nodes}
use Rattle.sa_answer.proofs.BroughtLemmas.{get_taken, nodes_shown}
use Rattle.sa_answer.specs.Taken.{Walks}
use Rattle.sa_answer.specs.declared.taken.Taken.TheVariants.{One}
use Rattle.sa_answer.proofs.node.got.Goals as goal

pub returns : goal.returns
returns c =
    let own = c.args.own.now.port in
    let mask = c.args.mask in
    let asked = c.args.asked.now in
    let state = c.args.store.now in
    let entries = map node_entry (nodes_selected mask asked (visible_nodes state.configuration.ports own)) in
    let shown = nodes_shown state.configuration.ports own mask asked c.nodes_asked-nodes.result.now (c.nodes_asked-nodes.ensures own) in
    let walks = subst (λ (shown : List (List ℕ)). Walks shown (One None) c.walk-walked.new.taken c.walk-walked.result) shown (rw c.port.ensures at c.walk-walked.ensures) in
    rw (get_taken state.configuration.ports own state.administration.remembered (Query.for_nodes mask asked) refl)
    (c.got_by.ensures state.administration.remembered entries walks)
