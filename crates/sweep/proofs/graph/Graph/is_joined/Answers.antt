use Rattle.std.proofs.Common.{◌∙◌, ap, subst, sym}
use Rattle.sweep.proofs.JoinedLemmas.{all_joined}
use Rattle.sweep.proofs.graph.Graph.is_joined.Goals as goal
use Rattle.sweep.specs.Graph.{GraphState, is_joined}
use Rattle.sweep.specs.Joined.{AllJoined}

pub returns-clause-joined : goal.returns-clause-joined
returns-clause-joined c joined =
    subst (λ (graph : GraphState). AllJoined graph.rows) c.self.view_is
    (all_joined _ c.self.invariant (sym (c.has_a_nearer_switch.ensures ∙ ap is_joined c.deref.ensures.value) ∙ joined))
