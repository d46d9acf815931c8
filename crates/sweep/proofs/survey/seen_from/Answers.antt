use Rattle.std.proofs.Common.{◌∙◌, ap, sym, [], get_or, List}
use Rattle.sweep.specs.declared.graph.GraphLink.{GraphLink}
use Rattle.sweep.proofs.SurveyLemmas.{first_port, linked, none_more}
use Rattle.sweep.proofs.survey.seen_from.Goals as goal

pub returns-in-Some-clause-some : goal.returns-in-Some-clause-some
returns-in-Some-clause-some c =
    linked (get_or c.args.rows.now c.loop-node.node []) c.args.there c.in-Some.port
    (ap (λ (links : List GraphLink). first_port links c.args.there) (sym c.links_at.ensures) ∙ sym c.port_to.ensures ∙ c.in-Some.is)

pub loop-node-preserved : goal.loop-node-preserved
loop-node-preserved c =
    none_more c.args.rows.now c.args.there c.loop-node.node c.loop-node.invariant
    (ap (λ (links : List GraphLink). first_port links c.args.there) (sym c.links_at.ensures) ∙ sym c.port_to.ensures ∙ c.in_default.is)
