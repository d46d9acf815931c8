use Rattle.updn_routes.proofs.AnswerLemmas.{all_routed}
use Rattle.updn_routes.proofs.answer.SwitchRoutes.next_hop.Goals as goal

pub returns-clause-routed : goal.returns-clause-routed
returns-clause-routed c = rw (← c.self.view_is) (all_routed _ c.self.invariant c.args.switch c.args.lid)
