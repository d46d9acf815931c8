use Rattle.std.proofs.Common.{◌∙◌, ap}
use Rattle.audit_net.specs.Lookup.{all_turns}
use Rattle.audit_net.proofs.LookupLemmas.{known_turn_by}
use Rattle.audit_net.proofs.net.Net.known_turn.Goals as goal

pub returns : goal.returns
returns c =
    known_turn_by c.args.self.now c.deref.result.now c.args.place c.args.number c.turn_known.result (c.deref.ensures.value ∙ c.self.invariant.2 ∙ ap all_turns c.self.view_is) c.turn_known.ensures
