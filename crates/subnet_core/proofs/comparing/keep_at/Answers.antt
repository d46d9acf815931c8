use Rattle.std.proofs.Common.{◌∙◌, ap, map, rules}
use Rattle.std.proofs.lemmas.Fn.{filter_same}
use Rattle.subnet_core.proofs.SameLemmas.{events_filtered}
use Rattle.subnet_core.proofs.comparing.keep_at.Goals as goal
use Rattle.subnet_fabric.specs.Sends.{event_of}

pub returns : goal.returns
returns c =
    ap (map event_of) (filter_same _ _ _ (λ x b f' k. search rules) _ _ c.retain.ensures.filtered) ∙ events_filtered c.args.port c.args.events.now.items
