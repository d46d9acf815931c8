use Rattle.std.proofs.Common.{◌==◌, ◌∙◌, ap, refl, sym}
use Rattle.subnet_core.proofs.OverLemmas.{some_received}
use Rattle.subnet_core.proofs.mlid_ranges.push_where_received.Goals as goal

pub returns-in-Ok-clause-pushed : goal.returns-in-Ok-clause-pushed
returns-in-Ok-clause-pushed c =
    some_received c.args.routes.now c.args.registry.now c.args.fabric.now c.push_multicast.new.wire c.args.partition c.deref.result.now _
    (c.deref.ensures.value ∙ c.in_ok-receivers.ensures.value) (ap (λ n. n == 0) c.deref.ensures.len ∙ sym c.if-is_empty.ensures) c.requires.stands
    (c.push_multicast.ensures c.args.fabric.now refl c.requires.stands.graph c.requires.stands.good)
