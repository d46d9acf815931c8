use Rattle.std.proofs.Common.{◌++◌, ◌∷◌, ◌∙◌, [], ap, sym}
use Rattle.std.proofs.lemmas.List.{map-append}
use Rattle.subnet_fabric.specs.declared.event.Event.TheVariants.{Received}
use Rattle.subnet_fabric.proofs.sending.events_of.Goals as goal

pub loop-delivery-preserved : goal.loop-delivery-preserved
loop-delivery-preserved c =
    c.in_ok-push.ensures.items ∙ ap (λ some. some ++ Received c.in-Some.delivery ∷ []) c.loop-delivery.invariant
    ∙ sym (map-append Received c.loop-delivery.yielded (c.in-Some.delivery ∷ []))
