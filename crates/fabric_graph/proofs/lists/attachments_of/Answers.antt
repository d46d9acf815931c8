use Rattle.fabric_graph.specs.Lists.{attachment_at}
use Rattle.fabric_graph.proofs.AttachmentLemmas.{one_more}
use Rattle.fabric_graph.proofs.lists.attachments_of.Goals as goal

pub loop-place-preserved : goal.loop-place-preserved
loop-place-preserved c =
    one_more (attachment_at c.args.topology.now c.args.configuration.now) c.loop-place.attachments.items c.push.new.self.items c.loop-place.place c.in_ok-attachment_at.field-0
    c.loop-place.invariant c.in_ok-attachment_at.ensures c.in_ok-push.ensures.items
