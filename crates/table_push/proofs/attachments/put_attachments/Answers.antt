use Rattle.std.proofs.Common.{◌∙◌, subst, sym, []}
use Rattle.std.proofs.lemmas.Option.{slice_get-get_or}
use Rattle.table_push.proofs.AttachmentBitLemmas.{SoFar, all_attached, none_attached, attached, unattached}
use Rattle.table_push.proofs.attachments.put_attachments.Goals.{in-Some, in-None}
use Rattle.table_push.proofs.attachments.put_attachments.Goals as goal

pub loop-index-init : goal.loop-index-init
loop-index-init c =
    subst (SoFar c.args.routes.now c.args.partition [] c.args.ports.now) (sym c.requires.switches)
    (none_attached c.args.routes.now c.args.partition c.args.ports.now c.requires.ports)

pub loop-index-preserved : goal.loop-index-preserved
loop-index-preserved c = elim c.match-attachment_of.branch [
  | in-Some w ↦
      attached c.args.routes.now c.args.partition c.loop-index.index w.port_bit.result c.args.receivers.now _ w.in-Some.attachment c.loop-index.ports c.match-attachment_of.ports
      c.loop-index.switches c.match-attachment_of.switches _ (slice_get-get_or c.args.receivers.now c.loop-index.index _ c.loop-index-test.true)
      (sym c.attachment_of.ensures.attachment ∙ w.in-Some.is) w.in-Some.ensures.low w.port_bit.ensures w.ports-is w.switches-is c.loop-index.invariant
  | in-None w ↦
      unattached c.args.routes.now c.args.partition c.loop-index.index c.args.receivers.now _ c.loop-index.ports c.match-attachment_of.ports
      c.loop-index.switches c.match-attachment_of.switches (slice_get-get_or c.args.receivers.now c.loop-index.index _ c.loop-index-test.true)
      (sym c.attachment_of.ensures.attachment ∙ w.in-None.is) w.ports-is w.switches-is c.loop-index.invariant
]

pub returns : goal.returns
returns c =
    (all_attached c.args.routes.now c.args.partition c.loop-index.index c.args.receivers.now c.loop-index.ports c.loop-index.switches c.loop-index-test.false c.loop-index.invariant).are
