use Rattle.std.proofs.Common.{◌∙◌, sym}
use Rattle.std.proofs.lemmas.Option.{slice_get-get_or}
use Rattle.table_push.specs.MaskSteps.{is_attached_to}
use Rattle.table_push.proofs.ReachLemmas.{port_bit}
use Rattle.table_push.proofs.AttachmentBitLemmas.{all_slots, no_slots, nobody_on, slot_more, slot_passed, switch_there}
use Rattle.table_push.proofs.attachments.switches_of.Goals.{in-Some, in-None}
use Rattle.table_push.proofs.attachments.switches_of.Goals as goal

pub loop-index-init : goal.loop-index-init
loop-index-init c = no_slots 64 c.args.partition (is_attached_to c.args.routes.now.between.homes)

pub loop-index-preserved : goal.loop-index-preserved
loop-index-preserved c = elim c.match-attachment_of.branch [
  | in-Some w ↦
      slot_more c.args.routes.now 64 c.args.partition c.loop-index.index _ c.args.receivers.now _ w.in-Some.attachment (is_attached_to c.args.routes.now.between.homes) c.loop-index.switches
      c.match-attachment_of.switches (slice_get-get_or c.args.receivers.now c.loop-index.index _ c.loop-index-test.true)
      (sym c.attachment_of.ensures.attachment ∙ w.in-Some.is) w.in-Some.ensures.low.0
      (λ home number below. port_bit w.in-Some.attachment.home.node number w.in-Some.ensures.low.1 ∙ switch_there c.args.routes.now.between.homes _ number w.in-Some.attachment.home home)
      w.switches-is c.loop-index.invariant
  | in-None w ↦
      slot_passed c.args.routes.now 64 c.args.partition c.loop-index.index c.args.receivers.now _ (is_attached_to c.args.routes.now.between.homes) c.loop-index.switches
      c.match-attachment_of.switches (slice_get-get_or c.args.receivers.now c.loop-index.index _ c.loop-index-test.true)
      (sym c.attachment_of.ensures.attachment ∙ w.in-None.is) (λ home number. nobody_on c.args.routes.now.between.homes _ number home) w.switches-is c.loop-index.invariant
]

pub returns : goal.returns
returns c =
    (all_slots 64 c.args.partition c.loop-index.index c.args.receivers.now (is_attached_to c.args.routes.now.between.homes) c.loop-index.switches c.loop-index-test.false c.loop-index.invariant).are
