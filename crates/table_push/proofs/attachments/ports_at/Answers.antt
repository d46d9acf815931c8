use Rattle.std.proofs.Common.{ℕ, ◌∙◌, ap, sym, Option}
use Rattle.std.proofs.lemmas.Option.{slice_get-get_or}
use Rattle.table_push.specs.MaskSteps.{is_attached_at, is_that_port}
use Rattle.table_push.proofs.AttachmentBitLemmas.{all_slots, no_slots, nobody_at, port_there, slot_more, slot_passed}
use Rattle.table_push.proofs.attachments.ports_at.Goals.{in-Some, in-None}
use Rattle.table_push.proofs.attachments.ports_at.Goals as goal

pub loop-index-init : goal.loop-index-init
loop-index-init c = no_slots 48 c.args.partition (is_attached_at c.args.routes.now.between.homes c.args.place)

pub loop-index-preserved : goal.loop-index-preserved
loop-index-preserved c = elim c.match-attachment_of.branch [
  | in-Some w ↦
      slot_more c.args.routes.now 48 c.args.partition c.loop-index.index w.port_bit.result c.args.receivers.now _ w.in-Some.attachment
      (is_attached_at c.args.routes.now.between.homes c.args.place) c.loop-index.ports
      c.match-attachment_of.ports (slice_get-get_or c.args.receivers.now c.loop-index.index _ c.loop-index-test.true)
      (sym c.attachment_of.ensures.attachment ∙ w.in-Some.is) w.in-Some.ensures.low.0
      (λ home number below. w.port_bit.ensures number below ∙ ap (λ (o : Option ℕ). is_that_port o number) w.port_on.ensures
      ∙ port_there c.args.routes.now.between.homes c.args.place _ number w.in-Some.attachment.home home)
      w.ports-is c.loop-index.invariant
  | in-None w ↦
      slot_passed c.args.routes.now 48 c.args.partition c.loop-index.index c.args.receivers.now _ (is_attached_at c.args.routes.now.between.homes c.args.place) c.loop-index.ports
      c.match-attachment_of.ports (slice_get-get_or c.args.receivers.now c.loop-index.index _ c.loop-index-test.true)
      (sym c.attachment_of.ensures.attachment ∙ w.in-None.is) (λ home number. nobody_at c.args.routes.now.between.homes c.args.place _ number home) w.ports-is c.loop-index.invariant
]

pub returns-clause-long : goal.returns-clause-long
returns-clause-long c = c.loop-index.invariant.long

pub returns-clause-ports : goal.returns-clause-ports
returns-clause-ports c =
    (all_slots 48 c.args.partition c.loop-index.index c.args.receivers.now (is_attached_at c.args.routes.now.between.homes c.args.place) c.loop-index.ports c.loop-index-test.false c.loop-index.invariant).are
