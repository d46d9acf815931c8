use Rattle.std.proofs.Common.{take}
use Rattle.table_push.specs.MaskSteps.{is_attached_to}
use Rattle.table_push.proofs.AttachmentBitLemmas.{Slots}
use Rattle.table_push.proofs.attachments.switches_of.Given as goal

-- where the first receivers are attached
abbrev pub invariant-loop-index : goal.invariant-loop-index
invariant-loop-index l = Slots 64 l.fn.partition (take l.index l.fn.receivers) (is_attached_to l.fn.routes.between.homes) l.switches
