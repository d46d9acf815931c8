use Rattle.std.proofs.Common.{take}
use Rattle.table_push.proofs.AttachmentBitLemmas.{SoFar}
use Rattle.table_push.proofs.attachments.put_attachments.Given as goal

-- where the first receivers are attached
abbrev pub invariant-loop-index : goal.invariant-loop-index
invariant-loop-index l = SoFar l.fn.routes l.fn.partition (take l.index l.fn.receivers) l.ports l.switches
