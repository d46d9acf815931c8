use Rattle.std.proofs.Common.{take}
use Rattle.subnet_fabric.specs.Replies.{ComeOfReplies}
use Rattle.subnet_fabric.proofs.replying.reply.Given as goal

abbrev pub invariant-loop-mad : goal.invariant-loop-mad
invariant-loop-mad l = ComeOfReplies l.fabric l.request l.key (take l.mad-index l.mads) l.events.items
