use Rattle.std.proofs.Common.{take}
use Rattle.table_push.proofs.GroupMaskLemmas.{AreMarked}
use Rattle.table_push.proofs.groups.port_masks.Given as goal

-- where the first members are attached
abbrev pub invariant-loop-index : goal.invariant-loop-index
invariant-loop-index l = AreMarked l.fn.routes.between.homes (take l.index l.fn.lids) l.ports l.switches
