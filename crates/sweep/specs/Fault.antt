-- Why a sweep stops: the codes that are printed, and what a request that reported nothing means.
use Rattle.std.specs.Prelude.{ℕ, List, codes, Option, Some, None, Result, Ok, Err}
use Rattle.smp_wire.specs.declared.reply.ReplyFault.{ReplyFault}
use Rattle.smp_wire.specs.declared.reply.ReplyFault.TheVariants as reply
use Rattle.sweep.specs.declared.fault.SweepFault.{SweepFault}
use Rattle.sweep.specs.declared.fault.SweepFault.TheVariants.{NoMemory, NoReply, WrongReply, TooManyHops, TooManyNodes}

abbrev pub code_of : SweepFault → Option (List ℕ)
code_of NoMemory = None
code_of NoReply = Some (codes "SW1")
code_of WrongReply = Some (codes "SW2")
code_of TooManyHops = Some (codes "SW3")
code_of TooManyNodes = Some (codes "SW4")

-- a refusal too is a wrong reply
abbrev pub fault_of : ReplyFault → SweepFault
fault_of reply.NoReply = NoReply
fault_of reply.Refused = WrongReply
fault_of reply.WrongReply = WrongReply

-- what was reported, with what a sweep stops with in place of the fault
abbrev pub heard : {X : Type 0} → Result X ReplyFault → Result X SweepFault
heard (Ok x) = Ok x
heard (Err fault) = Err (fault_of fault)
