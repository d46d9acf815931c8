-- Why a step does not complete.
use Rattle.subnet_core.specs.declared.administering.AnswerFault.{AnswerFault}
use Rattle.subnet_core.specs.declared.administering.AnswerFault.TheVariants as answering
use Rattle.subnet_core.specs.declared.fault.StepFault.{StepFault}
use Rattle.subnet_core.specs.declared.fault.StepFault.TheVariants as step

-- an allocation failed; a switch of a fabric that is served takes its masks, so that the second never comes
abbrev pub step_fault_of : AnswerFault → StepFault
step_fault_of answering.NoMemory = step.NoMemory
step_fault_of (answering.Push fault) = step.Broken
