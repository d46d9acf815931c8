use Rattle.script_lines.specs.Asking.{asked_in}
use Rattle.script_lines.proofs.AskLoopLemmas.{IsAsked}
use Rattle.script_lines.proofs.asking.asked_in.Given as goal

abbrev pub invariant-loop-word : goal.invariant-loop-word
invariant-loop-word l = IsAsked l.fn.attribute l.component_mask l.asked l.word-iterator (asked_in l.fn.attribute l.fn.words)
