use Rattle.std.proofs.Common.{◌≡◌, drop}
use Rattle.sa_model.specs.Refusals.{first_refusal}
use Rattle.sa_answer.proofs.questions.first_refusal.Given as goal

abbrev pub invariant-loop-question : goal.invariant-loop-question
invariant-loop-question l = first_refusal (drop l.question-index l.questions) ≡ first_refusal l.questions
