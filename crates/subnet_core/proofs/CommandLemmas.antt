-- The lines of a script, one after the other, where what is wrong is a fault of the run.
use Rattle.std.proofs.Common.{◌≡◌, ℕ, ◌+◌, List, ◌∷◌, Option, Some, None, Result, Ok, Err, refl, subst}
use Rattle.step_results.specs.AtLine.{AtLine, after_lines, on_line}
use Rattle.step_results.specs.Gives.{Fails}
use Rattle.step_results.specs.Steps.{◌>>=◌}
use Rattle.step_results.proofs.LineLemmas.{IsLeft}
use Rattle.step_results.proofs.StepLemmas.{same_err}
use Rattle.subnet_core.specs.declared.fault.RunFault.{RunFault}
use Rattle.subnet_core.specs.Inventory.{of_text}

pub text_is_good : {X Cause : Type 0} (fault : ℕ → Cause → RunFault) (given : Result X (AtLine Cause)) (x : X) → of_text fault given ≡ Ok x
    → given ≡ Ok x
text_is_good fault (Ok y) x h = cc
text_is_good fault (Err at) x h = absurd cc

fails_on : {X Y Cause : Type 0} (fault : ℕ → Cause → RunFault) (reported : Option RunFault) (given : Result X (AtLine Cause)) (f : X → Result Y (AtLine Cause))
    → Fails reported (of_text fault given) → Fails reported (of_text fault (given >>= f))
fails_on fault None given f h = tt
fails_on fault (Some run) (Ok x) f h = absurd cc
fails_on fault (Some run) (Err at) f h = let same : fault at.line at.cause ≡ run = same_err _ _ h in rw same refl

-- a line that was not taken
pub stops : {S Cause : Type 0} (fault : ℕ → Cause → RunFault) (step : ℕ → S → List ℕ → Result S Cause) (reported : Option RunFault) (number : ℕ) (so_far : S) (line : List ℕ) (left rest : List (List ℕ)) (limit : ℕ) (all : Result S (AtLine Cause))
    → left ≡ line ∷ rest → IsLeft step number so_far left limit all
    → Fails reported (of_text fault (on_line (number + 1) (step (number + 1) so_far line))) → Fails reported (of_text fault all)
unfolding after_lines
stops fault step reported number so_far line left rest limit all first before judged =
    let kept = subst (λ (l : List (List ℕ)). IsLeft step number so_far l limit all) first before in
    subst (λ given. Fails reported (of_text fault given)) kept.same
    (fails_on fault reported (on_line (number + 1) (step (number + 1) so_far line)) (λ next. after_lines step (number + 1 + 1) next rest) judged)
