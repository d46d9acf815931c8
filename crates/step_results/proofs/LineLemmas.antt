-- A loop over lines, each judged after those before it: what is left gives from here what all of them give.
use Rattle.std.proofs.Common.{◌≡◌, ℕ, ◌+◌, ◌≤◌, List, [], ◌∷◌, length, Option, Result, Ok, refl, sym, ap, subst, ◌∙◌, arith}
use Rattle.step_results.specs.declared.line_error.LineError.{LineError}
use Rattle.step_results.specs.declared.line_error.LineError.TheVariants.{NoMemory, Fault}
use Rattle.step_results.specs.AtLine.{AtLine, after_lines, on_line}
use Rattle.step_results.specs.Gives.{Fails, fault_in}
use Rattle.step_results.specs.TextGives.{fault_on, text_fault_in}
use Rattle.step_results.proofs.StepLemmas.{fails_on}

-- what the loop keeps: what is left gives from here what all lines give, and the count of lines fits
pub record IsLeft {S Cause : Type 0} (step : ℕ → S → List ℕ → Result S Cause) (number : ℕ) (so_far : S) (left : List (List ℕ)) (limit : ℕ) (all : Result S (AtLine Cause)) : Type 0 where
  pub count : number + length left ≤ limit
  pub same : after_lines step (number + 1) so_far left ≡ all

-- one more line that was taken
pub goes_on : {S Cause : Type 0} (step : ℕ → S → List ℕ → Result S Cause) (number : ℕ) (so_far next : S) (line : List ℕ) (left rest : List (List ℕ)) (limit : ℕ) (all : Result S (AtLine Cause))
    → left ≡ line ∷ rest → IsLeft step number so_far left limit all → on_line (number + 1) (step (number + 1) so_far line) ≡ Ok next → IsLeft step (number + 1) next rest limit all
unfolding after_lines
goes_on step number so_far next line left rest limit all first before judged =
    let kept = subst (λ (l : List (List ℕ)). IsLeft step number so_far l limit all) first before in
    let taken : after_lines step (number + 1) so_far (line ∷ rest) ≡ after_lines step (number + 1 + 1) next rest = rw judged refl in
    record { count = omega (arith, kept.count); same = sym taken ∙ kept.same }

-- a line that was not taken
pub stops : {S Cause : Type 0} (step : ℕ → S → List ℕ → Result S Cause) (reported : Option (AtLine Cause)) (number : ℕ) (so_far : S) (line : List ℕ) (left rest : List (List ℕ)) (limit : ℕ) (all : Result S (AtLine Cause))
    → left ≡ line ∷ rest → IsLeft step number so_far left limit all → Fails reported (on_line (number + 1) (step (number + 1) so_far line)) → Fails reported all
unfolding after_lines
stops step reported number so_far line left rest limit all first before judged =
    let kept = subst (λ (l : List (List ℕ)). IsLeft step number so_far l limit all) first before in
    subst (λ given. Fails reported given) kept.same
    (fails_on reported (on_line (number + 1) (step (number + 1) so_far line)) (λ next. after_lines step (number + 1 + 1) next rest) judged)

-- an error of a line is one of its text
pub with_number : {X Cause : Type 0} (number : ℕ) (error : LineError Cause) (given : Result X Cause) → Fails (fault_in error) given
    → Fails (text_fault_in (fault_on number error)) (on_line number given)
with_number number NoMemory given h = tt
with_number number (Fault cause) given h = rw h refl

-- after the last
pub ends : {S Cause : Type 0} (step : ℕ → S → List ℕ → Result S Cause) (number : ℕ) (so_far : S) (left : List (List ℕ)) (limit : ℕ) (all : Result S (AtLine Cause))
    → left ≡ [] → IsLeft step number so_far left limit all → all ≡ Ok so_far
unfolding after_lines
ends step number so_far left limit all none before = sym before.same ∙ ap (after_lines step (number + 1) so_far) none
