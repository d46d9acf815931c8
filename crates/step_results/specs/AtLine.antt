-- What is wrong with a text, with the line that it is reported for.
use Rattle.std.specs.Prelude.{ℕ, ◌+◌, List, [], ◌∷◌, Result, Ok, Err}
use Rattle.step_results.specs.Steps.{◌>>=◌}

-- a cause with its line, counted from 1; 0 if it is of no line, but of the text as a whole
pub record AtLine (Cause : Type 0) : Type 0 where
  pub line : ℕ
  pub cause : Cause

-- a step on that line
abbrev pub on_line : {X Cause : Type 0} → ℕ → Result X Cause → Result X (AtLine Cause)
on_line number (Ok x) = Ok x
on_line number (Err cause) = Err (record { line = number; cause = cause })

-- lines one after the other, counted from this number: each is judged by its number and what stands before it, and the
-- first that is refused decides
unfoldable pub after_lines : {S Cause : Type 0} → (ℕ → S → List ℕ → Result S Cause) → ℕ → S → List (List ℕ) → Result S (AtLine Cause)
after_lines step number so_far [] = Ok so_far
after_lines step number so_far (line ∷ rest) = on_line number (step number so_far line) >>= λ next. after_lines step (number + 1) next rest
