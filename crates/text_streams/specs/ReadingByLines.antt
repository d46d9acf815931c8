-- What a reader of lines makes of the text that is left, of which no more than a piece is kept.
use Rattle.std.specs.Prelude.{◌≡◌, List, ℕ, Option, Some, None, IfSome, Result, Ok, Err}
use Rattle.step_results.specs.AtLine.{AtLine}
use Rattle.step_results.specs.Gives.{Fails}
use Rattle.step_results.specs.TextGives.{text_fault_in}
use Rattle.step_results.specs.declared.text_fault.TextFault.{TextFault}

-- what is given: the value that was made, as `view` sees it, or the first fault; `None` if the text was not read to its end
abbrev pub IsMade : {X Y Cause : Type 0} → (X → Y) → Result (Option X) (TextFault Cause) → Result Y (AtLine Cause) → Type 0
IsMade view (Ok None) given = Unit {0}
IsMade view (Ok (Some made)) given = given ≡ Ok (view made)
IsMade view (Err error) given = Fails (text_fault_in error) given

-- so it is made of some text, which is all that a reader had left, if that is known
pub record IsMadeOf {X Y Cause : Type 0} (view : X → Y) (made : Result (Option X) (TextFault Cause)) (known : Option (List ℕ))
    (definition : List ℕ → Result Y (AtLine Cause)) : Type 0 where
  pub text : List ℕ
  pub is_known : IfSome known (λ bytes. bytes ≡ text)
  pub is_made : IsMade view made (definition text)
