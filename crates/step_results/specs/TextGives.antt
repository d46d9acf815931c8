-- How what the reader of a numbered text returns stands to what its definition gives.
use Rattle.std.specs.Prelude.{ℕ, Option, Some, None, Result}
use Rattle.step_results.specs.AtLine.{AtLine}
use Rattle.step_results.specs.Gives.{Gives}
use Rattle.step_results.specs.declared.line_error.LineError.{LineError}
use Rattle.step_results.specs.declared.line_error.LineError.TheVariants as line
use Rattle.step_results.specs.declared.text_fault.TextFault.{TextFault}
use Rattle.step_results.specs.declared.text_fault.TextFault.TheVariants as text

-- what is wrong with the text, if the error reports it; none if an allocation failed
abbrev pub text_fault_in : {Cause : Type 0} → TextFault Cause → Option (AtLine Cause)
text_fault_in text.NoMemory = None
text_fault_in (text.At number cause) = Some (record { line = number; cause = cause })

-- a text's reader returned what is given: its value as `view` sees it, or the first fault with its line
abbrev pub TextGives : {X Y Cause : Type 0} → (X → Y) → Result X (TextFault Cause) → Result Y (AtLine Cause) → Type 0
TextGives view read given = Gives text_fault_in view read given

-- the error of a line's reader, as one of the text
abbrev pub fault_on : {Cause : Type 0} → ℕ → LineError Cause → TextFault Cause
fault_on number line.NoMemory = text.NoMemory
fault_on number (line.Fault cause) = text.At number cause
