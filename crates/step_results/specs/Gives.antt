-- A reader returns what the definition gives, unless an allocation fails.
use Rattle.std.specs.Prelude.{◌≡◌, Option, Some, None, Result, Ok, Err}
use Rattle.step_results.specs.declared.line_error.LineError.{LineError}
use Rattle.step_results.specs.declared.line_error.LineError.TheVariants.{NoMemory, Fault}

-- an error that reports this fault, or out of memory if it reports none
abbrev pub Fails : {Y Fault : Type 0} → Option Fault → Result Y Fault → Type 0
Fails None given = Unit {0}
Fails (Some fault) given = given ≡ Err fault

-- the reader returned what is given: its value as `view` sees it, or the fault that its error reports
abbrev pub Gives : {X Y Error Fault : Type 0} → (Error → Option Fault) → (X → Y) → Result X Error → Result Y Fault → Type 0
Gives reported view (Ok x) given = given ≡ Ok (view x)
Gives reported view (Err error) given = Fails (reported error) given

-- what the reader of a line fails by
abbrev pub fault_in : {Cause : Type 0} → LineError Cause → Option Cause
fault_in NoMemory = None
fault_in (Fault cause) = Some cause

-- a line's reader returned what is given
abbrev pub LineGives : {X Y Cause : Type 0} → (X → Y) → Result X (LineError Cause) → Result Y Cause → Type 0
LineGives view read given = Gives fault_in view read given

-- what was returned, its value as `view` sees it
abbrev pub seen_by : {X Y Error : Type 0} → (X → Y) → Result X Error → Result Y Error
seen_by view (Ok x) = Ok (view x)
seen_by view (Err error) = Err error
