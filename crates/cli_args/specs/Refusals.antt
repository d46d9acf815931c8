-- Why arguments are refused.
use Rattle.std.specs.Prelude.{◌≡◌, ◌≢◌, List, Option, Result, Ok, Err, String, string_bytes, IfSome}
use Rattle.std.specs.Global.{Global}
use Rattle.std.specs.IoError.{error_kind}
use Rattle.std.specs.declared.io.Error.{Error as IoError}
use Rattle.std.specs.declared.io.ErrorKind.TheVariants.{OutOfMemory as IoOutOfMemory}
use Rattle.clap.specs.Words.{Text}
use Rattle.cli_args.specs.Words.{Asking, asked_of}
use Rattle.cli_args.specs.declared.call.Refused.{Refused}
use Rattle.cli_args.specs.declared.call.Refused.TheVariants.{NoMemory, Words}
use Rattle.cli_args.specs.Help.{not_text_line}

-- the arguments ask for nothing, and the error that refuses them displays the text that is known of it
abbrev pub IsShown : {E : Type 0} → (E → Option Text) → (List Text → Option Text) → List Text → Refused E → Type 0
IsShown output shown words (Words error) = (asked_of shown words ≡ Err (shown words)) × (output error ≡ shown words)
IsShown output shown words NoMemory = Unit {0}

-- the text of a refusal is this one, if it is known
abbrev pub ReportsAll : Option Text → Refused (String Global) → Type 0
ReportsAll shown (Words text) = IfSome shown (λ bytes. string_bytes text ≡ bytes)
ReportsAll shown NoMemory = Unit {0}

-- arguments that ask for nothing, with the text that is known of their refusal
abbrev pub HasText : Asking → Text → Type 0
HasText (Ok call) text = ⊥
HasText (Err shown) text = IfSome shown (λ known. text ≡ known)

-- arguments that ask for nothing are refused, and no others
abbrev pub IsOfWords : Asking → Refused (String Global) → Type 0
IsOfWords asked (Words text) = HasText asked (string_bytes text)
IsOfWords asked NoMemory = Unit {0}

-- an error of the machine other than out of memory
abbrev pub IsOther : {X : Type 0} → Result X IoError → Type 0
IsOther (Ok words) = ⊥
IsOther (Err error) = error_kind error ≢ IoOutOfMemory

-- the program's arguments are refused, by one line, only if not all are text, unless an allocation failed
abbrev pub IsOfGiven : {X : Type 0} → Result X IoError → Refused (String Global) → Type 0
IsOfGiven given (Words text) = IsOther given × (string_bytes text ≡ not_text_line)
IsOfGiven given NoMemory = Unit {0}
