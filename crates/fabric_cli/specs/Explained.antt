-- The codes that the program prints, and that each of them is explained.
use Rattle.std.specs.Prelude.{ℕ, ◌≡◌, ◌==◌, ◌||◌, ◌++◌, true, Bool, List, codes, drop, Some}
use Rattle.std.specs.List.{before_first}
use Rattle.code_texts.specs.Codes.{code_of}
use Rattle.code_texts.specs.Texts.{begins_with, text_of}
use Rattle.code_texts.specs.declared.code.Code.{Code}
use Rattle.fabric_cli.specs.Faults.{line_of}
use Rattle.fabric_cli.specs.declared.faults.Stop.{Stop}
use Rattle.fabric_cli.specs.declared.faults.Stop.TheVariants.{Words}

-- as the argument of `fabric explain` it is read as a code, and the text of that begins with it
pub record IsExplained (word : List ℕ) : Type 0 where
  pub code : Code
  pub read : code_of word ≡ Some code
  pub begins : begins_with (word ++ codes ": ") (text_of code) ≡ true

-- a blank or LF
abbrev pub ends_word : ℕ → Bool
ends_word byte = (byte == 32) || (byte == 10)

-- the token after `fault `
abbrev pub reported_word : List ℕ → List ℕ
reported_word line = before_first ends_word (drop 6 line)

-- the line on standard error has a code after `fault `, unless it is the text of refused arguments
pub record ReportsCode (line : List ℕ) : Type 0 where
  pub begins : begins_with (codes "fault ") line ≡ true
  pub explained : IsExplained (reported_word line)

abbrev pub NamesCode : Stop → Type 0
NamesCode (Words text) = Unit {0}
NamesCode stop = ReportsCode (line_of stop)
