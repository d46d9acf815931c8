-- Which fault a partition text is refused for: that of its shortest beginning at whose last place a fault is. The end is
-- a place of the whole text alone; of several faults at one place the first in turn is reported.
use Rattle.std.specs.Prelude.{ℕ, ◌≡◌, ◌≤◌, Bool, true, false, not, List, [], ◌∷◌, ◌++◌, Option, Some, None, Ok}
use Rattle.partition_file.specs.declared.fault.PartitionCause.{PartitionCause}
use Rattle.partition_file.specs.declared.fault.PartitionCause.TheVariants.{BadCharacter, BadNumber, ReservedKey, UnknownFlag, BothMembership}
use Rattle.partition_file.specs.declared.fault.PartitionCause.TheVariants.{MgidItem, TooManyPartitions, Unfinished, BadFlagValue}
use Rattle.partition_file.specs.declared.piece.Delimiter.{Delimiter}
use Rattle.step_results.specs.AtLine.{AtLine}
use Rattle.partition_file.specs.Pieces.{delimiter_of, is_allowed, line_after, piece_after}
use Rattle.partition_file.specs.Cases.{has_fault}
use Rattle.partition_file.specs.Definitions.{after, is_inside}
use Rattle.partition_file.specs.ScanState.{ScanState, start}
use Rattle.partition_file.specs.Tokens.{token_of}

-- the turn of a fault: the membership `both`, then the item `mgid`, then by code
abbrev pub turn : PartitionCause → ℕ
turn BothMembership = 0
turn MgidItem = 1
turn BadCharacter = 2
turn BadNumber = 3
turn ReservedKey = 4
turn UnknownFlag = 5
turn TooManyPartitions = 6
turn Unfinished = 7
turn BadFlagValue = 8

-- a delimiter has the faults of the piece that it ends; another byte has one if it may not stand outside comments
abbrev pub faults_of : ScanState → Option Delimiter → Bool → List ℕ → PartitionCause → Bool
faults_of s (Some delimiter) allowed piece fault = has_fault s delimiter (token_of s.at piece) fault
faults_of s None allowed piece BadCharacter = not allowed
faults_of s None allowed piece _ = false

-- the byte that follows this beginning of a text has the fault
unfoldable pub is_fault_at : ScanState → List ℕ → ℕ → PartitionCause → Bool
is_fault_at s before byte fault = faults_of s (delimiter_of byte) (is_allowed byte) (piece_after before) fault

-- this beginning of a text was gone through without a fault, and this is the state after it
abbrev pub IsClean : List ℕ → ScanState → Type 0
IsClean text s = after [] start text ≡ Ok s

-- the byte after a clean beginning has this fault, and none before it in turn; its line is that of the byte
pub record HasFaultInside (shown : List ℕ) (e : AtLine PartitionCause) : Type 0 where
  pub before : List ℕ
  pub byte : ℕ
  pub rest : List ℕ
  pub state : ScanState
  pub cut : shown ≡ before ++ byte ∷ rest
  pub clean : IsClean before state
  pub there : is_fault_at state before byte e.cause ≡ true
  pub first : (other : PartitionCause) → is_fault_at state before byte other ≡ true → turn e.cause ≤ turn other
  pub line : e.line ≡ line_after before

-- all of a text is clean, and it ends inside a definition
pub record HasFaultAtEnd (shown : List ℕ) (e : AtLine PartitionCause) : Type 0 where
  pub state : ScanState
  pub clean : IsClean shown state
  pub inside : is_inside state.at (piece_after shown) ≡ true
  pub cause : e.cause ≡ Unfinished
  pub line : e.line ≡ line_after shown
