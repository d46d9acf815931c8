-- How a script is carried out while it is read, piece by piece and line by line: the clauses of `src/stream.rt`.
use Rattle.std.specs.Prelude.{ℕ, ◌≡◌, ◌+◌, List, [], ◌∷◌, ◌++◌, length, Option, Some, None, Result, Ok, Err, if◌then◌else◌}
use Rattle.std.specs.Io.KnownBytes.{Appends, Consumes, IsAtEnd}
use Rattle.step_results.specs.AtLine.{AtLine}
use Rattle.sa_replies.specs.Administration.{subnet_administration}
use Rattle.script_lines.specs.Script.{command_of}
use Rattle.script_lines.specs.declared.script_cause.ScriptCause.{ScriptCause}
use Rattle.subnet_core.specs.BringUp.{SubnetState}
use Rattle.subnet_core.specs.EventLines.{report_text}
use Rattle.subnet_core.specs.Stream.{AreLinesOf, commands_before_fault, whole_lines}
use Rattle.subnet_core.specs.declared.fault.RunFault.{RunFault}
use Rattle.subnet_core.specs.declared.fault.RunFault.TheVariants.{NoMemory, Read, Script, Write}
use Rattle.subnet_model.specs.Report.{events_from, state_from, step_by}
use Rattle.subnet_model.specs.declared.command.Command.{Command}
use Rattle.text_words.specs.Lines.{ends_in, is_line_end, lines}
use Rattle.topo_file.specs.Topology.{TopologyState}

-- the subnet that carries it out, what is reported and still to be written, and how many lines were taken
pub record StreamState : Type 0 where
  pub subnet : SubnetState
  pub text : List ℕ
  pub taken : ℕ

-- ---- texts on their way to a writer
-- this text was put behind the one that waits: some of both was written, the rest waits
pub record Puts (reported text text' : List ℕ) (old new : Option (List ℕ)) : Type 0 where
  pub written : List ℕ
  pub appended : Appends old new written
  pub same : text ++ reported ≡ written ++ text'

-- or some of it, and the rest is lost
pub record PutsSome (reported text text' : List ℕ) (old new : Option (List ℕ)) : Type 0 where
  pub written : List ℕ
  pub lost : List ℕ
  pub appended : Appends old new written
  pub same : text ++ reported ≡ (written ++ text') ++ lost

-- events are reported
abbrev pub Reports : {X : Type 0} → (reported : List ℕ) → Result X RunFault → (was left : StreamState) → (old new : Option (List ℕ)) → Type 0
Reports reported (Ok done) was left old new =
    Puts reported was.text left.text old new × (left.subnet ≡ was.subnet) × (left.taken ≡ was.taken)
Reports reported (Err NoMemory) was left old new = PutsSome reported was.text left.text old new
Reports reported (Err Write) was left old new = PutsSome reported was.text left.text old new
Reports reported (Err fault) was left old new = ⊥

-- ---- lines that are taken, whole
abbrev pub or_later : Result (Option Command) ScriptCause → ℕ → Option (AtLine ScriptCause) → Option (AtLine ScriptCause)
or_later (Ok command) number later = later
or_later (Err cause) number later = Some (record { line = number; cause = cause })

-- the first that is at fault, if they are counted from this number
unfoldable pub first_fault : TopologyState → ℕ → List (List ℕ) → Option (AtLine ScriptCause)
first_fault plan number [] = None
first_fault plan number (line ∷ rest) = or_later (command_of plan line) number (first_fault plan (number + 1) rest)

-- what these report in a subnet that stands so
abbrev pub reported_from : SubnetState → List (List ℕ) → List ℕ
reported_from subnet lines =
    report_text subnet.inventory.configuration.ports
    (events_from (step_by subnet_administration subnet.inventory.configuration) subnet.administration
    (commands_before_fault subnet.inventory.plan lines))

-- all of them are carried out
pub record Carries (lines : List (List ℕ)) (was left : StreamState) (old new : Option (List ℕ)) : Type 0 where
  pub puts : Puts (reported_from was.subnet lines) was.text left.text old new
  pub inventory : left.subnet.inventory ≡ was.subnet.inventory
  pub administration : left.subnet.administration
      ≡ state_from (step_by subnet_administration was.subnet.inventory.configuration) was.subnet.administration
      (commands_before_fault was.subnet.inventory.plan lines)
  pub taken : left.taken ≡ was.taken + length lines
  pub sound : first_fault was.subnet.inventory.plan (was.taken + 1) lines ≡ None

abbrev pub Takes : {X : Type 0} → List (List ℕ) → Result X RunFault → (was left : StreamState) → (old new : Option (List ℕ)) → Type 0
Takes lines (Ok done) was left old new = Carries lines was left old new
Takes lines (Err (Script line cause)) was left old new =
    (first_fault was.subnet.inventory.plan (was.taken + 1) lines ≡ Some (record { line = line; cause = cause }))
    × Puts (reported_from was.subnet lines) was.text left.text old new
Takes lines (Err NoMemory) was left old new = PutsSome (reported_from was.subnet lines) was.text left.text old new
Takes lines (Err Write) was left old new = PutsSome (reported_from was.subnet lines) was.text left.text old new
Takes lines (Err fault) was left old new = ⊥

-- ---- a script, as far as it is read
-- a line that was begun where reading stopped is not taken
abbrev pub StopsSo : {X : Type 0} → Result X RunFault → (read : List ℕ) → (rest : Option (List ℕ)) → (taken : List (List ℕ))
    → (was left : StreamState) → (old new : Option (List ℕ)) → Type 0
StopsSo (Ok done) read rest taken was left old new = (taken ≡ lines read) × IsAtEnd rest × Carries taken was left old new
StopsSo (Err Read) read rest taken was left old new = (taken ≡ whole_lines read) × Carries taken was left old new
StopsSo answer read rest taken was left old new = Takes taken answer was left old new

pub record ReadsOn (X : Type 0) (answer : Result X RunFault) (was left : StreamState) (script rest old new : Option (List ℕ)) : Type 0 where
  pub read : List ℕ
  pub consumed : Consumes script rest read
  pub taken : List (List ℕ)
  pub are_lines : AreLinesOf read rest taken
  pub stops : StopsSo answer read rest taken was left old new

-- ---- lines out of pieces: a line that was begun, and parts of lines behind it
unfoldable pub lines_of_parts : (begun : List ℕ) → List (List ℕ) → List (List ℕ)
lines_of_parts begun [] = []
lines_of_parts begun (part ∷ parts) =
    if ends_in 10 part then (begun ++ part) ∷ lines_of_parts [] parts else lines_of_parts (begun ++ part) parts

-- and the line that is begun then
unfoldable pub begun_by_parts : (begun : List ℕ) → List (List ℕ) → List ℕ
begun_by_parts begun [] = begun
begun_by_parts begun (part ∷ parts) = if ends_in 10 part then begun_by_parts [] parts else begun_by_parts (begun ++ part) parts

-- the same, byte by byte
unfoldable pub lines_behind : (begun : List ℕ) → List ℕ → List (List ℕ)
lines_behind begun [] = []
lines_behind begun (byte ∷ bytes) =
    if is_line_end byte then (begun ++ byte ∷ []) ∷ lines_behind [] bytes else lines_behind (begun ++ byte ∷ []) bytes

unfoldable pub begun_behind : (begun : List ℕ) → List ℕ → List ℕ
begun_behind begun [] = begun
begun_behind begun (byte ∷ bytes) = if is_line_end byte then begun_behind [] bytes else begun_behind (begun ++ byte ∷ []) bytes

-- what is begun, if something is, is the last line
abbrev pub rest_of : List ℕ → List (List ℕ)
rest_of [] = []
rest_of (byte ∷ bytes) = (byte ∷ bytes) ∷ []
