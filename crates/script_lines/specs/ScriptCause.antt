-- The codes that are printed for faults of a script.
use Rattle.std.specs.Prelude.{ℕ, List, codes}
use Rattle.script_lines.specs.declared.script_cause.ScriptCause.{ScriptCause}
use Rattle.script_lines.specs.declared.script_cause.ScriptCause.TheVariants.{Malformed, UnknownPort, ManagerPort, UncabledPort, PayloadTooLong, BadField, UnknownCable}

abbrev pub code_of : ScriptCause → List ℕ
code_of Malformed = codes "SF1"
code_of UnknownPort = codes "SF2"
code_of ManagerPort = codes "SF3"
code_of UncabledPort = codes "SF4"
code_of PayloadTooLong = codes "SF5"
code_of BadField = codes "SF6"
code_of UnknownCable = codes "SF7"
