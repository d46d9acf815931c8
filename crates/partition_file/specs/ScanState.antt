-- What a text says so far, if it is gone through byte by byte.
use Rattle.std.specs.Prelude.{Bool, true, false, List, [], None}
use Rattle.partition_file.specs.declared.definition.Definition.{Definition}
use Rattle.partition_file.specs.declared.definition_part.Part.{Part}
use Rattle.partition_file.specs.declared.definition_part.Part.TheVariants as part
use Rattle.partition_file.specs.Flags.{no_flags}

-- `[Name][=PKey][,flag[=value]]..:[ports[=membership]][,..];`, where `at` is the part that the next delimiter ends,
-- `current` the definition so far, `done` those before
pub record ScanState : Type 0 where
  pub at : Part
  pub current : Definition
  pub done : List Definition

abbrev pub blank : Definition
blank = record { name = []; base = None; flags = no_flags; items = [] }

abbrev pub start : ScanState
start = record { at = part.Name; current = blank; done = [] }

abbrev pub is_in_list : Part → Bool
is_in_list part.ListWord = true
is_in_list (part.Membership ports) = true
is_in_list _ = false
