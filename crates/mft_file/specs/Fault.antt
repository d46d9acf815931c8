-- The codes of the faults of multicast forwarding tables as they are dumped.
use Rattle.std.specs.Prelude.{ℕ, List, codes}
use Rattle.mft_file.specs.declared.fault.MftCause.{MftCause}
use Rattle.mft_file.specs.declared.fault.MftCause.TheVariants.{Malformed, DuplicateTable, WrongMlid, WrongCount, Unfinished}

abbrev pub code_of : MftCause → List ℕ
code_of Malformed = codes "FM1"
code_of DuplicateTable = codes "FM2"
code_of WrongMlid = codes "FM3"
code_of WrongCount = codes "FM4"
code_of Unfinished = codes "FM5"
