-- The codes of the faults of linear forwarding tables as they are dumped.
use Rattle.std.specs.Prelude.{ℕ, List, codes}
use Rattle.dump_file.specs.declared.fault.DumpCause.{DumpCause}
use Rattle.dump_file.specs.declared.fault.DumpCause.TheVariants.{Malformed, EndNotReported, DuplicateTable, WrongLid, WrongCount, Unfinished, TwoEndPorts}

abbrev pub code_of : DumpCause → List ℕ
code_of Malformed = codes "FT1"
code_of EndNotReported = codes "FT2"
code_of DuplicateTable = codes "FT3"
code_of WrongLid = codes "FT4"
code_of WrongCount = codes "FT5"
code_of Unfinished = codes "FT6"
code_of TwoEndPorts = codes "FT7"
