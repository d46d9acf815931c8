-- The codes of the faults of SL-to-VL mapping tables and path records as they are printed.
use Rattle.std.specs.Prelude.{ℕ, List, codes}
use Rattle.sl2vl_file.specs.declared.fault.LanesCause.{LanesCause}
use Rattle.sl2vl_file.specs.declared.fault.LanesCause.TheVariants.{Malformed, DuplicateRow, DirectedRoute, DuplicateField, MissingField, Empty}

abbrev pub code_of : LanesCause → List ℕ
code_of Malformed = codes "FV1"
code_of DuplicateRow = codes "FV2"
code_of DirectedRoute = codes "FV3"
code_of DuplicateField = codes "FV4"
code_of MissingField = codes "FV5"
code_of Empty = codes "FV6"
