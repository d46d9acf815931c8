-- The codes of the faults of P_Key tables as `smpquery` prints them.
use Rattle.std.specs.Prelude.{ℕ, List, codes}
use Rattle.pkeys_file.specs.declared.fault.KeysCause.{KeysCause}
use Rattle.pkeys_file.specs.declared.fault.KeysCause.TheVariants.{Malformed, DuplicateQuery, OtherAnswer, WrongPlace, NoQuery}

abbrev pub code_of : KeysCause → List ℕ
code_of Malformed = codes "KT1"
code_of DuplicateQuery = codes "KT2"
code_of OtherAnswer = codes "KT3"
code_of WrongPlace = codes "KT4"
code_of NoQuery = codes "KT5"
