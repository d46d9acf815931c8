-- The codes of the faults of what `ibnetdiscover` printed.
use Rattle.std.specs.Prelude.{ℕ, List, codes}
use Rattle.netdiscover_file.specs.declared.fault.DiscoveryCause.{DiscoveryCause}
use Rattle.netdiscover_file.specs.declared.fault.DiscoveryCause.TheVariants.{Malformed, NoSuchPort, DuplicateGuid, WrongFarEnd}

abbrev pub code_of : DiscoveryCause → List ℕ
code_of Malformed = codes "ND1"
code_of NoSuchPort = codes "ND2"
code_of DuplicateGuid = codes "ND3"
code_of WrongFarEnd = codes "ND4"
