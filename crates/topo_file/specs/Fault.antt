-- The codes of the faults of a topology.
use Rattle.std.specs.Prelude.{ℕ, List, codes}
use Rattle.topo_file.specs.declared.fault.TopologyCause.{TopologyCause}
use Rattle.topo_file.specs.declared.fault.TopologyCause.TheVariants.{Malformed, DuplicateName, DuplicateGuid, UnknownNode, NoSuchPort, PortTaken}
use Rattle.topo_file.specs.declared.fault.TopologyCause.TheVariants.{WrongCableEnds, WrongManager, Disconnected, OverLimit, ManagerUncabled}
use Rattle.topo_file.specs.declared.fault.TopologyCause.TheVariants.{RootNotSwitch}

abbrev pub code_of : TopologyCause → List ℕ
code_of Malformed = codes "TF1"
code_of DuplicateName = codes "TF2"
code_of DuplicateGuid = codes "TF3"
code_of UnknownNode = codes "TF4"
code_of NoSuchPort = codes "TF5"
code_of PortTaken = codes "TF6"
code_of WrongCableEnds = codes "TF7"
code_of WrongManager = codes "TF8"
code_of Disconnected = codes "TF9"
code_of OverLimit = codes "TF10"
code_of ManagerUncabled = codes "TF11"
code_of RootNotSwitch = codes "TF12"
