-- The codes of the faults of an import.
use Rattle.std.specs.Prelude.{ℕ, List, codes}
use Rattle.topo_file.specs.Fault as topology
use Rattle.topology_import.specs.declared.fault.ImportCause.{ImportCause}
use Rattle.topology_import.specs.declared.fault.ImportCause.TheVariants.{GuidTaken, UnknownManager, Refused, Unlike}

abbrev pub code_of : ImportCause → List ℕ
code_of (GuidTaken port guid) = codes "ND5"
code_of UnknownManager = codes "ND6"
code_of Unlike = codes "ND7"
code_of (Refused cause) = topology.code_of cause
