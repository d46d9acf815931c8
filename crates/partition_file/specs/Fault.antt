-- The codes of the faults of a partition file.
use Rattle.std.specs.Prelude.{ℕ, List, codes}
use Rattle.partition_file.specs.declared.fault.PartitionCause.{PartitionCause}
use Rattle.partition_file.specs.declared.fault.PartitionCause.TheVariants.{BadCharacter, BadNumber, ReservedKey, UnknownFlag, BothMembership}
use Rattle.partition_file.specs.declared.fault.PartitionCause.TheVariants.{MgidItem, TooManyPartitions, Unfinished, BadFlagValue}

abbrev pub code_of : PartitionCause → List ℕ
code_of BadCharacter = codes "PF1"
code_of BadNumber = codes "PF2"
code_of ReservedKey = codes "PF3"
code_of UnknownFlag = codes "PF4"
code_of BothMembership = codes "PF5"
code_of MgidItem = codes "PF6"
code_of TooManyPartitions = codes "PF7"
code_of Unfinished = codes "PF8"
code_of BadFlagValue = codes "PF9"
