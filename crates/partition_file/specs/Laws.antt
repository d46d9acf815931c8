-- What is so of every partition text and of all partitions: the statements of the laws of `src/laws.rt`.
use Rattle.std.specs.Prelude.{ℕ, ◌≡◌, ◌⊎◌, false, All, List, ◌∷◌, ◌++◌, filter_map, take, Ok, Err}
use Rattle.pkey_rules.specs.KeyTable.{find_base}
use Rattle.pkey_rules.specs.declared.end_port.EndPort.{EndPort}
use Rattle.step_results.specs.AtLine.{AtLine}
use Rattle.partition_file.specs.declared.definition.Definition.{Definition}
use Rattle.partition_file.specs.declared.fault.PartitionCause.{PartitionCause}
use Rattle.partition_file.specs.declared.partition.Partition.{Partition}
use Rattle.partition_file.specs.Pieces.{without_comments}
use Rattle.partition_file.specs.ScanState.{ScanState}
use Rattle.partition_file.specs.Cut.{definitions_cut}
use Rattle.partition_file.specs.FirstFault.{HasFaultAtEnd, HasFaultInside, IsClean, is_fault_at}
use Rattle.partition_file.specs.Generated.{AllGetFree}
use Rattle.partition_file.specs.Members.{key_in, keys_in}
use Rattle.partition_file.specs.Partitions.{partitions_in, partitions_of}
use Rattle.partition_file.specs.Sound.{AreSound, IsSound}

-- ---- which fault a text is refused for
-- the fault of a byte after a clean beginning is reported, whatever follows the byte
abbrev pub InsideRefuses : Type 0
InsideRefuses = (text : List ℕ) (e : AtLine PartitionCause) → HasFaultInside (without_comments false text) e → partitions_of text ≡ Err e

-- so is the fault of the end
abbrev pub EndRefuses : Type 0
EndRefuses = (text : List ℕ) (e : AtLine PartitionCause) → HasFaultAtEnd (without_comments false text) e → partitions_of text ≡ Err e

-- no text is refused otherwise
abbrev pub OnlySoRefused : Type 0
OnlySoRefused = (text : List ℕ) (e : AtLine PartitionCause) → partitions_of text ≡ Err e
    → HasFaultInside (without_comments false text) e ⊎ HasFaultAtEnd (without_comments false text) e

-- no byte of a clean beginning has a fault: each follows a clean beginning of its own, and has none after it
abbrev pub CleanThroughout : Type 0
CleanThroughout = (before rest : List ℕ) (byte : ℕ) (s : ScanState) → IsClean (before ++ byte ∷ rest) s
    → (t : ScanState) × (IsClean before t × ((fault : PartitionCause) → is_fault_at t before byte fault ≡ false))

-- the beginnings of a text without its comments are the beginnings of the text, without theirs
abbrev pub CommentsByBeginning : Type 0
CommentsByBeginning = (text : List ℕ) (n : ℕ) → take n (without_comments false text) ≡ without_comments false (take n text)

-- ---- what a text that is read says
-- its partitions are those of the definitions that cutting it gives, its comments blanked
abbrev pub TextsAreCut : Type 0
TextsAreCut = (text : List ℕ) (partitions : List Partition) → partitions_of text ≡ Ok partitions
    → partitions ≡ partitions_in (definitions_cut (without_comments false text))

-- ---- bases and keys
-- each definition that names no base gets the least that is free; what the whole file names is taken from the start
abbrev pub GeneratedBasesAreFree : Type 0
GeneratedBasesAreFree = (definitions : List Definition) → AreSound definitions
    → AllGetFree (filter_map (λ definition. definition.base) definitions) definitions

-- among all its keys a port has of each partition's base the key that it has in that partition, and none of it if it is
-- no member: so its keys report of which partitions it is a member, and how
abbrev pub KeysReportMembership : Type 0
KeysReportMembership = (partitions : List Partition) (port : EndPort) → IsSound partitions
    → All (λ partition. find_base partition.base (keys_in partitions port) ≡ key_in port partition) partitions
