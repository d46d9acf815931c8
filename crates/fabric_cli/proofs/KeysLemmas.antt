-- An error of a partition file, after what is said of P_Key tables without it.
use Rattle.std.proofs.Common.{ℕ, ◌≡◌, ◌≢◌, ◌⊎◌, inr, refl, Bool, true, List, Option}
use Rattle.std.specs.Io.KnownBytes.{Appends}
use Rattle.partition_file.specs.Fault.{code_of as partitions_code}
use Rattle.partition_file.specs.declared.fault.PartitionCause.{PartitionCause}
use Rattle.subnet_core.specs.declared.fault.RunFault.TheVariants as run
use Rattle.text_streams.specs.Writing.{AppendsPart}
use Rattle.fabric_cli.specs.declared.faults.Stop.TheVariants.{Run, Unwritten}
use Rattle.fabric_cli.specs.Faults.{partitions_line}
use Rattle.fabric_cli.specs.Serving.{Ending, Judged, broken_off, BreaksOff, ForEnding, GoesPartly, StopsBehind}
use Rattle.fabric_cli.proofs.JudgedLemmas.{for_ending}

module _ (judged : Judged) (line : ℕ) (cause : PartitionCause) (said : List ℕ) (sure : Bool) (out out' : Option (List ℕ)) where
  abbrev breaks : Ending → Type 0
  breaks ending = ending ≡ broken_off (partitions_line (partitions_code cause) line) said

  pub breaks_behind : ForEnding judged breaks → Appends out out' said → StopsBehind judged (Run (run.Partitions line cause)) sure out out'
  breaks_behind is wrote =
      inr (for_ending judged breaks (λ ending. BreaksOff (Run (run.Partitions line cause)) ending out out') (λ ending at. rw at (refl, refl, wrote)) is)

  pub goes_partly : ForEnding judged breaks → sure ≢ true → AppendsPart out out' said → StopsBehind judged Unwritten sure out out'
  goes_partly is may wrote = (may, for_ending judged breaks (λ ending. GoesPartly ending out out') (λ ending at. rw at wrote) is)
