-- One line of SMPs: the clause of `take_line` in `src/answering.rt`.
use Rattle.std.specs.Prelude.{ℕ, ◌≡◌, List, [], Option, Some, None, Result, Ok, Err}
use Rattle.std.specs.Io.KnownBytes.{Appends}
use Rattle.smp_lines.specs.SmpLines.{after, output_of, smp_in}
use Rattle.smp_lines.specs.declared.stop.SmpStop.{SmpStop}
use Rattle.smp_lines.specs.declared.stop.SmpStop.TheVariants.{Line, NoMemory, Read, Write}
use Rattle.smp_wire.specs.FabricState.{FabricState}
use Rattle.text_streams.specs.Writing.{AppendsPart}

-- its SMP is answered, if it has one
pub record IsAnswered (line : List ℕ) (was left : FabricState) (old new : Option (List ℕ)) : Type 0 where
  pub smp : Option (List ℕ)
  pub is : smp_in line ≡ Some smp
  pub left_so : left ≡ after was smp
  pub written : Appends old new (output_of was smp)

-- or what is printed is written in part
pub record IsCutShort (line : List ℕ) (was : FabricState) (old new : Option (List ℕ)) : Type 0 where
  pub smp : Option (List ℕ)
  pub is : smp_in line ≡ Some smp
  pub written : AppendsPart old new (output_of was smp)

abbrev pub TakesLine : {X : Type 0} → (number : ℕ) → (line : List ℕ) → (was : FabricState) → Result X SmpStop → (left : FabricState)
    → (old new : Option (List ℕ)) → Type 0
TakesLine number line was (Ok done) left old new = IsAnswered line was left old new
TakesLine number line was (Err (Line at)) left old new = (at ≡ number) × (smp_in line ≡ None) × Appends old new []
TakesLine number line was (Err NoMemory) left old new = IsCutShort line was old new
TakesLine number line was (Err Write) left old new = IsCutShort line was old new
TakesLine number line was (Err Read) left old new = ⊥
