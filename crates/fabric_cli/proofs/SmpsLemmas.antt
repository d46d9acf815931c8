-- SMPs that a fabric answers while they are read, as a result of the program.
use Rattle.std.proofs.Common.{ℕ, ◌≡◌, inl, inr, ap, refl, subst, Bool, true, List, [], Option, Some, None, Result, Ok, Err, IsErrOf, unwrap_or}
use Rattle.std.specs.Borrow.{Bor}
use Rattle.std.specs.Io.KnownBytes.{Appends}
use Rattle.cli_args.specs.declared.call.Work.TheVariants as work
use Rattle.fabric_cli.proofs.EndingLemmas.{kept}
use Rattle.fabric_cli.proofs.JudgedLemmas.{smps_over, smps_stop as smps_stopped}
use Rattle.fabric_cli.proofs.RunLemmas.{what_is_known}
use Rattle.fabric_cli.specs.Faults.{smps_stop}
use Rattle.fabric_cli.specs.Serving.{Answers, AppendsSome, ended, GoesOut, GoesPartly, GrowsPartly, OfScript, smps_by, smps_seen, smps_reported, texts_with}
use Rattle.fabric_cli.specs.declared.answering.Answer.{Answer}
use Rattle.fabric_cli.specs.declared.answering.Answer.TheVariants.{Complete}
use Rattle.fabric_cli.specs.declared.faults.Stop.{Stop}
use Rattle.fabric_cli.specs.declared.faults.Stop.TheVariants.{Run}
use Rattle.smp_lines.specs.SmpLines.{Answered, EndsSo, OfBytes, answered}
use Rattle.smp_lines.specs.declared.stop.SmpStop.{SmpStop}
use Rattle.smp_lines.specs.declared.stop.SmpStop.TheVariants as smp
use Rattle.smp_wire.specs.FabricState.{FabricState}
use Rattle.subnet_core.specs.After.{IsLeftBy, left_from}
use Rattle.subnet_core.specs.BringUp.{Becomes, SubnetState, up_in}
use Rattle.subnet_core.specs.Fate.{FailsWith}
use Rattle.subnet_core.specs.Inventory.{fault_in, inventory_of}
use Rattle.subnet_core.specs.declared.fault.RunFault.{RunFault}
use Rattle.subnet_fabric.specs.BringUp.{BroughtUpState}
use Rattle.text_streams.specs.Writing.{AppendsPart}
use Rattle.text_words.specs.Lines.{lines}

smps_grow : (output : List ℕ) (faulty : Option ℕ) (old new : Option (List ℕ)) → AppendsPart old new output → GrowsPartly (smps_reported output faulty) old new
smps_grow output None old new part = part
smps_grow output (Some line) old new part = part

smps_partly : (output : List ℕ) (faulty : Option ℕ) (old new : Option (List ℕ)) → AppendsPart old new output → GoesPartly (smps_reported output faulty) old new
smps_partly output None old new part = part
smps_partly output (Some line) old new part = part

module _ (up : BroughtUpState) (known old new : Option (List ℕ)) (sure : Bool) where
  abbrev of_smps : Result Answer Stop → Type 0
  of_smps result = OfScript known (λ smps. Answers (ended (smps_seen up smps)) result sure old new)

  whole : (all : Answered) → all.faulty ≡ None → Appends old new all.output → GoesOut Complete (smps_by all) old new
  whole all none wrote = rw none wrote

  some : (all : Answered) → AppendsPart old new all.output → AppendsSome (ended (smps_by all)) old new
  some all part = inr (smps_grow all.output all.faulty old new part)

  module _ (X : Type 0) where
    pub smps_done : (done : X) → OfBytes known (λ bytes. EndsSo (answered 1 up.fabric (lines bytes)) (let result : Result X SmpStop = Ok done in result) old new) → of_smps (Ok Complete)
    smps_done done (bytes, is, ends) = (bytes, is, whole (answered 1 up.fabric (lines bytes)) ends.0 ends.1)

    smps_fail : (name : Bor (List ℕ)) (stop : SmpStop) → OfBytes known (λ bytes. EndsSo (answered 1 up.fabric (lines bytes)) (let result : Result X SmpStop = Err stop in result) old new)
        → (sure ≡ true → stop ≡ smp.Write → ⊥) → of_smps (Err (smps_stop name stop))
    smps_fail name (smp.Line line) (bytes, is, ends) out = (bytes, is, inr (rw ends.0 (refl, refl, ends.1)))
    smps_fail name smp.Read (bytes, is, ends) out = (bytes, is, some (answered 1 up.fabric (lines bytes)) ends)
    smps_fail name smp.NoMemory (bytes, is, ends) out = (bytes, is, some (answered 1 up.fabric (lines bytes)) ends)
    smps_fail name smp.Write (bytes, is, ends) out =
        let all = answered 1 up.fabric (lines bytes) in
        (bytes, is, (λ so. out so refl, smps_partly all.output all.faulty old new ends))

    pub smps_fail_over : (name : Bor (List ℕ)) (stop : SmpStop) (fabric : FabricState) → fabric ≡ up.fabric
        → OfBytes known (λ bytes. EndsSo (answered 1 fabric (lines bytes)) (let result : Result X SmpStop = Err stop in result) old new)
        → (sure ≡ true → IsErrOf (let result : Result X SmpStop = Err stop in result) smp.Write → ⊥) → of_smps (Err (smps_stop name stop))
    smps_fail_over name stop fabric same exact out =
        smps_fail name stop
        (subst (λ (f : FabricState). OfBytes known (λ bytes. EndsSo (answered 1 f (lines bytes)) (let result : Result X SmpStop = Err stop in result) old new)) same exact)
        (λ so at. out so (ap Err at))

-- ---- from the texts on
module _ (topology : List ℕ) (partitions script : Option (List ℕ)) (known : Option (List ℕ)) (sure : Bool) where
  abbrev of_texts : (old new : Option (List ℕ)) → Result Answer Stop → Type 0
  of_texts old new result = OfScript known (λ smps. Answers (texts_with topology partitions (work.Smps script smps)) result sure old new)

  pub smps_after : (left : SubnetState) (result : Result Answer Stop) (old new : Option (List ℕ)) → inventory_of topology partitions ≡ Ok left.inventory → IsLeftBy script left
      → OfScript known (λ smps. Answers (ended (smps_seen (up_in left) smps)) result sure old new) → of_texts old new result
  smps_after left result old new is by (smps, same, answers) = (smps, same, smps_over topology partitions script smps left result sure old new is by answers)

  pub smps_unanswered : (fault : RunFault) (out : Option (List ℕ)) → FailsWith (Becomes (inventory_of topology partitions)) (fault_in fault) (left_from (inventory_of topology partitions) script)
      → of_texts out out (Err (Run fault))
  smps_unanswered fault out fails =
      (unwrap_or known [], what_is_known known, inl (smps_stopped topology partitions script (unwrap_or known []) fault fails, kept out))
