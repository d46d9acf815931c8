-- What a run is answered with whose script is carried out while it is read.
use Rattle.std.proofs.Common.{ℕ, suc, zero, ◌≡◌, ◌∙◌, inl, inr, ap, refl, sym, subst, arith, Bool, true, List, [], ◌∷◌, ◌++◌, take}
use Rattle.std.proofs.Common.{Option, Some, None, Result, Ok, Err, IfSome, IsErrOf, unwrap_or}
use Rattle.std.specs.Borrow.{Bor}
use Rattle.std.specs.Io.KnownBytes.{Appends}
use Rattle.step_results.proofs.StepLemmas.{same_err}
use Rattle.step_results.specs.AtLine.{AtLine}
use Rattle.script_lines.specs.Script.{commands_in}
use Rattle.script_lines.specs.ScriptCause.{code_of as script_code}
use Rattle.script_lines.specs.declared.script_cause.ScriptCause.{ScriptCause}
use Rattle.subnet_core.proofs.ReportedLemmas.{HasTaken, has_taken, reported_at_fault, reported_first, reported_is_reported}
use Rattle.subnet_core.specs.BringUp.{Becomes}
use Rattle.subnet_core.specs.Fate.{WithFabric, up_from}
use Rattle.subnet_core.specs.Inventory.{InventoryState, of_text, inventory_of}
use Rattle.subnet_core.specs.Run.{report_of}
use Rattle.subnet_core.specs.Stream.{EndsSo, Streams, judged as judged_lines, reported_of_lines}
use Rattle.subnet_core.specs.declared.fault.RunFault.{RunFault}
use Rattle.subnet_core.specs.declared.fault.RunFault.TheVariants as run
use Rattle.subnet_model.specs.declared.command.Command.{Command}
use Rattle.text_streams.specs.Writing.{AppendsPart}
use Rattle.text_words.specs.Lines.{lines}
use Rattle.cli_args.specs.declared.call.Work.TheVariants as work
use Rattle.fabric_cli.specs.Faults.{run_stop, script_line}
use Rattle.fabric_cli.specs.Laws.{RunsEndAsReports, without_reported}
use Rattle.fabric_cli.specs.Serving.{AppendsSome, Ending, GrowsPartly, Judged, broken_off, complete, ending_by, output_in, report_or_error, run_in, script_reported, texts_with}
use Rattle.fabric_cli.specs.Serving.{Answers, BreaksOff, ForEnding, GoesOut, GoesPartly, OfScript, RunStops, StopsBehind}
use Rattle.fabric_cli.specs.declared.answering.Answer.{Answer}
use Rattle.fabric_cli.specs.declared.answering.Answer.TheVariants.{Complete}
use Rattle.fabric_cli.specs.declared.faults.Stop.{Stop}
use Rattle.fabric_cli.specs.declared.faults.Stop.TheVariants.{Run}
use Rattle.fabric_cli.proofs.EndingLemmas.{kept, whole_part}
use Rattle.fabric_cli.proofs.JudgedLemmas.{run_ends_so, run_stops}

-- ---- a beginning of a beginning
take_first : (n : ℕ) (first rest : List ℕ) → (m : ℕ) × (take m (first ++ rest) ≡ take n first)
take_first zero first rest = (0, refl)
take_first (suc n) [] rest = (0, refl)
take_first (suc n) (byte ∷ first) rest =
    let more = take_first n first rest in
    (suc more.0, ap (λ (some : List ℕ). byte ∷ some) more.1)

part_of_more : (old new : Option (List ℕ)) (first rest all : List ℕ) → all ≡ first ++ rest → AppendsPart old new first → AppendsPart old new all
part_of_more old new first rest all is part =
    let some = take_first part.0 first rest in
    let same : take some.0 all ≡ take part.0 first = ap (take some.0) is ∙ some.1 in
    (some.0, subst (λ (text : List ℕ). Appends old new text) (sym same) part.1)

-- ---- what a script is reported as
pub script_output : (output : List ℕ) (found : Result (List Command) (AtLine ScriptCause)) → output_in (script_reported output found) ≡ output
script_output output (Ok commands) = refl
script_output output (Err at) = refl

script_grows : (output : List ℕ) (found : Result (List Command) (AtLine ScriptCause)) (old new : Option (List ℕ)) → AppendsPart old new output
    → GrowsPartly (script_reported output found) old new
script_grows output (Ok commands) old new part = part
script_grows output (Err at) old new part = part

script_partly : (output : List ℕ) (found : Result (List Command) (AtLine ScriptCause)) (old new : Option (List ℕ)) → AppendsPart old new output
    → GoesPartly (script_reported output found) old new
script_partly output (Ok commands) old new part = part
script_partly output (Err at) old new part = part

script_fault : (found : Result (List Command) (AtLine ScriptCause)) (line : ℕ) (cause : ScriptCause) → of_text run.Script found ≡ Err (run.Script line cause)
    → found ≡ Err (record { line = line; cause = cause })
script_fault (Ok commands) line cause is = absurd cc
script_fault (Err at) line cause is =
    let same : run.Script at.line at.cause ≡ run.Script line cause = same_err _ _ is in
    let lines_same : line ≡ at.line = cc in
    let causes_same : cause ≡ at.cause = cc in
    rw (lines_same, causes_same) refl

-- ---- a run of a subnet that is up
module _ (topology : List ℕ) (partitions : Option (List ℕ)) (inventory : InventoryState) (up : WithFabric (Becomes (inventory_of topology partitions)) (λ stop. up_from (inventory_of topology partitions) stop ≡ Ok inventory))
    (known left old new : Option (List ℕ)) (read : List ℕ) (taken : List (List ℕ)) (script : List ℕ) (has : HasTaken known left read taken script) where
  abbrev judged : Judged
  judged = texts_with topology partitions (work.Run script)

  so : (Is : Ending → Type 0) → Is (run_in (Ok inventory) script) → ForEnding judged Is
  so Is is = run_ends_so topology partitions script inventory Is up is

  goes_on : AppendsPart old new (reported_of_lines inventory taken) → AppendsPart old new (reported_of_lines inventory (lines script))
  goes_on part =
      let more = reported_first inventory known left read taken script has in
      part_of_more old new (reported_of_lines inventory taken) more.0 (reported_of_lines inventory (lines script)) more.1 part

  some : AppendsPart old new (reported_of_lines inventory taken) → AppendsSome judged old new
  some part =
      inr (so (λ ending. GrowsPartly ending old new)
      (script_grows (reported_of_lines inventory (lines script)) (judged_lines inventory.plan (lines script)) old new (goes_on part)))

  partly : AppendsPart old new (reported_of_lines inventory taken) → ForEnding judged (λ ending. GoesPartly ending old new)
  partly part =
      so (λ ending. GoesPartly ending old new)
      (script_partly (reported_of_lines inventory (lines script)) (judged_lines inventory.plan (lines script)) old new (goes_on part))

  whole : (commands : List Command) → lines script ≡ taken → judged_lines inventory.plan taken ≡ Ok commands → Appends old new (reported_of_lines inventory taken)
      → ForEnding judged (λ ending. GoesOut Complete ending old new)
  whole commands all sound wrote =
      let ends : run_in (Ok inventory) script ≡ complete (reported_of_lines inventory taken) = rw (all, sound) refl in
      so (λ ending. GoesOut Complete ending old new) (rw ends wrote)

  broken : (line : ℕ) (cause : ScriptCause) → of_text run.Script (judged_lines inventory.plan taken) ≡ Err (run.Script line cause) → Appends old new (reported_of_lines inventory taken)
      → ForEnding judged (λ ending. BreaksOff (Run (run.Script line cause)) ending old new)
  broken line cause is wrote =
      let reported = reported_at_fault inventory known left read taken script has (record { line = line; cause = cause }) (script_fault (judged_lines inventory.plan taken) line cause is) in
      let ends : run_in (Ok inventory) script ≡ broken_off (script_line (script_code cause) line) (reported_of_lines inventory taken) = rw (reported.0, reported.1) refl in
      so (λ ending. BreaksOff (Run (run.Script line cause)) ending old new) (rw ends (refl, refl, wrote))

  module _ (X : Type 0) (name : Bor (List ℕ)) (sure : Bool) where
    abbrev answers : Result Answer Stop → Type 0
    answers result = Answers judged result sure old new

    pub done_answers : (done : X) → EndsSo inventory (let result : Result X RunFault = Ok done in result) read left taken old new → answers (Ok Complete)
    done_answers done ends = whole _ (has.whole ends.0 ends.1) ends.2 ends.3

    pub fault_answers : (fault : RunFault) → EndsSo inventory (let result : Result X RunFault = Err fault in result) read left taken old new
        → (sure ≡ true → fault ≡ run.Write → ⊥) → answers (Err (run_stop name fault))
    fault_answers (run.Script line cause) ends out = inr (broken line cause ends.0 ends.1)
    fault_answers run.Read ends out = some (whole_part old new (reported_of_lines inventory taken) ends.2)
    fault_answers run.Write ends out = (λ is. out is refl, partly ends)
    fault_answers run.NoMemory ends out = some ends
    fault_answers (run.Topology line cause) ends out = absurd ends
    fault_answers (run.Partitions line cause) ends out = absurd ends
    fault_answers (run.Sweep fault) ends out = absurd ends
    fault_answers (run.NoLegalPath switch node number) ends out = absurd ends
    fault_answers (run.Push fault) ends out = absurd ends
    fault_answers (run.Port cause) ends out = absurd ends
    fault_answers (run.SecondScript line cause) ends out = absurd ends

-- ---- and of one that does not come up
stopped_answers : (name : Bor (List ℕ)) (judged : Judged) (fault : RunFault) (sure : Bool) (out : Option (List ℕ)) → RunStops judged fault
    → StopsBehind judged (run_stop name fault) sure out out
stopped_answers name judged run.NoMemory sure out stops = inl (kept out)
stopped_answers name judged run.Read sure out stops = inl (kept out)
stopped_answers name judged run.Write sure out stops = let none : 3 ≡ 1 = stops.0 in absurd (omega (arith, none))
stopped_answers name judged (run.Script line cause) sure out stops = inl (stops, kept out)
stopped_answers name judged (run.Topology line cause) sure out stops = inl (stops, kept out)
stopped_answers name judged (run.Partitions line cause) sure out stops = inl (stops, kept out)
stopped_answers name judged (run.Sweep fault) sure out stops = inl (stops, kept out)
stopped_answers name judged (run.NoLegalPath switch node number) sure out stops = inl (stops, kept out)
stopped_answers name judged (run.Push fault) sure out stops = inl (stops, kept out)
stopped_answers name judged (run.Port cause) sure out stops = inl (stops, kept out)
stopped_answers name judged (run.SecondScript line cause) sure out stops = inl (stops, kept out)

pub what_is_known : (known : Option (List ℕ)) → IfSome known (λ all. unwrap_or known [] ≡ all)
what_is_known None = tt
what_is_known (Some all) = refl

module _ (X : Type 0) (topology : List ℕ) (partitions : Option (List ℕ)) (name : Bor (List ℕ)) (known left old new : Option (List ℕ)) (sure : Bool) where
  abbrev of_a_script : Result Answer Stop → Type 0
  of_a_script result = OfScript known (λ script. Answers (texts_with topology partitions (work.Run script)) result sure old new)

  pub run_done : (done : X) → Streams (let result : Result X RunFault = Ok done in result) (inventory_of topology partitions) known left old new → of_a_script (Ok Complete)
  run_done done (inl none) = absurd none.0
  run_done done (inr (inventory, lids, up, carried)) =
      let script = has_taken known left carried.read carried.taken carried.consumed carried.are_lines in
      (script.0, script.1.is, done_answers topology partitions inventory up known left old new carried.read carried.taken script.0 script.1 X name sure done carried.ends)

  pub run_fails : (fault : RunFault) → Streams (let result : Result X RunFault = Err fault in result) (inventory_of topology partitions) known left old new
      → (sure ≡ true → IsErrOf (let result : Result X RunFault = Err fault in result) run.Write → ⊥) → of_a_script (Err (run_stop name fault))
  run_fails fault (inl (fails, kept_left, kept_new)) out =
      let stops = run_stops topology partitions (unwrap_or known []) fault fails in
      let answers = stopped_answers name (texts_with topology partitions (work.Run (unwrap_or known []))) fault sure old stops in
      (unwrap_or known [], what_is_known known, rw kept_new answers)
  run_fails fault (inr (inventory, lids, up, carried)) out =
      let script = has_taken known left carried.read carried.taken carried.consumed carried.are_lines in (
        script.0,
        script.1.is,
        fault_answers topology partitions inventory up known left old new carried.read carried.taken script.0 script.1 X name sure fault carried.ends
            (λ is at. out is (ap Err at)),
      )

-- ---- the law
pub run_is_reported : RunsEndAsReports
unfolding report_of
run_is_reported topology partitions script stop = by (up_from (inventory_of topology partitions) stop) refl
  where
    read_by : (inventory : InventoryState) → up_from (inventory_of topology partitions) stop ≡ Ok inventory → (found : Result (List Command) (AtLine ScriptCause)) → commands_in inventory.plan script ≡ found
        → without_reported (run_in (up_from (inventory_of topology partitions) stop) script) ≡ ending_by (report_or_error topology partitions script stop)
    read_by inventory e (Ok commands) c = rw (e, c) (ap complete (reported_is_reported inventory script commands c))
    read_by inventory e (Err at) c = rw (e, c) refl

    by : (found : Result InventoryState RunFault) → up_from (inventory_of topology partitions) stop ≡ found
        → without_reported (run_in (up_from (inventory_of topology partitions) stop) script) ≡ ending_by (report_or_error topology partitions script stop)
    by (Ok inventory) e = read_by inventory e (commands_in inventory.plan script) refl
    by (Err fault) e = rw e refl
