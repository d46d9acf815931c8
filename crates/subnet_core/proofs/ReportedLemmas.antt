-- What the first lines of a script report is the beginning of what all of them report.
use Rattle.std.proofs.Common.{ℕ, suc, ◌≡◌, ◌+◌, ◌-◌, ◌⊎◌, ◌∙◌, inl, inr, ap, refl, sym, arith, append_assoc, append-nil, Bool, true, false, List, [], ◌∷◌, ◌++◌}
use Rattle.std.proofs.Common.{filter, length, nat_lt, Option, Some, None, Result, Ok, Err, IfSome}
use Rattle.std.specs.Io.KnownBytes.{Consumes, IsAtEnd}
use Rattle.std.specs.List.{onto_first}
use Rattle.std.specs.Option.{option_to_list}
use Rattle.std.proofs.lemmas.Bool.Decides.{nat_tests}
use Rattle.std.proofs.lemmas.Grind.{flat_map-append}
use Rattle.step_results.specs.AtLine.{AtLine, after_lines, on_line}
use Rattle.step_results.proofs.StepLemmas.{same_ok}
use Rattle.script_lines.specs.Script.{command_of, with_line}
use Rattle.script_lines.specs.declared.script_cause.ScriptCause.{ScriptCause}
use Rattle.subnet_core.specs.Stream.{AreLinesOf, and_then_those, commands_before_fault, judged, reported_of_lines, whole_lines}
use Rattle.sa_replies.specs.Administration.{subnet_administration}
use Rattle.subnet_core.specs.EventLines.{line_text, report_text}
use Rattle.subnet_core.specs.Inventory.{InventoryState}
use Rattle.subnet_core.specs.Run.{reported_of}
use Rattle.subnet_model.specs.Report.{events_from, report_by, step_by}
use Rattle.subnet_model.specs.declared.command.Command.{Command}
use Rattle.text_words.specs.Lines.{ends_in, is_line_end, lines}
use Rattle.topo_file.specs.Topology.{TopologyState}

-- ---- a text that goes on has the whole lines that it had, and then more
ends_more : (byte : ℕ) (line : List ℕ) → is_line_end byte ≡ false → ends_in 10 (byte ∷ line) ≡ ends_in 10 line
ends_more byte [] no_end = no_end
ends_more byte (next ∷ line) no_end =
    let long : suc (suc (length line)) - 1 ≡ suc (length line) = omega arith in
    let short : suc (length line) - 1 ≡ length line = omega arith in
    let some : nat_lt 0 (length (byte ∷ next ∷ line)) ≡ true = grind (arith, nat_tests) in
    let any : nat_lt 0 (length (next ∷ line)) ≡ true = grind (arith, nat_tests) in
    rw (long, short, some, any) refl

-- only the last line may lack its LF
unended : (read line : List ℕ) (after : List (List ℕ)) → lines read ≡ line ∷ after → ends_in 10 line ≡ false → after ≡ []
unended [] line after are lacks = absurd cc
unended (byte ∷ read) line after are lacks = by (is_line_end byte) refl (lines read) refl (λ first more. unended read first more)
  where
    by : (b : Bool) → is_line_end byte ≡ b → (found : List (List ℕ)) → lines read ≡ found
        → ((first : List ℕ) (more : List (List ℕ)) → lines read ≡ first ∷ more → ends_in 10 first ≡ false → more ≡ []) → after ≡ []
    by true e found f again =
        let first : byte ∷ [] ≡ line = (let all : (byte ∷ []) ∷ lines read ≡ line ∷ after = rw e at are in cc) in
        absurd (let ends : true ≡ false = sym e ∙ (rw (sym first) at lacks) in cc)
    by false e [] f again = let all : (byte ∷ []) ∷ [] ≡ line ∷ after = rw (e, f) at are in cc
    by false e (part ∷ parts) f again =
        let all : (byte ∷ part) ∷ parts ≡ line ∷ after = rw (e, f) at are in
        let rest : parts ≡ after = cc in
        let first : byte ∷ part ≡ line = cc in
        sym rest ∙ again part parts f (sym (ends_more byte part e) ∙ ap (ends_in 10) first ∙ lacks)

pub first_lines : (read more : List ℕ) → (rest : List (List ℕ)) × (lines (read ++ more) ≡ whole_lines read ++ rest)
first_lines [] more = (lines more, refl)
first_lines (byte ∷ read) more = by (is_line_end byte) refl (lines read) refl (first_lines read more)
  where
    open_by : (part : List ℕ) (parts : List (List ℕ)) → is_line_end byte ≡ false → lines read ≡ part ∷ parts
        → (rest : List (List ℕ)) × (lines (read ++ more) ≡ whole_lines read ++ rest) → (b : Bool) → ends_in 10 part ≡ b
        → (rest : List (List ℕ)) × (onto_first byte (lines (read ++ more)) ≡ filter (ends_in 10) ((byte ∷ part) ∷ parts) ++ rest)
    open_by part parts e f again true ends =
        let all : lines (read ++ more) ≡ part ∷ (filter (ends_in 10) parts ++ again.0) = rw (f, ends) at again.1 in
        (again.0, rw (all, ends_more byte part e, ends) refl)
    open_by part parts e f again false ends = (onto_first byte (lines (read ++ more)), rw (ends_more byte part e, ends, unended read part parts f ends) refl)

    by : (b : Bool) → is_line_end byte ≡ b → (found : List (List ℕ)) → lines read ≡ found
        → (rest : List (List ℕ)) × (lines (read ++ more) ≡ whole_lines read ++ rest)
        → (rest : List (List ℕ)) × (lines ((byte ∷ read) ++ more) ≡ whole_lines (byte ∷ read) ++ rest)
    by true e found f again = let ends : ends_in 10 (byte ∷ []) ≡ true = e in (again.0, rw (e, again.1, ends) refl)
    by false e [] f again = (onto_first byte (lines (read ++ more)), let lacks : ends_in 10 (byte ∷ []) ≡ false = e in rw (e, f, lacks) refl)
    by false e (part ∷ parts) f again =
        let reported = open_by part parts e f again (ends_in 10 part) refl in
        (reported.0, rw (e, f) reported.1)

-- ---- lines that are judged
-- a line that is refused is refused however many follow
pub refused_first : {S Cause : Type 0} (step : ℕ → S → List ℕ → Result S Cause) (number : ℕ) (so_far : S) (taken more : List (List ℕ)) (at : AtLine Cause)
    → after_lines step number so_far taken ≡ Err at → after_lines step number so_far (taken ++ more) ≡ Err at
unfolding after_lines
refused_first step number so_far [] more at is = absurd cc
refused_first {S = S} {Cause = Cause} step number so_far (line ∷ rest) more at is =
    by (on_line number (step number so_far line)) refl (λ next. refused_first step (number + 1) next rest more at)
  where
    by : (one : Result S (AtLine Cause)) → on_line number (step number so_far line) ≡ one
        → ((next : S) → after_lines step (number + 1) next rest ≡ Err at → after_lines step (number + 1) next (rest ++ more) ≡ Err at)
        → after_lines step number so_far ((line ∷ rest) ++ more) ≡ Err at
    by (Ok next) e again = rw e (again next (rw e at is))
    by (Err other) e again = rw e (rw e at is)

module _ (plan : TopologyState) where
  -- lines of which none is refused give their commands
  pub sound_commands : (number : ℕ) (so_far : List Command) (taken : List (List ℕ)) (all : List Command) → after_lines (with_line plan) number so_far taken ≡ Ok all
      → all ≡ so_far ++ commands_before_fault plan taken
  unfolding after_lines with_line commands_before_fault
  sound_commands number so_far [] all is = sym (same_ok so_far all is) ∙ sym (append-nil so_far)
  sound_commands number so_far (line ∷ rest) all is = by (command_of plan line) refl (λ next. sound_commands (number + 1) next rest all)
    where
      by : (one : Result (Option Command) ScriptCause) → command_of plan line ≡ one
          → ((next : List Command) → after_lines (with_line plan) (number + 1) next rest ≡ Ok all → all ≡ next ++ commands_before_fault plan rest)
          → all ≡ so_far ++ and_then_those (command_of plan line) (commands_before_fault plan rest)
      by (Ok command) e again =
          rw e (again (so_far ++ option_to_list command) (rw e at is) ∙ append_assoc so_far (option_to_list command) (commands_before_fault plan rest))
      by (Err cause) e again = absurd (let none : ◌≡◌ {A = Result (List Command) (AtLine ScriptCause)} (Err (record { line = number; cause = cause })) (Ok all) = rw e at is in cc)

  -- what follows a line that is refused gives none
  pub refused_commands : (number : ℕ) (so_far : List Command) (taken more : List (List ℕ)) (at : AtLine ScriptCause)
      → after_lines (with_line plan) number so_far taken ≡ Err at → commands_before_fault plan (taken ++ more) ≡ commands_before_fault plan taken
  unfolding after_lines with_line commands_before_fault
  refused_commands number so_far [] more at is = absurd cc
  refused_commands number so_far (line ∷ rest) more at is = by (command_of plan line) refl (λ next. refused_commands (number + 1) next rest more at)
    where
      by : (one : Result (Option Command) ScriptCause) → command_of plan line ≡ one
          → ((next : List Command) → after_lines (with_line plan) (number + 1) next rest ≡ Err at → commands_before_fault plan (rest ++ more) ≡ commands_before_fault plan rest)
          → and_then_those (command_of plan line) (commands_before_fault plan (rest ++ more)) ≡ and_then_those (command_of plan line) (commands_before_fault plan rest)
      by (Ok command) e again = ap (and_then_those (command_of plan line)) (again (so_far ++ option_to_list command) (rw e at is))
      by (Err cause) e again = rw e refl

  -- the commands of the first lines are the first commands
  pub first_commands : (taken more : List (List ℕ)) → (rest : List Command) × (commands_before_fault plan (taken ++ more) ≡ commands_before_fault plan taken ++ rest)
  unfolding commands_before_fault
  first_commands [] more = (commands_before_fault plan more, refl)
  first_commands (line ∷ taken) more = by (command_of plan line) (first_commands taken more)
    where
      by : (one : Result (Option Command) ScriptCause)
          → (rest : List Command) × (commands_before_fault plan (taken ++ more) ≡ commands_before_fault plan taken ++ rest)
          → (rest : List Command) × (and_then_those one (commands_before_fault plan (taken ++ more)) ≡ and_then_those one (commands_before_fault plan taken) ++ rest)
      by (Ok command) again =
          (again.0, ap (λ (some : List Command). option_to_list command ++ some) again.1 ∙ sym (append_assoc (option_to_list command) (commands_before_fault plan taken) again.0))
      by (Err cause) again = ([], refl)

-- ---- what commands report
pub first_events : {S C E : Type 0} (step : S → C → List E × S) (state : S) (commands more : List C)
    → (rest : List E) × (events_from step state (commands ++ more) ≡ events_from step state commands ++ rest)
first_events step state [] more = (events_from step state more, refl)
first_events {E = E} step state (command ∷ commands) more =
    let again = first_events step (step state command).1 commands more in
    (again.0, ap (λ (some : List E). (step state command).0 ++ some) again.1 ∙ sym (append_assoc (step state command).0 (events_from step (step state command).1 commands) again.0))

pub reported_more : (inventory : InventoryState) (taken more : List (List ℕ)) → (rest : List ℕ) × (reported_of_lines inventory (taken ++ more) ≡ reported_of_lines inventory taken ++ rest)
reported_more inventory taken more =
    let ports = inventory.configuration.ports in
    let first = commands_before_fault inventory.plan taken in
    let commands = first_commands inventory.plan taken more in
    let events = first_events (step_by subnet_administration inventory.configuration) (subnet_administration.begins inventory.configuration) first commands.0 in (
      report_text ports events.0,
      ap (λ (some : List Command). report_text ports (report_by subnet_administration inventory.configuration some)) commands.1
          ∙ ap (report_text ports) events.1 ∙ flat_map-append (line_text ports) (report_by subnet_administration inventory.configuration first) events.0,
    )

-- a script without a fault reports its report
pub reported_is_reported : (inventory : InventoryState) (script : List ℕ) (commands : List Command) → judged inventory.plan (lines script) ≡ Ok commands
    → reported_of_lines inventory (lines script) ≡ report_text (reported_of inventory.configuration commands).ports (reported_of inventory.configuration commands).events
reported_is_reported inventory script commands is =
    ap (λ (some : List Command). report_text inventory.configuration.ports (report_by subnet_administration inventory.configuration some))
    (sym (sound_commands inventory.plan 1 [] (lines script) commands is))

-- ---- a script and what was read of it
-- the script is what is known of it, or what was read; the lines that were taken are its first, and all where its end was reached
pub record HasTaken (known left : Option (List ℕ)) (read : List ℕ) (taken : List (List ℕ)) (script : List ℕ) : Type 0 where
  pub is : IfSome known (λ all. script ≡ all)
  pub more : List (List ℕ)
  pub goes_on : lines script ≡ taken ++ more
  pub whole : taken ≡ lines read → IsAtEnd left → lines script ≡ taken

read_on : (read rest : List ℕ) (taken : List (List ℕ)) → (taken ≡ whole_lines read) ⊎ ((taken ≡ lines read) × (rest ≡ []))
    → (more : List (List ℕ)) × (lines (read ++ rest) ≡ taken ++ more)
read_on read rest taken (inl are) = let all = first_lines read rest in (all.0, all.1 ∙ ap (λ (some : List (List ℕ)). some ++ all.0) (sym are))
read_on read rest taken (inr are) = ([], rw (are.1, are.0, append-nil read, append-nil (lines read)) refl)

pub has_taken : (known left : Option (List ℕ)) (read : List ℕ) (taken : List (List ℕ)) → Consumes known left read → AreLinesOf read left taken
    → (script : List ℕ) × HasTaken known left read taken script
has_taken None left read taken consumed (inl are) =
    let on = read_on read [] taken (inl are) in
    (read, record { is = tt; more = on.0; goes_on = (let all = on.1 in rw (append-nil read) at all); whole = λ all end. sym all })
has_taken None left read taken consumed (inr are) = (read, record { is = tt; more = []; goes_on = rw (are.0, append-nil (lines read)) refl; whole = λ all end. sym all })
has_taken (Some script) None read taken consumed are = absurd consumed
has_taken (Some script) (Some rest) read taken consumed are =
    let on = read_on read rest taken are in (
      script,
      record {
        is = refl;
        more = on.0;
        goes_on = ap lines consumed ∙ on.1;
        whole = λ all end. ap lines (consumed ∙ ap (λ (some : List ℕ). read ++ some) end ∙ append-nil read) ∙ sym all;
      },
    )

module _ (inventory : InventoryState) (known left : Option (List ℕ)) (read : List ℕ) (taken : List (List ℕ)) (script : List ℕ) (has : HasTaken known left read taken script) where
  -- what was reported is the beginning of what the whole script reports
  pub reported_first : (rest : List ℕ) × (reported_of_lines inventory (lines script) ≡ reported_of_lines inventory taken ++ rest)
  reported_first =
      let reported = reported_more inventory taken has.more in
      (reported.0, ap (reported_of_lines inventory) has.goes_on ∙ reported.1)

  -- and all of that where a line was refused, since that is the line at which the whole script is
  pub reported_at_fault : (at : AtLine ScriptCause) → judged inventory.plan taken ≡ Err at
      → (judged inventory.plan (lines script) ≡ Err at) × (reported_of_lines inventory (lines script) ≡ reported_of_lines inventory taken)
  reported_at_fault at is = (
    ap (judged inventory.plan) has.goes_on ∙ refused_first (with_line inventory.plan) 1 [] taken has.more at is,
    ap (reported_of_lines inventory) has.goes_on
        ∙ ap (λ (some : List Command). report_text inventory.configuration.ports (report_by subnet_administration inventory.configuration some))
        (refused_commands inventory.plan 1 [] taken has.more at is),
  )
