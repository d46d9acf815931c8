-- Commands of lines that follow one another.
use Rattle.std.proofs.Common.{ℕ, suc, ◌+◌, ◌≡◌, ◌∙◌, ap, refl, sym, arith, List, [], ◌∷◌, ◌++◌, length, append_assoc, append-nil, Option, Some, None, Result, Ok, Err}
use Rattle.std.specs.Option.{option_to_list}
use Rattle.step_results.specs.AtLine.{AtLine, after_lines}
use Rattle.script_lines.specs.Script.{command_of, with_line}
use Rattle.script_lines.specs.declared.script_cause.ScriptCause.{ScriptCause}
use Rattle.subnet_model.specs.Report.{events_from, state_from}
use Rattle.subnet_model.specs.declared.command.Command.{Command}
use Rattle.topo_file.specs.Topology.{TopologyState}
use Rattle.subnet_core.specs.Stream.{commands_before_fault}
use Rattle.subnet_core.specs.StreamSteps.{first_fault}

module _ (plan : TopologyState) where
  -- ---- behind lines without a fault
  abbrev pub GoesOn : ℕ → (first second : List (List ℕ)) → Type 0
  GoesOn number first second =
      (commands_before_fault plan (first ++ second) ≡ commands_before_fault plan first ++ commands_before_fault plan second)
      × (first_fault plan number (first ++ second) ≡ first_fault plan (number + length first) second)

  pub sound_on : (number : ℕ) (first second : List (List ℕ)) → first_fault plan number first ≡ None → GoesOn number first second
  unfolding commands_before_fault first_fault
  sound_on number [] second sound =
      let same : number + 0 ≡ number = omega arith in
      (refl, rw same refl)
  sound_on number (line ∷ first) second sound = by (command_of plan line) refl (sound_on (number + 1) first second)
    where
      by : (given : Result (Option Command) ScriptCause) → command_of plan line ≡ given
          → (first_fault plan (number + 1) first ≡ None → GoesOn (number + 1) first second) → GoesOn number (line ∷ first) second
      by (Err cause) e more = absurd (let none : Some _ ≡ None = rw e at sound in cc)
      by (Ok command) e more =
          let rest = more (rw e at sound) in
          let one : number + suc (length first) ≡ number + 1 + length first = omega arith in
          rw (e, rest.0, rest.1, one) (sym (append_assoc (option_to_list command) (commands_before_fault plan first) (commands_before_fault plan second)), refl)

  -- ---- behind a faulty line
  abbrev pub Stays : ℕ → (first second : List (List ℕ)) → AtLine ScriptCause → Type 0
  Stays number first second at =
      (commands_before_fault plan (first ++ second) ≡ commands_before_fault plan first) × (first_fault plan number (first ++ second) ≡ Some at)

  pub faulty_on : (number : ℕ) (first second : List (List ℕ)) (at : AtLine ScriptCause) → first_fault plan number first ≡ Some at
      → Stays number first second at
  unfolding commands_before_fault first_fault
  faulty_on number [] second at is = absurd (let none : None ≡ Some at = is in cc)
  faulty_on number (line ∷ first) second at is = by (command_of plan line) refl (faulty_on (number + 1) first second at)
    where
      by : (given : Result (Option Command) ScriptCause) → command_of plan line ≡ given
          → (first_fault plan (number + 1) first ≡ Some at → Stays (number + 1) first second at) → Stays number (line ∷ first) second at
      by (Err cause) e more = rw e (refl, rw e at is)
      by (Ok command) e more = let rest = more (rw e at is) in rw (e, rest.0, rest.1) (refl, refl)

  -- ---- in all
  pub commands_begin : (first second : List (List ℕ))
      → (more : List Command) × (commands_before_fault plan (first ++ second) ≡ commands_before_fault plan first ++ more)
  commands_begin first second = by (first_fault plan 0 first) refl
    where
      by : (found : Option (AtLine ScriptCause)) → first_fault plan 0 first ≡ found
          → (more : List Command) × (commands_before_fault plan (first ++ second) ≡ commands_before_fault plan first ++ more)
      by None e = (commands_before_fault plan second, (sound_on 0 first second e).0)
      by (Some at) e = ([], (faulty_on 0 first second at e).0 ∙ sym (append-nil (commands_before_fault plan first)))

  -- ---- and as `run` reads them
  abbrev pub judged_from : List Command → List (List ℕ) → Option (AtLine ScriptCause) → Result (List Command) (AtLine ScriptCause)
  judged_from so_far lines None = Ok (so_far ++ commands_before_fault plan lines)
  judged_from so_far lines (Some at) = Err at

  pub are_judged : (number : ℕ) (so_far : List Command) (lines : List (List ℕ))
      → after_lines (with_line plan) number so_far lines ≡ judged_from so_far lines (first_fault plan number lines)
  unfolding after_lines with_line commands_before_fault first_fault
  are_judged number so_far [] = ap Ok (sym (append-nil so_far))
  are_judged number so_far (line ∷ lines) = by (command_of plan line) refl (λ now. are_judged (number + 1) now lines)
    where
      one_more : (command : Option Command) (rest : List Command) (found : Option (AtLine ScriptCause)) → commands_before_fault plan (line ∷ lines) ≡ option_to_list command ++ rest
          → commands_before_fault plan lines ≡ rest
          → judged_from (so_far ++ option_to_list command) lines found ≡ judged_from so_far (line ∷ lines) found
      one_more command rest None whole behind = rw (whole, behind) (ap Ok (append_assoc so_far (option_to_list command) rest))
      one_more command rest (Some at) whole behind = refl

      by : (given : Result (Option Command) ScriptCause) → command_of plan line ≡ given
          → ((now : List Command) → after_lines (with_line plan) (number + 1) now lines ≡ judged_from now lines (first_fault plan (number + 1) lines))
          → after_lines (with_line plan) number so_far (line ∷ lines) ≡ judged_from so_far (line ∷ lines) (first_fault plan number (line ∷ lines))
      by (Err cause) e more = rw e refl
      by (Ok command) e more = rw e (more (so_far ++ option_to_list command)
          ∙ one_more command (commands_before_fault plan lines) (first_fault plan (number + 1) lines) (rw e refl) refl)

-- ---- what comes of commands that follow one another
pub states_on : {S C E : Type 0} (step : S → C → List E × S) (state : S) (first second : List C)
    → state_from step state (first ++ second) ≡ state_from step (state_from step state first) second
states_on step state [] second = refl
states_on step state (command ∷ first) second = states_on step (step state command).1 first second

pub events_on : {S C E : Type 0} (step : S → C → List E × S) (state : S) (first second : List C)
    → events_from step state (first ++ second) ≡ events_from step state first ++ events_from step (state_from step state first) second
events_on step state [] second = refl
events_on step state (command ∷ first) second =
    ap (λ rest. (step state command).0 ++ rest) (events_on step (step state command).1 first second)
    ∙ sym (append_assoc (step state command).0 (events_from step (step state command).1 first) (events_from step (state_from step (step state command).1 first) second))
