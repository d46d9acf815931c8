-- One line of a script, as it is taken.
use Rattle.std.proofs.Common.{ℕ, ◌+◌, ◌≡◌, ◌∙◌, ap, refl, subst, List, [], ◌∷◌, append-nil, Option, Some, None, Result, Ok, Err}
use Rattle.step_results.specs.AtLine.{on_line}
use Rattle.step_results.specs.Gives.{Fails}
use Rattle.step_results.proofs.StepLemmas.{same_err}
use Rattle.sa_replies.specs.Administration.{subnet_administration}
use Rattle.script_lines.specs.Script.{command_of}
use Rattle.script_lines.specs.declared.script_cause.ScriptCause.{ScriptCause}
use Rattle.subnet_core.proofs.PutLemmas.{loses_reported, puts_nothing}
use Rattle.subnet_core.specs.BringUp.{SubnetState}
use Rattle.subnet_core.specs.EventLines.{report_text}
use Rattle.subnet_core.specs.Inventory.{fault_in, of_text}
use Rattle.subnet_core.specs.Run.{parsed}
use Rattle.subnet_core.specs.Stream.{commands_before_fault}
use Rattle.subnet_core.specs.StreamSteps.{Carries, Puts, StreamState, Takes, Reports, first_fault, reported_from}
use Rattle.subnet_core.specs.declared.fault.RunFault.{RunFault}
use Rattle.subnet_core.specs.declared.fault.RunFault.TheVariants.{NoMemory, Topology, Partitions, Sweep, NoLegalPath, Push, Port, Script, SecondScript, Read, Write}
use Rattle.subnet_model.specs.Report.{step_by}
use Rattle.subnet_model.specs.declared.command.Command.{Command}
use Rattle.topo_file.specs.Topology.{TopologyState}

-- ---- what a line is parsed as
is_of_line : (number : ℕ) (given : Result (Option Command) ScriptCause) (fault : RunFault) → of_text Script (on_line number given) ≡ Err fault
    → (cause : ScriptCause) × (given ≡ Err cause) × (Script number cause ≡ fault)
is_of_line number (Ok command) fault fails = absurd cc
is_of_line number (Err cause) fault fails = (cause, refl, same_err _ _ fails)

is_command : (number : ℕ) (given : Result (Option Command) ScriptCause) (command : Option Command) → of_text Script (on_line number given) ≡ Ok command
    → given ≡ Ok command
is_command number (Ok other) command is = cc
is_command number (Err cause) command is = absurd cc

module _ (was : StreamState) (line : List ℕ) (known : Option (List ℕ)) where
  abbrev plan : TopologyState
  plan = was.subnet.inventory.plan

  -- ---- it is at fault
  faulty : (number : ℕ) (cause : ScriptCause) → number ≡ was.taken + 1 → command_of plan line ≡ Err cause
      → (first_fault plan (was.taken + 1) (line ∷ []) ≡ Some (record { line = number; cause = cause }))
      × Puts (reported_from was.subnet (line ∷ [])) was.text was.text known known
  unfolding commands_before_fault first_fault
  faulty number cause counted is = rw (is, counted) (refl, puts_nothing was.text known)

  pub unparsed_takes : (X : Type 0) (number : ℕ) (fault : RunFault) → number ≡ was.taken + 1 → Fails (fault_in fault) (parsed plan number line)
      → let answer : Result X RunFault = Err fault in Takes (line ∷ []) answer was was known known
  unparsed_takes X number NoMemory counted fails = loses_reported _ _ _
  unparsed_takes X number (Script at cause) counted fails =
      let reported = is_of_line number (command_of plan line) (Script at cause) fails in
      let found : (number ≡ at) × (reported.0 ≡ cause) = (cc, cc) in
      rw (← found.0, ← found.1) (faulty number reported.0 counted reported.1)
  unparsed_takes X number (Topology at cause) counted fails = absurd (let reported = is_of_line number (command_of plan line) _ fails in cc)
  unparsed_takes X number (Partitions at cause) counted fails = absurd (let reported = is_of_line number (command_of plan line) _ fails in cc)
  unparsed_takes X number (Sweep fault) counted fails = absurd (let reported = is_of_line number (command_of plan line) _ fails in cc)
  unparsed_takes X number (NoLegalPath switch node at) counted fails = absurd (let reported = is_of_line number (command_of plan line) _ fails in cc)
  unparsed_takes X number (Push fault) counted fails = absurd (let reported = is_of_line number (command_of plan line) _ fails in cc)
  unparsed_takes X number (Port cause) counted fails = absurd (let reported = is_of_line number (command_of plan line) _ fails in cc)
  unparsed_takes X number (SecondScript at cause) counted fails = absurd (let reported = is_of_line number (command_of plan line) _ fails in cc)
  unparsed_takes X number Read counted fails = absurd (let reported = is_of_line number (command_of plan line) _ fails in cc)
  unparsed_takes X number Write counted fails = absurd (let reported = is_of_line number (command_of plan line) _ fails in cc)

  -- ---- it has no command
  pub quiet_takes : (number : ℕ) → number ≡ was.taken + 1 → parsed plan number line ≡ Ok None
      → Carries (line ∷ []) was (record { subnet = was.subnet; text = was.text; taken = number }) known known
  unfolding commands_before_fault first_fault
  quiet_takes number counted quiet =
      let none = is_command number (command_of plan line) None quiet in
      record { puts = rw none (puts_nothing was.text known); inventory = refl; administration = rw none refl; taken = counted; sound = rw none refl }

  -- ---- its command is carried out
  module _ (command : Command) (number : ℕ) (counted : number ≡ was.taken + 1) (parsed_as : parsed plan number line ≡ Ok (Some command))
      (next : SubnetState) (inventory : next.inventory ≡ was.subnet.inventory)
      (administration : next.administration ≡ (step_by subnet_administration was.subnet.inventory.configuration was.subnet.administration command).1) where
    abbrev reported : List ℕ
    reported = report_text was.subnet.inventory.configuration.ports (step_by subnet_administration was.subnet.inventory.configuration was.subnet.administration command).0

    is_reported : reported_from was.subnet (line ∷ []) ≡ reported
    unfolding commands_before_fault
    is_reported =
        rw (is_command number (command_of plan line) (Some command) parsed_as)
        (ap (report_text was.subnet.inventory.configuration.ports) (append-nil (step_by subnet_administration was.subnet.inventory.configuration was.subnet.administration command).0))

    module _ (X : Type 0) (left : StreamState) (old new : Option (List ℕ)) where
      carried : Puts reported was.text left.text old new → left.subnet ≡ next → left.taken ≡ number → Carries (line ∷ []) was left old new
      unfolding commands_before_fault first_fault
      carried puts subnet taken =
          let is = is_command number (command_of plan line) (Some command) parsed_as in
          record {
            puts = rw is_reported puts;
            inventory = ap (λ subnet. subnet.inventory) subnet ∙ inventory;
            administration = rw is (ap (λ subnet. subnet.administration) subnet ∙ administration);
            taken = taken ∙ counted;
            sound = rw is refl;
          }

      reported_takes : (answer : Result X RunFault) → Reports reported answer (record { subnet = next; text = was.text; taken = number }) left old new
          → Takes (line ∷ []) answer was left old new
      reported_takes (Ok done) reports = carried reports.0 reports.1 reports.2
      reported_takes (Err NoMemory) reports = rw is_reported reports
      reported_takes (Err Write) reports = rw is_reported reports
      reported_takes (Err (Topology line cause)) reports = absurd reports
      reported_takes (Err (Partitions line cause)) reports = absurd reports
      reported_takes (Err (Sweep fault)) reports = absurd reports
      reported_takes (Err (NoLegalPath switch node at)) reports = absurd reports
      reported_takes (Err (Push fault)) reports = absurd reports
      reported_takes (Err (Port cause)) reports = absurd reports
      reported_takes (Err (Script line cause)) reports = absurd reports
      reported_takes (Err (SecondScript line cause)) reports = absurd reports
      reported_takes (Err Read) reports = absurd reports

      pub said_takes : (answer : Result X RunFault) (said : List ℕ) → said ≡ reported
          → Reports said answer (record { subnet = next; text = was.text; taken = number }) left old new → Takes (line ∷ []) answer was left old new
      said_takes answer said same reports =
          reported_takes answer (subst (λ text. Reports text answer (record { subnet = next; text = was.text; taken = number }) left old new) same reports)
