-- What every answer keeps, a run keeps.
use Rattle.std.proofs.Common.{ℕ, Bool, true, false, List, [], ◌∷◌, Option, Some, None, if◌then◌else◌, ◌≡◌, refl}
use Rattle.data_packet.specs.declared.refusal.Refusal.{Refusal}
use Rattle.subnet_model.proofs.IsolationLemmas.{found_by_own}
use Rattle.subnet_model.specs.Administrator.{Administrator}
use Rattle.subnet_model.specs.Configuration.{ConfigurationState}
use Rattle.subnet_model.specs.Delivery.{asking_key, is_for_sa, manager_key, port_with_guid, reaches_joined, refusal_of}
use Rattle.subnet_model.specs.Report.{answered_in_turn, answered_whole, asked, conversation, delivered, received_by, replied, sent, state_from, step_by, unless_refused}
use Rattle.subnet_model.specs.declared.command.Command.{Command}
use Rattle.subnet_model.specs.declared.command.Command.TheVariants.{Ask, Cable, Send}
use Rattle.subnet_model.specs.declared.command.SendCommand.{SendCommand}
use Rattle.subnet_model.specs.declared.event.PortEvent.{PortEvent}
use Rattle.subnet_model.specs.declared.subnet_port.SubnetPort.{SubnetPort}

module _ {S : Type 0} (P : S → Type 0) (administrator : Administrator S) (configuration : ConfigurationState)
    (kept : (own : SubnetPort) (mad : List ℕ) (s : S) → port_with_guid configuration.ports own.guid ≡ Some own → P s
    → P (administrator.answer configuration own mad s).1) where
  turns_keep : (own : SubnetPort) (mads : List (List ℕ)) (s : S) → port_with_guid configuration.ports own.guid ≡ Some own → P s
      → P (answered_in_turn (administrator.answer configuration own) mads s).1
  turns_keep own [] s found so = so
  turns_keep own (mad ∷ mads) s found so = turns_keep own mads (administrator.answer configuration own mad s).1 found (kept own mad s found so)

  whole_keeps : (own : SubnetPort) (mad : List ℕ) (s : S) → port_with_guid configuration.ports own.guid ≡ Some own → P s
      → P (answered_whole (administrator.answer configuration own) administrator.acknowledgements mad s).1
  whole_keeps own mad s found so =
      let first = administrator.answer configuration own mad s in
      turns_keep own (administrator.acknowledgements first.0) first.1 found (kept own mad s found so)

  replied_keeps : (own : SubnetPort) (key : Option ℕ) (s : S) (answered : List (List ℕ) × S) → P s → P answered.1 → P (replied own key s answered).1
  replied_keeps own (Some key) s answered before after = after
  replied_keeps own None s answered before after = before

  one_of : (test : Bool) (a b : List PortEvent × S) → P a.1 → P b.1 → P (if test then a else b).1
  one_of true a b first second = first
  one_of false a b first second = second

  unless_keeps : (refusal : Option Refusal) (guid : ℕ) (s : S) (happens : List PortEvent × S) → P s → P happens.1 → P (unless_refused refusal guid s happens).1
  unless_keeps (Some refusal) guid s happens before after = before
  unless_keeps None guid s happens before after = after

  sent_keeps : (command : SendCommand) (s : S) (sender : Option SubnetPort) → port_with_guid configuration.ports command.port_guid ≡ sender → P s
      → P (sent administrator configuration sender command s).1
  sent_keeps command s None found so = so
  sent_keeps command s (Some sender) found so =
      unless_keeps (refusal_of sender command) command.port_guid s (delivered administrator configuration sender command s) so
      (one_of (is_for_sa command) (replied sender (manager_key configuration.ports command.p_key) s (administrator.answer configuration sender command.payload s))
      (received_by (reaches_joined (administrator.receives s command.dlid) command) configuration.ports sender command, s)
      (replied_keeps sender (manager_key configuration.ports command.p_key) s (administrator.answer configuration sender command.payload s) so
      (kept sender command.payload s (found_by_own configuration.ports command.port_guid sender found) so))
      so)

  conversation_keeps : (own : SubnetPort) (key : Option ℕ) (mad : List ℕ) (s : S) → port_with_guid configuration.ports own.guid ≡ Some own → P s
      → P (conversation administrator configuration own key mad s).1
  conversation_keeps own (Some key) mad s found so =
      replied_keeps own (manager_key configuration.ports key) s (answered_whole (administrator.answer configuration own) administrator.acknowledgements mad s) so
      (whole_keeps own mad s found so)
  conversation_keeps own None mad s found so = so

  asked_keeps : (guid : ℕ) (mad : List ℕ) (s : S) (own : Option SubnetPort) → port_with_guid configuration.ports guid ≡ own → P s
      → P (asked administrator configuration own mad s).1
  asked_keeps guid mad s None found so = so
  asked_keeps guid mad s (Some own) found so = conversation_keeps own (asking_key own.keys) mad s (found_by_own configuration.ports guid own found) so

  step_keeps : (command : Command) (s : S) → P s → P (step_by administrator configuration s command).1
  step_keeps (Send command) s so = sent_keeps command s (port_with_guid configuration.ports command.port_guid) refl so
  step_keeps (Ask command) s so = asked_keeps command.port_guid command.mad s (port_with_guid configuration.ports command.port_guid) refl so
  step_keeps (Cable command) s so = so

  pub run_keeps : (commands : List Command) (s : S) → P s → P (state_from (step_by administrator configuration) s commands)
  run_keeps [] s so = so
  run_keeps (command ∷ commands) s so = run_keeps commands (step_by administrator configuration s command).1 (step_keeps command s so)
