-- Under which key subnet administration replies: that of the SM port for the partition in which it was asked.
use Rattle.std.specs.Prelude.{ℕ, ◌≡◌, Bool, ◌==◌, ◌&&◌, true, List, ◌∷◌, [], Some, false, find, map}
use Rattle.std.specs.List.{list_all}
use Rattle.fabric_parts.specs.Lid.{manager_lid}
use Rattle.pkey_rules.specs.KeyTable.{holds}
use Rattle.pkey_rules.specs.PKey.{base_of, default_base, full_form, key_of}
use Rattle.subnet_model.specs.declared.subnet_port.SubnetPort.{SubnetPort}
use Rattle.subnet_model.specs.declared.command.AskCommand.{AskCommand}
use Rattle.subnet_model.specs.declared.command.Command.{Command}
use Rattle.subnet_model.specs.declared.command.Command.TheVariants.{Ask, Send}
use Rattle.subnet_model.specs.declared.command.SendCommand.{SendCommand}
use Rattle.subnet_model.specs.declared.event.PortEvent.{PortEvent}
use Rattle.subnet_model.specs.declared.event.Outcome.{Outcome}
use Rattle.subnet_model.specs.declared.event.Outcome.TheVariants.{Received, Refused}
use Rattle.subnet_model.specs.Administrator.{Administrator}
use Rattle.subnet_model.specs.Configuration.{ConfigurationState}
use Rattle.subnet_model.specs.Delivery.{asking_key, is_for_sa, port_with_guid}
use Rattle.subnet_model.specs.Report.{step_by}

-- a packet that is received has a key that the SM port holds, of the same partition as this key
abbrev pub is_under : SubnetPort → ℕ → Outcome → Bool
is_under manager key (Received packet) = holds packet.p_key manager.keys && (base_of packet.p_key == base_of key)
is_under manager key (Refused refusal) = true

abbrev pub are_under : SubnetPort → ℕ → List PortEvent → Bool
are_under manager key events = list_all (λ event. is_under manager key event.what) events

abbrev pub IsManager : ConfigurationState → SubnetPort → Type 0
IsManager configuration manager = find (λ port. port.lid == manager_lid) configuration.ports ≡ Some manager

-- what a command brings about
abbrev pub StepRule : Type 0 → Type 0
StepRule S = ConfigurationState → S → Command → List PortEvent × S

-- to what is sent to subnet administration, and to what a port asks it
pub record RepliesUnderItsKey {S : Type 0} (step : StepRule S) : Type 0 where
  pub sent : (configuration : ConfigurationState) (manager : SubnetPort) (state : S) (command : SendCommand)
      → IsManager configuration manager → is_for_sa command ≡ true
      → are_under manager command.p_key (step configuration state (Send command)).0 ≡ true
  pub asked : (configuration : ConfigurationState) (manager own : SubnetPort) (state : S) (command : AskCommand) (key : ℕ)
      → IsManager configuration manager → port_with_guid configuration.ports command.port_guid ≡ Some own
      → asking_key own.keys ≡ Some key → are_under manager key (step configuration state (Ask command)).0 ≡ true

-- so it is, whoever answers
abbrev pub RepliesAreUnderTheManagersKey : Type 0 → Type 0
RepliesAreUnderTheManagersKey S = (administrator : Administrator S) → RepliesUnderItsKey (step_by administrator)

-- ---- wrong rules: the same packets, each with another key in place of its own
abbrev pub outcome_with_key : (ℕ → ℕ) → Outcome → Outcome
outcome_with_key change (Received packet) = Received (record packet { p_key = change packet.p_key })
outcome_with_key change (Refused refusal) = Refused refusal

abbrev pub with_key : (ℕ → ℕ) → PortEvent → PortEvent
with_key change event = record event { what = outcome_with_key change event.what }

abbrev pub with_keys : {S : Type 0} → (ℕ → ℕ) → StepRule S → StepRule S
with_keys change step configuration state command =
    (map (with_key change) (step configuration state command).0, (step configuration state command).1)

-- replies with each MAD that comes
abbrev pub echo : Administrator (Unit {0})
echo = record {
  begins = λ configuration. tt;
  answer = λ configuration own mad state. (mad ∷ [], state);
  acknowledgements = λ mads. [];
  receives = λ state mlid guid. false;
}

-- the key of a full member, also if the SM port is a limited one; that of a limited member, as the port that asked may be; and
-- that of the default partition, in whatever partition it was asked
pub record WrongReplyKeysAreRefused : Type 0 where
  pub full : RepliesUnderItsKey (with_keys full_form (step_by echo)) → ⊥
  pub limited : RepliesUnderItsKey (with_keys base_of (step_by echo)) → ⊥
  pub default : RepliesUnderItsKey (with_keys (λ key. key_of default_base true) (step_by echo)) → ⊥
