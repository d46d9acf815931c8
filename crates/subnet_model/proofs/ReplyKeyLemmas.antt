-- Subnet administration replies under the key of the SM port that matches the one that it was asked under.
use Rattle.std.proofs.Common.{◌≡◌, ℕ, true, ◌==◌, ◌&&◌, List, [], ◌∷◌, Option, Some, None, find, map, refl, inl, inr, sym, ap}
use Rattle.std.proofs.lemmas.Bool.{and_from, and_parts, cases_Bool, eq-eqb, false≢true, or_right}
use Rattle.data_packet.specs.declared.refusal.Refusal.{Refusal}
use Rattle.step_results.proofs.ListLemmas.{found_passes}
use Rattle.pkey_rules.specs.PKey.{base_of, matches}
use Rattle.pkey_rules.specs.KeyTable.{holds}
use Rattle.subnet_model.specs.declared.subnet_port.SubnetPort.{SubnetPort}
use Rattle.subnet_model.specs.declared.command.SendCommand.{SendCommand}
use Rattle.subnet_model.specs.Administrator.{Administrator}
use Rattle.subnet_model.specs.Configuration.{ConfigurationState}
use Rattle.subnet_model.specs.Delivery.{asking_key, is_for_sa, key_that_matches, manager_key, port_with_guid, refusal_of}
use Rattle.subnet_model.specs.Examples.{adapter}
use Rattle.subnet_model.specs.ReplyKeys.{IsManager, RepliesAreUnderTheManagersKey, WrongReplyKeysAreRefused, are_under}
use Rattle.subnet_model.specs.Report.{answered_whole, asked, delivered, replied, reply_to, sent, unless_refused}

found_held : (key found : ℕ) (keys : List ℕ) → find (λ held. matches held key) keys ≡ Some found → holds found keys ≡ true
found_held key found [] e = absurd (cc)
found_held key found (first ∷ keys) e = elim (cases_Bool (matches first key)) [
  | inl this ↦
      let head : Some first ≡ Some found = rw this at e in
      let same : first ≡ found = cc in
      rw (eq-eqb first found same) refl
  | inr other ↦ or_right (first == found) (holds found keys) (found_held key found keys (rw other at e))
]

all_under : (manager own : SubnetPort) (key found : ℕ) → (holds found manager.keys && (base_of found == base_of key)) ≡ true
    → (mads : List (List ℕ)) → are_under manager key (map (reply_to own found) mads) ≡ true
all_under manager own key found is [] = refl
all_under manager own key found is (mad ∷ mads) = rw is (all_under manager own key found is mads)

replied_under : {S : Type 0} (manager own : SubnetPort) (key : ℕ) (found : Option ℕ) (state : S) (answered : List (List ℕ) × S)
    → find (λ held. matches held key) manager.keys ≡ found → are_under manager key (replied own found state answered).0 ≡ true
replied_under manager own key None state answered e = refl
replied_under manager own key (Some found) state answered e =
    all_under manager own key found (and_from (holds found manager.keys) (base_of found == base_of key)
    (found_held key found manager.keys e) (and_parts (base_of found == base_of key) _ (found_passes (λ held. matches held key) manager.keys found e)).0) answered.0

module _ {S : Type 0} (administrator : Administrator S) (configuration : ConfigurationState) (manager : SubnetPort) (there : IsManager configuration manager) where
  matching : (key : ℕ) → find (λ held. matches held key) manager.keys ≡ manager_key configuration.ports key
  matching key = sym (ap (key_that_matches key) there)

  delivered_under : (sender : SubnetPort) (command : SendCommand) (state : S) → is_for_sa command ≡ true
      → are_under manager command.p_key (delivered administrator configuration sender command state).0 ≡ true
  delivered_under sender command state for_sa = rw for_sa
      (replied_under manager sender command.p_key (manager_key configuration.ports command.p_key) state
      (administrator.answer configuration sender command.payload state) (matching command.p_key))

  sent_under : (sender : Option SubnetPort) (command : SendCommand) (state : S) → is_for_sa command ≡ true
      → are_under manager command.p_key (sent administrator configuration sender command state).0 ≡ true
  sent_under None command state for_sa = refl
  sent_under (Some sender) command state for_sa = unless (refusal_of sender command)
    where
      unless : (refusal : Option Refusal)
          → are_under manager command.p_key (unless_refused refusal command.port_guid state (delivered administrator configuration sender command state)).0 ≡ true
      unless (Some refusal) = refl
      unless None = delivered_under sender command state for_sa

  asked_under : (own : SubnetPort) (found : Option SubnetPort) (asking : Option ℕ) (key : ℕ) (mad : List ℕ) (state : S) → found ≡ Some own
      → asking_key own.keys ≡ Some key → are_under manager key (asked administrator configuration found mad state).0 ≡ true
  asked_under own found asking key mad state e asks = rw (e, asks)
      (replied_under manager own key (manager_key configuration.ports key) state
      (answered_whole (administrator.answer configuration own) administrator.acknowledgements mad state) (matching key))

pub replies_are_under_the_managers_key : {S : Type 0} → RepliesAreUnderTheManagersKey S
replies_are_under_the_managers_key administrator = record {
  sent = λ configuration manager state command there for_sa.
      sent_under administrator configuration manager there (port_with_guid configuration.ports command.port_guid) command state for_sa;
  asked = λ configuration manager own state command key there found asks.
      asked_under administrator configuration manager there own (port_with_guid configuration.ports command.port_guid) (asking_key own.keys) key command.mad state found asks;
}

-- ---- an SM port that is a limited member of the partition of base 1 and a full one of the default partition
manager : SubnetPort
manager = adapter 1 0x101 (0xffff ∷ 0x0001 ∷ [])

full_in_one : SubnetPort
full_in_one = adapter 2 0x111 (0x8001 ∷ [])

limited_in_default : SubnetPort
limited_in_default = adapter 3 0x121 (0x7fff ∷ [])

subnet : ConfigurationState
subnet = record { ports = manager ∷ full_in_one ∷ limited_in_default ∷ []; partitions = [] }

asks_under : ℕ → ℕ → SendCommand
asks_under guid key = record { port_guid = guid; dlid = 1; p_key = key; destination_qp = 1; payload = [] }

pub wrong_reply_keys_are_refused : WrongReplyKeysAreRefused
unfolding manager full_in_one limited_in_default subnet asks_under
wrong_reply_keys_are_refused = record {
  full = λ law. false≢true (law.sent subnet manager tt (asks_under 0x111 0x8001) refl refl);
  limited = λ law. false≢true (law.sent subnet manager tt (asks_under 0x121 0x7fff) refl refl);
  default = λ law. false≢true (law.sent subnet manager tt (asks_under 0x111 0x8001) refl refl);
}
