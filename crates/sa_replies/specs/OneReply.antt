-- By what a request is answered: by one MAD, which says whose answer it is (IBA volume 1, 13.4.2 and 15.2.1.1).
use Rattle.std.specs.Prelude.{ℕ, ◌≡◌, ◌+◌, ◌==◌, Bool, true, false, not, ◌&&◌, if◌then◌else◌, List, [], ◌∷◌, length, replicate, Some}
use Rattle.std.specs.Int.Digits.{AllBelowBase}
use Rattle.mad_layout.specs.Bits.{field}
use Rattle.mad_layout.specs.SaMad.{data_in}
use Rattle.subnet_model.specs.Configuration.{ConfigurationState}
use Rattle.subnet_model.specs.Configured.{IsConfigured}
use Rattle.subnet_model.specs.Delivery.{port_with_guid}
use Rattle.subnet_model.specs.declared.subnet_port.SubnetPort.{SubnetPort}
use Rattle.sa_replies.specs.Request.{request_in, is_response}
use Rattle.sa_replies.specs.Answer.{Administration, answer}
use Rattle.sa_replies.specs.Laws.{AnswerRule, is_of_transfer}
use Rattle.sa_replies.specs.State.{IsStateOf}

-- a MAD of the class that asks for something, also in a version that is not ours: no response, and no MAD of a transfer
abbrev pub asks_something : List ℕ → Bool
asks_something payload =
    ((length payload == 256) && (field payload 8 8 == 3))
    && (not (is_response (request_in payload).header) && not (is_of_transfer payload))

-- a Set is answered by GetResp, 0x81, and each other method by itself with the R bit
abbrev pub response_method : ℕ → ℕ
response_method method = if method == 2 then 0x81 else method + 0x80

-- a MAD of our versions and class that repeats what identifies the request. ClassSpecific and SM_Key are 0; if its status is
-- not 0 it has no data, and AttributeOffset is 0 too
pub record IsResponseTo (payload mad : List ℕ) : Type 0 where
  pub size : length mad ≡ 256
  pub base_version : field mad 0 8 ≡ 1
  pub mgmt_class : field mad 8 8 ≡ 3
  pub class_version : field mad 16 8 ≡ 2
  pub method : field mad 24 8 ≡ response_method (field payload 24 8)
  pub class_specific : field mad 48 16 ≡ 0
  pub transaction_id : field mad 64 64 ≡ field payload 64 64
  pub attribute_id : field mad 128 16 ≡ field payload 128 16
  pub attribute_modifier : field mad 160 32 ≡ field payload 160 32
  pub sm_key : field mad 288 64 ≡ 0
  pub no_offset : (field mad 32 16 == 0) ≡ false → field mad 352 16 ≡ 0
  pub component_mask : field mad 384 64 ≡ field payload 384 64
  pub no_data : (field mad 32 16 == 0) ≡ false → data_in mad ≡ replicate 200 0

abbrev pub IsAnsweredOnce : List ℕ → List (List ℕ) → Type 0
IsAnsweredOnce payload [] = ⊥
IsAnsweredOnce payload (mad ∷ []) = IsResponseTo payload mad
IsAnsweredOnce payload (mad ∷ other ∷ more) = ⊥

-- what a rule for answers owes to a port that asks: in each state of a run one such MAD, and no other
abbrev pub AnswersOnce : AnswerRule → Type 0
AnswersOnce rule =
    (configuration : ConfigurationState) (own : SubnetPort) (payload : List ℕ) (state : Administration) → IsConfigured configuration
    → port_with_guid configuration.ports own.guid ≡ Some own → IsStateOf configuration state
    → AllBelowBase 256 payload → asks_something payload ≡ true
    → IsAnsweredOnce payload (rule configuration.ports own payload state).0

-- it holds of ours
abbrev pub RequestsAreAnsweredOnce : Type 0
RequestsAreAnsweredOnce = AnswersOnce answer

-- ---- what asks for nothing is not answered, except a MAD of a transfer: a response, a MAD of another class, what is no MAD
abbrev pub IgnoresOthers : AnswerRule → Type 0
IgnoresOthers rule =
    (ports : List SubnetPort) (own : SubnetPort) (payload : List ℕ) (state : Administration) → asks_something payload ≡ false
    → is_of_transfer payload ≡ false → rule ports own payload state ≡ ([], state)

abbrev pub OthersAreIgnored : Type 0
OthersAreIgnored = IgnoresOthers answer
