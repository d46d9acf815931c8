-- Which requests are refused, and by which status (IBA volume 1, 13.4.7, 15.2.2 and 15.2.5).
use Rattle.std.specs.Prelude.{ℕ, ◌≡◌, ◌==◌, Bool, true, not, ◌&&◌, ◌||◌, List, [], ◌∷◌, map, Some}
use Rattle.std.specs.Int.Digits.{AllBelowBase}
use Rattle.mad_layout.specs.Bits.{field}
use Rattle.mad_layout.specs.Method.{method_code}
use Rattle.mad_layout.specs.declared.method.Method.TheVariants.{Get, Set, GetTable, Delete}
use Rattle.sa_records.specs.declared.sa_attribute.SaAttribute.TheVariants as sa_attribute
use Rattle.subnet_model.specs.Configuration.{ConfigurationState}
use Rattle.subnet_model.specs.Configured.{IsConfigured}
use Rattle.subnet_model.specs.Delivery.{port_with_guid}
use Rattle.subnet_model.specs.declared.subnet_port.SubnetPort.{SubnetPort}
use Rattle.sa_model.specs.Visible.{SaState}
use Rattle.sa_replies.specs.Answer.{Administration, answer}
use Rattle.sa_replies.specs.Laws.{AnswerRule}
use Rattle.sa_replies.specs.OneReply.{asks_something}
use Rattle.sa_replies.specs.Request.{Request, has_versions, is_about, request_in}
use Rattle.sa_replies.specs.State.{IsStateOf}
use Rattle.sa_replies.specs.Reasons.{Reason, attribute_not_supported, bad_version, because, method_not_supported, status_by}
use Rattle.sa_replies.specs.GroupReasons.{reasons_of_join, reasons_of_leave}
use Rattle.sa_replies.specs.RecordReasons.{reasons_of_deletion, reasons_of_get, reasons_of_set, reasons_of_table}

-- ---- what a rule for answers owes to requests of some kind: one MAD with the status of the first reason that holds, and 0 if
-- none does; a version that is not ours comes before all
abbrev pub Reasons : Type 0
Reasons = List SubnetPort → SubnetPort → SaState → Request → List Reason

abbrev pub with_version : Request → List Reason → List Reason
with_version request reasons = because (not (has_versions request.header)) bad_version ∷ reasons

abbrev pub IsRefusedBy : (Request → Bool) → Reasons → AnswerRule → Type 0
IsRefusedBy is_such reasons rule =
    (configuration : ConfigurationState) (own : SubnetPort) (payload : List ℕ) (state : Administration) → IsConfigured configuration
    → port_with_guid configuration.ports own.guid ≡ Some own → IsStateOf configuration state → AllBelowBase 256 payload
    → asks_something payload ≡ true → is_such (request_in payload) ≡ true
    → map (λ mad. field mad 32 16) (rule configuration.ports own payload state).0
    ≡ status_by (with_version (request_in payload) (reasons configuration.ports own state.remembered (request_in payload))) ∷ []

abbrev pub is_join : Request → Bool
is_join request = (request.header.method == method_code Set) && is_about sa_attribute.McMemberRecord request

abbrev pub is_leave : Request → Bool
is_leave request = (request.header.method == method_code Delete) && is_about sa_attribute.McMemberRecord request

abbrev pub is_set : Request → Bool
is_set request = (request.header.method == method_code Set) && is_about sa_attribute.ServiceRecord request

abbrev pub is_deletion : Request → Bool
is_deletion request = (request.header.method == method_code Delete) && is_about sa_attribute.ServiceRecord request

abbrev pub is_of_record : Request → Bool
is_of_record request =
    is_about sa_attribute.NodeRecord request
    || (is_about sa_attribute.PathRecord request
    || (is_about sa_attribute.McMemberRecord request || is_about sa_attribute.ServiceRecord request))

abbrev pub is_get : Request → Bool
is_get request = (request.header.method == method_code Get) && is_of_record request

abbrev pub is_get_table : Request → Bool
is_get_table request = (request.header.method == method_code GetTable) && is_of_record request

-- all other requests have a method that the SA does not know, or an attribute that this method does not know
abbrev pub is_other : Request → Bool
is_other request =
    not (is_join request || (is_leave request || (is_set request || (is_deletion request || (is_get request || is_get_table request)))))

abbrev pub is_known_method : ℕ → Bool
is_known_method method =
    (method == method_code Get) || ((method == method_code GetTable) || ((method == method_code Set) || (method == method_code Delete)))

abbrev pub reasons_of_other : List SubnetPort → SubnetPort → SaState → Request → List Reason
reasons_of_other ports own state request =
    because (not (is_known_method request.header.method)) method_not_supported ∷ because true attribute_not_supported ∷ []

-- so ours does
pub record RequestsAreRefusedBy (rule : AnswerRule) : Type 0 where
  pub joins : IsRefusedBy is_join reasons_of_join rule
  pub leaves : IsRefusedBy is_leave reasons_of_leave rule
  pub sets : IsRefusedBy is_set reasons_of_set rule
  pub deletions : IsRefusedBy is_deletion reasons_of_deletion rule
  pub gets : IsRefusedBy is_get reasons_of_get rule
  pub tables : IsRefusedBy is_get_table reasons_of_table rule
  pub others : IsRefusedBy is_other reasons_of_other rule

abbrev pub RequestsAreRefusedByReasons : Type 0
RequestsAreRefusedByReasons = RequestsAreRefusedBy answer
