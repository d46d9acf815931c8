-- What a Set and a Delete of a ServiceRecord do (IBA volume 1, 15.2.2 and 15.2.5.14).
use Rattle.std.specs.Prelude.{ℕ, ◌+◌, ◌==◌, not, if◌then◌else◌, List, [], ◌∷◌, filter, replicate, Result, Ok}
use Rattle.std.specs.List.{flat_map, list_any}
use Rattle.mad_layout.specs.declared.status.MadStatus.{MadStatus}
use Rattle.mad_layout.specs.declared.status.MadStatus.TheVariants.{RequestInvalid, InvalidGid, InsufficientComponents, NoResources, NoRecords}
use Rattle.pkey_rules.specs.PKey.{base_of}
use Rattle.sa_records.specs.declared.service_record.ServiceRecord.{ServiceRecord}
use Rattle.sa_records.specs.ServiceRecord.{numbers_asked, service_record_bytes}
use Rattle.sa_records.specs.ServiceMask as service_mask
use Rattle.sa_model.specs.Members.{is_in}
use Rattle.subnet_model.specs.declared.subnet_port.SubnetPort.{SubnetPort}
use Rattle.sa_model.specs.Services.{Service, PortServices}
use Rattle.sa_model.specs.ServiceChange.{Deed, ServiceChange, is_place, has_id, has_room, services_changed}
use Rattle.sa_model.specs.Gid.{gid_of}
use Rattle.sa_model.specs.Visible.{SaState}
use Rattle.sa_model.specs.Shown.{service_record_of}
use Rattle.sa_model.specs.Selected.{asks}
use Rattle.sa_model.specs.Refusals.{Question, refused_if, first_refusal}
use Rattle.sa_model.specs.Outcome.{unless_status}
use Rattle.sa_replies.specs.Success.{Success}

-- ---- the service that is set: what the mask does not ask is 0
abbrev pub service_asked : ℕ → ServiceRecord → Service
service_asked mask asked = record {
  service_id = asked.service_id;
  lease = if asks mask service_mask.service_lease then asked.service_lease else 0;
  name = if asks mask service_mask.service_name then asked.service_name else replicate 64 0;
  numbers = numbers_asked mask asked.service_data;
}

abbrev pub change_asked : SubnetPort → ServiceRecord → Deed → ServiceChange
change_asked own asked deed = record { port = own.guid; base = base_of asked.service_p_key; deed = deed }

-- ---- why it is refused. ServiceID, ServiceGID and ServiceP_Key are required
abbrev pub owner_questions : SubnetPort → ℕ → ServiceRecord → List Question
owner_questions own mask asked =
    refused_if (not (asks mask (service_mask.service_id + service_mask.service_gid + service_mask.service_p_key))) InsufficientComponents
    ∷ refused_if (not (asked.service_gid == gid_of own.guid)) InvalidGid
    ∷ refused_if (not (is_in own (base_of asked.service_p_key))) RequestInvalid
    ∷ []

-- the services of that port and base
abbrev pub services_at : ServiceChange → List PortServices → List Service
services_at change places = flat_map (λ place. place.services) (filter (is_place change) places)

abbrev pub after_change : SaState → ServiceChange → SaState
after_change state change = record state { services = services_changed state.services change }

-- the reply to a Set is the record as it is shown
abbrev pub shown_bytes : SubnetPort → ServiceRecord → Service → List ℕ
shown_bytes own asked service =
    service_record_bytes (service_record_of (record { port = own.guid; base = base_of asked.service_p_key; service = service }))

abbrev pub set_outcome : SubnetPort → SaState → ServiceRecord → Service → ServiceChange → Result Success MadStatus
set_outcome own state asked service change =
    unless_status (first_refusal (refused_if (not (has_room service.service_id (services_at change state.services))) NoResources ∷ []))
    (Ok (Success.one_reply (shown_bytes own asked service) (after_change state change)))

abbrev pub service_set : SubnetPort → SaState → ℕ → ServiceRecord → Result Success MadStatus
service_set own state mask asked =
    unless_status (first_refusal (owner_questions own mask asked))
    (set_outcome own state asked (service_asked mask asked) (change_asked own asked (Deed.sets (service_asked mask asked))))

-- that to a Delete has the request's own data
abbrev pub delete_outcome : SaState → ServiceRecord → ServiceChange → List ℕ → Result Success MadStatus
delete_outcome state asked change content =
    unless_status (first_refusal (refused_if (not (list_any (has_id asked.service_id) (services_at change state.services))) NoRecords ∷ []))
    (Ok (Success.one_reply content (after_change state change)))

abbrev pub service_deleted : SubnetPort → SaState → ℕ → ServiceRecord → List ℕ → Result Success MadStatus
service_deleted own state mask asked content =
    unless_status (first_refusal (owner_questions own mask asked))
    (delete_outcome state asked (change_asked own asked (Deed.deletes asked.service_id)) content)
