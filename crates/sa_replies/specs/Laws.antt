-- What holds of every answer.
use Rattle.std.specs.Prelude.{ℕ, ◌≡◌, ◌^◌, ◌<◌, ◌==◌, Bool, true, false, not, ◌&&◌, bit_and, List, [], ◌∷◌, length, filter, Option, Some, None}
use Rattle.std.specs.Int.Digits.{AllBelowBase}
use Rattle.std.specs.List.{list_all}
use Rattle.pkey_rules.specs.PKey.{base_of}
use Rattle.mad_layout.specs.Bits.{field}
use Rattle.mad_layout.specs.Method.{method_code}
use Rattle.mad_layout.specs.declared.method.Method.{Method}
use Rattle.mad_layout.specs.declared.method.Method.TheVariants.{Get, Set, GetTable, Delete}
use Rattle.rmpp_core.specs.Segments.{Transfer, payload_size}
use Rattle.sa_records.specs.declared.sa_attribute.SaAttribute.TheVariants as sa_attribute
use Rattle.subnet_model.specs.declared.subnet_port.SubnetPort.{SubnetPort}
use Rattle.subnet_model.specs.Delivery.{port_with_guid}
use Rattle.subnet_model.specs.Near.{is_near}
use Rattle.sa_model.specs.Sound.{is_sound}
use Rattle.sa_model.specs.Services.{PortServices}
use Rattle.sa_model.specs.ServiceLaws.{ServiceSight, is_of, IsSet, IsDeleted}
use Rattle.sa_model.specs.ServiceSight.{services_near, services_seen}
use Rattle.sa_model.specs.ServiceSound.{are_sound_services}
use Rattle.sa_model.specs.QueryLaws.{SeesSame}
use Rattle.sa_model.specs.Visible.{SaState}
use Rattle.sa_replies.specs.Request.{Request, request_in, has_versions, is_about}
use Rattle.sa_records.specs.ServiceRecord.{service_in}
use Rattle.sa_replies.specs.Transfers.{table_place, table_of}
use Rattle.sa_replies.specs.ServiceRequests.{service_asked}
use Rattle.sa_replies.specs.Answer.{Administration, Answered, answer}

-- ---- what is remembered stays sound
pub record IsSound (ports : List SubnetPort) (state : Administration) : Type 0 where
  pub groups : is_sound ports state.remembered.partitions ≡ true
  pub services : are_sound_services ports state.remembered.services ≡ true

abbrev pub AnswersKeepSound : Type 0
AnswersKeepSound =
    (ports : List SubnetPort) (own : SubnetPort) (payload : List ℕ) (state : Administration) → IsSound ports state
    → IsSound ports (answer ports own payload state).1

-- ---- a request that is refused changes nothing
-- a MAD of a transfer, and a request by a method
abbrev pub is_of_transfer : List ℕ → Bool
is_of_transfer payload =
    ((length payload == 256) && (field payload 8 8 == 3))
    && (has_versions (request_in payload).header && (bit_and (request_in payload).rmpp.flags 1 == 1))

abbrev pub asks_by : Method → List ℕ → Bool
asks_by method payload = not (is_of_transfer payload) && ((request_in payload).header.method == method_code method)

-- each of these MADs has a status other than 0; no MAD is such an answer too
abbrev pub are_refusals : List (List ℕ) → Bool
are_refusals mads = list_all (λ mad. not (field mad 32 16 == 0)) mads

-- the length of the table can be reported in the 32 bits that its first segment has for it
abbrev pub CanBeReported : Option Transfer → Type 0
CanBeReported None = Unit {0}
CanBeReported (Some transfer) = payload_size transfer.bytes < 2 ^ 32

-- whatever bytes come, but a MAD of a transfer: if they are refused, or not answered, all is as it was
abbrev pub RefusedChangeNothing : Type 0
RefusedChangeNothing =
    (ports : List SubnetPort) (own : SubnetPort) (payload : List ℕ) (state : Administration) → AllBelowBase 256 payload
    → is_of_transfer payload ≡ false → CanBeReported (table_of own.guid (answer ports own payload state).1.transfers)
    → are_refusals (answer ports own payload state).0 ≡ true → (answer ports own payload state).1 ≡ state

-- ---- what each leaves as it was: a Get all, a GetTable groups and services, a Set and a Delete transfers in progress, and a MAD of a
-- transfer groups and services
pub record LeavesTheRest (payload : List ℕ) (state next : Administration) : Type 0 where
  pub by_get : asks_by Get payload ≡ true → next ≡ state
  pub by_get_table : asks_by GetTable payload ≡ true → next.remembered ≡ state.remembered
  pub by_set : asks_by Set payload ≡ true → next.transfers ≡ state.transfers
  pub by_delete : asks_by Delete payload ≡ true → next.transfers ≡ state.transfers
  pub by_transfer : is_of_transfer payload ≡ true → next.remembered ≡ state.remembered

abbrev pub RequestsLeaveTheRest : Type 0
RequestsLeaveTheRest =
    (ports : List SubnetPort) (own : SubnetPort) (payload : List ℕ) (state : Administration)
    → LeavesTheRest payload state (answer ports own payload state).1

-- ---- services that are set are there
abbrev pub asks_for_service : Method → List ℕ → Bool
asks_for_service method payload = asks_by method payload && (is_about sa_attribute.ServiceRecord (request_in payload))

abbrev pub base_wanted : Request → ℕ
base_wanted request = base_of (service_in request.content).service_p_key

-- the service that is asked is there, once; all other services, and all groups, are as before
pub record IsServiceSet (own : SubnetPort) (request : Request) (state next : SaState) : Type 0 where
  pub services : IsSet own.guid (base_wanted request)
      (service_asked request.component_mask (service_in request.content)) state.services next.services
  pub groups : next.partitions ≡ state.partitions

-- so it is after a Set that is not refused, if the port has one place in this base
abbrev pub ServicesSetAreThere : Type 0
ServicesSetAreThere =
    (ports : List SubnetPort) (own : SubnetPort) (payload : List ℕ) (state : Administration) (place : PortServices)
    → asks_for_service Set payload ≡ true
    → filter (is_of own.guid (base_wanted (request_in payload))) state.remembered.services ≡ place ∷ []
    → are_refusals (answer ports own payload state).0 ≡ false
    → IsServiceSet own (request_in payload) state.remembered (answer ports own payload state).1.remembered

-- none of the ID that is asked is there; all other services, and all groups, are as before
pub record IsServiceDeleted (own : SubnetPort) (request : Request) (state next : SaState) : Type 0 where
  pub services : IsDeleted own.guid (base_wanted request) (service_in request.content).service_id state.services next.services
  pub groups : next.partitions ≡ state.partitions

abbrev pub ServicesDeletedAreGone : Type 0
ServicesDeletedAreGone =
    (ports : List SubnetPort) (own : SubnetPort) (payload : List ℕ) (state : Administration) → asks_for_service Delete payload ≡ true
    → are_refusals (answer ports own payload state).0 ≡ false
    → IsServiceDeleted own (request_in payload) state.remembered (answer ports own payload state).1.remembered

-- ---- p sees the same in both states: of groups, of services as this rule says, and of its own table
pub record SeesAlike (sight : ServiceSight) (ports : List SubnetPort) (p : ℕ) (s t : Administration) : Type 0 where
  pub remembered : SeesSame sight ports p s.remembered t.remembered
  pub own_table : table_place p s.transfers ≡ table_place p t.transfers

-- ---- what is proved of a rule for answers, for a port p: whatever a port sends that is far from it, it sees the same after, of services
-- all those of the ports near it, shown to it or not
abbrev pub AnswerRule : Type 0
AnswerRule = List SubnetPort → SubnetPort → List ℕ → Administration → Answered

abbrev pub HidesFarRequests : AnswerRule → Type 0
HidesFarRequests rule =
    (ports : List SubnetPort) (p : ℕ) (own : SubnetPort) (payload : List ℕ) (state : Administration)
    → is_near ports p own.guid ≡ false → is_sound ports state.remembered.partitions ≡ true
    → SeesAlike services_near ports p (rule ports own payload state).1 state

-- it holds of ours
abbrev pub FarRequestsAreNotSeen : Type 0
FarRequestsAreNotSeen = HidesFarRequests answer

-- ---- if a port sees the same in two states, what it sends is answered by the same MADs, and it sees the same after
pub record AnsweredAlike (sight : ServiceSight) (ports : List SubnetPort) (own : SubnetPort) (payload : List ℕ)
    (s t : Administration) : Type 0 where
  pub mads : (answer ports own payload s).0 ≡ (answer ports own payload t).0
  pub after : SeesAlike sight ports own.guid (answer ports own payload s).1 (answer ports own payload t).1

abbrev pub RequestersAreAnsweredAlikeBy : ServiceSight → Type 0
RequestersAreAnsweredAlikeBy sight =
    (ports : List SubnetPort) (own : SubnetPort) (payload : List ℕ) (s t : Administration)
    → port_with_guid ports own.guid ≡ Some own → is_sound ports s.remembered.partitions ≡ true
    → is_sound ports t.remembered.partitions ≡ true → SeesAlike sight ports own.guid s t → AnsweredAlike sight ports own payload s t

-- whether of services those that it may be shown are the same, or all those of the ports near it
pub record RequestersAreAnsweredAlike : Type 0 where
  pub shown : RequestersAreAnsweredAlikeBy services_seen
  pub near : RequestersAreAnsweredAlikeBy services_near

-- ---- whatever a port sends, who sees the same in two states sees the same after
abbrev pub AnswersAreSeenAlikeBy : ServiceSight → Type 0
AnswersAreSeenAlikeBy sight =
    (ports : List SubnetPort) (p : ℕ) (own : SubnetPort) (payload : List ℕ) (s t : Administration)
    → port_with_guid ports own.guid ≡ Some own → is_sound ports s.remembered.partitions ≡ true
    → is_sound ports t.remembered.partitions ≡ true → SeesAlike sight ports p s t
    → SeesAlike sight ports p (answer ports own payload s).1 (answer ports own payload t).1

pub record AnswersAreSeenAlike : Type 0 where
  pub shown : AnswersAreSeenAlikeBy services_seen
  pub near : AnswersAreSeenAlikeBy services_near
