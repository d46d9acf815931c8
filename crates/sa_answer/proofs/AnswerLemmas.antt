-- What a MAD changes of the tables that are open, and which port it comes from.
use Rattle.std.proofs.Common.{◌≡◌, ℕ, ◌+◌, Vec, Global, ◌==◌, ◌&&◌, Bool, true, false, if◌then◌else◌, List, [], ◌∷◌, length, Option, Some, None, Result, Ok, Err, refl, sym, ◌∙◌, ap, inl, inr}
use Rattle.std.proofs.lemmas.Bool.{cases_Bool, eqb-true, eq-eqb}
use Rattle.std.specs.List.{position_from}
use Rattle.std.proofs.lemmas.Iterator.Adapters.{position_from-zero}
use Rattle.mad_layout.specs.Bits.{field}
use Rattle.step_results.proofs.ListLemmas.{found_passes}
use Rattle.mad_layout.specs.declared.status.MadStatus.{MadStatus}
use Rattle.rmpp_core.specs.Segments.{Transfer, opened, segment_mad}
use Rattle.subnet_model.specs.Delivery.{port_with_guid}
use Rattle.subnet_model.specs.declared.subnet_port.SubnetPort.{SubnetPort}
use Rattle.sa_model.specs.Visible.{SaState}
use Rattle.subnet_model.specs.Configuration.{ConfigurationState}
use Rattle.subnet_model.specs.Configured.{IsConfigured}
use Rattle.sa_replies.specs.Answer.{Administration, answer_to, answered_with, outcome}
use Rattle.sa_replies.specs.State.{IsRememberedOf}
use Rattle.sa_replies.proofs.OpenTableLemmas.{TableLow, outcome_low}
use Rattle.sa_replies.proofs.RefusalLemmas.{Ends}
use Rattle.sa_replies.specs.Reply.{refusal_reply, table_header}
use Rattle.sa_replies.specs.Request.{Request, request_in}
use Rattle.sa_replies.specs.Success.{Success as Brought}
use Rattle.sa_replies.specs.Transfers.{PortTransfer, with_table}
use Rattle.sa_answer.specs.Answering.{Brings, CanBeReported, Reacts, answer_to_port}
use Rattle.sa_store.specs.Registry.{IsListed, RegistryState, place_with_guid}
use Rattle.sa_answer.specs.Replying.{padded, reply_with}
use Rattle.sa_answer.proofs.MembershipLemmas.{quiet}
use Rattle.sa_answer.specs.declared.reaction.Reaction.{Reaction}
use Rattle.sa_answer.specs.declared.outcome.Success.{Success}
use Rattle.sa_answer.specs.declared.outcome.Success.TheVariants.{Reply, Table}

pub with_table_again : (port : ℕ) (first second : Option Transfer) (transfers : List PortTransfer)
    → with_table port second (with_table port first transfers) ≡ with_table port second transfers
with_table_again port first second [] = refl
with_table_again port first second (place ∷ places) = elim (cases_Bool (place.port == port)) [
  | inl this ↦ rw (this, eq-eqb port port refl) (ap (λ rest. record { port = port; open_table = second } ∷ rest) (with_table_again port first second places))
  | inr other ↦ rw (other, other) (ap (λ rest. place ∷ rest) (with_table_again port first second places))
]

pub guid_of_found : (ports : List SubnetPort) (guid : ℕ) (own : SubnetPort) → port_with_guid ports guid ≡ Some own → own.guid ≡ guid
guid_of_found ports guid own found = eqb-true own.guid guid (found_passes (λ (port : SubnetPort). port.guid == guid) ports own found)

-- ---- what is brought, by what was found
pub refused_is : (state : SaState) (brought : Result Brought MadStatus) (status : MadStatus) → Brings state brought (Err status) → brought ≡ Err status
refused_is state (Ok some) status h = absurd h
refused_is state (Err other) status h = ap (λ (s : MadStatus). Err s) (sym h)

pub record IsReplied (state : SaState) (brought : Result Brought MadStatus) (content : List ℕ) : Type 0 where
  pub bytes : List ℕ
  pub is : brought ≡ Ok (Brought.one_reply bytes state)
  pub whole : content ≡ padded bytes

pub replied_is : (state : SaState) (brought : Result Brought MadStatus) (content : List ℕ) → Brings state brought (Ok (Reply content)) → IsReplied state brought content
replied_is state (Err other) content h = absurd h
replied_is state (Ok (Brought.whole_table offset bytes)) content h = absurd h
replied_is state (Ok (Brought.one_reply bytes next)) content h = record { bytes = bytes; is = ap (λ (s : SaState). Ok (Brought.one_reply bytes s)) h.1; whole = h.0 }

pub tabled_is : (state : SaState) (brought : Result Brought MadStatus) (spacing : ℕ) (held : Vec ℕ Global) → Brings state brought (Ok (Table spacing held))
    → brought ≡ Ok (Brought.whole_table spacing held.items)
tabled_is state (Err other) spacing held h = absurd h
tabled_is state (Ok (Brought.one_reply bytes next)) spacing held h = absurd h
tabled_is state (Ok (Brought.whole_table offset bytes)) spacing held h = rw (h.0, h.1) refl

-- ---- the answers: nobody else receives then
pub refused_answers : (own : SubnetPort) (request : Request) (old : RegistryState) (brought : Result Brought MadStatus) (reaction : Reaction) (status : MadStatus)
    → brought ≡ Err status → reaction.replies.items ≡ refusal_reply request status ∷ [] → reaction.changed.items ≡ []
    → Reacts (answered_with own request old.administration brought) reaction old old
refused_answers own request old brought reaction status is reported none = rw is (quiet _ reaction old old (record { mads_are = reported; next = refl }) none refl)

pub replied_answers : (own : SubnetPort) (request : Request) (old : RegistryState) (brought : Result Brought MadStatus) (reaction : Reaction) (content : List ℕ)
    → IsReplied old.administration.remembered brought content → reaction.replies.items ≡ reply_with request 0 content ∷ [] → reaction.changed.items ≡ []
    → Reacts (answered_with own request old.administration brought) reaction old old
replied_answers own request old brought reaction content replied reported none =
    let whole = replied.whole in
    rw replied.is (quiet _ reaction old old (record { mads_are = rw whole at reported; next = refl }) none refl)

pub tabled_answers : (own : SubnetPort) (request : Request) (old new : RegistryState) (brought : Result Brought MadStatus) (reaction : Reaction) (spacing : ℕ)
    (bytes : List ℕ) → brought ≡ Ok (Brought.whole_table spacing bytes)
    → reaction.replies.items ≡ segment_mad (opened (table_header request spacing) bytes) 1 ∷ []
    → new ≡ record old { administration = record old.administration { transfers = with_table own.guid (Some (opened (table_header request spacing) bytes)) old.administration.transfers } }
    → reaction.changed.items ≡ [] → Reacts (answered_with own request old.administration brought) reaction old new
tabled_answers own request old new brought reaction spacing bytes is reported next none =
    rw is (quiet _ reaction old new (record { mads_are = reported; next = next }) none refl)

-- ---- the length of a table can be reported
can_be_reported : (state : SaState) (brought : Result Brought MadStatus) (found : Result Success MadStatus) → Brings state brought found → Ends TableLow brought → CanBeReported found
can_be_reported state brought (Err status) brings low = tt
can_be_reported state brought (Ok (Reply content)) brings low = tt
can_be_reported state (Ok (Brought.whole_table offset bytes)) (Ok (Table spacing held)) brings low = rw brings.1 low.2
can_be_reported state (Ok (Brought.one_reply bytes next)) (Ok (Table spacing held)) brings low = absurd brings
can_be_reported state (Err status) (Ok (Table spacing held)) brings low = absurd brings

pub reported_of : (configuration : ConfigurationState) (own : SubnetPort) (state : SaState) (request : Request) (found : Result Success MadStatus) → IsConfigured configuration
    → IsListed configuration.ports own → IsRememberedOf configuration state → Brings state (outcome configuration.ports own state request) found → CanBeReported found
reported_of configuration own state request found configured listed remembered brings =
    can_be_reported state (outcome configuration.ports own state request) found brings (outcome_low configuration own state request configured listed remembered)

-- ---- the requester, and whether it is a MAD
pub record IsSomebody (ports : List SubnetPort) (guid : ℕ) : Type 0 where
  pub own : SubnetPort
  pub found : port_with_guid ports guid ≡ Some own

pub somebody : (ports : List SubnetPort) (guid place : ℕ) → place_with_guid ports guid ≡ Some place → IsSomebody ports guid
somebody ports guid place h = some_from 0 ports (sym (position_from-zero (λ (port : SubnetPort). port.guid == guid) ports) ∙ h)
  where
    some_from : (from : ℕ) (some : List SubnetPort) → position_from (λ port. port.guid == guid) from some ≡ Some place → IsSomebody some guid
    some_from from [] h = absurd (cc)
    some_from from (port ∷ some) h = elim (cases_Bool (port.guid == guid)) [
      | inl here ↦ record { own = port; found = rw here refl }
      | inr other ↦ let later = some_from (from + 1) some (rw other at h) in record { own = later.own; found = rw other later.found }
    ]

pub nobody : (ports : List SubnetPort) (guid : ℕ) → place_with_guid ports guid ≡ None → port_with_guid ports guid ≡ None
nobody ports guid h = none_from 0 ports (sym (position_from-zero (λ (port : SubnetPort). port.guid == guid) ports) ∙ h)
  where
    none_from : (from : ℕ) (some : List SubnetPort) → position_from (λ port. port.guid == guid) from some ≡ None → port_with_guid some guid ≡ None
    none_from from [] h = refl
    none_from from (port ∷ some) h = elim (cases_Bool (port.guid == guid)) [
      | inl here ↦ absurd (let e : Some from ≡ None = rw here at h in cc)
      | inr other ↦ rw other (none_from (from + 1) some (rw other at h))
    ]

pub mad_is : (test : Bool) (mad payload : List ℕ) → Some mad ≡ (if test then Some payload else None) → (test ≡ true) × (mad ≡ payload)
mad_is true mad payload h = (refl, cc)
mad_is false mad payload h = absurd (let nothing : Option (List ℕ) = None in let e : Some mad ≡ nothing = h in cc)

pub answered_as : (ports : List SubnetPort) (guid : ℕ) (own : SubnetPort) (mad payload : List ℕ) (state : Administration) → port_with_guid ports guid ≡ Some own
    → Some mad ≡ (if (length payload == 256) && (field payload 8 8 == 3) then Some payload else None)
    → answer_to ports own (request_in mad) state ≡ answer_to_port ports guid payload state
answered_as ports guid own mad payload state found h =
    let is = mad_is ((length payload == 256) && (field payload 8 8 == 3)) mad payload h in
    let test = is.0 in
    let same = is.1 in
    rw (found, test, same) refl

pub ignored_as : (ports : List SubnetPort) (guid : ℕ) (own : SubnetPort) (payload : List ℕ) (state : Administration) → port_with_guid ports guid ≡ Some own
    → None ≡ (if (length payload == 256) && (field payload 8 8 == 3) then Some payload else None) → answer_to_port ports guid payload state ≡ ([], state)
ignored_as ports guid own payload state found none = elim (cases_Bool ((length payload == 256) && (field payload 8 8 == 3))) [
  | inl is ↦ absurd (let e : None ≡ Some payload = rw is at none in cc)
  | inr other ↦ rw (found, other) refl
]
