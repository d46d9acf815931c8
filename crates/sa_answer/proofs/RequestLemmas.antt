-- What comes of a Set and a Delete of a ServiceRecord.
use Rattle.std.proofs.Common.{◌≡◌, ℕ, ◌+◌, ◌==◌, Bool, true, false, not, List, [], ◌∷◌, Option, Some, None, Ok, Err, refl, sym, ◌∙◌, ap, length}
use Rattle.std.specs.List.{list_any}
use Rattle.std.proofs.lemmas.List.{append-nil}
use Rattle.std.proofs.lemmas.Option.{same_Some}
use Rattle.sa_answer.specs.Replying.{padded}
use Rattle.mad_layout.specs.declared.status.MadStatus.{MadStatus}
use Rattle.mad_layout.specs.declared.status.MadStatus.TheVariants.{InsufficientComponents, InvalidGid, NoRecords, NoResources, RequestInvalid}
use Rattle.pkey_rules.specs.PKey.{base_of}
use Rattle.sa_records.specs.declared.service_record.ServiceRecord.{ServiceRecord}
use Rattle.subnet_model.specs.declared.subnet_port.SubnetPort.{SubnetPort}
use Rattle.sa_model.specs.Members.{is_in}
use Rattle.sa_model.specs.Gid.{gid_of}
use Rattle.sa_model.specs.Selected.{asks}
use Rattle.sa_model.specs.Refusals.{first_refusal, refused_if}
use Rattle.sa_model.specs.Visible.{SaState}
use Rattle.sa_model.specs.ServiceChange.{Deed, has_id, has_room}
use Rattle.sa_replies.specs.ServiceRequests.{after_change, change_asked, owner_questions, service_asked, service_deleted, service_set, services_at, shown_bytes}
use Rattle.sa_replies.specs.Success.{Success}
use Rattle.sa_records.specs.ServiceMask as service_mask

-- ---- a port that may set and delete
pub may : (given : Option MadStatus) (port own : SubnetPort) (found : Option SubnetPort) (mask : ℕ) (asked : ServiceRecord) → Some port ≡ found → found ≡ Some own
    → given ≡ first_refusal (owner_questions port mask asked) → given ≡ None → first_refusal (owner_questions own mask asked) ≡ None
may given port own found mask asked is found_is reported none =
    let same : port ≡ own = same_Some port own (is ∙ found_is) in
    ap (λ (one : SubnetPort). first_refusal (owner_questions one mask asked)) (sym same) ∙ sym reported ∙ none

third : (a b c : Bool) (r s t : MadStatus) → first_refusal (refused_if a r ∷ refused_if b s ∷ refused_if (not c) t ∷ []) ≡ None → c ≡ true
third true b c r s t none = absurd (cc)
third false true c r s t none = absurd (cc)
third false false true r s t none = refl
third false false false r s t none = absurd (cc)

pub is_member : (own : SubnetPort) (mask : ℕ) (asked : ServiceRecord) → first_refusal (owner_questions own mask asked) ≡ None
    → is_in own (base_of asked.service_p_key) ≡ true
is_member own mask asked none =
    third (not (asks mask (service_mask.service_id + service_mask.service_gid + service_mask.service_p_key))) (not (asked.service_gid == gid_of own.guid))
    (is_in own (base_of asked.service_p_key)) InsufficientComponents InvalidGid RequestInvalid none

-- ---- what comes of it
pub set_full : (own : SubnetPort) (state : SaState) (mask : ℕ) (asked : ServiceRecord) → first_refusal (owner_questions own mask asked) ≡ None
    → has_room (service_asked mask asked).service_id (services_at (change_asked own asked (Deed.sets (service_asked mask asked))) state.services) ≡ false
    → service_set own state mask asked ≡ Err NoResources
set_full own state mask asked none full = rw (none, full) refl

pub set_done : (own : SubnetPort) (state : SaState) (mask : ℕ) (asked : ServiceRecord) → first_refusal (owner_questions own mask asked) ≡ None
    → has_room (service_asked mask asked).service_id (services_at (change_asked own asked (Deed.sets (service_asked mask asked))) state.services) ≡ true
    → service_set own state mask asked
    ≡ Ok (Success.one_reply (shown_bytes own asked (service_asked mask asked)) (after_change state (change_asked own asked (Deed.sets (service_asked mask asked)))))
set_done own state mask asked none room = rw (none, room) refl

pub deleted_none : (own : SubnetPort) (state : SaState) (mask : ℕ) (asked : ServiceRecord) (content : List ℕ)
    → first_refusal (owner_questions own mask asked) ≡ None
    → list_any (has_id asked.service_id) (services_at (change_asked own asked (Deed.deletes asked.service_id)) state.services) ≡ false
    → service_deleted own state mask asked content ≡ Err NoRecords
deleted_none own state mask asked content none absent = rw (none, absent) refl

pub deleted_done : (own : SubnetPort) (state : SaState) (mask : ℕ) (asked : ServiceRecord) (content : List ℕ)
    → first_refusal (owner_questions own mask asked) ≡ None
    → list_any (has_id asked.service_id) (services_at (change_asked own asked (Deed.deletes asked.service_id)) state.services) ≡ true
    → service_deleted own state mask asked content ≡ Ok (Success.one_reply content (after_change state (change_asked own asked (Deed.deletes asked.service_id))))
deleted_done own state mask asked content none there = rw (none, there) refl

-- all the data of a request
pub whole_content : (content : List ℕ) → length content ≡ 200 → padded content ≡ content
whole_content content long = rw long (append-nil content)
