-- What comes of a join and of a leave, and of all else that ports send.
use Rattle.std.proofs.Common.{◌≡◌, ℕ, List, [], ◌∷◌, Option, Some, None, Result, Ok, Err, refl, sym, ◌∙◌, ap}
use Rattle.std.proofs.lemmas.Option.{same_Some}
use Rattle.mad_layout.specs.declared.status.MadStatus.{MadStatus}
use Rattle.sa_records.specs.declared.mc_member_record.McMemberRecord.{McMemberRecord}
use Rattle.subnet_model.specs.declared.subnet_port.SubnetPort.{SubnetPort}
use Rattle.sa_model.specs.Leaving.{left}
use Rattle.sa_model.specs.Receivers.{changed_numbers}
use Rattle.sa_model.proofs.ReceiverLemmas.{nothing_changes_alone}
use Rattle.sa_model.specs.Refusals.{Question, first_refusal}
use Rattle.sa_model.specs.Visible.{SaState}
use Rattle.sa_replies.specs.Answer.{Answered, answered_with}
use Rattle.sa_replies.specs.Joins.{leave_asked, leave_outcome, leave_questions}
use Rattle.sa_replies.specs.Request.{Request}
use Rattle.sa_replies.specs.Success.{Success}
use Rattle.sa_answer.specs.Answering.{Answers, BringsChange, Reacts}
use Rattle.sa_store.specs.Registry.{RegistryState, changed_between, with_remembered}
use Rattle.sa_answer.specs.Replying.{reply_with}
use Rattle.sa_answer.specs.declared.change.Change.{Change}
use Rattle.sa_answer.specs.declared.reaction.Reaction.{Reaction}

-- ---- the requester is the port that is found
pub asked_by : (questions : SubnetPort → List Question) (given : Option MadStatus) (port own : SubnetPort) (found : Option SubnetPort) → Some port ≡ found
    → found ≡ Some own → given ≡ first_refusal (questions port) → given ≡ first_refusal (questions own)
asked_by questions given port own found is found_is reported =
    let same : port ≡ own = same_Some port own (is ∙ found_is) in
    reported ∙ ap (λ (one : SubnetPort). first_refusal (questions one)) same

-- ---- a leave
pub leave_refused : (ports : List SubnetPort) (own : SubnetPort) (state : SaState) (mask : ℕ) (asked : McMemberRecord) (content : List ℕ) (status : MadStatus)
    → first_refusal (leave_questions own state mask asked) ≡ Some status → leave_outcome ports own state mask asked content ≡ Err status
leave_refused ports own state mask asked content status refused = rw refused refl

pub leave_is_done : (ports : List SubnetPort) (own : SubnetPort) (state : SaState) (mask : ℕ) (asked : McMemberRecord) (content : List ℕ)
    → first_refusal (leave_questions own state mask asked) ≡ None
    → leave_outcome ports own state mask asked content
    ≡ Ok (Success.one_reply content (record state { partitions = left ports (leave_asked own mask asked) state.partitions }))
leave_is_done ports own state mask asked content none = rw none refl

-- ---- what comes of a change
-- a service is no group
pub services_alone : (old new : RegistryState) (next : SaState) → new ≡ with_remembered next old → next.partitions ≡ old.administration.remembered.partitions
    → [] ≡ changed_between old new
services_alone old new next is same =
    sym (ap (changed_between old) is
    ∙ ap (changed_numbers old.configuration.ports old.administration.remembered.partitions) same
    ∙ nothing_changes_alone old.configuration.ports old.administration.remembered.partitions)

pub refused_change : (old new : RegistryState) (brought : Result Success MadStatus) (status : MadStatus) → BringsChange old brought (Err status) new
    → (brought ≡ Err status) × (new ≡ old)
refused_change old new (Ok (Success.whole_table offset bytes)) status h = absurd h
refused_change old new (Ok (Success.one_reply bytes next)) status h = absurd h
refused_change old new (Err other) status h = (ap (λ (s : MadStatus). Err s) (sym h.0), h.1)

pub change_reacts : (own : SubnetPort) (request : Request) (old new : RegistryState) (brought : Result Success MadStatus) (change : Change) (reaction : Reaction)
    → BringsChange old brought (Ok change) new → reaction.replies.items ≡ reply_with request 0 change.«data» ∷ [] → reaction.changed.items ≡ change.numbers.items
    → Reacts (answered_with own request old.administration brought) reaction old new
change_reacts own request old new (Err status) change reaction h reported numbers = absurd h
change_reacts own request old new (Ok (Success.whole_table offset bytes)) change reaction h reported numbers = absurd h
change_reacts own request old new (Ok (Success.one_reply bytes next)) change reaction h reported numbers =
    let whole = h.0 in
    record { answers = record { mads_are = rw whole at reported; next = h.1.0 }; changed = numbers ∙ h.1.1 }

-- ---- what leaves the partitions changes no receivers
pub quiet : (answered : Answered) (reaction : Reaction) (old new : RegistryState) → Answers answered reaction.replies.items old new → reaction.changed.items ≡ []
    → answered.1.remembered.partitions ≡ old.administration.remembered.partitions → Reacts answered reaction old new
quiet answered reaction old new answers none same = record {
  answers = answers;
  changed = none
      ∙ sym (ap (changed_between old) answers.next
      ∙ ap (changed_numbers old.configuration.ports old.administration.remembered.partitions) same
      ∙ nothing_changes_alone old.configuration.ports old.administration.remembered.partitions);
}

pub same_replies : (answered : Answered) (mads replies : List (List ℕ)) (old new : RegistryState) → replies ≡ mads → Answers answered mads old new
    → Answers answered replies old new
same_replies answered mads replies old new same answers = record { mads_are = same ∙ answers.mads_are; next = answers.next }
