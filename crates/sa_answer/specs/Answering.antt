-- What comes of what a port sends, in words that code computes.
use Rattle.std.specs.Prelude.{ℕ, ◌≡◌, ◌<◌, ◌^◌, List, [], Option, Some, None, Result, Ok, Err}
use Rattle.mad_layout.specs.declared.status.MadStatus.{MadStatus}
use Rattle.rmpp_core.specs.Segments.{payload_size}
use Rattle.subnet_model.specs.Delivery.{port_with_guid}
use Rattle.subnet_model.specs.declared.subnet_port.SubnetPort.{SubnetPort}
use Rattle.sa_model.specs.Visible.{SaState}
use Rattle.sa_replies.specs.Answer.{Administration, Answered, answer}
use Rattle.sa_replies.specs.Success.{Success as Brought}
use Rattle.sa_answer.specs.declared.outcome.Success.{Success}
use Rattle.sa_answer.specs.declared.outcome.Success.TheVariants.{Reply, Table}
use Rattle.sa_answer.specs.declared.change.Change.{Change}
use Rattle.sa_answer.specs.declared.reaction.Reaction.{Reaction}
use Rattle.sa_store.specs.Registry.{RegistryState, changed_between, with_remembered}
use Rattle.sa_answer.specs.Replying.{padded}

-- ---- the same comes of a request, in the data of a reply or in the bytes of a table; what is remembered stays
abbrev pub IsBrought : SaState → Brought → Success → Type 0
IsBrought state (Brought.one_reply bytes next) (Reply content) = (content ≡ padded bytes) × (next ≡ state)
IsBrought state (Brought.whole_table offset bytes) (Table spacing held) = (spacing ≡ offset) × (held.items ≡ bytes)
IsBrought state _ _ = ⊥

abbrev pub Brings : SaState → Result Brought MadStatus → Result Success MadStatus → Type 0
Brings state (Ok brought) (Ok found) = IsBrought state brought found
Brings state (Err status) (Err reported) = reported ≡ status
Brings state _ _ = ⊥

-- a Set or a Delete brings this data for its reply, with the numbers of the partitions whose receivers changed, and what is
-- remembered then is as it says; or it is refused, and changes nothing
abbrev pub BringsChange : RegistryState → Result Brought MadStatus → Result Change MadStatus → RegistryState → Type 0
BringsChange old (Ok (Brought.one_reply bytes next)) (Ok change) new =
    (change.«data» ≡ padded bytes) × ((new ≡ with_remembered next old) × (change.numbers.items ≡ changed_between old new))
BringsChange old (Err status) (Err reported) new = (reported ≡ status) × (new ≡ old)
BringsChange old _ _ new = ⊥

-- the length of a table can be reported in the 32 bits that its first segment has for it
abbrev pub CanBeReported : Result Success MadStatus → Type 0
CanBeReported (Ok (Table spacing held)) = payload_size held.items < 2 ^ 32
CanBeReported (Ok (Reply content)) = Unit {0}
CanBeReported (Err status) = Unit {0}

-- ---- what a port of a GUID sends; what comes from none is not answered
abbrev pub answer_from : List SubnetPort → Option SubnetPort → List ℕ → Administration → Answered
answer_from ports (Some own) payload state = answer ports own payload state
answer_from ports None payload state = ([], state)

abbrev pub answer_to_port : List SubnetPort → ℕ → List ℕ → Administration → Answered
answer_to_port ports guid payload state = answer_from ports (port_with_guid ports guid) payload state

-- these MADs are the answer, and all that is remembered then is as it says; all else is as it was
pub record Answers (answered : Answered) (mads : List (List ℕ)) (old new : RegistryState) : Type 0 where
  pub mads_are : mads ≡ answered.0
  pub next : new ≡ record old { administration = answered.1 }

-- so are these replies, and the numbers are those of the partitions whose receivers changed
pub record Reacts (answered : Answered) (reaction : Reaction) (old new : RegistryState) : Type 0 where
  pub answers : Answers answered reaction.replies.items old new
  pub changed : reaction.changed.items ≡ changed_between old new
