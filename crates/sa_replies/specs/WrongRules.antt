-- Wrong rules for answers: some do not keep partitions apart, others note, answer or remember what they should not.
use Rattle.std.specs.Prelude.{ℕ, ◌==◌, Bool, ◌&&◌, if◌then◌else◌, List, [], ◌∷◌, ◌++◌, map, take, drop, Ok}
use Rattle.std.specs.List.{flat_map}
use Rattle.mad_layout.specs.Method.{method_code}
use Rattle.mad_layout.specs.declared.method.Method.{Method}
use Rattle.mad_layout.specs.declared.method.Method.TheVariants.{Set, GetTable, Delete}
use Rattle.mad_layout.specs.declared.status.MadStatus.TheVariants.{BadVersion}
use Rattle.sa_records.specs.declared.node_record.TheConstants.{NODE_RECORD_OFFSET}
use Rattle.sa_records.specs.declared.sa_attribute.SaAttribute.TheVariants as sa_attribute
use Rattle.subnet_model.specs.declared.subnet_port.SubnetPort.{SubnetPort}
use Rattle.sa_model.specs.Shown.{Entry, node_entry}
use Rattle.sa_replies.specs.Request.{Request, request_in, is_about}
use Rattle.sa_replies.specs.Reply.{refusal_reply}
use Rattle.sa_replies.specs.Success.{Success}
use Rattle.sa_replies.specs.Transfers.{table_of}
use Rattle.sa_replies.specs.Answer.{Administration, Answered, answer, answered_with}
use Rattle.sa_records.specs.SaRecord.{record_bytes}
use Rattle.sa_replies.specs.Laws.{AnswerRule, HidesFarRequests, are_refusals, asks_by}
use Rattle.sa_replies.specs.Notes.{NotedByte, NotedMad, Notes, NotedAnswer, answer_noted, in_segment, is_request, noted_records, with_notes}
use Rattle.sa_model.specs.Groups.{Creator}
use Rattle.sa_replies.specs.NamedNotes.{NamesSources}
use Rattle.sa_replies.specs.State.{KeepsStates}
use Rattle.sa_replies.specs.OneReply.{AnswersOnce, IgnoresOthers, asks_something}
use Rattle.sa_replies.specs.Sources.{NotedRule, NotesItsData, ReportsFromNear}

-- one table for all: each that is opened takes the place of the one before, whose ever it was
abbrev pub shared_by_all : SubnetPort → Administration → Administration
shared_by_all own state = record state {
  transfers = map (λ place. record { port = place.port; open_table = table_of own.guid state.transfers }) state.transfers;
}

abbrev pub answer_by_one_table : AnswerRule
answer_by_one_table ports own payload state =
    ((answer ports own payload state).0, shared_by_all own (answer ports own payload state).1)

abbrev pub OneTableReports : Type 0
OneTableReports = HidesFarRequests answer_by_one_table → ⊥

-- ---- a table of all nodes: whoever asks for a table of nodes is reported the node of each port, and what it comes from is noted
abbrev pub all_nodes : List SubnetPort → List Entry
all_nodes ports = map node_entry ports

abbrev pub all_nodes_reported : List SubnetPort → SubnetPort → List ℕ → Administration → Answered
all_nodes_reported ports own payload state =
    answered_with own (request_in payload) state
    (Ok (Success.whole_table NODE_RECORD_OFFSET (flat_map (λ entry. record_bytes entry.shown) (all_nodes ports))))

abbrev pub all_nodes_noted : List SubnetPort → SubnetPort → List ℕ → Administration → Notes → NotedAnswer
all_nodes_noted ports own payload state notes = record {
  mads = map (λ mad. record { mad = mad; bytes = in_segment 1 (noted_records (all_nodes ports)) })
      (all_nodes_reported ports own payload state).0;
  state = (all_nodes_reported ports own payload state).1;
  notes = with_notes own.guid (all_nodes ports) notes;
}

abbrev pub asks_for_nodes : Request → Bool
asks_for_nodes request = (request.header.method == method_code GetTable) && (is_about sa_attribute.NodeRecord request)

abbrev pub answer_with_all_nodes : NotedRule
answer_with_all_nodes ports own payload state notes =
    if is_request payload && asks_for_nodes (request_in payload)
    then all_nodes_noted ports own payload state notes
    else answer_noted ports own payload state notes

abbrev pub AllNodesReport : Type 0
AllNodesReport = ReportsFromNear answer_with_all_nodes → ⊥

-- ---- to note nothing: then nothing comes from far
abbrev pub answer_noting_nothing : NotedRule
answer_noting_nothing ports own payload state notes = record {
  mads = map (λ mad. record { mad = mad; bytes = [] }) (answer ports own payload state).0;
  state = (answer ports own payload state).1;
  notes = notes;
}

abbrev pub NothingNotedIsLess : Type 0
NothingNotedIsLess = NotesItsData answer_noting_nothing → ⊥

-- ---- to note the bytes and the records, and of each that it comes from the partition file: then nothing comes from far either
abbrev pub from_file : NotedByte → NotedByte
from_file one = record { byte = one.byte; source = Creator.PartitionFile }

abbrev pub of_file : List Entry → List Entry
of_file entries = map (λ (entry : Entry). record { shown = entry.shown; source = Creator.PartitionFile }) entries

abbrev pub answer_noting_the_file : NotedRule
answer_noting_the_file ports own payload state notes = record {
  mads = map (λ one. record { mad = one.mad; bytes = map from_file one.bytes }) (answer_noted ports own payload state notes).mads;
  state = (answer_noted ports own payload state notes).state;
  notes = λ p. of_file ((answer_noted ports own payload state notes).notes p);
}

abbrev pub TheFileIsNoSource : Type 0
TheFileIsNoSource = NamesSources answer_noting_the_file → ⊥

-- ---- to note for every port what is noted for the one that asks
abbrev pub answer_noting_for_all : NotedRule
answer_noting_for_all ports own payload state notes = record (answer_noted ports own payload state notes) {
  notes = λ p. (answer_noted ports own payload state notes).notes own.guid;
}

abbrev pub AskersAreNotedAlone : Type 0
AskersAreNotedAlone = NamesSources answer_noting_for_all → ⊥

-- ---- to note of the replies to requests by one method alone that all in them comes from this source
abbrev pub from_alone : Creator → NotedMad → NotedMad
from_alone source one = record {
  mad = one.mad;
  bytes = map (λ (noted : NotedByte). record { byte = noted.byte; source = source }) one.bytes;
}

abbrev pub answer_noting_by : Method → (SubnetPort → Creator) → NotedRule
answer_noting_by method source ports own payload state notes = record (answer_noted ports own payload state notes) {
  mads = map (λ one. if asks_by method payload then from_alone (source own) one else one) (answer_noted ports own payload state notes).mads;
}

-- of a Set or a Delete the partition file, of a Set also the port that asks, who need not have made the group
abbrev pub SetsAreNotOfFile : Type 0
SetsAreNotOfFile = NamesSources (answer_noting_by Set (λ own. Creator.PartitionFile)) → ⊥

abbrev pub DeletesAreNotOfFile : Type 0
DeletesAreNotOfFile = NamesSources (answer_noting_by Delete (λ own. Creator.PartitionFile)) → ⊥

abbrev pub JoinsAreOfTheMaker : Type 0
JoinsAreOfTheMaker = NamesSources (answer_noting_by Set (λ own. Creator.Port own.guid)) → ⊥

-- ---- an answer after which there is no place for any table
abbrev pub answer_losing_places : AnswerRule
answer_losing_places ports own payload state =
    ((answer ports own payload state).0, record (answer ports own payload state).1 { transfers = [] })

abbrev pub LostPlacesAreMissed : Type 0
LostPlacesAreMissed = KeepsStates answer_losing_places → ⊥

-- ---- each answer twice
abbrev pub answer_twice : AnswerRule
answer_twice ports own payload state =
    ((answer ports own payload state).0 ++ (answer ports own payload state).0, (answer ports own payload state).1)

abbrev pub TwiceIsNotOnce : Type 0
TwiceIsNotOnce = AnswersOnce answer_twice → ⊥

-- ---- a refusal that keeps the data of the request
abbrev pub with_data_of : List ℕ → List ℕ → List ℕ
with_data_of payload mad = take 56 mad ++ drop 56 payload

abbrev pub answer_keeping_data : AnswerRule
answer_keeping_data ports own payload state = (
  if are_refusals (answer ports own payload state).0
      then map (with_data_of payload) (answer ports own payload state).0
      else (answer ports own payload state).0,
  (answer ports own payload state).1,
)

abbrev pub RefusalsKeepNoData : Type 0
RefusalsKeepNoData = AnswersOnce answer_keeping_data → ⊥

-- ---- an answer with the SM_Key of the request
abbrev pub with_key_of : List ℕ → List ℕ → List ℕ
with_key_of payload mad = take 36 mad ++ (take 8 (drop 36 payload) ++ drop 44 mad)

abbrev pub answer_sending_the_key_back : AnswerRule
answer_sending_the_key_back ports own payload state =
    (map (with_key_of payload) (answer ports own payload state).0, (answer ports own payload state).1)

abbrev pub KeysAreNotSentBack : Type 0
KeysAreNotSentBack = AnswersOnce answer_sending_the_key_back → ⊥

-- ---- an answer to whatever has no other, as if it asked in another version
abbrev pub answer_always : AnswerRule
answer_always ports own payload state =
    if asks_something payload
    then answer ports own payload state
    else (refusal_reply (request_in payload) BadVersion ∷ (answer ports own payload state).0, (answer ports own payload state).1)

abbrev pub OthersAreAnswered : Type 0
OthersAreAnswered = IgnoresOthers answer_always → ⊥
