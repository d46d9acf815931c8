-- The bytes that are noted of a run are those that ports receive.
use Rattle.std.proofs.Common.{ℕ, ◌≤◌, ◌==◌, Bool, true, false, if◌then◌else◌, List, [], ◌∷◌, length, filter, map, Option, Some, None, Ok}
use Rattle.std.proofs.Common.{◌≡◌, refl, inl, inr, arith}
use Rattle.std.specs.Int.Digits.{AllBelowBase}
use Rattle.std.specs.List.{AllByRecursion, range_with_len}
use Rattle.std.proofs.lemmas.Bool.{cases_Bool}
use Rattle.std.proofs.lemmas.List.Elements.{recursion_from_All}
use Rattle.mad_layout.specs.MadHeader.{header_in}
use Rattle.mad_layout.specs.Method.{method_code}
use Rattle.mad_layout.specs.RmppHeader.{rmpp_in}
use Rattle.mad_layout.specs.declared.method.Method.TheVariants.{GetTable}
use Rattle.mad_layout.specs.declared.status.MadStatus.{MadStatus}
use Rattle.data_packet.specs.declared.refusal.Refusal.{Refusal}
use Rattle.subnet_model.proofs.IsolationLemmas.{found_by_own}
use Rattle.subnet_model.specs.Configuration.{ConfigurationState}
use Rattle.subnet_model.specs.Configured.{IsConfigured}
use Rattle.subnet_model.specs.Delivery.{asking_key, is_for_sa, manager_key, port_with_guid, reaches_joined, refusal_of}
use Rattle.subnet_model.specs.Report.{packet_of, state_from}
use Rattle.subnet_model.specs.declared.command.Command.{Command}
use Rattle.subnet_model.specs.declared.command.Command.TheVariants.{Ask, Cable, Send}
use Rattle.subnet_model.specs.declared.command.AskCommand.{AskCommand}
use Rattle.subnet_model.specs.declared.command.SendCommand.{SendCommand}
use Rattle.subnet_model.specs.declared.event.Outcome.TheVariants.{Received}
use Rattle.subnet_model.specs.declared.subnet_port.SubnetPort.{SubnetPort}
use Rattle.sa_model.specs.Delivery.{is_receiver_of}
use Rattle.sa_model.specs.Outcome.{unless_status}
use Rattle.sa_model.specs.Refusals.{refusal}
use Rattle.sa_model.specs.Selected.{Query, paths_wanted, selected}
use Rattle.sa_model.specs.Shown.{Entry}
use Rattle.sa_replies.proofs.NoteLemmas.{notes_encode_tables}
use Rattle.rmpp_core.proofs.ReadBackLemmas.{reply_below}
use Rattle.sa_replies.proofs.NotedDataLemmas.{data_is_noted}
use Rattle.sa_replies.proofs.OpenTableLemmas.{answers_keep_states, found_can, most_entries, selected_most, size_low, starts_are_states}
use Rattle.sa_replies.specs.Answer.{query_of}
use Rattle.sa_replies.specs.Notes.{NotedMad, Notes, is_request, noted_if_ok, noted_request, noted_table, notes_after, with_notes}
use Rattle.sa_replies.specs.Request.{request_in}
use Rattle.sa_replies.specs.Sources.{HoldsNoted, EncodeTables}
use Rattle.sa_replies.specs.State.{IsStateOf}
use Rattle.sa_replies.specs.Transfers.{CanBeSent, PortTransfer}
use Rattle.sa_replies.proofs.RunSourceLemmas.{none_open}
use Rattle.sa_replies.specs.Asking.{ack_header, ack_mad, ack_rmpp, ack_sa, acknowledgements, is_first_segment, segments_reported}
use Rattle.sa_replies.specs.RunData.{CarriesBytes, DataOfRunsIsNoted, HasItsData}
use Rattle.sa_replies.specs.RunSources.{NotedEvents, NotedMads, NotedState, acknowledging, noted_after, noted_asked, noted_conversation, noted_delivered}
use Rattle.sa_replies.specs.RunSources.{noted_in_turn, noted_mad, noted_replied, noted_reply_to, noted_sent, noted_start, noted_step, noted_unless_refused, noted_whole, without_record}
use Rattle.step_results.proofs.ElementLemmas.{each_joined}

-- ---- not many records are noted for a port
abbrev AreFew : Notes → Type 0
AreFew notes = (p : ℕ) → length (notes p) ≤ most_entries

one_more_few : (port : ℕ) (entries : List Entry) (notes : Notes) → length entries ≤ most_entries → AreFew notes → AreFew (with_notes port entries notes)
one_more_few port entries notes few all = λ p. elim (cases_Bool (p == port)) [
  | inl this ↦ rw this few
  | inr other ↦ rw other (all p)
]

ok_few : (port : ℕ) (refused : Option MadStatus) (entries : List Entry) (notes : Notes) → length entries ≤ most_entries → AreFew notes
    → AreFew (noted_if_ok port (unless_status refused (Ok entries)) notes)
ok_few port (Some status) entries notes few all = all
ok_few port None entries notes few all = one_more_few port entries notes few all

few_if : (test : Bool) (a b : Notes) → AreFew a → AreFew b → AreFew (if test then a else b)
few_if true a b first second = first
few_if false a b first second = second

-- ---- what is so of each state of a run
record IsReady (configuration : ConfigurationState) (noted : NotedState) : Type 0 where
  state : IsStateOf configuration noted.state
  encoded : EncodeTables noted.notes noted.state.transfers
  few : AreFew noted.notes

-- what comes of MADs, and of a command: what is noted is held, where bytes are brought
record AreHeld (configuration : ConfigurationState) (Brought : Type 0) (reported : NotedMads) : Type 0 where
  mads : Brought → AllByRecursion HoldsNoted reported.0
  state : IsReady configuration reported.1

record Held (configuration : ConfigurationState) (command : Command) (Brought : Type 0) (reported : NotedEvents) : Type 0 where
  events : Brought → AllByRecursion (HasItsData command) reported.0
  state : IsReady configuration reported.1

abbrev AreBytes : List ℕ → Type 0
AreBytes mad = AllBelowBase 256 mad

-- ---- ACKs are bytes
acks_below : (mads : List (List ℕ)) → AllByRecursion AreBytes (acknowledgements mads)
acks_below [] = tt
acks_below (mad ∷ mads) = elim (cases_Bool (is_first_segment (rmpp_in mad))) [
  | inl first ↦ rw first (each (segments_reported (rmpp_in mad).payload_length_or_new_window_last) (range_with_len 1 (segments_reported (rmpp_in mad).payload_length_or_new_window_last)))
  | inr other ↦ rw other tt
]
  where
    each : (count : ℕ) (numbers : List ℕ) → AllByRecursion AreBytes (map (ack_mad (header_in mad) count) numbers)
    each count [] = tt
    each count (number ∷ numbers) = (reply_below (ack_header (header_in mad)) (ack_rmpp count number) ack_sa, each count numbers)

module _ (configuration : ConfigurationState) (configured : IsConfigured configuration) where
  notes_few : (own : SubnetPort) (mad : List ℕ) (noted : NotedState) → port_with_guid configuration.ports own.guid ≡ Some own → IsReady configuration noted
      → AreFew (notes_after configuration.ports own mad noted.state noted.notes)
  notes_few own mad noted found ready =
      few_if (is_request mad) (noted_request configuration.ports own noted.state.remembered (request_in mad) noted.notes) noted.notes
      (few_if ((request_in mad).header.method == method_code GetTable)
      (noted_table configuration.ports own noted.state.remembered (query_of (request_in mad)) noted.notes) noted.notes
      (table_few (query_of (request_in mad))) ready.few) ready.few
    where
      table_few : (query : Option Query) → AreFew (noted_table configuration.ports own noted.state.remembered query noted.notes)
      table_few None = ready.few
      table_few (Some query) =
          ok_few own.guid (refusal own query) (selected (paths_wanted query) configuration.ports own noted.state.remembered query) noted.notes
          (selected_most (paths_wanted query) configuration own noted.state.remembered query configured found ready.state.remembered) ready.few

  module _ (own : SubnetPort) (found : port_with_guid configuration.ports own.guid ≡ Some own) where
    mad_held : (mad : List ℕ) (noted : NotedState) → IsReady configuration noted
        → AreHeld configuration (AreBytes mad) (noted_mad configuration.ports own mad noted)
    mad_held mad noted ready =
        let few = notes_few own mad noted found ready in
        let all = recursion_from_All (λ (place : PortTransfer). CanBeSent place.open_table) noted.state.transfers ready.state.tables in
        record {
          mads = λ below. data_is_noted configuration.ports own mad noted.state noted.notes below (found_can own.guid noted.state.transfers all) ready.encoded
              (size_low (notes_after configuration.ports own mad noted.state noted.notes own.guid) (few own.guid));
          state = record {
            state = answers_keep_states configuration own mad noted.state configured found ready.state;
            encoded = notes_encode_tables configuration.ports own mad noted.state noted.notes ready.encoded;
            few = few;
          };
        }

    turns_held : (mads : List (List ℕ)) (noted : NotedState) → IsReady configuration noted
        → AreHeld configuration (AllByRecursion AreBytes mads) (noted_in_turn configuration.ports own mads noted)
    turns_held [] noted ready = record { mads = λ below. tt; state = ready }
    turns_held (mad ∷ mads) noted ready =
        let first = mad_held mad noted ready in
        let reported = noted_mad configuration.ports own mad noted in
        let next = turns_held mads reported.1 first.state in
        record {
          mads = λ below. each_joined HoldsNoted reported.0 (noted_in_turn configuration.ports own mads reported.1).0 (first.mads below.0) (next.mads below.1);
          state = next.state;
        }

    whole_held : (mad : List ℕ) (noted : NotedState) → IsReady configuration noted
        → AreHeld configuration (AreBytes mad) (noted_whole configuration.ports own mad noted)
    whole_held mad noted ready =
        let first = mad_held mad noted ready in
        let reported = noted_mad configuration.ports own mad noted in
        let acks = acknowledging reported.0 in
        let next = turns_held acks reported.1 first.state in
        record {
          mads = λ below. each_joined HoldsNoted reported.0 (noted_in_turn configuration.ports own acks reported.1).0 (first.mads below)
              (next.mads (acks_below (map (λ one. one.mad) reported.0)));
          state = next.state;
        }

    replies_held : (command : Command) (key : ℕ) (mads : List NotedMad) → AllByRecursion HoldsNoted mads
        → AllByRecursion (HasItsData command) (map (noted_reply_to own key) mads)
    replies_held command key [] all = tt
    replies_held command key (one ∷ mads) all = (all.0, replies_held command key mads all.1)

    replied_held : (command : Command) (Brought : Type 0) (key : Option ℕ) (noted : NotedState) (reported : NotedMads) → IsReady configuration noted
        → AreHeld configuration Brought reported → Held configuration command Brought (noted_replied own key noted reported)
    replied_held command Brought (Some key) noted reported before are =
        record { events = λ below. replies_held command key reported.0 (are.mads below); state = are.state }
    replied_held command Brought None noted reported before are = record { events = λ below. tt; state = before }

  packets_held : (command : SendCommand) (sender : SubnetPort) (ports : List SubnetPort) → is_for_sa command ≡ false
      → AllByRecursion (HasItsData (Send command))
      (map without_record (map (λ port. record { port_guid = port.guid; what = Received (packet_of sender command) }) ports))
  packets_held command sender [] between = tt
  packets_held command sender (port ∷ ports) between = (between, packets_held command sender ports between)

  held_if : (command : Command) (Brought : Type 0) (test : Bool) (a b : NotedEvents) → Held configuration command Brought a
      → (test ≡ false → Held configuration command Brought b) → Held configuration command Brought (if test then a else b)
  held_if command Brought true a b first second = first
  held_if command Brought false a b first second = second refl

  unless_held : (command : Command) (Brought : Type 0) (refused : Option Refusal) (guid : ℕ) (noted : NotedState) (reported : NotedEvents) → IsReady configuration noted
      → Held configuration command Brought reported → Held configuration command Brought (noted_unless_refused refused guid noted reported)
  unless_held command Brought (Some refused) guid noted reported before are = record { events = λ below. (tt, tt); state = before }
  unless_held command Brought None guid noted reported before are = are

  sent_held : (command : SendCommand) (sender : Option SubnetPort) (noted : NotedState) → port_with_guid configuration.ports command.port_guid ≡ sender
      → IsReady configuration noted → Held configuration (Send command) (AreBytes command.payload) (noted_sent configuration sender command noted)
  sent_held command None noted found ready = record { events = λ below. tt; state = ready }
  sent_held command (Some sender) noted found ready =
      let ports = configuration.ports in
      let own_found = found_by_own ports command.port_guid sender found in
      let reached = reaches_joined (is_receiver_of noted.state.remembered.partitions command.dlid) command in
      let key = manager_key ports command.p_key in
      unless_held (Send command) (AreBytes command.payload) (refusal_of sender command) command.port_guid noted (noted_delivered configuration sender command noted) ready
      (held_if (Send command) (AreBytes command.payload) (is_for_sa command) (noted_replied sender key noted (noted_mad ports sender command.payload noted)) _
      (replied_held sender own_found (Send command) (AreBytes command.payload) key noted (noted_mad ports sender command.payload noted) ready
      (mad_held sender own_found command.payload noted ready))
      (λ between. record { events = λ below. packets_held command sender (filter reached ports) between; state = ready }))

  asked_held : (command : AskCommand) (own : Option SubnetPort) (noted : NotedState) → port_with_guid configuration.ports command.port_guid ≡ own
      → IsReady configuration noted → Held configuration (Ask command) (AreBytes command.mad) (noted_asked configuration own command.mad noted)
  asked_held command None noted found ready = record { events = λ below. tt; state = ready }
  asked_held command (Some own) noted found ready = by_key (asking_key own.keys)
    where
      by_key : (key : Option ℕ) → Held configuration (Ask command) (AreBytes command.mad) (noted_conversation configuration own key command.mad noted)
      by_key None = record { events = λ below. (tt, tt); state = ready }
      by_key (Some key) =
          let own_found = found_by_own configuration.ports command.port_guid own found in
          replied_held own own_found (Ask command) (AreBytes command.mad) (manager_key configuration.ports key) noted (noted_whole configuration.ports own command.mad noted) ready
          (whole_held own own_found command.mad noted ready)

  step_held : (command : Command) (noted : NotedState) → IsReady configuration noted
      → Held configuration command (CarriesBytes command) (noted_step configuration noted command)
  step_held (Send command) noted ready = sent_held command (port_with_guid configuration.ports command.port_guid) noted refl ready
  step_held (Ask command) noted ready = asked_held command (port_with_guid configuration.ports command.port_guid) noted refl ready
  step_held (Cable command) noted ready = record { events = λ below. tt; state = ready }

  run_ready : (commands : List Command) (noted : NotedState) → IsReady configuration noted
      → IsReady configuration (state_from (noted_step configuration) noted commands)
  run_ready [] noted ready = ready
  run_ready (command ∷ commands) noted ready = run_ready commands (noted_step configuration noted command).1 (step_held command noted ready).state

  start_ready : IsReady configuration (noted_start configuration)
  start_ready = record {
    state = starts_are_states configuration configured;
    encoded = none_open configuration configuration.ports;
    few = λ p. omega arith;
  }

pub data_of_runs_is_noted : DataOfRunsIsNoted
data_of_runs_is_noted configuration before command configured carries =
    (step_held configuration configured command (noted_after configuration before)
    (run_ready configuration configured before (noted_start configuration) (start_ready configuration configured))).events carries
