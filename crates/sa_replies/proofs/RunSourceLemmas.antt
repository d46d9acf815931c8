-- A run with what is noted beside it.
use Rattle.std.proofs.Common.{ℕ, Bool, true, false, if◌then◌else◌, List, [], ◌∷◌, ◌++◌, map, Option, Some, None}
use Rattle.std.proofs.Common.{◌≡◌, ◌∙◌, ap, refl, subst}
use Rattle.std.specs.List.{list_all}
use Rattle.std.proofs.lemmas.Bool.{and_from, and_parts}
use Rattle.std.proofs.lemmas.List.{map-append}
use Rattle.std.proofs.lemmas.List.Folds.{list_all-append}
use Rattle.data_packet.specs.declared.refusal.Refusal.{Refusal}
use Rattle.subnet_model.proofs.IsolationLemmas.{found_by_own}
use Rattle.subnet_model.specs.Configuration.{ConfigurationState}
use Rattle.subnet_model.specs.Delivery.{asking_key, is_for_sa, manager_key, port_with_guid, reaches_joined, refusal_of}
use Rattle.subnet_model.specs.Report.{answered_in_turn, answered_whole, asked, conversation, delivered, events_from, received_by, replied, reply_to, sent, state_from, step_by, unless_refused}
use Rattle.subnet_model.specs.declared.command.Command.{Command}
use Rattle.subnet_model.specs.declared.command.Command.TheVariants.{Ask, Cable, Send}
use Rattle.subnet_model.specs.declared.command.SendCommand.{SendCommand}
use Rattle.subnet_model.specs.declared.event.PortEvent.{PortEvent}
use Rattle.subnet_model.specs.declared.subnet_port.SubnetPort.{SubnetPort}
use Rattle.sa_model.specs.Delivery.{is_receiver_of}
use Rattle.sa_replies.proofs.NoteLemmas.{answers_report_from_near, notes_encode_tables, notes_stand_beside}
use Rattle.sa_replies.proofs.SightLemmas.{answers_keep_sound}
use Rattle.sa_replies.specs.Answer.{Administration, Answered, answer}
use Rattle.sa_replies.specs.Laws.{IsSound}
use Rattle.sa_replies.specs.Notes.{NotedMad, no_notes}
use Rattle.sa_replies.specs.Sources.{NotesFromNear, EncodeTables, bytes_from_near}
use Rattle.sa_replies.specs.Transfers.{no_transfers}
use Rattle.sa_replies.proofs.ApartLemmas.{administration_keeps_apart, sound_parts}
use Rattle.sa_replies.specs.Administration.{subnet_administration}
use Rattle.sa_replies.specs.State.{at_start}
use Rattle.sa_replies.specs.Asking.{acknowledgements}
use Rattle.sa_replies.specs.RunSources.{noted_in, NotedState, NotedEvent, NotedMads, NotedEvents, noted_mad, noted_in_turn, acknowledging, noted_whole, noted_reply_to, without_record, noted_replied}
use Rattle.sa_replies.specs.RunSources.{noted_unless_refused, noted_delivered, noted_sent, noted_conversation, noted_asked, noted_step, noted_start, noted_after}
use Rattle.sa_replies.specs.RunSources.{NotesStandBesideRuns, OpenTablesAreNoted, RunRecordsComeFromNear}

-- ---- without what is noted
record AreBeside (reported : NotedMads) (answered : Answered) : Type 0 where
  mads : map (λ one. one.mad) reported.0 ≡ answered.0
  state : reported.1.state ≡ answered.1

record Beside (reported : NotedEvents) (happens : List PortEvent × Administration) : Type 0 where
  events : map (λ one. one.event) reported.0 ≡ happens.0
  state : reported.1.state ≡ happens.1

mad_beside : (ports : List SubnetPort) (own : SubnetPort) (mad : List ℕ) (noted : NotedState)
    → AreBeside (noted_mad ports own mad noted) (answer ports own mad noted.state)
mad_beside ports own mad noted =
    let beside = notes_stand_beside ports own mad noted.state noted.notes in record { mads = beside.mads; state = beside.state }

joined_beside : (some more : List NotedMad) (xs ys : List (List ℕ)) → map (λ one. one.mad) some ≡ xs → map (λ one. one.mad) more ≡ ys
    → map (λ one. one.mad) (some ++ more) ≡ xs ++ ys
joined_beside some more xs ys first second = map-append (λ one. one.mad) some more ∙ rw (first, second) refl

turns_beside : (ports : List SubnetPort) (own : SubnetPort) (mads : List (List ℕ)) (noted : NotedState)
    → AreBeside (noted_in_turn ports own mads noted) (answered_in_turn (answer ports own) mads noted.state)
turns_beside ports own [] noted = record { mads = refl; state = refl }
turns_beside ports own (mad ∷ mads) noted =
    let first = mad_beside ports own mad noted in
    let next = turns_beside ports own mads (noted_mad ports own mad noted).1 in
    record {
      mads = joined_beside (noted_mad ports own mad noted).0 (noted_in_turn ports own mads (noted_mad ports own mad noted).1).0 _ _ first.mads next.mads;
      state = next.state;
    }

whole_beside : (ports : List SubnetPort) (own : SubnetPort) (mad : List ℕ) (noted : NotedState)
    → AreBeside (noted_whole ports own mad noted) (answered_whole (answer ports own) acknowledgements mad noted.state)
whole_beside ports own mad noted =
    let first = mad_beside ports own mad noted in
    let after = (noted_mad ports own mad noted).1 in
    let acks = acknowledging (noted_mad ports own mad noted).0 in
    let next = turns_beside ports own acks after in
    let same : answered_in_turn (answer ports own) acks after.state ≡ answered_in_turn (answer ports own) (acknowledgements (answer ports own mad noted.state).0) after.state =
    ap (λ mads. answered_in_turn (answer ports own) (acknowledgements mads) after.state) first.mads in
    record {
      mads = joined_beside (noted_mad ports own mad noted).0 (noted_in_turn ports own acks after).0 _ _ first.mads (next.mads ∙ ap (λ (a : Answered). a.0) same);
      state = next.state ∙ ap (λ (a : Answered). a.1) same;
    }

replies_beside : (own : SubnetPort) (key : ℕ) (mads : List NotedMad)
    → map (λ one. one.event) (map (noted_reply_to own key) mads) ≡ map (reply_to own key) (map (λ one. one.mad) mads)
replies_beside own key [] = refl
replies_beside own key (one ∷ mads) = ap (λ rest. reply_to own key one.mad ∷ rest) (replies_beside own key mads)

replied_beside : (own : SubnetPort) (key : Option ℕ) (noted : NotedState) (reported : NotedMads) (answered : Answered) → AreBeside reported answered
    → Beside (noted_replied own key noted reported) (replied own key noted.state answered)
replied_beside own (Some key) noted reported answered are =
    record { events = replies_beside own key reported.0 ∙ ap (map (reply_to own key)) are.mads; state = are.state }
replied_beside own None noted reported answered are = record { events = refl; state = refl }

packets_beside : (events : List PortEvent) → map (λ one. one.event) (map without_record events) ≡ events
packets_beside [] = refl
packets_beside (event ∷ events) = ap (λ rest. event ∷ rest) (packets_beside events)

beside_if : (test : Bool) (a b : NotedEvents) (x y : List PortEvent × Administration) → Beside a x → Beside b y → Beside (if test then a else b) (if test then x else y)
beside_if true a b x y first second = first
beside_if false a b x y first second = second

unless_beside : (refusal : Option Refusal) (guid : ℕ) (noted : NotedState) (reported : NotedEvents) (happens : List PortEvent × Administration) → Beside reported happens
    → Beside (noted_unless_refused refusal guid noted reported) (unless_refused refusal guid noted.state happens)
unless_beside (Some refusal) guid noted reported happens are = record { events = refl; state = refl }
unless_beside None guid noted reported happens are = are

module _ (configuration : ConfigurationState) where
  sent_beside : (sender : Option SubnetPort) (command : SendCommand) (noted : NotedState)
      → Beside (noted_sent configuration sender command noted) (sent subnet_administration configuration sender command noted.state)
  sent_beside None command noted = record { events = refl; state = refl }
  sent_beside (Some sender) command noted =
      let packets = received_by (reaches_joined (is_receiver_of noted.state.remembered.partitions command.dlid) command) configuration.ports sender command in
      let key = manager_key configuration.ports command.p_key in
      let reported = noted_mad configuration.ports sender command.payload noted in
      let answered = answer configuration.ports sender command.payload noted.state in
      unless_beside (refusal_of sender command) command.port_guid noted (noted_delivered configuration sender command noted)
      (delivered subnet_administration configuration sender command noted.state)
      (beside_if (is_for_sa command) (noted_replied sender key noted reported) (map without_record packets, noted) (replied sender key noted.state answered) (packets, noted.state)
      (replied_beside sender key noted reported answered (mad_beside configuration.ports sender command.payload noted))
      (record { events = packets_beside packets; state = refl }))

  conversation_beside : (own : SubnetPort) (key : Option ℕ) (mad : List ℕ) (noted : NotedState)
      → Beside (noted_conversation configuration own key mad noted) (conversation subnet_administration configuration own key mad noted.state)
  conversation_beside own (Some key) mad noted =
      replied_beside own (manager_key configuration.ports key) noted (noted_whole configuration.ports own mad noted)
      (answered_whole (answer configuration.ports own) acknowledgements mad noted.state) (whole_beside configuration.ports own mad noted)
  conversation_beside own None mad noted = record { events = refl; state = refl }

  asked_beside : (own : Option SubnetPort) (mad : List ℕ) (noted : NotedState)
      → Beside (noted_asked configuration own mad noted) (asked subnet_administration configuration own mad noted.state)
  asked_beside (Some own) mad noted = conversation_beside own (asking_key own.keys) mad noted
  asked_beside None mad noted = record { events = refl; state = refl }

  step_beside : (noted : NotedState) (command : Command) → Beside (noted_step configuration noted command) (step_by subnet_administration configuration noted.state command)
  step_beside noted (Send command) = sent_beside (port_with_guid configuration.ports command.port_guid) command noted
  step_beside noted (Ask command) = asked_beside (port_with_guid configuration.ports command.port_guid) command.mad noted
  step_beside noted (Cable command) = record { events = refl; state = refl }

  events_beside : (commands : List Command) (noted : NotedState) (state : Administration) → noted.state ≡ state
      → map (λ one. one.event) (events_from (noted_step configuration) noted commands) ≡ events_from (step_by subnet_administration configuration) state commands
  events_beside [] noted state same = refl
  events_beside (command ∷ commands) noted state same =
      let one = step_beside noted command in
      let reported = noted_step configuration noted command in
      let step : Administration → List PortEvent × Administration = λ s. step_by subnet_administration configuration s command in
      map-append (λ one. one.event) reported.0 (events_from (noted_step configuration) reported.1 commands)
      ∙ (ap (λ first. first ++ map (λ one. one.event) (events_from (noted_step configuration) reported.1 commands)) (one.events ∙ ap (λ s. (step s).0) same)
      ∙ ap (λ rest. (step state).0 ++ rest) (events_beside commands reported.1 (step state).1 (one.state ∙ ap (λ s. (step s).1) same)))

  pub states_beside : (commands : List Command) (noted : NotedState) (state : Administration) → noted.state ≡ state
      → (state_from (noted_step configuration) noted commands).state ≡ state_from (step_by subnet_administration configuration) state commands
  states_beside [] noted state same = same
  states_beside (command ∷ commands) noted state same =
      states_beside commands (noted_step configuration noted command).1 (step_by subnet_administration configuration state command).1
      ((step_beside noted command).state ∙ ap (λ s. (step_by subnet_administration configuration s command).1) same)

pub notes_stand_beside_runs : NotesStandBesideRuns
notes_stand_beside_runs configuration commands = record {
  events = events_beside configuration commands (noted_start configuration) (at_start configuration) refl;
  state = states_beside configuration commands (noted_start configuration) (at_start configuration) refl;
}

-- ---- what is so of each state of a run, and of what each command brings
record IsGood (ports : List SubnetPort) (noted : NotedState) : Type 0 where
  sound : IsSound ports noted.state
  encoded : EncodeTables noted.notes noted.state.transfers
  near : NotesFromNear ports noted.notes

abbrev near_mads : List SubnetPort → SubnetPort → List NotedMad → Bool
near_mads ports own mads = list_all (λ one. bytes_from_near ports own.guid one.bytes) mads

abbrev near_events : List SubnetPort → List NotedEvent → Bool
near_events ports events = list_all (λ one. bytes_from_near ports one.event.port_guid (noted_in one.noted)) events

record AreGood (ports : List SubnetPort) (own : SubnetPort) (reported : NotedMads) : Type 0 where
  mads : near_mads ports own reported.0 ≡ true
  state : IsGood ports reported.1

record Good (ports : List SubnetPort) (reported : NotedEvents) : Type 0 where
  events : near_events ports reported.0 ≡ true
  state : IsGood ports reported.1

module _ (ports : List SubnetPort) (own : SubnetPort) (found : port_with_guid ports own.guid ≡ Some own) where
  mad_good : (mad : List ℕ) (noted : NotedState) → IsGood ports noted → AreGood ports own (noted_mad ports own mad noted)
  mad_good mad noted good =
      let from = answers_report_from_near ports own mad noted.state noted.notes found good.sound.groups good.near in
      record {
        mads = from.mads;
        state = record {
          sound = answers_keep_sound ports own mad noted.state good.sound;
          encoded = notes_encode_tables ports own mad noted.state noted.notes good.encoded;
          near = from.notes;
        };
      }

  more_near : (some more : List NotedMad) → near_mads ports own some ≡ true → near_mads ports own more ≡ true → near_mads ports own (some ++ more) ≡ true
  more_near some more first second =
      list_all-append (λ (one : NotedMad). bytes_from_near ports own.guid one.bytes) some more ∙ and_from (near_mads ports own some) (near_mads ports own more) first second

  turns_good : (mads : List (List ℕ)) (noted : NotedState) → IsGood ports noted → AreGood ports own (noted_in_turn ports own mads noted)
  turns_good [] noted good = record { mads = refl; state = good }
  turns_good (mad ∷ mads) noted good =
      let first = mad_good mad noted good in
      let next = turns_good mads (noted_mad ports own mad noted).1 first.state in
      record {
        mads = more_near (noted_mad ports own mad noted).0 (noted_in_turn ports own mads (noted_mad ports own mad noted).1).0 first.mads next.mads;
        state = next.state;
      }

  whole_good : (mad : List ℕ) (noted : NotedState) → IsGood ports noted → AreGood ports own (noted_whole ports own mad noted)
  whole_good mad noted good =
      let first = mad_good mad noted good in
      let acks = acknowledging (noted_mad ports own mad noted).0 in
      let next = turns_good acks (noted_mad ports own mad noted).1 first.state in
      record {
        mads = more_near (noted_mad ports own mad noted).0 (noted_in_turn ports own acks (noted_mad ports own mad noted).1).0 first.mads next.mads;
        state = next.state;
      }

  replies_near : (key : ℕ) (mads : List NotedMad) → near_mads ports own mads ≡ true → near_events ports (map (noted_reply_to own key) mads) ≡ true
  replies_near key [] near = refl
  replies_near key (one ∷ mads) near =
      let parts = and_parts (bytes_from_near ports own.guid one.bytes) (near_mads ports own mads) near in
      and_from (bytes_from_near ports own.guid one.bytes) (near_events ports (map (noted_reply_to own key) mads)) parts.0 (replies_near key mads parts.1)

  replied_good : (key : Option ℕ) (noted : NotedState) (reported : NotedMads) → IsGood ports noted → AreGood ports own reported → Good ports (noted_replied own key noted reported)
  replied_good (Some key) noted reported before are = record { events = replies_near key reported.0 are.mads; state = are.state }
  replied_good None noted reported before are = record { events = refl; state = before }

packets_near : (ports : List SubnetPort) (events : List PortEvent) → near_events ports (map without_record events) ≡ true
packets_near ports [] = refl
packets_near ports (event ∷ events) = packets_near ports events

good_if : (ports : List SubnetPort) (test : Bool) (a b : NotedEvents) → Good ports a → Good ports b → Good ports (if test then a else b)
good_if ports true a b first second = first
good_if ports false a b first second = second

unless_good : (ports : List SubnetPort) (refusal : Option Refusal) (guid : ℕ) (noted : NotedState) (reported : NotedEvents) → IsGood ports noted → Good ports reported
    → Good ports (noted_unless_refused refusal guid noted reported)
unless_good ports (Some refusal) guid noted reported before are = record { events = refl; state = before }
unless_good ports None guid noted reported before are = are

module _ (configuration : ConfigurationState) where
  sent_good : (command : SendCommand) (sender : Option SubnetPort) (noted : NotedState) → port_with_guid configuration.ports command.port_guid ≡ sender
      → IsGood configuration.ports noted → Good configuration.ports (noted_sent configuration sender command noted)
  sent_good command None noted found good = record { events = refl; state = good }
  sent_good command (Some sender) noted found good =
      let ports = configuration.ports in
      let own_found = found_by_own ports command.port_guid sender found in
      let packets = received_by (reaches_joined (is_receiver_of noted.state.remembered.partitions command.dlid) command) ports sender command in
      let key = manager_key ports command.p_key in
      unless_good ports (refusal_of sender command) command.port_guid noted (noted_delivered configuration sender command noted) good
      (good_if ports (is_for_sa command) (noted_replied sender key noted (noted_mad ports sender command.payload noted)) (map without_record packets, noted)
      (replied_good ports sender own_found key noted (noted_mad ports sender command.payload noted) good (mad_good ports sender own_found command.payload noted good))
      (record { events = packets_near ports packets; state = good }))

  conversation_good : (own : SubnetPort) (key : Option ℕ) (mad : List ℕ) (noted : NotedState) → port_with_guid configuration.ports own.guid ≡ Some own
      → IsGood configuration.ports noted → Good configuration.ports (noted_conversation configuration own key mad noted)
  conversation_good own (Some key) mad noted found good =
      replied_good configuration.ports own found (manager_key configuration.ports key) noted (noted_whole configuration.ports own mad noted) good
      (whole_good configuration.ports own found mad noted good)
  conversation_good own None mad noted found good = record { events = refl; state = good }

  asked_good : (guid : ℕ) (own : Option SubnetPort) (mad : List ℕ) (noted : NotedState) → port_with_guid configuration.ports guid ≡ own
      → IsGood configuration.ports noted → Good configuration.ports (noted_asked configuration own mad noted)
  asked_good guid (Some own) mad noted found good =
      conversation_good own (asking_key own.keys) mad noted (found_by_own configuration.ports guid own found) good
  asked_good guid None mad noted found good = record { events = refl; state = good }

  step_good : (noted : NotedState) (command : Command) → IsGood configuration.ports noted → Good configuration.ports (noted_step configuration noted command)
  step_good noted (Send command) good = sent_good command (port_with_guid configuration.ports command.port_guid) noted refl good
  step_good noted (Ask command) good = asked_good command.port_guid (port_with_guid configuration.ports command.port_guid) command.mad noted refl good
  step_good noted (Cable command) good = record { events = refl; state = good }

  run_good : (commands : List Command) (noted : NotedState) → IsGood configuration.ports noted
      → Good configuration.ports (events_from (noted_step configuration) noted commands, state_from (noted_step configuration) noted commands)
  run_good [] noted good = record { events = refl; state = good }
  run_good (command ∷ commands) noted good =
      let reported = noted_step configuration noted command in
      let first = step_good noted command good in
      let next = run_good commands reported.1 first.state in
      record {
        events = list_all-append (λ (one : NotedEvent). bytes_from_near configuration.ports one.event.port_guid (noted_in one.noted)) reported.0 (events_from (noted_step configuration) reported.1 commands)
            ∙ and_from (near_events configuration.ports reported.0) (near_events configuration.ports (events_from (noted_step configuration) reported.1 commands)) first.events next.events;
        state = next.state;
      }

  pub none_open : (all : List SubnetPort) → EncodeTables no_notes (no_transfers all)
  none_open [] = tt
  none_open (port ∷ all) = (tt, none_open all)

  start_good : IsGood configuration.ports (noted_start configuration)
  start_good = record {
    sound = sound_parts configuration (at_start configuration) (administration_keeps_apart configuration).sound.begins;
    encoded = none_open configuration.ports;
    near = λ p. refl;
  }

pub open_tables_are_noted : OpenTablesAreNoted
open_tables_are_noted configuration commands =
    subst (λ (state : Administration). EncodeTables (noted_after configuration commands).notes state.transfers)
    (states_beside configuration commands (noted_start configuration) (at_start configuration) refl)
    (run_good configuration commands (noted_start configuration) (start_good configuration)).state.encoded

pub records_come_from_near : RunRecordsComeFromNear
records_come_from_near configuration commands =
    let all = run_good configuration commands (noted_start configuration) (start_good configuration) in
    record { events = all.events; tables = all.state.near }
