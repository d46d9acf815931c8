-- Subnets of one port and of three, in which wrong rules are seen. Of the three the first is the SM port, which is near both others;
-- these are limited members of the default partition alone, so they are far from one another.
use Rattle.std.proofs.Common.{ℕ, ◌+◌, ◌==◌, ◌≡◌, Bool, true, false, List, [], ◌∷◌, None, ap, refl, sym, arith, map, subst, ◌++◌, ◌∙◌}
use Rattle.std.proofs.lemmas.Bool.{eq-eqb, false≢true}
use Rattle.std.proofs.lemmas.List.Elements.{All-from_recursion, All-nil, recursion_from_All}
use Rattle.std.proofs.lemmas.List.Folds.{list_any-append}
use Rattle.std.proofs.lemmas.Map.Keys.{IsDistinct-cons}
use Rattle.std.specs.Int.Digits.{AllBelowBase}
use Rattle.std.specs.List.{All, AllByRecursion, list_any}
use Rattle.headline_laws.specs.Headline.{run_by}
use Rattle.headline_laws.specs.WrongRules.{CutsAreNotTold, FarSendsAreNotRepeated, FarTablesAreNotHeard}
use Rattle.headline_laws.specs.WrongRules.{EmptyScriptsAreNotEnough, FarNodesAreNotShown, FarPacketsAreNotDelivered, FarPortsAreNoSource, KeepsApartIfEmpty, LaterAnswersAreNoted, NoBytesAreRefused, NotesAreOfTheirCommand, NothingNotedIsRefused, RefusalsStayAtTheirPort, RunsReportNoFarPacket, TheFileIsNoSourceOfAll, TheFileIsNoSourceOfSends, step_delivering_far}
use Rattle.mad_layout.specs.Bits.{field, number, put_field}
use Rattle.pkey_rules.specs.KeyTable.{same_base}
use Rattle.rmpp_core.proofs.ReadBackLemmas.{reply_below}
use Rattle.rmpp_core.specs.Reply.{reply_bytes}
use Rattle.rmpp_core.specs.Segments.{segment_of}
use Rattle.sa_model.specs.Anchor.{is_by_file}
use Rattle.sa_model.specs.Groups.{Creator}
use Rattle.sa_model.specs.NamedSources.{ComesFrom, is_made_by}
use Rattle.sa_model.specs.QueryExamples.{path_asked}
use Rattle.sa_model.specs.Shown.{Entry}
use Rattle.sa_model.specs.Visible.{SaState}
use Rattle.sa_records.specs.NodeRecord.{node_in, node_record_bytes, node_record_selected}
use Rattle.sa_records.specs.PathMask as path_mask
use Rattle.sa_records.specs.PathRecord.{path_in, path_record_bytes, path_record_selected}
use Rattle.sa_records.specs.SaRecord.{record_bytes}
use Rattle.sa_records.specs.ServiceRecord.{service_in}
use Rattle.sa_records.specs.Speed.{speed_of}
use Rattle.sa_records.specs.declared.mc_member_record.McMemberRecord.{McMemberRecord}
use Rattle.sa_records.specs.declared.sa_record.SaRecord.TheVariants as sa_record
use Rattle.sa_records.specs.declared.sa_record.SaRecord.{SaRecord}
use Rattle.sa_replies.proofs.WrongStateLemmas.{alone, is_configured}
use Rattle.sa_replies.specs.Examples.{asking, header_of, nodes_wanted}
use Rattle.sa_replies.specs.NamedNotes.{AreOfNamed, encoded}
use Rattle.sa_replies.specs.Notes.{NotedByte}
use Rattle.sa_replies.specs.Reply.{no_rmpp}
use Rattle.sa_replies.specs.Request.{request_in}
use Rattle.sa_replies.specs.RunExamples.{ask, send_mad}
use Rattle.sa_replies.specs.RunWrongRules.{step_noting_nothing}
use Rattle.sa_replies.specs.State.{at_start}
use Rattle.step_results.proofs.DistinctLemmas.{distinct}
use Rattle.step_results.proofs.ListLemmas.{IsDistinct-nil}
use Rattle.subnet_fabric.specs.Ports.{ports_of}
use Rattle.subnet_model.specs.Configuration.{ConfigurationState}
use Rattle.subnet_model.specs.Configured.{HoldsKnownKeys, IsConfigured, is_known_key, same_guid}
use Rattle.subnet_model.specs.Examples.{adapter}
use Rattle.subnet_model.specs.Restriction.{events_at}
use Rattle.subnet_model.specs.Source.{IsFromNear}
use Rattle.subnet_model.specs.declared.command.Command.TheVariants.{Cable, Send}
use Rattle.subnet_model.specs.declared.command.Command.{Command}
use Rattle.subnet_model.specs.declared.event.Outcome.TheVariants.{Received}
use Rattle.subnet_model.specs.declared.event.PortEvent.{PortEvent}
use Rattle.subnet_model.specs.declared.subnet_port.SubnetPort.{SubnetPort}

-- ---- the three ports
abbrev manager : SubnetPort
manager = adapter 1 0x101 (0xffff ∷ [])

abbrev member : SubnetPort
member = adapter 2 0x111 (0x7fff ∷ [])

abbrev other_member : SubnetPort
other_member = adapter 3 0x121 (0x7fff ∷ [])

abbrev three : ConfigurationState
three = record { ports = manager ∷ member ∷ other_member ∷ []; partitions = record { base = 0x7fff; name = []; group = None } ∷ [] }

holds_one : (port : SubnetPort) (key : ℕ) → port.keys ≡ key ∷ [] → is_known_key three.partitions key ≡ true → HoldsKnownKeys three.partitions port
holds_one port key keys known = record {
  once = rw keys (IsDistinct-cons same_base key [] tt (IsDistinct-nil same_base));
  known = rw (keys, known) refl;
  few = rw keys (omega arith);
}

three_is_configured : IsConfigured three
three_is_configured = record {
  own_guids = distinct same_guid three.ports refl;
  lids = refl;
  few = omega arith;
  keys = All-from_recursion (HoldsKnownKeys three.partitions) three.ports
      (holds_one manager 0xffff refl refl, (holds_one member 0x7fff refl refl, (holds_one other_member 0x7fff refl refl, tt)));
  headings = is_configured.headings;
}

-- ---- what is noted
nodes_below : (transaction : ℕ) → AllBelowBase 256 (nodes_wanted transaction)
nodes_below transaction = reply_below _ _ _

abbrev of_nodes : Command
of_nodes = ask 0x101 (nodes_wanted 4)

pub nothing_noted_is_refused : NothingNotedIsRefused
unfolding field put_field reply_bytes segment_of request_in node_in node_record_bytes node_record_selected
nothing_noted_is_refused law = ((law alone (of_nodes ∷ []) 0x101 is_configured (nodes_below 4, tt)).whole [] [] of_nodes refl).0

pub no_bytes_are_refused : NoBytesAreRefused
unfolding field put_field reply_bytes segment_of request_in node_in node_record_bytes node_record_selected
no_bytes_are_refused law =
    false≢true (ap (λ bytes. number bytes == 0) ((law alone (of_nodes ∷ []) 0x101 is_configured (nodes_below 4, tt)).whole [] [] of_nodes refl).0)

pub later_answers_are_noted : LaterAnswersAreNoted
unfolding field put_field reply_bytes segment_of request_in node_in node_record_bytes node_record_selected
later_answers_are_noted law =
    let apart = law alone (of_nodes ∷ of_nodes ∷ []) 0x101 is_configured (nodes_below 4, (nodes_below 4, tt)) in
    false≢true (ap (λ bytes. number bytes == 0) (apart.whole (of_nodes ∷ []) [] of_nodes refl).0)

pub notes_are_of_their_command : NotesAreOfTheirCommand
unfolding field put_field reply_bytes segment_of request_in node_in node_record_bytes node_record_selected service_in
notes_are_of_their_command law =
    false≢true (ap (λ bytes. number bytes == 0) ((law alone (of_nodes ∷ []) 0x101 is_configured (nodes_below 4, tt)).whole [] [] of_nodes refl).0)

-- ---- a Get of the path from one member to the SM port
abbrev path_wanted : List ℕ
path_wanted = asking (header_of 1 7 0x35) no_rmpp (path_mask.dgid + path_mask.sgid) (path_record_bytes (path_asked 0x111 0x101 0 0 0))

path_below : AllBelowBase 256 path_wanted
path_below = reply_below _ _ _

abbrev of_path : Command
of_path = ask 0x111 path_wanted

-- if the partition file made no group, no record comes from it
no_file : (state : SaState) → ((shown : McMemberRecord) (source : Creator) → is_made_by state.partitions shown source ≡ false) → (shown : SaRecord) (source : Creator)
    → ComesFrom state shown source → is_by_file source ≡ false
no_file state none (sa_record.Node shown) source from = ap is_by_file from
no_file state none (sa_record.Path shown) source from = ap is_by_file from.2
no_file state none (sa_record.Group shown) source from = absurd (false≢true (sym (none shown source) ∙ from))
no_file state none (sa_record.Service shown) source from = ap is_by_file from.2

no_byte_of : (source : Creator) → is_by_file source ≡ false → (bytes : List ℕ)
    → list_any (λ (one : NotedByte). is_by_file one.source) (map (λ byte. record { byte = byte; source = source }) bytes) ≡ false
no_byte_of source none [] = refl
no_byte_of source none (byte ∷ bytes) = rw none (no_byte_of source none bytes)

no_byte : (state : SaState) → ((shown : McMemberRecord) (source : Creator) → is_made_by state.partitions shown source ≡ false) → (entries : List Entry)
    → AllByRecursion (λ (entry : Entry). ComesFrom state entry.shown entry.source) entries → list_any (λ (one : NotedByte). is_by_file one.source) (encoded entries) ≡ false
no_byte state none [] each = refl
no_byte state none (entry ∷ entries) each =
    list_any-append (λ (one : NotedByte). is_by_file one.source) (map (λ byte. record { byte = byte; source = entry.source }) (record_bytes entry.shown)) (encoded entries)
    ∙ rw (no_byte_of entry.source (no_file state none entry.shown entry.source each.0) (record_bytes entry.shown), no_byte state none entries each.1) refl

-- so a reply to the Get is not its own
not_of_file : (bytes : List NotedByte) → list_any (λ (one : NotedByte). is_by_file one.source) bytes ≡ true → AreOfNamed three.ports member (at_start three).remembered bytes → ⊥
not_of_file bytes some of =
    false≢true (sym (ap (list_any (λ (one : NotedByte). is_by_file one.source)) of.encoded ∙ no_byte (at_start three).remembered (λ shown source. refl) of.entries of.named.each)
    ∙ some)

pub the_file_is_no_source_of_all : TheFileIsNoSourceOfAll
unfolding field put_field reply_bytes request_in path_in path_record_bytes path_record_selected speed_of
the_file_is_no_source_of_all law =
    not_of_file _ refl ((((law three (of_path ∷ []) 0x111 three_is_configured (path_below, tt)).named [] [] of_path refl member refl).got refl).0 refl)

pub the_file_is_no_source_of_sends : TheFileIsNoSourceOfSends
unfolding field put_field reply_bytes request_in path_in path_record_bytes path_record_selected speed_of
the_file_is_no_source_of_sends law =
    let sent = send_mad 0x111 path_wanted in
    not_of_file _ refl ((((law three (sent ∷ []) 0x111 three_is_configured (path_below, tt)).named [] [] sent refl member refl).got refl).0 refl)

pub far_ports_are_no_source : FarPortsAreNoSource
unfolding field put_field reply_bytes request_in path_in path_record_bytes path_record_selected speed_of
far_ports_are_no_source law = false≢true (law three (of_path ∷ []) 0x111 three_is_configured (path_below, tt)).near

pub far_nodes_are_not_shown : FarNodesAreNotShown
unfolding field put_field reply_bytes request_in node_in node_record_bytes node_record_selected
far_nodes_are_not_shown law = false≢true (law three (send_mad 0x121 (nodes_wanted 5) ∷ []) 0x121 three_is_configured (nodes_below 5, tt)).near

-- ---- packets between ports: one that no port accepts, and one that its port refuses to send
abbrev sent_by : ℕ → ℕ → Command
sent_by guid p_key = Send (record { port_guid = guid; dlid = 3; p_key = p_key; destination_qp = 7; payload = [] })

pub far_packets_are_not_delivered : FarPacketsAreNotDelivered
far_packets_are_not_delivered law =
    let from = (law three (sent_by 0x111 0x7fff ∷ []) 0x111 three_is_configured (tt, tt)).from in
    false≢true (recursion_from_All (λ (event : PortEvent). IsFromNear three.ports 0x111 event.what)
    (events_at 0x111 (run_by step_delivering_far three (sent_by 0x111 0x7fff ∷ []))) from).0

abbrev are_none : List PortEvent → Bool
are_none [] = true
are_none (event ∷ events) = false

pub refusals_stay_at_their_port : RefusalsStayAtTheirPort
refusals_stay_at_their_port law = false≢true (ap are_none (law three (sent_by 0x121 0x1234 ∷ []) 0x111 three_is_configured (tt, tt)).depends)

-- ---- what far ports do, and what happens to cables
abbrev cut : Command
cut = Cable (record { cable = record { first = record { node = 0; port = 1 }; second = record { node = 1; port = 1 } }; up = false })

pub cuts_are_not_told : CutsAreNotTold
cuts_are_not_told law = false≢true (ap are_none (law three (cut ∷ []) 0x111 three_is_configured (tt, tt)).depends)

pub far_sends_are_not_repeated : FarSendsAreNotRepeated
far_sends_are_not_repeated law = false≢true (ap are_none (law three (sent_by 0x121 0x7fff ∷ []) 0x111 three_is_configured (tt, tt)).depends)

pub far_tables_are_not_heard : FarTablesAreNotHeard
unfolding field put_field reply_bytes segment_of request_in node_in node_record_bytes node_record_selected
far_tables_are_not_heard law =
    let commands = send_mad 0x121 (nodes_wanted 5) ∷ sent_by 0x111 0x7fff ∷ [] in
    false≢true (ap are_none (law three commands 0x111 three_is_configured (nodes_below 5, (tt, tt))).depends)

-- ---- a premise more
none_between : (before after : List Command) (command : Command) → before ++ (command ∷ after) ≡ [] → ⊥
none_between [] after command parts = absurd cc
none_between (one ∷ before) after command parts = absurd cc

only_empty : KeepsApartIfEmpty step_noting_nothing
only_empty configuration [] p none configured carry = record {
  beside = refl;
  depends = refl;
  from = All-nil (λ (event : PortEvent). IsFromNear configuration.ports p event.what);
  whole = λ before after command parts. absurd (none_between before after command parts);
  near = refl;
  named = λ before after command parts. absurd (none_between before after command parts);
}
only_empty configuration (command ∷ commands) p none configured carry = absurd cc

pub empty_scripts_are_not_enough : EmptyScriptsAreNotEnough
empty_scripts_are_not_enough law = nothing_noted_is_refused (law step_noting_nothing only_empty)

pub runs_report_no_far_packet : RunsReportNoFarPacket
runs_report_no_far_packet topology partitions script plan all commands p packet reads given gives far promised =
    let event : PortEvent = record { port_guid = p; what = Received packet } in
    let Near : PortEvent → Type 0 = λ one. IsFromNear (ports_of all plan) p one.what in
    let at_p : events_at p (event ∷ []) ≡ event ∷ [] = rw (eq-eqb p p refl) refl in
    let from : All Near (event ∷ []) = subst (All Near) at_p (promised plan all commands reads given gives p).1 in
    false≢true (sym far ∙ (recursion_from_All Near (event ∷ []) from).0)
