-- What our rule notes of a command names its sources, also of a table that the port acknowledges within the command.
use Rattle.std.proofs.Common.{ℕ, zero, suc, ◌+◌, ◌^◌, ◌<◌, ◌==◌, ◌≡◌, ◌∙◌, inl, inr, Bool, true, false, ◌&&◌, bit_and, if◌then◌else◌, List, [], ◌∷◌, ◌++◌, map, length, Option, Some, None, refl, ap, subst, sym, arith}
use Rattle.std.proofs.lemmas.Bool.{cases_Bool}
use Rattle.std.specs.List.{AllByRecursion, range_with_len}
use Rattle.data_packet.specs.declared.refusal.Refusal.{Refusal}
use Rattle.headline_laws.specs.Headline.{NamesItsSources, answers_in, mads_in}
use Rattle.mad_layout.proofs.LayoutLemmas.{field_narrow}
use Rattle.mad_layout.specs.Bits.{field}
use Rattle.mad_layout.specs.MadHeader.{header_in}
use Rattle.mad_layout.specs.RmppHeader.{rmpp_in}
use Rattle.rmpp_core.specs.Receiving.{is_data}
use Rattle.sa_model.specs.Delivery.{is_receiver_of}
use Rattle.sa_model.specs.Groups.{Creator}
use Rattle.sa_model.specs.Visible.{SaState}
use Rattle.sa_replies.proofs.AckLemmas.{few, is_active}
use Rattle.sa_replies.proofs.NamedNoteLemmas.{notes_name_sources}
use Rattle.sa_replies.specs.Answer.{answer}
use Rattle.sa_replies.specs.Asking.{ack_mad, is_first_segment, segments_reported}
use Rattle.sa_replies.specs.NamedNotes.{AreOfNamed, IsAllOf, IsNamed, IsReplyOf, IsSegmentOf, StaysOrNamed, group_asked_for}
use Rattle.sa_replies.specs.Notes.{NotedByte, NotedMad, Notes, is_request, noted_bytes}
use Rattle.sa_replies.specs.Request.{has_versions, request_in}
use Rattle.sa_replies.specs.RunSources.{NotedEvent, NotedEvents, NotedMads, NotedState, acknowledging, noted_conversation, noted_delivered, noted_in_turn, noted_mad, noted_replied, noted_reply_to, noted_sent, noted_step, noted_unless_refused, noted_whole, without_record}
use Rattle.step_results.proofs.ElementLemmas.{each_joined, each_weaker}
use Rattle.subnet_model.specs.Configuration.{ConfigurationState}
use Rattle.subnet_model.specs.Delivery.{asking_key, is_for_sa, manager_key, reaches_joined, refusal_of}
use Rattle.subnet_model.specs.Report.{received_by}
use Rattle.subnet_model.specs.declared.command.Command.TheVariants.{Ask, Cable, Send}
use Rattle.subnet_model.specs.declared.command.Command.{Command}
use Rattle.subnet_model.specs.declared.command.SendCommand.{SendCommand}
use Rattle.subnet_model.specs.declared.event.PortEvent.{PortEvent}
use Rattle.subnet_model.specs.declared.subnet_port.SubnetPort.{SubnetPort}

-- ---- the answers that events bring
replies_bring : (own : SubnetPort) (key : ℕ) (mads : List NotedMad) → mads_in (map (noted_reply_to own key) mads) ≡ mads
replies_bring own key [] = refl
replies_bring own key (one ∷ mads) = ap (λ (rest : List NotedMad). one ∷ rest) (replies_bring own key mads)

packets_bring : (events : List PortEvent) → mads_in (map without_record events) ≡ []
packets_bring [] = refl
packets_bring (event ∷ events) = packets_bring events

-- ---- an ACK is no request, and changes nothing but the transfer
module _ (ports : List SubnetPort) (own : SubnetPort) where
  record IsQuiet (before : NotedState) (answered : NotedMads) : Type 0 where
    notes : answered.1.notes ≡ before.notes
    remembered : answered.1.state.remembered ≡ before.state.remembered
    segments : AllByRecursion (IsSegmentOf (before.notes own.guid)) answered.0
    others : AllByRecursion (λ (one : NotedMad). is_data (rmpp_in one.mad) ≡ false → one.bytes ≡ []) answered.0

  none_asked : (mad : List ℕ) → (bit_and (request_in mad).rmpp.flags 1 == 1) ≡ true → is_request mad ≡ false
  none_asked mad active = elim (cases_Bool ((length mad == 256) && (field mad 8 8 == 3))) [
    | inl ours ↦ elim (cases_Bool (has_versions (request_in mad).header)) [
      | inl right ↦ rw (ours, right, active) refl
      | inr wrong ↦ rw (ours, wrong) refl
    ]
    | inr other ↦ rw other refl
  ]

  remembered_stays : (mad : List ℕ) (noted : NotedState) → (bit_and (request_in mad).rmpp.flags 1 == 1) ≡ true
      → (answer ports own mad noted.state).1.remembered ≡ noted.state.remembered
  remembered_stays mad noted active = elim (cases_Bool ((length mad == 256) && (field mad 8 8 == 3))) [
    | inl ours ↦ elim (cases_Bool (has_versions (request_in mad).header)) [
      | inl right ↦ rw (ours, right, active) refl
      | inr wrong ↦ rw (ours, wrong) refl
    ]
    | inr other ↦ rw other refl
  ]

  unnoted : (mad : List ℕ) (noted : NotedState) → is_request mad ≡ false → (replies : List (List ℕ))
      → AllByRecursion (λ (one : NotedMad). is_data (rmpp_in one.mad) ≡ false → one.bytes ≡ [])
      (map (λ reply. record { mad = reply; bytes = noted_bytes ports own mad noted.state noted.notes reply }) replies)
  unnoted mad noted none [] = tt
  unnoted mad noted none (reply ∷ replies) = (λ other. rw (other, none) refl, unnoted mad noted none replies)

  ack_is_quiet : (mad : List ℕ) (noted : NotedState) → (bit_and (request_in mad).rmpp.flags 1 == 1) ≡ true → IsQuiet noted (noted_mad ports own mad noted)
  ack_is_quiet mad noted active =
      let none = none_asked mad active in
      let stay : (noted_mad ports own mad noted).1.notes ≡ noted.notes = rw none refl in
      record {
        notes = stay;
        remembered = remembered_stays mad noted active;
        segments = subst (λ (notes : Notes). AllByRecursion (IsSegmentOf (notes own.guid)) (noted_mad ports own mad noted).0) stay
            (notes_name_sources ports own mad noted.state noted.notes).segments;
        others = unnoted mad noted none (answer ports own mad noted.state).0;
      }

  -- one more answer behind others
  and_then : (noted : NotedState) (first later : NotedMads) → IsQuiet noted first → IsQuiet first.1 later → IsQuiet noted (first.0 ++ later.0, later.1)
  and_then noted first later one more = record {
    notes = more.notes ∙ one.notes;
    remembered = more.remembered ∙ one.remembered;
    segments = each_joined (IsSegmentOf (noted.notes own.guid)) first.0 later.0 one.segments
        (subst (λ (notes : Notes). AllByRecursion (IsSegmentOf (notes own.guid)) later.0) one.notes more.segments);
    others = each_joined (λ (mad : NotedMad). is_data (rmpp_in mad.mad) ≡ false → mad.bytes ≡ []) first.0 later.0 one.others more.others;
  }

  acks_are_quiet : (segment : List ℕ) (count first left : ℕ) (noted : NotedState) → first + left < 2 ^ 32
      → IsQuiet noted (noted_in_turn ports own (map (ack_mad (header_in segment) count) (range_with_len first left)) noted)
  acks_are_quiet segment count first zero noted low = record { notes = refl; remembered = refl; segments = tt; others = tt }
  acks_are_quiet segment count first (suc left) noted low =
      let one = noted_mad ports own (ack_mad (header_in segment) count first) noted in
      and_then noted one (noted_in_turn ports own (map (ack_mad (header_in segment) count) (range_with_len (first + 1) left)) one.1)
      (ack_is_quiet (ack_mad (header_in segment) count first) noted (is_active segment count first (omega (arith, low))))
      (acks_are_quiet segment count (first + 1) left one.1 (omega (arith, low)))

  acknowledged_quietly : (mads : List NotedMad) (noted : NotedState) → IsQuiet noted (noted_in_turn ports own (acknowledging mads) noted)
  acknowledged_quietly [] noted = record { notes = refl; remembered = refl; segments = tt; others = tt }
  acknowledged_quietly (one ∷ mads) noted = by (is_first_segment (rmpp_in one.mad))
    where
      count : ℕ
      count = segments_reported (field one.mad 256 32)

      by : (first : Bool) → IsQuiet noted (noted_in_turn ports own (if first then map (ack_mad (header_in one.mad) count) (range_with_len 1 count) else []) noted)
      by true = acks_are_quiet one.mad count 1 count noted (few (field one.mad 256 32) (field_narrow one.mad 256 32))
      by false = record { notes = refl; remembered = refl; segments = tt; others = tt }

  -- ---- no bytes are those of no records, and come from any source
  no_records : (state : SaState) (one : NotedMad) → (is_data (rmpp_in one.mad) ≡ false → one.bytes ≡ []) → IsReplyOf ports own state one
  no_records state one none other =
      subst (AreOfNamed ports own state) (sym (none other)) (record { entries = []; named = record { each = tt; fit = λ fits. tt }; encoded = refl })

  no_source : (source : Creator) (one : NotedMad) → (is_data (rmpp_in one.mad) ≡ false → one.bytes ≡ []) → IsAllOf source one
  no_source source one none other = subst (AllByRecursion (λ (noted : NotedByte). noted.source ≡ source)) (sym (none other)) tt

  -- ---- the answers to a MAD, and to the ACKs of its answer
  whole_is_named : (mad : List ℕ) (noted : NotedState)
      → let whole = noted_whole ports own mad noted in
      IsNamed ports own mad noted.state noted.notes (record { mads = whole.0; state = whole.1.state; notes = whole.1.notes })
  whole_is_named mad noted =
      let first = noted_mad ports own mad noted in
      let later = noted_in_turn ports own (acknowledging first.0) first.1 in
      let named = notes_name_sources ports own mad noted.state noted.notes in
      let quiet = acknowledged_quietly first.0 first.1 in
      let all_of = λ (source : Creator). each_weaker (λ (one : NotedMad). is_data (rmpp_in one.mad) ≡ false → one.bytes ≡ []) (IsAllOf source) (no_source source) later.0 quiet.others in
      record {
        noted_for = λ p. subst (λ (notes : Notes). StaysOrNamed ports own noted.state.remembered noted.notes notes p) (sym quiet.notes) (named.noted_for p);
        segments = subst (λ (notes : Notes). AllByRecursion (IsSegmentOf (notes own.guid)) (first.0 ++ later.0)) (sym quiet.notes)
            (each_joined (IsSegmentOf (first.1.notes own.guid)) first.0 later.0 named.segments quiet.segments);
        got = λ get. each_joined (IsReplyOf ports own noted.state.remembered) first.0 later.0 (named.got get)
            (each_weaker (λ (one : NotedMad). is_data (rmpp_in one.mad) ≡ false → one.bytes ≡ []) (IsReplyOf ports own noted.state.remembered)
            (no_records noted.state.remembered) later.0 quiet.others);
        joined = λ group joins there. each_joined (IsAllOf group.creator) first.0 later.0
            (named.joined group joins (ap (λ (state : SaState). group_asked_for mad state.partitions) (sym quiet.remembered) ∙ there)) (all_of group.creator);
        set = λ sets. each_joined (IsAllOf (Creator.Port own.guid)) first.0 later.0 (named.set sets) (all_of (Creator.Port own.guid));
        deleted = λ deletes. each_joined (IsAllOf (Creator.Port own.guid)) first.0 later.0 (named.deleted deletes) (all_of (Creator.Port own.guid));
      }

  -- ---- what happens, by the answers that it brings
  abbrev AreNamed : List ℕ → NotedState → NotedEvents → Type 0
  AreNamed mad noted happens = IsNamed ports own mad noted.state noted.notes (answers_in happens)

  by_answers : (mad : List ℕ) (noted : NotedState) (happens : NotedEvents) (mads : List NotedMad) → mads_in happens.0 ≡ mads
      → IsNamed ports own mad noted.state noted.notes (record { mads = mads; state = happens.1.state; notes = happens.1.notes }) → AreNamed mad noted happens
  by_answers mad noted happens mads are named =
      subst (λ (some : List NotedMad). IsNamed ports own mad noted.state noted.notes (record { mads = some; state = happens.1.state; notes = happens.1.notes })) (sym are) named

  no_answers : (mad : List ℕ) (noted : NotedState) (events : List NotedEvent) → mads_in events ≡ [] → AreNamed mad noted (events, noted)
  no_answers mad noted events none =
      by_answers mad noted (events, noted) [] none (record {
        noted_for = λ p. inl refl;
        segments = tt;
        got = λ get. tt;
        joined = λ group joins there. tt;
        set = λ sets. tt;
        deleted = λ deletes. tt;
      })

  replied_named : (key : Option ℕ) (mad : List ℕ) (noted : NotedState) (answered : NotedMads)
      → IsNamed ports own mad noted.state noted.notes (record { mads = answered.0; state = answered.1.state; notes = answered.1.notes })
      → AreNamed mad noted (noted_replied own key noted answered)
  replied_named (Some key) mad noted answered named = by_answers mad noted (noted_replied own (Some key) noted answered) answered.0 (replies_bring own key answered.0) named
  replied_named None mad noted answered named = no_answers mad noted [] refl

  unless_named : (refusal : Option Refusal) (guid : ℕ) (mad : List ℕ) (noted : NotedState) (happens : NotedEvents) → AreNamed mad noted happens
      → AreNamed mad noted (noted_unless_refused refusal guid noted happens)
  unless_named (Some refusal) guid mad noted happens named = no_answers mad noted (noted_unless_refused (Some refusal) guid noted happens).0 refl
  unless_named None guid mad noted happens named = named

  either_named : (test : Bool) (mad : List ℕ) (noted : NotedState) (a b : NotedEvents) → AreNamed mad noted a → AreNamed mad noted b
      → AreNamed mad noted (if test then a else b)
  either_named true mad noted a b first second = first
  either_named false mad noted a b first second = second

module _ (configuration : ConfigurationState) (own : SubnetPort) where
  sent_is_named : (command : SendCommand) (noted : NotedState)
      → AreNamed configuration.ports own command.payload noted (noted_sent configuration (Some own) command noted)
  sent_is_named command noted =
      let ports = configuration.ports in
      let packets = received_by (reaches_joined (is_receiver_of noted.state.remembered.partitions command.dlid) command) ports own command in
      unless_named ports own (refusal_of own command) command.port_guid command.payload noted (noted_delivered configuration own command noted)
      (either_named ports own (is_for_sa command) command.payload noted _ _
      (replied_named ports own (manager_key ports command.p_key) command.payload noted (noted_mad ports own command.payload noted)
      (notes_name_sources ports own command.payload noted.state noted.notes))
      (no_answers ports own command.payload noted (map without_record packets) (packets_bring packets)))

  conversation_is_named : (key : Option ℕ) (mad : List ℕ) (noted : NotedState)
      → AreNamed configuration.ports own mad noted (noted_conversation configuration own key mad noted)
  conversation_is_named (Some key) mad noted =
      replied_named configuration.ports own (manager_key configuration.ports key) mad noted (noted_whole configuration.ports own mad noted)
      (whole_is_named configuration.ports own mad noted)
  conversation_is_named None mad noted = no_answers configuration.ports own mad noted (noted_conversation configuration own None mad noted).0 refl

pub steps_name_sources : (configuration : ConfigurationState) (noted : NotedState) (command : Command)
    → NamesItsSources configuration noted command (noted_step configuration noted command)
steps_name_sources configuration noted (Send command) own is = rw is (sent_is_named configuration own command noted)
steps_name_sources configuration noted (Ask command) own is = rw is (conversation_is_named configuration own (asking_key own.keys) command.mad noted)
steps_name_sources configuration noted (Cable command) own is = no_answers configuration.ports own [] noted [] refl
