-- What is noted of a run names its sources, also of a table that one command opened and others acknowledge.
use Rattle.std.proofs.Common.{ℕ, zero, suc, ◌+◌, ◌^◌, ◌<◌, ◌==◌, ◌≡◌, ◌∙◌, ◌⊎◌, inl, inr, Bool, true, false, not, ◌&&◌, bit_and, if◌then◌else◌, List, [], ◌∷◌, ◌++◌, map, length, Option, Some, None, refl, ap, subst, sym, arith, append_assoc, append-nil}
use Rattle.std.specs.List.{range_with_len}
use Rattle.data_packet.specs.declared.refusal.Refusal.{Refusal}
use Rattle.mad_layout.proofs.LayoutLemmas.{field_narrow}
use Rattle.mad_layout.specs.Bits.{field}
use Rattle.mad_layout.specs.MadHeader.{header_in}
use Rattle.mad_layout.specs.RmppHeader.{rmpp_in}
use Rattle.subnet_model.specs.Configuration.{ConfigurationState}
use Rattle.subnet_model.specs.Delivery.{asking_key, is_for_sa, manager_key, port_with_guid, refusal_of}
use Rattle.subnet_model.specs.Report.{state_from}
use Rattle.subnet_model.specs.declared.command.Command.{Command}
use Rattle.subnet_model.specs.declared.command.Command.TheVariants.{Ask, Cable, Send}
use Rattle.subnet_model.specs.declared.command.SendCommand.{SendCommand}
use Rattle.subnet_model.specs.declared.subnet_port.SubnetPort.{SubnetPort}
use Rattle.sa_model.specs.Shown.{Entry}
use Rattle.sa_replies.proofs.NamedNoteLemmas.{notes_name_sources}
use Rattle.sa_replies.specs.NamedNotes.{AreNamed}
use Rattle.sa_replies.specs.Notes.{NotedMad, Notes, is_request, noted_request}
use Rattle.sa_replies.specs.Request.{has_versions, is_response, request_in}
use Rattle.sa_replies.proofs.AckLemmas.{few, is_active}
use Rattle.sa_replies.proofs.RunSourceLemmas.{notes_stand_beside_runs}
use Rattle.sa_replies.specs.Asking.{ack_mad, is_first_segment, segments_reported}
use Rattle.sa_replies.specs.RunLaws.{remembered_after}
use Rattle.sa_replies.specs.NamedRuns.{AreNamedInTurn, IsNamedStep, NotesAreOfAState, RunsNameSources, StepsNameNotes, WereNamed, are_named_of}
use Rattle.sa_replies.specs.RunSources.{NotedEvents, NotedMads, NotedState, acknowledging, noted_after, noted_asked, noted_conversation, noted_delivered, noted_in_turn, noted_mad, noted_replied, noted_sent, noted_start, noted_step, noted_unless_refused, noted_whole}

-- ---- MADs are answered with notes that name their sources
turns_named : (ports : List SubnetPort) (own : SubnetPort) (mads : List (List ℕ)) (noted : NotedState) → AreNamedInTurn ports own mads noted
turns_named ports own [] noted = tt
turns_named ports own (mad ∷ mads) noted =
    (notes_name_sources ports own mad noted.state noted.notes, turns_named ports own mads (noted_mad ports own mad noted).1)

step_is_named : (configuration : ConfigurationState) (noted : NotedState) (command : Command) → IsNamedStep configuration noted command
step_is_named configuration noted (Send command) own is = turns_named configuration.ports own (command.payload ∷ []) noted
step_is_named configuration noted (Ask command) own is =
    turns_named configuration.ports own (command.mad ∷ acknowledging (noted_mad configuration.ports own command.mad noted).0) noted
step_is_named configuration noted (Cable command) own is = tt

-- ---- ACKs leave what is noted
no_request : (long versions active response : Bool) → active ≡ true → (long && (versions && (not active && not response))) ≡ false
no_request true true true response is = refl
no_request true false true response is = refl
no_request false versions true response is = refl
no_request long versions false response is = absurd cc

ack_is_none : (mad : List ℕ) (count number : ℕ) → number + 1 < 2 ^ 32 → is_request (ack_mad (header_in mad) count number) ≡ false
ack_is_none mad count number low =
    let ack = ack_mad (header_in mad) count number in
    no_request ((length ack == 256) && (field ack 8 8 == 3)) (has_versions (request_in ack).header) (bit_and (request_in ack).rmpp.flags 1 == 1)
    (is_response (request_in ack).header) (is_active mad count number low)

left_alone : (test : Bool) (changed notes : Notes) → test ≡ false → (if test then changed else notes) ≡ notes
left_alone true changed notes is = absurd cc
left_alone false changed notes is = refl

module _ (ports : List SubnetPort) (own : SubnetPort) where
  ack_keeps : (mad : List ℕ) (count number : ℕ) (noted : NotedState) → number + 1 < 2 ^ 32
      → (noted_mad ports own (ack_mad (header_in mad) count number) noted).1.notes ≡ noted.notes
  ack_keeps mad count number noted low =
      let ack = ack_mad (header_in mad) count number in
      left_alone (is_request ack) (noted_request ports own noted.state.remembered (request_in ack) noted.notes) noted.notes (ack_is_none mad count number low)

  acks_keep : (mad : List ℕ) (count first left : ℕ) (noted : NotedState) → first + left < 2 ^ 32
      → (noted_in_turn ports own (map (ack_mad (header_in mad) count) (range_with_len first left)) noted).1.notes ≡ noted.notes
  acks_keep mad count first zero noted low = refl
  acks_keep mad count first (suc left) noted low =
      let after = (noted_mad ports own (ack_mad (header_in mad) count first) noted).1 in
      acks_keep mad count (first + 1) left after (omega (arith, low)) ∙ ack_keeps mad count first noted (omega (arith, low))

  acknowledged_keep : (mads : List NotedMad) (noted : NotedState) → (noted_in_turn ports own (acknowledging mads) noted).1.notes ≡ noted.notes
  acknowledged_keep [] noted = refl
  acknowledged_keep (one ∷ mads) noted = by (is_first_segment (rmpp_in one.mad))
    where
      count : ℕ
      count = segments_reported (field one.mad 256 32)

      by : (first : Bool)
          → (noted_in_turn ports own (if first then map (ack_mad (header_in one.mad) count) (range_with_len 1 count) else []) noted).1.notes ≡ noted.notes
      by true = acks_keep one.mad count 1 count noted (few (field one.mad 256 32) (field_narrow one.mad 256 32))
      by false = refl

-- ---- what is noted for a port stays, or is named by what was remembered
abbrev StaysOrNamed : List SubnetPort → NotedState → Notes → ℕ → Type 0
StaysOrNamed ports noted notes p =
    (notes p ≡ noted.notes p) ⊎ ((own : SubnetPort) × (p ≡ own.guid) × AreNamed ports own noted.state.remembered (notes p))

mad_names : (ports : List SubnetPort) (own : SubnetPort) (mad : List ℕ) (noted : NotedState) (p : ℕ)
    → StaysOrNamed ports noted (noted_mad ports own mad noted).1.notes p
mad_names ports own mad noted p = elim ((notes_name_sources ports own mad noted.state noted.notes).noted_for p) [
  | inl same ↦ inl same
  | inr named ↦ inr (own, named.0, named.1)
]

whole_names : (ports : List SubnetPort) (own : SubnetPort) (mad : List ℕ) (noted : NotedState) (p : ℕ)
    → StaysOrNamed ports noted (noted_whole ports own mad noted).1.notes p
whole_names ports own mad noted p =
    subst (λ (notes : Notes). StaysOrNamed ports noted notes p)
    (sym (acknowledged_keep ports own (noted_mad ports own mad noted).0 (noted_mad ports own mad noted).1)) (mad_names ports own mad noted p)

replied_names : (ports : List SubnetPort) (own : SubnetPort) (key : Option ℕ) (noted : NotedState) (reported : NotedMads) (p : ℕ)
    → StaysOrNamed ports noted reported.1.notes p → StaysOrNamed ports noted (noted_replied own key noted reported).1.notes p
replied_names ports own (Some key) noted reported p named = named
replied_names ports own None noted reported p named = inl refl

unless_names : (ports : List SubnetPort) (refusal : Option Refusal) (guid : ℕ) (noted : NotedState) (reported : NotedEvents) (p : ℕ)
    → StaysOrNamed ports noted reported.1.notes p → StaysOrNamed ports noted (noted_unless_refused refusal guid noted reported).1.notes p
unless_names ports (Some refusal) guid noted reported p named = inl refl
unless_names ports None guid noted reported p named = named

either_names : (ports : List SubnetPort) (noted : NotedState) (test : Bool) (a b : NotedEvents) (p : ℕ) → StaysOrNamed ports noted a.1.notes p
    → StaysOrNamed ports noted b.1.notes p → StaysOrNamed ports noted (if test then a else b).1.notes p
either_names ports noted true a b p first second = first
either_names ports noted false a b p first second = second

module _ (configuration : ConfigurationState) where
  sent_names : (sender : Option SubnetPort) (command : SendCommand) (noted : NotedState) (p : ℕ)
      → StaysOrNamed configuration.ports noted (noted_sent configuration sender command noted).1.notes p
  sent_names None command noted p = inl refl
  sent_names (Some sender) command noted p =
      let ports = configuration.ports in
      unless_names ports (refusal_of sender command) command.port_guid noted (noted_delivered configuration sender command noted) p
      (either_names ports noted (is_for_sa command) _ _ p
      (replied_names ports sender (manager_key ports command.p_key) noted (noted_mad ports sender command.payload noted) p
      (mad_names ports sender command.payload noted p)) (inl refl))

  conversation_names : (own : SubnetPort) (key : Option ℕ) (mad : List ℕ) (noted : NotedState) (p : ℕ)
      → StaysOrNamed configuration.ports noted (noted_conversation configuration own key mad noted).1.notes p
  conversation_names own (Some key) mad noted p =
      replied_names configuration.ports own (manager_key configuration.ports key) noted (noted_whole configuration.ports own mad noted) p
      (whole_names configuration.ports own mad noted p)
  conversation_names own None mad noted p = inl refl

  asked_names : (own : Option SubnetPort) (mad : List ℕ) (noted : NotedState) (p : ℕ)
      → StaysOrNamed configuration.ports noted (noted_asked configuration own mad noted).1.notes p
  asked_names (Some own) mad noted p = conversation_names own (asking_key own.keys) mad noted p
  asked_names None mad noted p = inl refl

pub steps_name_notes : StepsNameNotes
steps_name_notes configuration noted (Send command) p = sent_names configuration (port_with_guid configuration.ports command.port_guid) command noted p
steps_name_notes configuration noted (Ask command) p = asked_names configuration (port_with_guid configuration.ports command.port_guid) command.mad noted p
steps_name_notes configuration noted (Cable command) p = inl refl

-- ---- so it is over a run
after_one : (configuration : ConfigurationState) (noted : NotedState) (commands : List Command) (command : Command)
    → state_from (noted_step configuration) noted (commands ++ command ∷ []) ≡ (noted_step configuration (state_from (noted_step configuration) noted commands) command).1
after_one configuration noted [] command = refl
after_one configuration noted (first ∷ commands) command = after_one configuration (noted_step configuration noted first).1 commands command

module _ (configuration : ConfigurationState) where
  still_named : (done : List Command) (command : Command) (p : ℕ) (entries : List Entry) → WereNamed configuration done p entries
      → WereNamed configuration (done ++ command ∷ []) p entries
  still_named done command p entries were = record {
    before = were.before;
    after = were.after ++ command ∷ [];
    parts = sym (append_assoc were.before were.after (command ∷ [])) ∙ ap (λ commands. commands ++ command ∷ []) were.parts;
    own = were.own;
    own_is = were.own_is;
    named = were.named;
  }

  one_more : (done : List Command) (command : Command) → NotesAreOfAState configuration done → NotesAreOfAState configuration (done ++ command ∷ [])
  one_more done command good p =
      let noted = noted_after configuration done in
      let next : noted_after configuration (done ++ command ∷ []) ≡ (noted_step configuration noted command).1 =
      after_one configuration (noted_start configuration) done command in
      subst (λ (after : NotedState). (after.notes p ≡ []) ⊎ WereNamed configuration (done ++ command ∷ []) p (after.notes p)) (sym next)
      (by (steps_name_notes configuration noted command p))
    where
      here : NotedState
      here = noted_after configuration done

      by : StaysOrNamed configuration.ports here (noted_step configuration here command).1.notes p
          → ((noted_step configuration here command).1.notes p ≡ []) ⊎ WereNamed configuration (done ++ command ∷ []) p ((noted_step configuration here command).1.notes p)
      by (inl same) = elim (good p) [
        | inl none ↦ inl (same ∙ none)
        | inr were ↦ inr (subst (WereNamed configuration (done ++ command ∷ []) p) (sym same) (still_named done command p (here.notes p) were))
      ]
      by (inr named) = inr (record {
        before = done;
        after = command ∷ [];
        parts = refl;
        own = named.0;
        own_is = named.1;
        named = subst (λ (state : _). AreNamed configuration.ports named.0 state.remembered ((noted_step configuration here command).1.notes p))
            (notes_stand_beside_runs configuration done).state named.2;
      })

  from_here : (done rest : List Command) → NotesAreOfAState configuration done → NotesAreOfAState configuration (done ++ rest)
  from_here done [] good = subst (NotesAreOfAState configuration) (sym (append-nil done)) good
  from_here done (command ∷ rest) good =
      subst (NotesAreOfAState configuration) (append_assoc done (command ∷ []) rest) (from_here (done ++ command ∷ []) rest (one_more done command good))

pub runs_name_sources : RunsNameSources
runs_name_sources configuration commands = record {
  answers = λ before after command parts. step_is_named configuration (noted_after configuration before) command;
  notes = λ before after parts. from_here configuration [] before (λ p. inl refl);
}
