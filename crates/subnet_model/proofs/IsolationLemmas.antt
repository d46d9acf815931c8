-- Isolation, from one command to whole runs; and which port a LID names.
use Rattle.std.proofs.Common.{◌≡◌, ℕ, Bool, true, false, not, ◌==◌, ◌&&◌, ◌||◌, List, [], ◌∷◌, ◌++◌, Option, Some, None, find, filter, map, All, refl, inl, inr, ◌∙◌, sym, ap, subst, arith}
use Rattle.std.specs.List.{list_any, IsDistinct}
use Rattle.std.specs.Option.{option_map_or}
use Rattle.std.proofs.lemmas.List.Elements.{All-nil, All-cons, All-head, All-tail, All-same, All-append, All-filter, All-map, All-weaker, All-from_recursion, filter-append}
use Rattle.std.proofs.lemmas.List.Folds.{list_any_none}
use Rattle.std.proofs.lemmas.Bool.{cases_Bool, both_ways, false_from_ne_true, and_parts, and_from, and_left, and_cases, or_cases, or_parts, or_left, or_right, eq-eqb, eqb-true}
use Rattle.std.proofs.lemmas.Bool.Decides.{nat_tests}
use Rattle.data_packet.specs.declared.refusal.Refusal.{Refusal}
use Rattle.data_packet.specs.declared.refusal.Refusal.TheVariants.{KeyNotHeld}
use Rattle.fabric_parts.specs.NodeType.{is_switch_type}
use Rattle.step_results.proofs.ListLemmas.{found_passes, list_any_weaker}
use Rattle.pkey_rules.specs.PKey.{default_base, key_of, matches}
use Rattle.pkey_rules.specs.KeyTable.{accepts, holds, shares}
use Rattle.subnet_model.specs.declared.subnet_port.SubnetPort.{SubnetPort}
use Rattle.subnet_model.specs.declared.command.Command.{Command}
use Rattle.subnet_model.specs.declared.command.Command.TheVariants.{Ask, Cable, Send}
use Rattle.subnet_model.specs.declared.command.SendCommand.{SendCommand}
use Rattle.subnet_model.specs.declared.event.PortEvent.{PortEvent}
use Rattle.subnet_model.specs.declared.event.Outcome.{Outcome}
use Rattle.subnet_model.specs.declared.event.Outcome.TheVariants.{Received, Refused}
use Rattle.subnet_model.specs.Administrator.{Administrator}
use Rattle.subnet_model.specs.Configuration.{ConfigurationState}
use Rattle.subnet_model.specs.Near.{shares_with, ports_share, is_near}
use Rattle.subnet_model.specs.Delivery.{port_with_guid, refusal_of, reaches_joined, is_for_sa, key_that_matches, manager_key, asking_key}
use Rattle.subnet_model.specs.Report.{packet_of, received_by, unless_refused, answered_in_turn, answered_whole, reply_to, replied, delivered, sent, conversation, asked, step_by, events_from, state_from}
use Rattle.subnet_model.specs.Restriction.{acts_in, events_at}
use Rattle.subnet_model.specs.Source.{is_lid_near, HasSlidNear, HaveSlidsNear, IsFromNear, ComesFromNear, same_lid}
use Rattle.subnet_model.specs.Isolation.{Alike, Isolates, KeepsApart}
use Rattle.subnet_model.specs.Laws.{Isolated, SourcesAreRead}

-- a step that keeps a port to itself brings it the same events when what is far from it is left out
pub isolated : {S C E : Type 0} {start : S} {step : S → C → List E × S} {alike : S → S → Type 0} {is_near : C → Bool} {own_events : List E → List E}
    → Isolates start step alike is_near own_events → (commands : List C) (s t : S) → alike s t
    → own_events (events_from step s commands) ≡ own_events (events_from step t (filter is_near commands))
isolated law [] s t same = refl
isolated {step = step} {is_near = is_near} {own_events = own_events} law (c ∷ cs) s t same = elim (cases_Bool (is_near c)) [
  | inl near ↦ let here = law.near s t c near same in
      rw near (law.joined (step s c).0 (events_from step (step s c).1 cs)
      ∙ (ap (λ first. first ++ own_events (events_from step (step s c).1 cs)) here.0
      ∙ (ap (λ rest. own_events (step t c).0 ++ rest) (isolated law cs (step s c).1 (step t c).1 here.1)
      ∙ sym (law.joined (step t c).0 (events_from step (step t c).1 (filter is_near cs))))))
  | inr far ↦ let here = law.far s t c far same in
      rw far (law.joined (step s c).0 (events_from step (step s c).1 cs)
      ∙ (ap (λ first. first ++ own_events (events_from step (step s c).1 cs)) here.0
      ∙ isolated law cs (step s c).1 t here.1))
]

pub found_in : {X : Type 0} (test other : X → Bool) (xs : List X) (x : X) → find test xs ≡ Some x → other x ≡ true → list_any other xs ≡ true
found_in test other [] x h p = absurd (cc)
found_in test other (y ∷ ys) x h p = elim (cases_Bool (test y)) [
  | inl here ↦ let same : Some y ≡ Some x = rw here at h in let e : y ≡ x = cc in or_left (other y) (list_any other ys) (ap other e ∙ p)
  | inr not_here ↦ let later : find test ys ≡ Some x = rw not_here at h in or_right (other y) (list_any other ys) (found_in test other ys x later p)
]

pub matches_either_way : (a b : ℕ) → matches a b ≡ matches b a
matches_either_way a b = grind (arith, nat_tests)

-- who holds a key shares a partition with whoever accepts it
pub holder_accepts : (key other : ℕ) (held : List ℕ) → holds key held ≡ true → matches key other ≡ true → accepts other held ≡ true
holder_accepts key other held h m =
    list_any_weaker (λ k. k == key) (λ k. matches k other) (λ k e. ap (λ n. matches n other) (eqb-true k key e) ∙ m) held h

pub shares_from_holder : (key : ℕ) (held others : List ℕ) → holds key held ≡ true → accepts key others ≡ true → shares others held ≡ true
shares_from_holder key held others h =
    list_any_weaker (λ other. matches other key) (λ other. accepts other held) (λ other m. holder_accepts key other held h (matches_either_way key other ∙ m)) others

reached_accepts : (has_joined : ℕ → Bool) (command : SendCommand) (port : SubnetPort) → reaches_joined has_joined command port ≡ true
    → accepts command.p_key port.keys ≡ true
reached_accepts has_joined command port reached =
    (and_parts (not (is_switch_type port.node_type)) (accepts command.p_key port.keys)
    (and_parts ((has_joined port.guid && not (port.guid == command.port_guid)) || (port.lid == command.dlid)) _ reached).1).1

pub held_unless_refused : (sender : SubnetPort) (command : SendCommand) → refusal_of sender command ≡ None → holds command.p_key sender.keys ≡ true
held_unless_refused sender command e = elim (cases_Bool (holds command.p_key sender.keys)) [
  | inl held ↦ held
  | inr not_held ↦ let reported : Some KeyNotHeld ≡ None = rw not_held at e in absurd (cc)
]

-- whoever a packet reaches, by whatever groups, shares a partition with its sender
pub reached_is_near : (ports : List SubnetPort) (has_joined : ℕ → Bool) (p : ℕ) (sender : SubnetPort) (command : SendCommand)
    → port_with_guid ports command.port_guid ≡ Some sender → holds command.p_key sender.keys ≡ true
    → list_any (λ port. (port.guid == p) && reaches_joined has_joined command port) ports ≡ true → is_near ports p command.port_guid ≡ true
reached_is_near ports has_joined p sender command found held h =
    or_right (command.port_guid == p) (ports_share ports p command.port_guid)
    (list_any_weaker (λ port. (port.guid == p) && reaches_joined has_joined command port) (λ port. (port.guid == p) && shares_with ports port command.port_guid)
    (λ port e. let parts : ((port.guid == p) ≡ true) × (reaches_joined has_joined command port ≡ true) = and_parts (port.guid == p) (reaches_joined has_joined command port) e in
    and_from (port.guid == p) (shares_with ports port command.port_guid) parts.0
    (found_in (λ other. other.guid == command.port_guid) (λ other. (other.guid == command.port_guid) && shares port.keys other.keys) ports sender found
    (and_from (sender.guid == command.port_guid) (shares port.keys sender.keys) (found_passes (λ other. other.guid == command.port_guid) ports sender found)
    (shares_from_holder command.p_key sender.keys port.keys held (reached_accepts has_joined command port parts.1)))))
    ports h)

-- ---- what of the events of a command is at p
not_at_p : (port : SubnetPort) (p : ℕ) (is_reached : SubnetPort → Bool) → ((port.guid == p) && is_reached port) ≡ false → is_reached port ≡ true
    → (port.guid == p) ≡ false
not_at_p port p is_reached h reached = elim (and_cases (port.guid == p) (is_reached port) h) [
  | inl other ↦ other
  | inr not_reached ↦ absurd (both_ways (is_reached port) not_reached reached)
]

-- at a port that the packet does not reach, nothing is received
quiet : (p : ℕ) (is_reached : SubnetPort → Bool) (all : List SubnetPort) (sender : SubnetPort) (command : SendCommand)
    → list_any (λ port. (port.guid == p) && is_reached port) all ≡ false → events_at p (received_by is_reached all sender command) ≡ []
quiet p is_reached [] sender command h = refl
quiet p is_reached (port ∷ ports) sender command h =
    let parts : (((port.guid == p) && is_reached port) ≡ false) × (list_any (λ q. (q.guid == p) && is_reached q) ports ≡ false) = or_parts _ _ h in
    elim (cases_Bool (is_reached port)) [
      | inl here ↦ rw here (rw (not_at_p port p is_reached parts.0 here) (quiet p is_reached ports sender command parts.1))
      | inr passes_by ↦ rw passes_by (quiet p is_reached ports sender command parts.1)
    ]

-- at a port that two such packets reach alike, the same is received
same_received : (p : ℕ) (first second : SubnetPort → Bool) (all : List SubnetPort) (sender : SubnetPort) (command : SendCommand)
    → ((port : SubnetPort) → port.guid ≡ p → first port ≡ second port)
    → events_at p (received_by first all sender command) ≡ events_at p (received_by second all sender command)
same_received p first second [] sender command alike = refl
same_received p first second (port ∷ ports) sender command alike =
    let later = same_received p first second ports sender command alike in
    elim (cases_Bool (port.guid == p)) [
      | inl this ↦ elim (cases_Bool (second port)) [
        | inl here ↦ rw (alike port (eqb-true port.guid p this) ∙ here, here) (rw this (ap (λ rest. record { port_guid = port.guid; what = Received (packet_of sender command) } ∷ rest) later))
        | inr passes_by ↦ rw (alike port (eqb-true port.guid p this) ∙ passes_by, passes_by) later
      ]
      | inr other ↦ skipped port other later
    ]
  where
    skip : (is_reached : SubnetPort → Bool) (port : SubnetPort) (ports : List SubnetPort) → (port.guid == p) ≡ false
        → events_at p (received_by is_reached (port ∷ ports) sender command) ≡ events_at p (received_by is_reached ports sender command)
    skip is_reached port ports other = elim (cases_Bool (is_reached port)) [
      | inl here ↦ rw here (rw other refl)
      | inr passes_by ↦ rw passes_by refl
    ]

    skipped : (port : SubnetPort) → (port.guid == p) ≡ false
        → events_at p (received_by first ports sender command) ≡ events_at p (received_by second ports sender command)
        → events_at p (received_by first (port ∷ ports) sender command) ≡ events_at p (received_by second (port ∷ ports) sender command)
    skipped port other later = skip first port ports other ∙ (later ∙ sym (skip second port ports other))

no_reply_at : (p : ℕ) (own : SubnetPort) (key : ℕ) (mads : List (List ℕ)) → (own.guid == p) ≡ false → events_at p (map (reply_to own key) mads) ≡ []
no_reply_at p own key [] other = refl
no_reply_at p own key (mad ∷ mads) other = rw other (no_reply_at p own key mads other)

-- ---- an SA that keeps ports apart
-- where what p sees stays the same, what is alike to it stays so
moved : {S V : Type 0} {is_sound : S → Bool} {sees : ℕ → S → V} (p : ℕ) (s t after : S) → Alike is_sound sees p s t → is_sound after ≡ true → sees p after ≡ sees p s
    → Alike is_sound sees p after t
moved p s t after alike sound same = record { left_sound = sound; right_sound = alike.right_sound; same = same ∙ alike.same }

turns_sound : {S V : Type 0} {configuration : ConfigurationState} {administrator : Administrator S} {is_sound : S → Bool} {sees : ℕ → S → V}
    → KeepsApart configuration administrator is_sound sees → (own : SubnetPort) (mads : List (List ℕ)) (s : S) → is_sound s ≡ true
    → is_sound (answered_in_turn (administrator.answer configuration own) mads s).1 ≡ true
turns_sound law own [] s sound = sound
turns_sound {configuration = configuration} {administrator = administrator} law own (mad ∷ mads) s sound =
    turns_sound law own mads (administrator.answer configuration own mad s).1 (law.sound.stays own mad s sound)

-- what a port sends in turn is answered alike where it sees the same
record AnsweredAlike {S V : Type 0} (is_sound : S → Bool) (sees : ℕ → S → V) (p : ℕ) (own : SubnetPort) (x y : List (List ℕ) × S) : Type 0 where
  mads : own.guid ≡ p → x.0 ≡ y.0
  after : Alike is_sound sees p x.1 y.1

one_alike : {S V : Type 0} {configuration : ConfigurationState} {administrator : Administrator S} {is_sound : S → Bool} {sees : ℕ → S → V}
    → KeepsApart configuration administrator is_sound sees → (p : ℕ) (own : SubnetPort) (mad : List ℕ) (s t : S)
    → port_with_guid configuration.ports own.guid ≡ Some own → Alike is_sound sees p s t
    → AnsweredAlike is_sound sees p own (administrator.answer configuration own mad s) (administrator.answer configuration own mad t)
one_alike {is_sound = is_sound} {sees = sees} law p own mad s t found alike = record {
  mads = λ itself. law.alike.replies own mad s t found (subst (λ q. Alike is_sound sees q s t) (sym itself) alike);
  after = record {
    left_sound = law.sound.stays own mad s alike.left_sound;
    right_sound = law.sound.stays own mad t alike.right_sound;
    same = law.alike.after p own mad s t found alike;
  };
}

turns_alike : {S V : Type 0} {configuration : ConfigurationState} {administrator : Administrator S} {is_sound : S → Bool} {sees : ℕ → S → V}
    → KeepsApart configuration administrator is_sound sees → (p : ℕ) (own : SubnetPort) (mads : List (List ℕ)) (s t : S)
    → port_with_guid configuration.ports own.guid ≡ Some own → Alike is_sound sees p s t
    → AnsweredAlike is_sound sees p own (answered_in_turn (administrator.answer configuration own) mads s) (answered_in_turn (administrator.answer configuration own) mads t)
turns_alike law p own [] s t found alike = record { mads = λ itself. refl; after = alike }
turns_alike {configuration = configuration} {administrator = administrator} law p own (mad ∷ mads) s t found alike =
    let here = one_alike law p own mad s t found alike in
    let later = turns_alike law p own mads (administrator.answer configuration own mad s).1 (administrator.answer configuration own mad t).1 found here.after in
    record { mads = λ itself. rw (here.mads itself, later.mads itself) refl; after = later.after }

whole_alike : {S V : Type 0} {configuration : ConfigurationState} {administrator : Administrator S} {is_sound : S → Bool} {sees : ℕ → S → V}
    → KeepsApart configuration administrator is_sound sees → (p : ℕ) (own : SubnetPort) (mad : List ℕ) (s t : S)
    → port_with_guid configuration.ports own.guid ≡ Some own → Alike is_sound sees p s t
    → AnsweredAlike is_sound sees p own (answered_whole (administrator.answer configuration own) administrator.acknowledgements mad s)
    (answered_whole (administrator.answer configuration own) administrator.acknowledgements mad t)
whole_alike {S = S} {configuration = configuration} {administrator = administrator} {is_sound = is_sound} {sees = sees} law p own mad s t found alike =
    elim (cases_Bool (own.guid == p)) [
      | inl itself ↦
          let same = here.mads (eqb-true own.guid p itself) in
          let later = turns_alike law p own (administrator.acknowledgements first.0) first.1 second.1 found here.after in
          subst (λ mads. AnsweredAlike is_sound sees p own
          (first.0 ++ (answered_in_turn (administrator.answer configuration own) (administrator.acknowledgements first.0) first.1).0, (answered_in_turn (administrator.answer configuration own) (administrator.acknowledgements first.0) first.1).1)
          (mads ++ (answered_in_turn (administrator.answer configuration own) (administrator.acknowledgements mads) second.1).0, (answered_in_turn (administrator.answer configuration own) (administrator.acknowledgements mads) second.1).1))
          same (record { mads = λ e. ap (λ rest. first.0 ++ rest) (later.mads e); after = later.after })
      | inr other ↦ record {
        mads = λ itself. absurd (both_ways (own.guid == p) other (eq-eqb own.guid p itself));
        after = record {
          left_sound = turns_sound law own (administrator.acknowledgements first.0) first.1 here.after.left_sound;
          right_sound = turns_sound law own (administrator.acknowledgements second.0) second.1 here.after.right_sound;
          same = law.unseen.acknowledged p own first.0 first.1 other here.after.left_sound
              ∙ (here.after.same ∙ sym (law.unseen.acknowledged p own second.0 second.1 other here.after.right_sound));
        };
      }
    ]
  where
    first : List (List ℕ) × S
    first = administrator.answer configuration own mad s

    second : List (List ℕ) × S
    second = administrator.answer configuration own mad t

    here : AnsweredAlike is_sound sees p own first second
    here = one_alike law p own mad s t found alike

whole_far : {S V : Type 0} {configuration : ConfigurationState} {administrator : Administrator S} {is_sound : S → Bool} {sees : ℕ → S → V}
    → KeepsApart configuration administrator is_sound sees → (p : ℕ) (own : SubnetPort) (mad : List ℕ) (s t : S)
    → is_near configuration.ports p own.guid ≡ false → Alike is_sound sees p s t
    → Alike is_sound sees p (answered_whole (administrator.answer configuration own) administrator.acknowledgements mad s).1 t
whole_far {configuration = configuration} {administrator = administrator} law p own mad s t far alike =
    let first = administrator.answer configuration own mad s in
    let sound = law.sound.stays own mad s alike.left_sound in
    moved p s t (answered_in_turn (administrator.answer configuration own) (administrator.acknowledgements first.0) first.1).1 alike
    (turns_sound law own (administrator.acknowledgements first.0) first.1 sound)
    (law.unseen.acknowledged p own first.0 first.1 (or_parts (own.guid == p) (ports_share configuration.ports p own.guid) far).0 sound
    ∙ law.unseen.sent p own mad s far alike.left_sound)

-- ---- what a command brings to p, and what it leaves
record Unmoved {S V : Type 0} (is_sound : S → Bool) (sees : ℕ → S → V) (p : ℕ) (t : S) (x : List PortEvent × S) : Type 0 where
  events : events_at p x.0 ≡ []
  after : Alike is_sound sees p x.1 t

record SameAt {S V : Type 0} (is_sound : S → Bool) (sees : ℕ → S → V) (p : ℕ) (x y : List PortEvent × S) : Type 0 where
  events : events_at p x.0 ≡ events_at p y.0
  after : Alike is_sound sees p x.1 y.1

replied_far : {S V : Type 0} {is_sound : S → Bool} {sees : ℕ → S → V} (p : ℕ) (own : SubnetPort) (key : Option ℕ) (s t : S) (answered : List (List ℕ) × S)
    → (own.guid == p) ≡ false → Alike is_sound sees p s t → Alike is_sound sees p answered.1 t → Unmoved is_sound sees p t (replied own key s answered)
replied_far p own (Some key) s t answered other alike after = record { events = no_reply_at p own key answered.0 other; after = after }
replied_far p own None s t answered other alike after = record { events = refl; after = alike }

replied_alike : {S V : Type 0} {is_sound : S → Bool} {sees : ℕ → S → V} (p : ℕ) (own : SubnetPort) (key : Option ℕ) (s t : S) (x y : List (List ℕ) × S)
    → Alike is_sound sees p s t → AnsweredAlike is_sound sees p own x y → SameAt is_sound sees p (replied own key s x) (replied own key t y)
replied_alike p own None s t x y alike answered = record { events = refl; after = alike }
replied_alike p own (Some key) s t x y alike answered = record {
  events = elim (cases_Bool (own.guid == p)) [
    | inl itself ↦ ap (λ mads. events_at p (map (reply_to own key) mads)) (answered.mads (eqb-true own.guid p itself))
    | inr other ↦ no_reply_at p own key x.0 other ∙ sym (no_reply_at p own key y.0 other)
  ];
  after = answered.after;
}

-- the port that is found is the one that was named
pub found_guid : (ports : List SubnetPort) (guid : ℕ) (own : SubnetPort) → port_with_guid ports guid ≡ Some own → own.guid ≡ guid
found_guid ports guid own found = eqb-true own.guid guid (found_passes (λ port. port.guid == guid) ports own found)

pub found_by_own : (ports : List SubnetPort) (guid : ℕ) (own : SubnetPort) → port_with_guid ports guid ≡ Some own → port_with_guid ports own.guid ≡ Some own
found_by_own ports guid own found = ap (port_with_guid ports) (found_guid ports guid own found) ∙ found

-- ---- of a port that is far
delivered_far : {S V : Type 0} {configuration : ConfigurationState} {administrator : Administrator S} {is_sound : S → Bool} {sees : ℕ → S → V}
    → KeepsApart configuration administrator is_sound sees → (p : ℕ) (command : SendCommand) (sender : SubnetPort) (s t : S)
    → port_with_guid configuration.ports command.port_guid ≡ Some sender → is_near configuration.ports p command.port_guid ≡ false
    → holds command.p_key sender.keys ≡ true → Alike is_sound sees p s t → Unmoved is_sound sees p t (delivered administrator configuration sender command s)
delivered_far {configuration = configuration} {administrator = administrator} {is_sound = is_sound} {sees = sees} law p command sender s t found far held alike =
    elim (cases_Bool (is_for_sa command)) [
      | inl for_sa ↦ rw for_sa (replied_far p sender (manager_key configuration.ports command.p_key) s t (administrator.answer configuration sender command.payload s)
          (or_parts (sender.guid == p) (ports_share configuration.ports p sender.guid) sender_far).0 alike
          (moved p s t (administrator.answer configuration sender command.payload s).1 alike (law.sound.stays sender command.payload s alike.left_sound)
          (law.unseen.sent p sender command.payload s sender_far alike.left_sound)))
      | inr other ↦ rw other (record {
        events = quiet p (reaches_joined (administrator.receives s command.dlid) command) configuration.ports sender command unreached;
        after = alike;
      })
    ]
  where
    sender_far : is_near configuration.ports p sender.guid ≡ false
    sender_far = ap (is_near configuration.ports p) (found_guid configuration.ports command.port_guid sender found) ∙ far

    unreached : list_any (λ port. (port.guid == p) && reaches_joined (administrator.receives s command.dlid) command port) configuration.ports ≡ false
    unreached = false_from_ne_true (list_any (λ port. (port.guid == p) && reaches_joined (administrator.receives s command.dlid) command port) configuration.ports)
        (λ reached. both_ways (is_near configuration.ports p command.port_guid) far
        (reached_is_near configuration.ports (administrator.receives s command.dlid) p sender command found held reached))

refused_far : {S V : Type 0} {configuration : ConfigurationState} {administrator : Administrator S} {is_sound : S → Bool} {sees : ℕ → S → V}
    → KeepsApart configuration administrator is_sound sees → (p : ℕ) (command : SendCommand) (sender : SubnetPort) (s t : S)
    → port_with_guid configuration.ports command.port_guid ≡ Some sender → is_near configuration.ports p command.port_guid ≡ false
    → (refusal : Option Refusal) → refusal_of sender command ≡ refusal → Alike is_sound sees p s t
    → Unmoved is_sound sees p t (unless_refused refusal command.port_guid s (delivered administrator configuration sender command s))
refused_far {configuration = configuration} law p command sender s t found far (Some refusal) e alike = record {
  events = rw (or_parts (command.port_guid == p) (ports_share configuration.ports p command.port_guid) far).0 refl;
  after = alike;
}
refused_far law p command sender s t found far None e alike = delivered_far law p command sender s t found far (held_unless_refused sender command e) alike

sent_far : {S V : Type 0} {configuration : ConfigurationState} {administrator : Administrator S} {is_sound : S → Bool} {sees : ℕ → S → V}
    → KeepsApart configuration administrator is_sound sees → (p : ℕ) (command : SendCommand) (s t : S) (sender : Option SubnetPort)
    → port_with_guid configuration.ports command.port_guid ≡ sender → is_near configuration.ports p command.port_guid ≡ false
    → Alike is_sound sees p s t → Unmoved is_sound sees p t (sent administrator configuration sender command s)
sent_far law p command s t None found far alike = record { events = refl; after = alike }
sent_far law p command s t (Some sender) found far alike = refused_far law p command sender s t found far (refusal_of sender command) refl alike

conversation_far : {S V : Type 0} {configuration : ConfigurationState} {administrator : Administrator S} {is_sound : S → Bool} {sees : ℕ → S → V}
    → KeepsApart configuration administrator is_sound sees → (p : ℕ) (own : SubnetPort) (key : Option ℕ) (mad : List ℕ) (s t : S)
    → is_near configuration.ports p own.guid ≡ false → Alike is_sound sees p s t
    → Unmoved is_sound sees p t (conversation administrator configuration own key mad s)
conversation_far {configuration = configuration} {administrator = administrator} law p own (Some key) mad s t far alike =
    replied_far p own (manager_key configuration.ports key) s t (answered_whole (administrator.answer configuration own) administrator.acknowledgements mad s)
    (or_parts (own.guid == p) (ports_share configuration.ports p own.guid) far).0 alike (whole_far law p own mad s t far alike)
conversation_far {configuration = configuration} law p own None mad s t far alike = record {
  events = rw (or_parts (own.guid == p) (ports_share configuration.ports p own.guid) far).0 refl;
  after = alike;
}

asked_far : {S V : Type 0} {configuration : ConfigurationState} {administrator : Administrator S} {is_sound : S → Bool} {sees : ℕ → S → V}
    → KeepsApart configuration administrator is_sound sees → (p guid : ℕ) (mad : List ℕ) (s t : S) (own : Option SubnetPort)
    → port_with_guid configuration.ports guid ≡ own → is_near configuration.ports p guid ≡ false
    → Alike is_sound sees p s t → Unmoved is_sound sees p t (asked administrator configuration own mad s)
asked_far law p guid mad s t None found far alike = record { events = refl; after = alike }
asked_far {configuration = configuration} law p guid mad s t (Some own) found far alike =
    conversation_far law p own (asking_key own.keys) mad s t (ap (is_near configuration.ports p) (found_guid configuration.ports guid own found) ∙ far) alike

step_far : {S V : Type 0} {configuration : ConfigurationState} {administrator : Administrator S} {is_sound : S → Bool} {sees : ℕ → S → V}
    → KeepsApart configuration administrator is_sound sees → (p : ℕ) (command : Command) (s t : S) → acts_in (is_near configuration.ports p) command ≡ false
    → Alike is_sound sees p s t → Unmoved is_sound sees p t (step_by administrator configuration s command)
step_far {configuration = configuration} law p (Send command) s t far alike = sent_far law p command s t (port_with_guid configuration.ports command.port_guid) refl far alike
step_far {configuration = configuration} law p (Ask command) s t far alike =
    asked_far law p command.port_guid command.mad s t (port_with_guid configuration.ports command.port_guid) refl far alike
step_far law p (Cable command) s t far alike = record { events = refl; after = alike }

-- ---- of any port
delivered_alike : {S V : Type 0} {configuration : ConfigurationState} {administrator : Administrator S} {is_sound : S → Bool} {sees : ℕ → S → V}
    → KeepsApart configuration administrator is_sound sees → (p : ℕ) (command : SendCommand) (sender : SubnetPort) (s t : S)
    → port_with_guid configuration.ports sender.guid ≡ Some sender → Alike is_sound sees p s t
    → SameAt is_sound sees p (delivered administrator configuration sender command s) (delivered administrator configuration sender command t)
delivered_alike {configuration = configuration} {administrator = administrator} law p command sender s t found alike =
    elim (cases_Bool (is_for_sa command)) [
      | inl for_sa ↦ rw for_sa (replied_alike p sender (manager_key configuration.ports command.p_key) s t _ _ alike (one_alike law p sender command.payload s t found alike))
      | inr other ↦ rw other (record {
        events = same_received p (reaches_joined (administrator.receives s command.dlid) command) (reaches_joined (administrator.receives t command.dlid) command) configuration.ports sender command
            (λ port itself. ap (λ joined. ((joined && not (port.guid == command.port_guid)) || (port.lid == command.dlid)) && (not (is_switch_type port.node_type) && accepts command.p_key port.keys))
            (rw itself (law.alike.groups p command.dlid s t alike)));
        after = alike;
      })
    ]

refused_alike : {S V : Type 0} {is_sound : S → Bool} {sees : ℕ → S → V} (p guid : ℕ) (s t : S) (refusal : Option Refusal) (x y : List PortEvent × S)
    → Alike is_sound sees p s t → SameAt is_sound sees p x y → SameAt is_sound sees p (unless_refused refusal guid s x) (unless_refused refusal guid t y)
refused_alike p guid s t (Some refusal) x y alike same = record { events = refl; after = alike }
refused_alike p guid s t None x y alike same = same

sent_alike : {S V : Type 0} {configuration : ConfigurationState} {administrator : Administrator S} {is_sound : S → Bool} {sees : ℕ → S → V}
    → KeepsApart configuration administrator is_sound sees → (p : ℕ) (command : SendCommand) (s t : S) (sender : Option SubnetPort)
    → port_with_guid configuration.ports command.port_guid ≡ sender
    → Alike is_sound sees p s t → SameAt is_sound sees p (sent administrator configuration sender command s) (sent administrator configuration sender command t)
sent_alike law p command s t None found alike = record { events = refl; after = alike }
sent_alike {configuration = configuration} law p command s t (Some sender) found alike =
    refused_alike p command.port_guid s t (refusal_of sender command) _ _ alike
    (delivered_alike law p command sender s t (found_by_own configuration.ports command.port_guid sender found) alike)

conversation_alike : {S V : Type 0} {configuration : ConfigurationState} {administrator : Administrator S} {is_sound : S → Bool} {sees : ℕ → S → V}
    → KeepsApart configuration administrator is_sound sees → (p : ℕ) (own : SubnetPort) (key : Option ℕ) (mad : List ℕ) (s t : S)
    → port_with_guid configuration.ports own.guid ≡ Some own → Alike is_sound sees p s t
    → SameAt is_sound sees p (conversation administrator configuration own key mad s) (conversation administrator configuration own key mad t)
conversation_alike {configuration = configuration} law p own (Some key) mad s t found alike =
    replied_alike p own (manager_key configuration.ports key) s t _ _ alike (whole_alike law p own mad s t found alike)
conversation_alike law p own None mad s t found alike = record { events = refl; after = alike }

asked_alike : {S V : Type 0} {configuration : ConfigurationState} {administrator : Administrator S} {is_sound : S → Bool} {sees : ℕ → S → V}
    → KeepsApart configuration administrator is_sound sees → (p guid : ℕ) (mad : List ℕ) (s t : S) (own : Option SubnetPort)
    → port_with_guid configuration.ports guid ≡ own
    → Alike is_sound sees p s t → SameAt is_sound sees p (asked administrator configuration own mad s) (asked administrator configuration own mad t)
asked_alike law p guid mad s t None found alike = record { events = refl; after = alike }
asked_alike {configuration = configuration} law p guid mad s t (Some own) found alike =
    conversation_alike law p own (asking_key own.keys) mad s t (found_by_own configuration.ports guid own found) alike

step_alike : {S V : Type 0} {configuration : ConfigurationState} {administrator : Administrator S} {is_sound : S → Bool} {sees : ℕ → S → V}
    → KeepsApart configuration administrator is_sound sees → (p : ℕ) (command : Command) (s t : S)
    → Alike is_sound sees p s t → SameAt is_sound sees p (step_by administrator configuration s command) (step_by administrator configuration t command)
step_alike {configuration = configuration} law p (Send command) s t alike = sent_alike law p command s t (port_with_guid configuration.ports command.port_guid) refl alike
step_alike {configuration = configuration} law p (Ask command) s t alike =
    asked_alike law p command.port_guid command.mad s t (port_with_guid configuration.ports command.port_guid) refl alike
step_alike law p (Cable command) s t alike = record { events = refl; after = alike }

steps_isolate : {S V : Type 0} {configuration : ConfigurationState} {administrator : Administrator S} {is_sound : S → Bool} {sees : ℕ → S → V}
    → KeepsApart configuration administrator is_sound sees → (p : ℕ)
    → Isolates (administrator.begins configuration) (step_by administrator configuration) (Alike is_sound sees p)
    (λ command. acts_in (is_near configuration.ports p) command) (events_at p)
steps_isolate law p = record {
  far = λ s t command away alike. let moved = step_far law p command s t away alike in (moved.events, moved.after);
  near = λ s t command beside alike. let same = step_alike law p command s t alike in (same.events, same.after);
  begins = record { left_sound = law.sound.begins; right_sound = law.sound.begins; same = refl };
  joined = λ xs ys. filter-append (λ event. event.port_guid == p) xs ys;
  nothing = refl;
}

-- ---- whose LIDs stand in what p receives
-- the sender of a packet is near whomever its command is near
sender_lid_near : (ports : List SubnetPort) (p : ℕ) (command : SendCommand) (sender : SubnetPort) → port_with_guid ports command.port_guid ≡ Some sender
    → is_near ports p command.port_guid ≡ true → is_lid_near ports p sender.lid ≡ true
sender_lid_near ports p command sender found beside =
    let same : sender.guid ≡ command.port_guid = found_guid ports command.port_guid sender found in
    found_in (λ other. other.guid == command.port_guid) (λ other. (other.lid == sender.lid) && is_near ports p other.guid) ports sender found
    (and_from (sender.lid == sender.lid) (is_near ports p sender.guid) (eq-eqb sender.lid sender.lid refl) (ap (is_near ports p) same ∙ beside))

-- what is received at p from a port near it has its LID, and nothing else is received there
received_slids : (ports : List SubnetPort) (p : ℕ) (has_joined : ℕ → Bool) (command : SendCommand) (sender : SubnetPort)
    → port_with_guid ports command.port_guid ≡ Some sender → holds command.p_key sender.keys ≡ true
    → HaveSlidsNear ports p (received_by (reaches_joined has_joined command) ports sender command)
received_slids ports p has_joined command sender found held = elim (cases_Bool (is_near ports p command.port_guid)) [
  | inl beside ↦ All-filter (λ event. event.port_guid == p) (λ event. HasSlidNear ports p event.what) arrived
      (All-map (λ event. HasSlidNear ports p event.what) (λ port. record { port_guid = port.guid; what = Received (packet_of sender command) })
      (filter (reaches_joined has_joined command) ports) (λ k d h. sender_lid_near ports p command sender found beside))
  | inr away ↦ All-same (λ event. HasSlidNear ports p event.what) (events_at p arrived) []
      (quiet p (reaches_joined has_joined command) ports sender command
      (false_from_ne_true (list_any (λ port. (port.guid == p) && reaches_joined has_joined command port) ports)
      (λ reached. both_ways (is_near ports p command.port_guid) away (reached_is_near ports has_joined p sender command found held reached))))
      (All-nil (λ event. HasSlidNear ports p event.what))
]
  where
    arrived : List PortEvent
    arrived = received_by (reaches_joined has_joined command) ports sender command

-- the SM port is near whomever it answers
shares_with_manager : (ports : List SubnetPort) (own : SubnetPort) (key answering : ℕ) (manager : SubnetPort) → find (λ port. port.lid == 1) ports ≡ Some manager
    → find (λ held. matches held key) manager.keys ≡ Some answering → holds key own.keys ≡ true → shares_with ports own manager.guid ≡ true
shares_with_manager ports own key answering manager there matching held =
    found_in (λ port. port.lid == 1) (λ other. (other.guid == manager.guid) && shares own.keys other.keys) ports manager there
    (and_from (manager.guid == manager.guid) (shares own.keys manager.keys) (eq-eqb manager.guid manager.guid refl)
    (list_any_weaker (λ k. k == key) (λ k. accepts k manager.keys)
    (λ k e. ap (λ n. accepts n manager.keys) (eqb-true k key e)
    ∙ found_in (λ other. matches other key) (λ other. matches other key) manager.keys answering matching (found_passes (λ other. matches other key) manager.keys answering matching))
    own.keys held))

manager_near : (ports : List SubnetPort) (own : SubnetPort) (key answering : ℕ) (manager : Option SubnetPort) → find (λ port. port.lid == 1) ports ≡ manager
    → key_that_matches key manager ≡ Some answering → port_with_guid ports own.guid ≡ Some own → holds key own.keys ≡ true → is_lid_near ports own.guid 1 ≡ true
manager_near ports own key answering None there matching found held = absurd (cc)
manager_near ports own key answering (Some manager) there matching found held =
    found_in (λ port. port.lid == 1) (λ port. (port.lid == 1) && is_near ports own.guid port.guid) ports manager there
    (and_from (manager.lid == 1) (is_near ports own.guid manager.guid) (found_passes (λ port. port.lid == 1) ports manager there)
    (or_right (manager.guid == own.guid) (ports_share ports own.guid manager.guid)
    (found_in (λ port. port.guid == own.guid) (λ port. (port.guid == own.guid) && shares_with ports port manager.guid) ports own found
    (and_from (own.guid == own.guid) (shares_with ports own manager.guid) (eq-eqb own.guid own.guid refl)
    (shares_with_manager ports own key answering manager there matching held)))))

replies_slids : (ports : List SubnetPort) (p : ℕ) (own : SubnetPort) (answering : ℕ) (mads : List (List ℕ)) → is_lid_near ports own.guid 1 ≡ true
    → HaveSlidsNear ports p (map (reply_to own answering) mads)
replies_slids ports p own answering mads near = elim (cases_Bool (own.guid == p)) [
  | inl itself ↦ All-filter (λ event. event.port_guid == p) (λ event. HasSlidNear ports p event.what) (map (reply_to own answering) mads)
      (All-map (λ event. HasSlidNear ports p event.what) (reply_to own answering) mads
      (λ k d h. ap (λ q. is_lid_near ports q 1) (sym (eqb-true own.guid p itself)) ∙ near))
  | inr other ↦ All-same (λ event. HasSlidNear ports p event.what) (events_at p (map (reply_to own answering) mads)) [] (no_reply_at p own answering mads other)
      (All-nil (λ event. HasSlidNear ports p event.what))
]

replied_slids : {S : Type 0} (ports : List SubnetPort) (p : ℕ) (own : SubnetPort) (key : ℕ) (answering : Option ℕ) (state : S) (answered : List (List ℕ) × S)
    → manager_key ports key ≡ answering → port_with_guid ports own.guid ≡ Some own → holds key own.keys ≡ true
    → HaveSlidsNear ports p (replied own answering state answered).0
replied_slids ports p own key None state answered matching found held = All-nil (λ event. HasSlidNear ports p event.what)
replied_slids ports p own key (Some answering) state answered matching found held =
    replies_slids ports p own answering answered.0 (manager_near ports own key answering (find (λ port. port.lid == 1) ports) refl matching found held)

refusal_slid : (ports : List SubnetPort) (p guid : ℕ) (refusal : Refusal) → HaveSlidsNear ports p (record { port_guid = guid; what = Refused refusal } ∷ [])
refusal_slid ports p guid refusal =
    All-filter (λ event. event.port_guid == p) (λ event. HasSlidNear ports p event.what) (record { port_guid = guid; what = Refused refusal } ∷ [])
    (All-cons (λ event. HasSlidNear ports p event.what) (record { port_guid = guid; what = Refused refusal }) [] tt (All-nil (λ event. HasSlidNear ports p event.what)))

delivered_slids : {S : Type 0} (administrator : Administrator S) (configuration : ConfigurationState) (p : ℕ) (command : SendCommand) (sender : SubnetPort) (state : S)
    → port_with_guid configuration.ports command.port_guid ≡ Some sender → holds command.p_key sender.keys ≡ true
    → HaveSlidsNear configuration.ports p (delivered administrator configuration sender command state).0
delivered_slids administrator configuration p command sender state found held = elim (cases_Bool (is_for_sa command)) [
  | inl for_sa ↦ rw for_sa (replied_slids configuration.ports p sender command.p_key (manager_key configuration.ports command.p_key) state
      (administrator.answer configuration sender command.payload state) refl (found_by_own configuration.ports command.port_guid sender found) held)
  | inr other ↦ rw other (received_slids configuration.ports p (administrator.receives state command.dlid) command sender found held)
]

unless_refused_slids : {S : Type 0} (administrator : Administrator S) (configuration : ConfigurationState) (p : ℕ) (command : SendCommand) (sender : SubnetPort) (state : S)
    → port_with_guid configuration.ports command.port_guid ≡ Some sender → (refusal : Option Refusal) → refusal_of sender command ≡ refusal
    → HaveSlidsNear configuration.ports p (unless_refused refusal command.port_guid state (delivered administrator configuration sender command state)).0
unless_refused_slids administrator configuration p command sender state found (Some refusal) e = refusal_slid configuration.ports p command.port_guid refusal
unless_refused_slids administrator configuration p command sender state found None e =
    delivered_slids administrator configuration p command sender state found (held_unless_refused sender command e)

sent_slids : {S : Type 0} (administrator : Administrator S) (configuration : ConfigurationState) (p : ℕ) (command : SendCommand) (sender : Option SubnetPort) (state : S)
    → port_with_guid configuration.ports command.port_guid ≡ sender → HaveSlidsNear configuration.ports p (sent administrator configuration sender command state).0
sent_slids administrator configuration p command None state found = All-nil (λ event. HasSlidNear configuration.ports p event.what)
sent_slids administrator configuration p command (Some sender) state found =
    unless_refused_slids administrator configuration p command sender state found (refusal_of sender command) refl

asking_held : (keys : List ℕ) (key : ℕ) → asking_key keys ≡ Some key → holds key keys ≡ true
asking_held keys key e = elim (cases_Bool (holds (key_of default_base true) keys)) [
  | inl full ↦ let said : Some (key_of default_base true) ≡ Some key = rw full at e in let same : key_of default_base true ≡ key = cc in ap (λ k. holds k keys) (sym same) ∙ full
  | inr not_full ↦ elim (cases_Bool (holds (key_of default_base false) keys)) [
    | inl limited ↦ let said : Some (key_of default_base false) ≡ Some key = rw (not_full, limited) at e in let same : key_of default_base false ≡ key = cc in ap (λ k. holds k keys) (sym same) ∙ limited
    | inr neither ↦ let said : None ≡ Some key = rw (not_full, neither) at e in absurd (cc)
  ]
]

conversation_slids : {S : Type 0} (administrator : Administrator S) (configuration : ConfigurationState) (p : ℕ) (own : SubnetPort) (key : Option ℕ) (mad : List ℕ) (state : S)
    → asking_key own.keys ≡ key → port_with_guid configuration.ports own.guid ≡ Some own
    → HaveSlidsNear configuration.ports p (conversation administrator configuration own key mad state).0
conversation_slids administrator configuration p own (Some key) mad state asking found =
    replied_slids configuration.ports p own key (manager_key configuration.ports key) state
    (answered_whole (administrator.answer configuration own) administrator.acknowledgements mad state) refl found (asking_held own.keys key asking)
conversation_slids administrator configuration p own None mad state asking found = refusal_slid configuration.ports p own.guid KeyNotHeld

asked_slids : {S : Type 0} (administrator : Administrator S) (configuration : ConfigurationState) (p guid : ℕ) (mad : List ℕ) (own : Option SubnetPort) (state : S)
    → port_with_guid configuration.ports guid ≡ own → HaveSlidsNear configuration.ports p (asked administrator configuration own mad state).0
asked_slids administrator configuration p guid mad None state found = All-nil (λ event. HasSlidNear configuration.ports p event.what)
asked_slids administrator configuration p guid mad (Some own) state found =
    conversation_slids administrator configuration p own (asking_key own.keys) mad state refl (found_by_own configuration.ports guid own found)

step_slids : {S : Type 0} (administrator : Administrator S) (configuration : ConfigurationState) (p : ℕ) (state : S) (command : Command)
    → HaveSlidsNear configuration.ports p (step_by administrator configuration state command).0
step_slids administrator configuration p state (Send command) =
    sent_slids administrator configuration p command (port_with_guid configuration.ports command.port_guid) state refl
step_slids administrator configuration p state (Ask command) =
    asked_slids administrator configuration p command.port_guid command.mad (port_with_guid configuration.ports command.port_guid) state refl
step_slids administrator configuration p state (Cable command) = All-nil (λ event. HasSlidNear configuration.ports p event.what)

run_slids : {S : Type 0} (administrator : Administrator S) (configuration : ConfigurationState) (p : ℕ) (commands : List Command) (state : S)
    → HaveSlidsNear configuration.ports p (events_from (step_by administrator configuration) state commands)
run_slids administrator configuration p [] state = All-nil (λ event. HasSlidNear configuration.ports p event.what)
run_slids administrator configuration p (command ∷ commands) state =
    let here = (step_by administrator configuration state command).0 in
    let after = (step_by administrator configuration state command).1 in
    All-same (λ event. HasSlidNear configuration.ports p event.what) (events_at p (here ++ events_from (step_by administrator configuration) after commands))
    (events_at p here ++ events_at p (events_from (step_by administrator configuration) after commands))
    (filter-append (λ event. event.port_guid == p) here (events_from (step_by administrator configuration) after commands))
    (All-append (λ event. HasSlidNear configuration.ports p event.what) (events_at p here) (events_at p (events_from (step_by administrator configuration) after commands))
    (step_slids administrator configuration p state command) (run_slids administrator configuration p commands after))

-- ---- whole runs
isolated_states : {S C E : Type 0} {start : S} {step : S → C → List E × S} {alike : S → S → Type 0} {is_near : C → Bool} {own_events : List E → List E}
    → Isolates start step alike is_near own_events → (commands : List C) (s t : S) → alike s t
    → alike (state_from step s commands) (state_from step t (filter is_near commands))
isolated_states law [] s t same = same
isolated_states {step = step} {is_near = is_near} law (c ∷ cs) s t same = elim (cases_Bool (is_near c)) [
  | inl near ↦ rw near (isolated_states law cs (step s c).1 (step t c).1 (law.near s t c near same).1)
  | inr far ↦ rw far (isolated_states law cs (step s c).1 t (law.far s t c far same).1)
]

pub keepers_isolate : {S V : Type 0} (configuration : ConfigurationState) (administrator : Administrator S) (is_sound : S → Bool) (sees : ℕ → S → V)
    → KeepsApart configuration administrator is_sound sees → Isolated configuration administrator is_sound sees
keepers_isolate configuration administrator is_sound sees law = record {
  steps = λ p. steps_isolate law p;
  runs = λ commands p. (
    isolated (steps_isolate law p) commands (administrator.begins configuration) (administrator.begins configuration) (steps_isolate law p).begins,
    run_slids administrator configuration p commands (administrator.begins configuration),
  );
  states = λ p commands. isolated_states (steps_isolate law p) commands (administrator.begins configuration) (administrator.begins configuration) (steps_isolate law p).begins;
}

-- ---- which port a LID names

other_lid : (lid : ℕ) (x : SubnetPort) (test : SubnetPort → Bool) (y : SubnetPort) → x.lid ≡ lid → same_lid x y ≡ false
    → ((y.lid == lid) && test y) ≡ false
other_lid lid x test y e apart = and_left (y.lid == lid) (test y) (grind (arith, nat_tests))

only_one : (test : SubnetPort → Bool) (lid : ℕ) (ports : List SubnetPort) → IsDistinct same_lid ports
    → list_any (λ port. (port.lid == lid) && test port) ports ≡ true → All (λ port. port.lid ≡ lid → test port ≡ true) ports
unfolding IsDistinct
only_one test lid [] distinct h = All-nil (λ port. port.lid ≡ lid → test port ≡ true)
only_one test lid (x ∷ xs) distinct h =
    let apart : All (λ y. same_lid x y ≡ false) xs = All-from_recursion (λ y. same_lid x y ≡ false) xs distinct.0 in
    elim (or_cases ((x.lid == lid) && test x) (list_any (λ port. (port.lid == lid) && test port) xs) h) [
      | inl here ↦ let parts : ((x.lid == lid) ≡ true) × (test x ≡ true) = and_parts (x.lid == lid) (test x) here in
          All-cons (λ port. port.lid ≡ lid → test port ≡ true) x xs (λ e. parts.1)
          (All-weaker (λ y. same_lid x y ≡ false) (λ y. y.lid ≡ lid → test y ≡ true) (λ y other e. absurd (both_ways (same_lid x y) other (eq-eqb x.lid y.lid (eqb-true x.lid lid parts.0 ∙ sym e)))) xs apart)
      | inr later ↦ All-cons (λ port. port.lid ≡ lid → test port ≡ true) x xs
          (λ e. absurd (both_ways (list_any (λ port. (port.lid == lid) && test port) xs)
          (list_any_none (λ port. (port.lid == lid) && test port) xs (All-weaker (λ y. same_lid x y ≡ false) (λ y. ((y.lid == lid) && test y) ≡ false) (λ y other. other_lid lid x test y e other) xs apart))
          later))
          (only_one test lid xs distinct.1 later)
    ]

pub the_port_of_a_lid_is_near : (ports : List SubnetPort) (p lid : ℕ) → IsDistinct same_lid ports → is_lid_near ports p lid ≡ true
    → All (λ port. port.lid ≡ lid → is_near ports p port.guid ≡ true) ports
the_port_of_a_lid_is_near ports p lid distinct h = only_one (λ port. is_near ports p port.guid) lid ports distinct h

-- what is found where the test of a LID is met is the port of that LID
source_near : (ports : List SubnetPort) (p lid : ℕ)
    → (some : List SubnetPort) → All (λ port. port.lid ≡ lid → is_near ports p port.guid ≡ true) some → list_any (λ port. port.lid == lid) some ≡ true
    → option_map_or (λ port. is_near ports p port.guid) (find (λ port. port.lid == lid) some) false ≡ true
source_near ports p lid [] each there = absurd (cc)
source_near ports p lid (port ∷ some) each there = elim (cases_Bool (port.lid == lid)) [
  | inl this ↦ rw this (All-head (λ q. q.lid ≡ lid → is_near ports p q.guid ≡ true) port some each (eqb-true port.lid lid this))
  | inr other ↦ let later : list_any (λ q. q.lid == lid) some ≡ true = rw other at there in
      rw other (source_near ports p lid some (All-tail (λ q. q.lid ≡ lid → is_near ports p q.guid ≡ true) port some each) later)
]

from_near : (ports : List SubnetPort) (p : ℕ) → IsDistinct same_lid ports → (what : Outcome) → HasSlidNear ports p what → IsFromNear ports p what
from_near ports p distinct (Received packet) h =
    let each = the_port_of_a_lid_is_near ports p packet.slid distinct h in
    let there = list_any_weaker (λ port. (port.lid == packet.slid) && is_near ports p port.guid) (λ port. port.lid == packet.slid) (λ port e. (and_parts (port.lid == packet.slid) (is_near ports p port.guid) e).0) ports h in
    source_near ports p packet.slid ports each there
from_near ports p distinct (Refused refusal) h = tt

pub slids_name_their_ports : (ports : List SubnetPort) (p : ℕ) (events : List PortEvent) → IsDistinct same_lid ports → HaveSlidsNear ports p events
    → ComesFromNear ports p events
slids_name_their_ports ports p events distinct h =
    All-weaker (λ event. HasSlidNear ports p event.what) (λ event. IsFromNear ports p event.what) (λ event e. from_near ports p distinct event.what e) (events_at p events) h

-- and where none of a LID near p is found, no port of that LID is near p
pub sources_are_read : SourcesAreRead
sources_are_read ports p packet distinct = elim (cases_Bool (is_lid_near ports p packet.slid)) [
  | inl near ↦ from_near ports p distinct (Received packet) near ∙ sym near
  | inr far ↦ none_found (find (λ port. port.lid == packet.slid) ports) refl far ∙ sym far
]
  where
    none_found : (o : Option SubnetPort) → find (λ port. port.lid == packet.slid) ports ≡ o → is_lid_near ports p packet.slid ≡ false
        → option_map_or (λ port. is_near ports p port.guid) o false ≡ false
    none_found None found far = refl
    none_found (Some port) found far = by (is_near ports p port.guid) refl
      where
        by : (b : Bool) → is_near ports p port.guid ≡ b → b ≡ false
        by false near = refl
        by true near =
            let lid = found_passes (λ q. q.lid == packet.slid) ports port found in
            let there = found_in (λ q. q.lid == packet.slid) (λ q. (q.lid == packet.slid) && is_near ports p q.guid) ports port found
            (and_from (port.lid == packet.slid) (is_near ports p port.guid) lid near) in
            absurd (both_ways (is_lid_near ports p packet.slid) far there)
