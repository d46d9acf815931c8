-- What a port receives depends only on the ports that share a partition with it.
use Rattle.std.specs.Prelude.{ℕ, ◌≡◌, ◌==◌, Bool, true, false, List, [], ◌++◌, Some}
use Rattle.subnet_model.specs.declared.subnet_port.SubnetPort.{SubnetPort}
use Rattle.subnet_model.specs.declared.command.Command.{Command}
use Rattle.subnet_model.specs.declared.event.PortEvent.{PortEvent}
use Rattle.subnet_model.specs.Administrator.{Administrator}
use Rattle.subnet_model.specs.Configuration.{ConfigurationState}
use Rattle.subnet_model.specs.Delivery.{port_with_guid}
use Rattle.subnet_model.specs.Near.{is_near}
use Rattle.subnet_model.specs.Report.{answered_in_turn, report_by}
use Rattle.subnet_model.specs.Restriction.{commands_of, events_at}
use Rattle.subnet_model.specs.Source.{HaveSlidsNear}

-- two states are alike to the port of this GUID if both are sound and it sees the same of them
pub record Alike {S V : Type 0} (is_sound : S → Bool) (sees : ℕ → S → V) (p : ℕ) (s t : S) : Type 0 where
  pub left_sound : is_sound s ≡ true
  pub right_sound : is_sound t ≡ true
  pub same : sees p s ≡ sees p t

-- the port is listed, the first of its GUID
abbrev pub IsOwn : ConfigurationState → SubnetPort → Type 0
IsOwn configuration own = port_with_guid configuration.ports own.guid ≡ Some own

module _ {S V : Type 0} (configuration : ConfigurationState) (administrator : Administrator S) (is_sound : S → Bool) (sees : ℕ → S → V) where
  -- the replies to a MAD of a port, and the state that it leaves
  abbrev pub reaction : SubnetPort → List ℕ → S → List (List ℕ) × S
  reaction own mad s = administrator.answer configuration own mad s

  -- the state at the start is sound, and so is each that a MAD leaves
  pub record StaysSound : Type 0 where
    pub begins : is_sound (administrator.begins configuration) ≡ true
    pub stays : (own : SubnetPort) (mad : List ℕ) (s : S) → is_sound s ≡ true → is_sound (reaction own mad s).1 ≡ true

  -- what a port sees does not change when a port far from it sends a MAD, nor when another port, near or not, sends its ACKs
  pub record IsUnseen : Type 0 where
    pub sent : (p : ℕ) (own : SubnetPort) (mad : List ℕ) (s : S) → is_near configuration.ports p own.guid ≡ false
        → is_sound s ≡ true → sees p (reaction own mad s).1 ≡ sees p s
    pub acknowledged : (p : ℕ) (own : SubnetPort) (mads : List (List ℕ)) (s : S) → (own.guid == p) ≡ false
        → is_sound s ≡ true → sees p (answered_in_turn (reaction own) (administrator.acknowledgements mads) s).1 ≡ sees p s

  -- a port that sees the same in two states gets the same replies, sees the same after a MAD of any port, and receives what is
  -- sent to the same groups
  pub record IsServedAlike : Type 0 where
    pub replies : (own : SubnetPort) (mad : List ℕ) (s t : S) → IsOwn configuration own → Alike is_sound sees own.guid s t
        → (reaction own mad s).0 ≡ (reaction own mad t).0
    pub after : (p : ℕ) (own : SubnetPort) (mad : List ℕ) (s t : S) → IsOwn configuration own → Alike is_sound sees p s t
        → sees p (reaction own mad s).1 ≡ sees p (reaction own mad t).1
    pub groups : (p mlid : ℕ) (s t : S) → Alike is_sound sees p s t → administrator.receives s mlid p ≡ administrator.receives t mlid p

  -- an SA keeps ports apart
  pub record KeepsApart : Type 0 where
    pub sound : StaysSound
    pub unseen : IsUnseen
    pub alike : IsServedAlike

-- A step keeps a port to itself, where `alike` says which states are alike to that port. A command of a port far from it brings it
-- no event, and leaves a state that is alike to each that was alike before. A command of a port near it brings it the same events
-- in states that are alike, and leaves states that are alike. The start is alike to itself. Of two lists of events together its own
-- events are those of the first and then those of the second.
pub record Isolates {S C E : Type 0} (start : S) (step : S → C → List E × S) (alike : S → S → Type 0)
    (is_near : C → Bool) (own_events : List E → List E) : Type 0 where
  pub far : (s t : S) (c : C) → is_near c ≡ false → alike s t
      → (own_events (step s c).0 ≡ []) × alike (step s c).1 t
  pub near : (s t : S) (c : C) → is_near c ≡ true → alike s t
      → (own_events (step s c).0 ≡ own_events (step t c).0) × alike (step s c).1 (step t c).1
  pub begins : alike start start
  pub joined : (xs ys : List E) → own_events (xs ++ ys) ≡ own_events xs ++ own_events ys
  pub nothing : own_events [] ≡ []

-- the events at p are those that the commands of the ports near p alone would bring it
abbrev pub DependsOnNear : {S : Type 0} → Administrator S → ConfigurationState → ℕ → List Command → List PortEvent → Type 0
DependsOnNear administrator configuration p commands events =
    events_at p events ≡ events_at p (report_by administrator configuration (commands_of (is_near configuration.ports p) commands))

-- so it is at every port, and what each receives has the SLID of a port near it
abbrev pub IsIsolated : {S : Type 0} → Administrator S → ConfigurationState → List Command → List PortEvent → Type 0
IsIsolated administrator configuration commands events =
    (p : ℕ) → DependsOnNear administrator configuration p commands events × HaveSlidsNear configuration.ports p events
