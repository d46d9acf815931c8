-- That the tests of code for equal commands and events report equal ones.
use Rattle.std.proofs.Common.{ℕ, ◌≡◌, ◌==◌, ◌&&◌, Bool, true, false, List, [], ◌∷◌, map, filter, if◌then◌else◌, Decides, ap, refl}
use Rattle.std.proofs.lemmas.Bool.{and_from, and_parts}
use Rattle.std.proofs.lemmas.Bool.Decides.{Decides-eqb}
use Rattle.std.proofs.lemmas.Slice.Eq.{bytes_eq-Decides}
use Rattle.std.specs.Cmp.{booleans_Decides}
use Rattle.std.specs.Cmp.Lexicographic.{pointwise}
use Rattle.data_packet.specs.contracts.packet.PacketPartialEq.TheImpl as packet_eq
use Rattle.data_packet.specs.contracts.refusal.RefusalPartialEq.TheImpl as refusal_eq
use Rattle.data_packet.specs.declared.packet.Packet.{Packet}
use Rattle.data_packet.specs.declared.refusal.Refusal.{Refusal}
use Rattle.data_packet.specs.declared.refusal.Refusal.TheVariants.{KeyNotHeld, PortNotActive, QpZero, ReservedDlid}
use Rattle.subnet_model.specs.declared.event.Outcome.{Outcome}
use Rattle.subnet_model.specs.declared.event.Outcome.TheVariants.{Received as RecvOutcome, Refused as RefusedOutcome}
use Rattle.subnet_model.specs.declared.event.PortEvent.{PortEvent}
use Rattle.subnet_model.specs.Restriction.{events_at}
use Rattle.fabric_parts.specs.contracts.cable.CablePartialEq.TheImpl as cable_eq
use Rattle.fabric_parts.specs.contracts.cable.PortRefPartialEq.TheImpl as port_eq
use Rattle.fabric_parts.specs.declared.cable.Cable.{Cable}
use Rattle.fabric_parts.specs.declared.cable.PortRef.{PortRef}
use Rattle.subnet_model.specs.contracts.command.CableCommandPartialEq.TheImpl as cable_command_eq
use Rattle.subnet_model.specs.contracts.command.AskCommandPartialEq.TheImpl as ask_eq
use Rattle.subnet_model.specs.contracts.command.CommandPartialEq.TheImpl as command_eq
use Rattle.subnet_model.specs.contracts.command.SendCommandPartialEq.TheImpl as send_eq
use Rattle.subnet_model.specs.declared.command.AskCommand.{AskCommand}
use Rattle.subnet_model.specs.declared.command.Command.{Command}
use Rattle.subnet_model.specs.declared.command.CableCommand.{CableCommand}
use Rattle.subnet_model.specs.declared.command.Command.TheVariants as command
use Rattle.subnet_model.specs.declared.command.Command.TheVariants.{Ask, Send}
use Rattle.subnet_model.specs.declared.command.SendCommand.{SendCommand}
use Rattle.subnet_fabric.specs.Sends.{event_of}
use Rattle.subnet_fabric.specs.contracts.event.EventPartialEq.TheImpl as event_eq
use Rattle.subnet_fabric.specs.declared.event.Event.{Event}
use Rattle.subnet_fabric.specs.declared.event.Event.TheVariants.{Received, Refused}

both_decide : {A B : Type 0} (a b : Bool) → Decides a A → Decides b B → Decides (a && b) (A × B)
both_decide a b one other = (
  λ e. let parts = and_parts a b e in (one.0 parts.0, other.0 parts.1),
  λ both. and_from a b (one.1 both.0) (other.1 both.1),
)

decides_as : {A B : Type 0} (a : Bool) → Decides a A → (A → B) → (B → A) → Decides a B
decides_as a one f g = (λ e. f (one.0 e), λ b. one.1 (g b))

-- ---- commands
send_decides : (a b : SendCommand) → Decides (send_eq.eq-value.it a b) (a ≡ b)
send_decides a b =
    decides_as (send_eq.eq-value.it a b)
    (both_decide _ _ (Decides-eqb a.port_guid b.port_guid)
    (both_decide _ _ (Decides-eqb a.dlid b.dlid)
    (both_decide _ _ (Decides-eqb a.p_key b.p_key)
    (both_decide _ _ (Decides-eqb a.destination_qp b.destination_qp) (bytes_eq-Decides a.payload b.payload)))))
    (λ same. λ i. record { port_guid = same.0 i; dlid = same.1.0 i; p_key = same.1.1.0 i; destination_qp = same.1.1.1.0 i; payload = same.1.1.1.1 i })
    (λ same. (
      ap (λ (one : SendCommand). one.port_guid) same,
      (
        ap (λ (one : SendCommand). one.dlid) same,
        (
          ap (λ (one : SendCommand). one.p_key) same,
          (ap (λ (one : SendCommand). one.destination_qp) same, ap (λ (one : SendCommand). one.payload) same),
        ),
      ),
    ))

ask_decides : (a b : AskCommand) → Decides (ask_eq.eq-value.it a b) (a ≡ b)
ask_decides a b =
    decides_as (ask_eq.eq-value.it a b) (both_decide _ _ (Decides-eqb a.port_guid b.port_guid) (bytes_eq-Decides a.mad b.mad))
    (λ same. λ i. record { port_guid = same.0 i; mad = same.1 i })
    (λ same. (ap (λ (one : AskCommand). one.port_guid) same, ap (λ (one : AskCommand). one.mad) same))

port_decides : (a b : PortRef) → Decides (port_eq.eq-value.it a b) (a ≡ b)
port_decides a b =
    decides_as (port_eq.eq-value.it a b) (both_decide _ _ (Decides-eqb a.node b.node) (Decides-eqb a.port b.port))
    (λ same. λ i. record { node = same.0 i; port = same.1 i })
    (λ same. (ap (λ (one : PortRef). one.node) same, ap (λ (one : PortRef). one.port) same))

ends_decide : (a b : Cable) → Decides (cable_eq.eq-value.it a b) (a ≡ b)
ends_decide a b =
    decides_as (cable_eq.eq-value.it a b) (both_decide _ _ (port_decides a.first b.first) (port_decides a.second b.second))
    (λ same. λ i. record { first = same.0 i; second = same.1 i })
    (λ same. (ap (λ (one : Cable). one.first) same, ap (λ (one : Cable). one.second) same))

cable_decides : (a b : CableCommand) → Decides (cable_command_eq.eq-value.it a b) (a ≡ b)
cable_decides a b =
    decides_as (cable_command_eq.eq-value.it a b) (both_decide _ _ (ends_decide a.cable b.cable) (booleans_Decides a.up b.up))
    (λ same. λ i. record { cable = same.0 i; up = same.1 i })
    (λ same. (ap (λ (one : CableCommand). one.cable) same, ap (λ (one : CableCommand). one.up) same))

pub command_decides : (a b : Command) → Decides (command_eq.eq-value.it a b) (a ≡ b)
command_decides (Send a) (Send b) =
    decides_as (send_eq.eq-value.it a b) (send_decides a b) (λ same. ap Send same) (λ same. cc)
command_decides (Ask a) (Ask b) =
    decides_as (ask_eq.eq-value.it a b) (ask_decides a b) (λ same. ap Ask same) (λ same. cc)
command_decides (command.Cable a) (command.Cable b) =
    decides_as (cable_command_eq.eq-value.it a b) (cable_decides a b) (λ same. ap command.Cable same) (λ same. cc)
command_decides (Send a) (Ask b) = (λ e. absurd cc, λ same. absurd cc)
command_decides (Send a) (command.Cable b) = (λ e. absurd cc, λ same. absurd cc)
command_decides (Ask a) (Send b) = (λ e. absurd cc, λ same. absurd cc)
command_decides (Ask a) (command.Cable b) = (λ e. absurd cc, λ same. absurd cc)
command_decides (command.Cable a) (Send b) = (λ e. absurd cc, λ same. absurd cc)
command_decides (command.Cable a) (Ask b) = (λ e. absurd cc, λ same. absurd cc)

-- ---- events
packet_decides : (a b : Packet) → Decides (packet_eq.eq-value.it a b) (a ≡ b)
packet_decides a b =
    decides_as (packet_eq.eq-value.it a b)
    (both_decide _ _ (Decides-eqb a.slid b.slid)
    (both_decide _ _ (Decides-eqb a.dlid b.dlid)
    (both_decide _ _ (Decides-eqb a.p_key b.p_key)
    (both_decide _ _ (Decides-eqb a.destination_qp b.destination_qp) (bytes_eq-Decides a.payload b.payload)))))
    (λ same. λ i. record { slid = same.0 i; dlid = same.1.0 i; p_key = same.1.1.0 i; destination_qp = same.1.1.1.0 i; payload = same.1.1.1.1 i })
    (λ same. (
      ap (λ (one : Packet). one.slid) same,
      (
        ap (λ (one : Packet). one.dlid) same,
        (
          ap (λ (one : Packet). one.p_key) same,
          (ap (λ (one : Packet). one.destination_qp) same, ap (λ (one : Packet). one.payload) same),
        ),
      ),
    ))

refusal_decides : (a b : Refusal) → Decides (refusal_eq.eq-value.it a b) (a ≡ b)
refusal_decides KeyNotHeld KeyNotHeld = (λ e. refl, λ same. refl)
refusal_decides KeyNotHeld PortNotActive = (λ e. absurd cc, λ same. absurd cc)
refusal_decides KeyNotHeld QpZero = (λ e. absurd cc, λ same. absurd cc)
refusal_decides KeyNotHeld ReservedDlid = (λ e. absurd cc, λ same. absurd cc)
refusal_decides PortNotActive KeyNotHeld = (λ e. absurd cc, λ same. absurd cc)
refusal_decides PortNotActive PortNotActive = (λ e. refl, λ same. refl)
refusal_decides PortNotActive QpZero = (λ e. absurd cc, λ same. absurd cc)
refusal_decides PortNotActive ReservedDlid = (λ e. absurd cc, λ same. absurd cc)
refusal_decides QpZero KeyNotHeld = (λ e. absurd cc, λ same. absurd cc)
refusal_decides QpZero PortNotActive = (λ e. absurd cc, λ same. absurd cc)
refusal_decides QpZero QpZero = (λ e. refl, λ same. refl)
refusal_decides QpZero ReservedDlid = (λ e. absurd cc, λ same. absurd cc)
refusal_decides ReservedDlid KeyNotHeld = (λ e. absurd cc, λ same. absurd cc)
refusal_decides ReservedDlid PortNotActive = (λ e. absurd cc, λ same. absurd cc)
refusal_decides ReservedDlid QpZero = (λ e. absurd cc, λ same. absurd cc)
refusal_decides ReservedDlid ReservedDlid = (λ e. refl, λ same. refl)

-- what is reported of an event says all of it
abbrev packet_in : Outcome → Packet → Packet
packet_in (RecvOutcome packet) other = packet
packet_in (RefusedOutcome refusal) other = other

abbrev refusal_in : Outcome → Refusal → Refusal
refusal_in (RecvOutcome packet) other = other
refusal_in (RefusedOutcome refusal) other = refusal

pub event_decides : (a b : Event) → Decides (event_eq.eq-value.it a b) (event_of a ≡ event_of b)
event_decides (Received a) (Received b) =
    decides_as (event_eq.eq-value.it (Received a) (Received b)) (both_decide _ _ (Decides-eqb a.port b.port) (packet_decides a.packet b.packet))
    (λ same. λ i. record { port_guid = same.0 i; what = RecvOutcome (same.1 i) })
    (λ same. (ap (λ (one : PortEvent). one.port_guid) same, ap (λ (one : PortEvent). packet_in one.what a.packet) same))
event_decides (Refused at a) (Refused to b) =
    decides_as (event_eq.eq-value.it (Refused at a) (Refused to b)) (both_decide _ _ (Decides-eqb at to) (refusal_decides a b))
    (λ same. λ i. record { port_guid = same.0 i; what = RefusedOutcome (same.1 i) })
    (λ same. (ap (λ (one : PortEvent). one.port_guid) same, ap (λ (one : PortEvent). refusal_in one.what a) same))
event_decides (Received a) (Refused to b) =
    (λ e. absurd cc, λ same. let what : RecvOutcome a.packet ≡ RefusedOutcome b = ap (λ (one : PortEvent). one.what) same in absurd cc)
event_decides (Refused at a) (Received b) =
    (λ e. absurd cc, λ same. let what : RefusedOutcome a ≡ RecvOutcome b.packet = ap (λ (one : PortEvent). one.what) same in absurd cc)

-- lists of them
pub events_decide : (events others : List Event) (r : Bool) → r ≡ pointwise event_eq.eq-value.it events others
    → Decides r (map event_of events ≡ map event_of others)
events_decide [] [] r is = (λ e. refl, λ same. is)
events_decide [] (other ∷ others) r is = (λ e. absurd cc, λ same. absurd cc)
events_decide (event ∷ events) [] r is = (λ e. absurd cc, λ same. absurd cc)
events_decide (event ∷ events) (other ∷ others) r is =
    let one = event_decides event other in
    let rest = events_decide events others (pointwise event_eq.eq-value.it events others) refl in
    rw is
    (decides_as (event_eq.eq-value.it event other && pointwise event_eq.eq-value.it events others) (both_decide _ _ one rest)
    (λ same. λ i. same.0 i ∷ same.1 i)
    (λ same. (first_same _ _ _ _ same, rest_same _ _ _ _ same)))
  where
    first_same : (a b : PortEvent) (xs ys : List PortEvent) → a ∷ xs ≡ b ∷ ys → a ≡ b
    first_same a b xs ys same = cc

    rest_same : (a b : PortEvent) (xs ys : List PortEvent) → a ∷ xs ≡ b ∷ ys → xs ≡ ys
    rest_same a b xs ys same = cc

-- those at one port
pub events_filtered : (p : ℕ) (events : List Event) → map event_of (filter (λ event. (event_of event).port_guid == p) events) ≡ events_at p (map event_of events)
events_filtered p [] = refl
events_filtered p (event ∷ events) = by ((event_of event).port_guid == p) (events_filtered p events)
  where
    by : (b : Bool)
        → map event_of (filter (λ one. (event_of one).port_guid == p) events) ≡ events_at p (map event_of events)
        → map event_of (if b then event ∷ filter (λ one. (event_of one).port_guid == p) events else filter (λ one. (event_of one).port_guid == p) events)
        ≡ (if b then event_of event ∷ events_at p (map event_of events) else events_at p (map event_of events))
    by true later = ap (λ (xs : List PortEvent). event_of event ∷ xs) later
    by false later = later
