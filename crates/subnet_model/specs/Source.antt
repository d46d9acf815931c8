-- Where what a port receives comes from.
use Rattle.std.specs.Prelude.{ℕ, ◌≡◌, Bool, false, ◌==◌, ◌&&◌, true, List, All, Option, find}
use Rattle.std.specs.List.{list_any}
use Rattle.std.specs.Option.{option_map_or}
use Rattle.data_packet.specs.declared.packet.Packet.{Packet}
use Rattle.subnet_model.specs.declared.subnet_port.SubnetPort.{SubnetPort}
use Rattle.subnet_model.specs.declared.event.PortEvent.{PortEvent}
use Rattle.subnet_model.specs.declared.event.Outcome.{Outcome}
use Rattle.subnet_model.specs.declared.event.Outcome.TheVariants.{Received, Refused}
use Rattle.subnet_model.specs.Near.{is_near}
use Rattle.subnet_model.specs.Restriction.{events_at}

-- this LID is that of a port near p
abbrev pub is_lid_near : List SubnetPort → ℕ → ℕ → Bool
is_lid_near ports p lid = list_any (λ port. (port.lid == lid) && is_near ports p port.guid) ports

-- what p receives has as its SLID the LID of a port near p
abbrev pub HasSlidNear : List SubnetPort → ℕ → Outcome → Type 0
HasSlidNear ports p (Received packet) = is_lid_near ports p packet.slid ≡ true
HasSlidNear ports p (Refused refusal) = Unit {0}

-- so it is with each packet that p receives
abbrev pub HaveSlidsNear : List SubnetPort → ℕ → List PortEvent → Type 0
HaveSlidsNear ports p events = All (λ event. HasSlidNear ports p event.what) (events_at p events)

-- ---- if no two ports have one LID, a SLID names one port
abbrev pub same_lid : SubnetPort → SubnetPort → Bool
same_lid a b = a.lid == b.lid

-- the source of a packet, the port of its SLID
abbrev pub source_of : List SubnetPort → Packet → Option SubnetPort
source_of ports packet = find (λ port. port.lid == packet.slid) ports

-- there is a source, and it is near p
abbrev pub is_from_near : List SubnetPort → ℕ → Packet → Bool
is_from_near ports p packet = option_map_or (λ port. is_near ports p port.guid) (source_of ports packet) false

abbrev pub IsFromNear : List SubnetPort → ℕ → Outcome → Type 0
IsFromNear ports p (Received packet) = is_from_near ports p packet ≡ true
IsFromNear ports p (Refused refusal) = Unit {0}

-- each packet that p receives comes from a port near p
abbrev pub ComesFromNear : List SubnetPort → ℕ → List PortEvent → Type 0
ComesFromNear ports p events = All (λ event. IsFromNear ports p event.what) (events_at p events)
