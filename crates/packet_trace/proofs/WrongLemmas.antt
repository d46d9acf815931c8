-- What a wrong rule reports of a packet from one port to another in the fabric of two switches.
use Rattle.std.proofs.Common.{◌≡◌, ◌==◌, ap, refl, [], ◌∷◌}
use Rattle.std.specs.List.{Contains}
use Rattle.std.proofs.lemmas.Bool.{false≢true}
use Rattle.data_packet.specs.declared.packet.Packet.{Packet}
use Rattle.fabric_parts.specs.Cable.{port}
use Rattle.packet_trace.proofs.DeliveryLemmas.{in_one}
use Rattle.packet_trace.specs.Trace.{step, turn_at}
use Rattle.packet_trace.specs.WrongRules.{EndsAreNotAll, ends_alone}
use Rattle.packet_trace.specs.declared.turn.Step.{Step}
use Rattle.packet_trace.specs.declared.turn.Turn.{Turn}
use Rattle.packet_trace.specs.declared.turn.Turn.TheVariants.{Accepts}
use Rattle.smp_wire.specs.DeliveryExamples.{two_switches}
use Rattle.switch_model.specs.Fate.{fate}

-- from h0 on switch A, at place 0, to h2, at place 4, on switch B
abbrev a_packet : Packet
a_packet = record { slid = 1; dlid = 5; p_key = 0xffff; destination_qp = 2; payload = [] }

last_step : ends_alone two_switches a_packet (port 0 1) ≡ step (port 4 1) Accepts ∷ []
unfolding turn_at fate
last_step = refl

left_out : (turn : Turn) → Contains (step (port 4 1) Accepts ∷ []) (step (port 0 1) turn) → ⊥
left_out turn there =
    let same = in_one (step (port 4 1) Accepts) (step (port 0 1) turn) there in
    false≢true (ap (λ (one : Step). one.at.node == 4) same)

pub ends_are_not_all : EndsAreNotAll
ends_are_not_all law =
    let reported = (law two_switches a_packet (port 0 1) (port 0 1)).1 ([], refl) in
    left_out reported.0 (rw last_step at reported.1)
