-- Each form of a line of a report, once as a whole text beside the parts that make it.
use Rattle.std.specs.Prelude.{ℕ, ◌≡◌, List, [], ◌∷◌, codes}
use Rattle.data_packet.specs.declared.packet.Packet.{Packet}
use Rattle.data_packet.specs.declared.refusal.Refusal.{Refusal}
use Rattle.data_packet.specs.declared.refusal.Refusal.TheVariants.{KeyNotHeld, PortNotActive, QpZero, ReservedDlid}
use Rattle.partition_reports.specs.WholeLines.{a_port, ended}
use Rattle.subnet_model.specs.declared.event.Outcome.TheVariants.{Received, Refused}
use Rattle.subnet_core.specs.EventLines.{line_text}

-- what that port receives: four bytes, the last of which is 0
abbrev pub a_packet : Packet
a_packet = record { slid = 5; dlid = 4; p_key = 0xffff; destination_qp = 0x01f00d; payload = 0xbe ∷ 0x0e ∷ 0xf0 ∷ 0 ∷ [] }

abbrev pub refused_text : Refusal → List ℕ
refused_text refusal = line_text (a_port ∷ []) (record { port_guid = 0x112; what = Refused refusal })

pub record ReportLinesAreWhole : Type 0 where
  pub received : line_text (a_port ∷ []) (record { port_guid = 0x112; what = Received a_packet })
      ≡ ended (codes "h1/2 recv 0x0005 0x0004 0xffff 0x01f00d 4:be0ef0")
  pub empty : line_text (a_port ∷ []) (record { port_guid = 0x112; what = Received (record a_packet { payload = [] }) })
      ≡ ended (codes "h1/2 recv 0x0005 0x0004 0xffff 0x01f00d 0:")
  pub not_active : refused_text PortNotActive ≡ ended (codes "h1/2 refused AR4")
  pub not_held : refused_text KeyNotHeld ≡ ended (codes "h1/2 refused AR1")
  pub qp_zero : refused_text QpZero ≡ ended (codes "h1/2 refused AR2")
  pub reserved : refused_text ReservedDlid ≡ ended (codes "h1/2 refused AR3")
