-- Where a packet leaves, part by part.
use Rattle.std.proofs.Common.{◌≡◌, ◌≢◌, ℕ, ◌==◌, ◌&&◌, refl, subst, Bool, true, false, not, if◌then◌else◌, List, Option, Some, None, slice_get}
use Rattle.std.specs.Option.{option_and_then, option_map_or}
use Rattle.std.proofs.lemmas.Bool.{and_parts, eq-eqb, eqb-true, le-leb, leb-true, not-true, false_from_ne_true}
use Rattle.data_packet.specs.declared.packet.Packet.{Packet}
use Rattle.fabric_parts.specs.Lid.{is_multicast}
use Rattle.switch_model.specs.Forwarding.{IsSentOut, leaves_by, passes_outbound}
use Rattle.switch_model.specs.Sending.{sends_out}
use Rattle.switch_model.specs.Laws.{UnicastGoesByEntries}
use Rattle.switch_model.specs.SwitchState.{SwitchState}
use Rattle.switch_model.specs.declared.switch_port.SwitchPort.{SwitchPort}

-- ---- what is sent out passes each test
abbrev Parts : List SwitchPort → (p_key out : ℕ) (inbound within : Bool) (entry : Option ℕ) → Type 0
Parts ports p_key out inbound within entry =
    (inbound ≡ true) × (within ≡ true) × (entry ≡ Some out) × ((not (out == 0) && passes_outbound ports out p_key) ≡ true)

by_port : (ports : List SwitchPort) (p_key port out : ℕ) (b : Bool) → (not (port == 0) && passes_outbound ports port p_key) ≡ b
    → option_map_or (λ one. one == out) (if b then Some port else None) false ≡ true → Parts ports p_key out true true (Some port)
by_port ports p_key port out true is h =
    subst (λ one. Parts ports p_key one true true (Some port)) (eqb-true port out h) (refl, refl, refl, is)
by_port ports p_key port out false is h = absurd (cc)

parts : (ports : List SwitchPort) (p_key out : ℕ) (inbound within : Bool) (entry : Option ℕ)
    → option_map_or (λ one. one == out)
    (if inbound then option_and_then (leaves_by ports p_key) (if within then entry else None) else None) false ≡ true
    → Parts ports p_key out inbound within entry
parts ports p_key out false within entry h = absurd (cc)
parts ports p_key out true false entry h = absurd (cc)
parts ports p_key out true true None h = absurd (cc)
parts ports p_key out true true (Some port) h =
    by_port ports p_key port out (not (port == 0) && passes_outbound ports port p_key) refl h

not_0 : (out : ℕ) → (out == 0) ≡ false → out ≢ 0
not_0 out other same = let is = eq-eqb out 0 same in cc

is_sent : (held : SwitchState) (in_port : ℕ) (packet : Packet) (out : ℕ) → is_multicast packet.dlid ≡ false → sends_out held in_port packet out ≡ true
    → IsSentOut held in_port packet out
is_sent held in_port packet out unicast h =
    let p = parts held.ports packet.p_key out _ _ (slice_get held.linear packet.dlid) (rw unicast at h) in
    let last = and_parts (not (out == 0)) (passes_outbound held.ports out packet.p_key) p.3 in
    record {
      inbound = p.0;
      within = leb-true packet.dlid held.info.linear_fdb_top p.1;
      entry = p.2;
      outside = not_0 out (not-true (out == 0) last.0);
      outbound = last.1;
    }

-- ---- and what passes each test is sent out
other_than_0 : (out : ℕ) → out ≢ 0 → (out == 0) ≡ false
other_than_0 out other = false_from_ne_true (out == 0) (λ same. other (eqb-true out 0 same))

sent : (held : SwitchState) (in_port : ℕ) (packet : Packet) (out : ℕ) → is_multicast packet.dlid ≡ false → IsSentOut held in_port packet out
    → sends_out held in_port packet out ≡ true
sent held in_port packet out unicast is =
    rw (unicast, is.inbound, le-leb packet.dlid held.info.linear_fdb_top is.within, is.entry, other_than_0 out is.outside, is.outbound)
    (eq-eqb out out refl)

pub goes_by_entries : UnicastGoesByEntries
goes_by_entries held in_port packet out unicast = (is_sent held in_port packet out unicast, sent held in_port packet out unicast)
