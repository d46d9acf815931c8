-- What a port acknowledges is seen by no other.
use Rattle.std.proofs.Common.{ℕ, zero, suc, ◌+◌, ◌^◌, ◌<◌, ◌==◌, Bool, true, false, bit_and, if◌then◌else◌, List, [], ◌∷◌, map}
use Rattle.std.proofs.Common.{◌≡◌, ◌∙◌, refl, ap, arith}
use Rattle.std.specs.List.{range_with_len}
use Rattle.mad_layout.proofs.LayoutLemmas.{field_narrow}
use Rattle.mad_layout.specs.Bits.{field}
use Rattle.mad_layout.specs.Layout.{Fits}
use Rattle.mad_layout.specs.MadHeader.{mad_header, header_in}
use Rattle.mad_layout.specs.declared.rmpp_header.RmppHeader.{RmppHeader}
use Rattle.rmpp_core.proofs.ReadBackLemmas.{rmpp_held}
use Rattle.mad_layout.specs.RmppHeader.{rmpp_in}
use Rattle.subnet_model.specs.declared.subnet_port.SubnetPort.{SubnetPort}
use Rattle.subnet_model.specs.Configuration.{ConfigurationState}
use Rattle.subnet_model.specs.Report.{answered_in_turn}
use Rattle.sa_replies.proofs.SightLemmas.{transfers_are_unseen}
use Rattle.sa_replies.specs.Answer.{Administration, answer}
use Rattle.sa_model.specs.ServiceSight.{services_near}
use Rattle.sa_replies.specs.Laws.{SeesAlike}
use Rattle.sa_replies.specs.Request.{request_in}
use Rattle.sa_replies.proofs.AckReadLemmas.{ack_held}
use Rattle.sa_replies.specs.Asking.{ack_header, ack_mad, ack_rmpp, ack_sa, acknowledgements, is_first_segment, segments_reported}

-- ---- an ACK is of a transfer
header_narrow : (mad : List ℕ) → Fits (mad_header (header_in mad))
header_narrow mad =
    (field_narrow mad 0 8, (field_narrow mad 8 8, (field_narrow mad 16 8, (field_narrow mad 24 8, (field_narrow mad 32 16, (field_narrow mad 48 16, (field_narrow mad 64 64, (field_narrow mad 128 16, (field_narrow mad 160 32, tt)))))))))

pub is_active : (mad : List ℕ) (count number : ℕ) → number + 1 < 2 ^ 32
    → (bit_and (request_in (ack_mad (header_in mad) count number)).rmpp.flags 1 == 1) ≡ true
unfolding request_in
is_active mad count number low =
    let header = header_in mad in
    let ack = ack_mad header count number in
    let rmpp : rmpp_in ack ≡ ack_rmpp count number =
    rmpp_held ack (ack_header header) (ack_rmpp count number) ack_sa (ack_held header count number (header_narrow mad) low) in
    ap (λ (r : RmppHeader). bit_and r.flags 1 == 1) rmpp

-- ---- so another sees the same after as many as a table has segments
through : (ports : List SubnetPort) (p : ℕ) (a s t : Administration) → SeesAlike services_near ports p a s → SeesAlike services_near ports p s t → SeesAlike services_near ports p a t
through ports p a s t x y = record {
  remembered = record { groups = x.remembered.groups ∙ y.remembered.groups; services = x.remembered.services ∙ y.remembered.services };
  own_table = x.own_table ∙ y.own_table;
}

nothing_changed : (ports : List SubnetPort) (p : ℕ) (s : Administration) → SeesAlike services_near ports p s s
nothing_changed ports p s = record { remembered = record { groups = refl; services = refl }; own_table = refl }

acks_unseen : (configuration : ConfigurationState) (p : ℕ) (own : SubnetPort) (mad : List ℕ) (count first left : ℕ) (s : Administration) → (own.guid == p) ≡ false
    → first + left < 2 ^ 32
    → SeesAlike services_near configuration.ports p
    (answered_in_turn (λ sent state. answer configuration.ports own sent state) (map (ack_mad (header_in mad) count) (range_with_len first left)) s).1 s
acks_unseen configuration p own mad count first zero s other low = nothing_changed configuration.ports p s
acks_unseen configuration p own mad count first (suc left) s other low =
    let after = (answer configuration.ports own (ack_mad (header_in mad) count first) s).1 in
    through configuration.ports p
    (answered_in_turn (λ sent state. answer configuration.ports own sent state) (map (ack_mad (header_in mad) count) (range_with_len (first + 1) left)) after).1 after s
    (acks_unseen configuration p own mad count (first + 1) left after other (omega (arith, low)))
    (transfers_are_unseen configuration.ports p own (ack_mad (header_in mad) count first) s other (is_active mad count first (omega (arith, low))))

pub few : (length : ℕ) → length < 2 ^ 32 → 1 + segments_reported length < 2 ^ 32
few length low = omega (arith, low)

pub acknowledged_unseen : (configuration : ConfigurationState) (p : ℕ) (own : SubnetPort) (mads : List (List ℕ)) (s : Administration) → (own.guid == p) ≡ false
    → SeesAlike services_near configuration.ports p (answered_in_turn (λ sent state. answer configuration.ports own sent state) (acknowledgements mads) s).1 s
acknowledged_unseen configuration p own [] s other = nothing_changed configuration.ports p s
acknowledged_unseen configuration p own (mad ∷ mads) s other = by (is_first_segment (rmpp_in mad))
  where
    count : ℕ
    count = segments_reported (field mad 256 32)

    by : (reported : Bool)
        → SeesAlike services_near configuration.ports p
        (answered_in_turn (λ sent state. answer configuration.ports own sent state) (if reported then map (ack_mad (header_in mad) count) (range_with_len 1 count) else []) s).1 s
    by true = acks_unseen configuration p own mad count 1 count s other (few (field mad 256 32) (field_narrow mad 256 32))
    by false = nothing_changed configuration.ports p s
