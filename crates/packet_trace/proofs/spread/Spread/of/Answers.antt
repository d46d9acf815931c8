use Rattle.std.proofs.Common.{◌≡◌, ◌+◌, ◌-◌, ◌*◌, ◌∙◌, List, ap, arith, length, slice_get, suc, sym}
use Rattle.fabric_parts.specs.declared.cable.PortRef.{PortRef}
use Rattle.packet_trace.proofs.SpreadLemmas.{is_whole, with_next}
use Rattle.packet_trace.specs.Spread.{SpreadState}
use Rattle.packet_trace.proofs.spread.Spread.of.Goals as goal

pub returns-in_default : goal.returns-in_default
returns-in_default c =
    let known = ap (λ (s : SpreadState). s.known) c.spread.view_is in
    let none = sym c.get_index.ensures.key ∙ sym c.copied.ensures ∙ c.in_default.is in
    is_whole c.args.fabric.now c.args.packet.now _ c.loop-place.spread c.loop-place.place
    (2 * length c.args.fabric.now.cables + 1 - c.loop-place.place) c.loop-place.invariant (ap (λ (ports : List PortRef). slice_get ports c.loop-place.place) (sym known) ∙ none)

pub loop-place-preserved : goal.loop-place-preserved
loop-place-preserved c =
    let more = 2 * length c.args.fabric.now.cables + 1 - (c.loop-place.place + 1) in
    let within = rw c.cable_ends-place-end.ensures at c.loop-place-test.true in
    let count : 2 * length c.args.fabric.now.cables + 1 - c.loop-place.place ≡ suc more = omega (arith, within) in
    let known = ap (λ (s : SpreadState). s.known) c.spread.view_is in
    let next = sym c.get_index.ensures.key ∙ sym c.copied.ensures ∙ c.in-Some.is in
    rw c.in_ok-come_in.ensures
    (with_next c.args.fabric.now c.args.packet.now _ c.loop-place.spread c.loop-place.place _ more c.in-Some.here count
    c.loop-place.invariant (ap (λ (ports : List PortRef). slice_get ports c.loop-place.place) (sym known) ∙ next))
