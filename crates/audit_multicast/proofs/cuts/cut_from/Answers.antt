use Rattle.std.proofs.Common.{List, ◌≡◌, ◌∙◌, flat_map, ap, refl, subst}
use Rattle.fabric_parts.specs.declared.cable.PortRef.{PortRef}
use Rattle.topo_file.specs.Rounds.{is_marked}
use Rattle.audit_multicast.specs.Cuts.{arrives, cut_by, cut_from, first_member, member_switches, missed_at, missed_by}
use Rattle.audit_multicast.specs.Loops.{all_outs}
use Rattle.audit_multicast.specs.Spreading.{unless_met}
use Rattle.audit_multicast.proofs.CutLemmas.{all_inside, missed_alike}
use Rattle.audit_multicast.proofs.cuts.cut_from.Goals as goal

pub arrivals-requires-clause-outs : goal.arrivals-requires-clause-outs
arrivals-requires-clause-outs c = rw (c.outs.ensures, c.requires.group) (all_inside c.args.net.now c.args.masks.now)

pub returns : goal.returns
unfolding cut_from missed_by
returns c =
    let net = c.args.net.now in
    let masks = c.args.masks.now in
    let outs : c.outs.result.now ≡ all_outs net masks = rw (c.outs.ensures, c.requires.group) refl in
    let places : c.places.result.now ≡ member_switches net masks = rw (c.places.ensures, c.requires.group) refl in
    let missed : flat_map (unless_met net masks c.deref.result.now) c.places.result.now ≡ flat_map (missed_at net masks (all_outs net masks) c.args.place) (member_switches net masks) =
    rw (places, c.deref.ensures.value)
    (missed_alike net masks (all_outs net masks) c.args.place c.in_ok-met.met.items (member_switches net masks)
    (λ there. subst (λ (all : List PortRef). is_marked c.in_ok-met.met.items there ≡ arrives net all c.args.place there) outs (c.in_ok-met.ensures there))) in
    c.cut_by.ensures ∙ ap (λ (first : PortRef). cut_by first c.deref-2.result.now) c.in_ok-from.ensures
    ∙ ap (cut_by (first_member net masks c.args.place)) (c.deref-2.ensures.value ∙ c.in_ok-missed.ensures ∙ missed)
