use Rattle.std.proofs.Common.{◌∙◌, ap}
use Rattle.smp_wire.specs.Good.{IsGood, ShowsLinks, SwitchesJoined}
use Rattle.fabric_wire.specs.Cabling.{uncut}
use Rattle.fabric_wire.proofs.MadeLemmas.{made}
use Rattle.fabric_wire.proofs.OfTopologyGoodLemmas.{good}
use Rattle.fabric_wire.proofs.OfTopologyLinksLemmas.{links}
use Rattle.fabric_wire.proofs.OfTopologyWalkLemmas.{joined}
use Rattle.fabric_wire.proofs.fabric.Fabric.new.Goals as goal

pub invariant_of-result : goal.invariant_of-result
invariant_of-result c =
    let is_good = made IsGood c.args.topology.now _ _ _ c.in_ok-nodes.ensures (c.in_ok-cabling.ensures ∙ ap uncut c.cables.ensures.value)
    c.sm.ensures.value (good c.args.topology.now c.known_sound.ensures) in
    let shown = made ShowsLinks c.args.topology.now _ _ _ c.in_ok-nodes.ensures (c.in_ok-cabling.ensures ∙ ap uncut c.cables.ensures.value)
    c.sm.ensures.value (links c.args.topology.now) in
    record { good = is_good; links = shown; found = rw (← c.deref.ensures.value) c.in_ok-adapter_ports.ensures }

pub places_by_guid-requires-clause-counts : goal.places_by_guid-requires-clause-counts
places_by_guid-requires-clause-counts c =
    rw (c.deref.ensures.value, c.in_ok-nodes.ensures) (good c.args.topology.now c.known_sound.ensures).counts

pub places_by_guid-requires-clause-own : goal.places_by_guid-requires-clause-own
places_by_guid-requires-clause-own c =
    rw (c.deref.ensures.value, c.in_ok-nodes.ensures) (good c.args.topology.now c.known_sound.ensures).end_guids.own

pub returns-clause-good : goal.returns-clause-good
returns-clause-good c =
    made IsGood c.args.topology.now _ _ _ c.in_ok-nodes.ensures (c.in_ok-cabling.ensures ∙ ap uncut c.cables.ensures.value)
    c.sm.ensures.value (good c.args.topology.now c.known_sound.ensures)

pub returns-clause-links : goal.returns-clause-links
returns-clause-links c =
    made ShowsLinks c.args.topology.now _ _ _ c.in_ok-nodes.ensures
    (c.in_ok-cabling.ensures ∙ ap uncut c.cables.ensures.value) c.sm.ensures.value (links c.args.topology.now)

pub returns-clause-joined : goal.returns-clause-joined
returns-clause-joined c =
    made SwitchesJoined c.args.topology.now _ _ _ c.in_ok-nodes.ensures
    (c.in_ok-cabling.ensures ∙ ap uncut c.cables.ensures.value) c.sm.ensures.value
    (joined c.args.topology.now c.known_sound.ensures)
