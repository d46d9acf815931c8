use Rattle.std.proofs.Common.{◌≡◌, Some, sym, ◌∙◌}
use Rattle.std.specs.List.{IsDistinct}
use Rattle.subnet_model.specs.Configured.{same_guid}
use Rattle.subnet_model.specs.Delivery.{port_with_guid}
use Rattle.sa_model.specs.Selected.{services_selected}
use Rattle.sa_model.specs.Visible.{visible_services}
use Rattle.sa_answer.specs.Asked.{guid_in}
use Rattle.sa_store.specs.Kept.{ports_of, services_of}
use Rattle.sa_answer.proofs.OfferLemmas.{offered_by, offered_is}
use Rattle.sa_answer.proofs.service.offerers_asked.Goals as goal

pub returns : goal.returns
returns c = λ own listed.
    let state = c.args.store.now in
    let guid = c.in-Some.guid in
    let is : guid_in c.args.asked.now.service_gid ≡ Some guid = sym c.in-Some.ensures in
    offered_by state.configuration.ports own c.args.mask c.args.asked.now guid c.of_guid.result.now state.administration.remembered.services
    c.known.ensures.configured.own_guids listed (sym c.asks.ensures ∙ c.if-asks.true) is c.of_guid.ensures.ports c.of_guid.ensures.services

pub returns-2 : goal.returns-2
returns-2 c = λ own listed.
    let kept = c.kept-all.result.now in
    let mask = c.args.mask in
    let asked = c.args.asked.now in
    let ports : ports_of kept ≡ c.args.store.now.configuration.ports = c.kept-all.ensures.ports in
    let services : services_of kept ≡ c.args.store.now.administration.remembered.services = c.kept-all.ensures.services in
    let once : IsDistinct same_guid (ports_of kept) = rw ports c.known.ensures.configured.own_guids in
    let listed_there : port_with_guid (ports_of kept) own.guid ≡ Some own = rw ports listed in
    offered_is kept own mask asked once listed_there ∙ (λ i. services_selected mask asked (visible_services (ports i) own (services i)))
