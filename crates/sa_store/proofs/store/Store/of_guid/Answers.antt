use Rattle.std.proofs.Common.{◌≡◌, List, sym, ◌∙◌, ap, Some, None}
use Rattle.subnet_model.specs.declared.subnet_port.SubnetPort.{SubnetPort}
use Rattle.sa_store.specs.Registry.{of_guid, of_port}
use Rattle.sa_store.specs.Kept.{ports_of}
use Rattle.sa_store.specs.Registry.{RegistryState, place_with_guid}
use Rattle.sa_store.proofs.PortServiceLemmas.{guid_services, no_services}
use Rattle.sa_store.proofs.PlaceLemmas.{guid_nowhere, guid_slice}
use Rattle.sa_store.proofs.store.Store.of_guid.Goals as goal

pub returns-in-Some-clause-ports : goal.returns-in-Some-clause-ports
returns-in-Some-clause-ports c =
    let kept = c.self.inside.kept.items in
    let ports : ports_of kept ≡ c.args.self.now.configuration.ports = ap (λ (s : RegistryState). s.configuration.ports) c.self.view_is in
    let place : place_with_guid (ports_of kept) c.args.guid ≡ Some c.in-Some.place = rw ports (sym c.in-Some.ensures) in
    rw (c.deref.ensures.value)
    (guid_slice c.args.guid kept c.in-Some.place c.self.invariant.configured.own_guids place ∙ ap (λ (ports : List SubnetPort). of_guid c.args.guid ports) ports)

pub returns-in-None-clause-ports : goal.returns-in-None-clause-ports
returns-in-None-clause-ports c =
    let kept = c.self.inside.kept.items in
    let ports : ports_of kept ≡ c.args.self.now.configuration.ports = ap (λ (s : RegistryState). s.configuration.ports) c.self.view_is in
    let place : place_with_guid (ports_of kept) c.args.guid ≡ None = rw ports (sym c.in-None.ensures) in
    sym (guid_nowhere c.args.guid kept place) ∙ ap (λ (ports : List SubnetPort). of_guid c.args.guid ports) ports

pub returns-in-Some-clause-services : goal.returns-in-Some-clause-services
returns-in-Some-clause-services c =
    let kept = c.self.inside.kept.items in
    let ports : ports_of kept ≡ c.args.self.now.configuration.ports = ap (λ (s : RegistryState). s.configuration.ports) c.self.view_is in
    let place : place_with_guid (ports_of kept) c.args.guid ≡ Some c.in-Some.place = rw ports (sym c.in-Some.ensures) in
    let services = ap (λ (s : RegistryState). of_port c.args.guid s.administration.remembered.services) c.self.view_is in
    rw (c.deref.ensures.value) (guid_services c.args.guid kept c.in-Some.place c.self.invariant.configured.own_guids place ∙ services)

pub returns-in-None-clause-services : goal.returns-in-None-clause-services
returns-in-None-clause-services c =
    let kept = c.self.inside.kept.items in
    let ports : ports_of kept ≡ c.args.self.now.configuration.ports = ap (λ (s : RegistryState). s.configuration.ports) c.self.view_is in
    let place : place_with_guid (ports_of kept) c.args.guid ≡ None = rw ports (sym c.in-None.ensures) in
    let services = ap (λ (s : RegistryState). of_port c.args.guid s.administration.remembered.services) c.self.view_is in
    sym (no_services c.args.guid kept place) ∙ services
