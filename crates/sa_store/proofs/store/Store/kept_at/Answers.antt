use Rattle.std.proofs.Common.{◌≡◌, List, get_or, sym, ◌∙◌, ap, Some}
use Rattle.sa_store.specs.Kept.{KeptPort, ports_of}
use Rattle.sa_store.specs.Registry.{RegistryState, place_with_guid}
use Rattle.subnet_model.specs.Delivery.{port_with_guid}
use Rattle.subnet_model.specs.declared.subnet_port.SubnetPort.{SubnetPort}
use Rattle.sa_store.proofs.PlaceLemmas.{found_at, is_at}
use Rattle.sa_store.proofs.store.Store.kept_at.Goals as goal

pub returns : goal.returns
returns c =
    let kept = c.self.inside.kept.items in
    let ports : ports_of kept ≡ c.args.self.now.configuration.ports = ap (λ (s : RegistryState). s.configuration.ports) c.self.view_is in
    let place : place_with_guid (ports_of kept) c.args.requester.guid ≡ Some c.args.requester.place = rw ports c.requires in
    let one = c.index.result.now in
    let at = is_at c.args.requester.guid kept c.args.requester.place one c.self.invariant.configured.own_guids place in
    let is : one ≡ get_or kept c.args.requester.place one = c.index.ensures in
    ap (λ (k : KeptPort). Some k.port) is ∙ sym (found_at c.args.requester.guid kept c.args.requester.place one at) ∙ ap (λ (ports : List SubnetPort). port_with_guid ports c.args.requester.guid) ports
