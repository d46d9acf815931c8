use Rattle.std.proofs.Common.{◌≡◌, None, nat_eq, refl}
use Rattle.audit_ports.specs.Ends.{place_of}
use Rattle.step_results.proofs.PlaceLemmas.{keys_grow}
use Rattle.audit_ports.proofs.names.PortIndex.push.Goals as goal

pub invariant_of-self-2 : goal.invariant_of-self-2
invariant_of-self-2 c =
    let port = c.args.port in
    let new : place_of port.guid c.self.inside.ports.items ≡ None = rw c.self.view_is c.requires.new in
    rw (c.in_ok-insert.ensures.keys, c.in_ok-push.ensures.items, c.reserve.ensures.items)
    (keys_grow nat_eq (λ port. port.guid) port.guid port c.self.inside.guids.keys c.self.inside.ports.items c.self.invariant refl new)
