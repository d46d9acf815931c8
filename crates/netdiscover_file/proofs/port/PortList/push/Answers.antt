use Rattle.std.proofs.Common.{◌≡◌, None, refl}
use Rattle.fabric_parts.specs.Cable.{is_same_port}
use Rattle.netdiscover_file.specs.Port.{place_of_line}
use Rattle.step_results.proofs.PlaceLemmas.{keys_grow}
use Rattle.netdiscover_file.proofs.port.PortList.push.Goals as goal

pub invariant_of-self-2 : goal.invariant_of-self-2
invariant_of-self-2 c =
    let line = c.args.line in
    let new : place_of_line line.port c.self.inside.lines.items ≡ None = rw c.self.view_is c.requires.new in
    rw (c.in_ok-insert.ensures.keys, c.in_ok-push.ensures.items, c.reserve.ensures.items)
    (keys_grow is_same_port (λ line. line.port) line.port line c.self.inside.ports.keys c.self.inside.lines.items c.self.invariant refl new)
