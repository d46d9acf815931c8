use Rattle.std.proofs.Common.{ap, ◌∙◌}
use Rattle.fabric_parts.specs.Cable.{is_same_port}
use Rattle.netdiscover_file.specs.Port.{place_of_line}
use Rattle.step_results.proofs.PlaceLemmas.{place_by_key}
use Rattle.netdiscover_file.proofs.port.PortList.place_of_line.Goals as goal

pub returns : goal.returns
returns c =
    c.get_index_of.ensures.index
    ∙ place_by_key (is_same_port c.args.port) (λ line. line.port) c.self.inside.ports.keys c.self.inside.lines.items c.self.invariant
    ∙ ap (place_of_line c.args.port) c.self.view_is
