use Rattle.std.proofs.Common.{◌==◌, ap, ◌∙◌}
use Rattle.audit_ports.specs.Ends.{place_of}
use Rattle.step_results.proofs.PlaceLemmas.{place_by_key}
use Rattle.audit_ports.proofs.names.PortIndex.place_of.Goals as goal

pub returns : goal.returns
returns c =
    c.get_index_of.ensures.index
    ∙ place_by_key (λ key. c.args.guid == key) (λ port. port.guid) c.self.inside.guids.keys c.self.inside.ports.items c.self.invariant
    ∙ ap (place_of c.args.guid) c.self.view_is
