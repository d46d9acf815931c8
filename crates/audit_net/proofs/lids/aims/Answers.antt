use Rattle.std.proofs.Common.{ap, ◌∙◌}
use Rattle.audit_net.specs.Lids.{aims_below, is_known_lid}
use Rattle.audit_net.specs.Net.{NetState}
use Rattle.audit_net.proofs.LidLemmas.{aims_are}
use Rattle.audit_net.proofs.lids.aims.Goals as goal

pub returns : goal.returns
returns c = c.in_ok-aims.ensures ∙ ap (λ (net : NetState). aims_below net (is_known_lid net) 65536) c.in_ok-index.ensures ∙ aims_are c.args.net.now
