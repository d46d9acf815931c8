use Rattle.std.proofs.Common.{◌∙◌, ap}
use Rattle.audit_net.specs.Lookup.{all_entries}
use Rattle.audit_net.proofs.LookupLemmas.{known_by}
use Rattle.audit_net.proofs.net.Net.known_entry.Goals as goal

pub returns : goal.returns
returns c = known_by c.args.self.now c.deref.result.now c.args.lid c.args.place c.entry_at.result (c.deref.ensures.value ∙ c.self.invariant.1 ∙ ap all_entries c.self.view_is) c.entry_at.ensures
