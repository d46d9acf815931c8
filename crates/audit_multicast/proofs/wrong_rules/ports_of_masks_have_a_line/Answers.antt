use Rattle.audit_multicast.proofs.PrintedLemmas.{ports_of_masks_have_a_line}
use Rattle.audit_multicast.proofs.wrong_rules.ports_of_masks_have_a_line.Goals as goal

pub returns : goal.returns
returns c = ports_of_masks_have_a_line
