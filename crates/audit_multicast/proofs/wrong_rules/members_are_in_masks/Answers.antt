use Rattle.audit_multicast.proofs.WrongMaskLemmas.{members_are_in_masks}
use Rattle.audit_multicast.proofs.wrong_rules.members_are_in_masks.Goals as goal

pub returns : goal.returns
returns c = members_are_in_masks
