use Rattle.audit_multicast.proofs.PrintedLemmas.{other_mfts_have_a_line}
use Rattle.audit_multicast.proofs.wrong_rules.other_mfts_have_a_line.Goals as goal

pub returns : goal.returns
returns c = other_mfts_have_a_line
