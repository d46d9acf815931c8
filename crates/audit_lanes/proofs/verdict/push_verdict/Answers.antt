use Rattle.std.proofs.Common.{append_assoc}
use Rattle.audit_lanes.specs.Verdict.{all_verdict_line}
use Rattle.audit_lanes.proofs.verdict.push_verdict.Goals as goal

pub returns : goal.returns
unfolding all_verdict_line
returns c = rw (c.in_ok-extend_from_slice-2.ensures.items, c.in_ok-push_words.ensures, c.in_ok-extend_from_slice.ensures.items, append_assoc, append_assoc)
