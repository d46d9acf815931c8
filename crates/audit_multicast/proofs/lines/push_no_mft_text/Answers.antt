use Rattle.std.proofs.Common.{append_assoc}
use Rattle.audit_multicast.specs.Lines.{no_mft_text}
use Rattle.audit_multicast.proofs.lines.push_no_mft_text.Goals as goal

pub returns : goal.returns
unfolding no_mft_text
returns c = rw (c.in_ok-push.ensures.items, c.in_ok-push_name.ensures, c.in_ok-extend_from_slice.ensures.items, append_assoc, append_assoc)
