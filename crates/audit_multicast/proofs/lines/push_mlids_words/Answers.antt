use Rattle.std.proofs.Common.{append_assoc}
use Rattle.audit_multicast.specs.Lines.{mlids_words}
use Rattle.audit_multicast.proofs.lines.push_mlids_words.Goals as goal

pub returns : goal.returns
unfolding mlids_words
returns c = rw (c.in_ok-extend_from_slice-2.ensures.items, c.in_ok-push_decimal.ensures, c.in_ok-extend_from_slice.ensures.items, append_assoc, append_assoc)
