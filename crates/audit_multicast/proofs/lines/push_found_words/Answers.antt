use Rattle.std.proofs.Common.{append_assoc}
use Rattle.audit_multicast.specs.Lines.{found_words}
use Rattle.audit_multicast.proofs.lines.push_found_words.Goals as goal

pub returns : goal.returns
unfolding found_words
returns c =
    rw (
      c.in_ok-extend_from_slice-3.ensures.items,
      c.in_ok-push_decimal-3.ensures,
      c.in_ok-extend_from_slice-2.ensures.items,
      c.in_ok-push_decimal-2.ensures,
      c.in_ok-extend_from_slice.ensures.items,
      c.in_ok-push_decimal.ensures,
      c.ring_count.ensures,
      c.copy_count.ensures,
      c.cut_count.ensures,
      append_assoc,
      append_assoc,
      append_assoc,
      append_assoc,
      append_assoc,
      append_assoc,
      append_assoc,
      append_assoc,
      append_assoc,
    )
