-- The examples, computed.
use Rattle.std.proofs.Common.{refl}
use Rattle.std.specs.Fmt.{digits}
use Rattle.audit_routes.specs.Verdict.{reasons}
use Rattle.audit_multicast.specs.Examples.{MasksAreFound, MulticastLinesAreReported, MulticastVerdictsAreReported}
use Rattle.audit_multicast.specs.Lines.{copy_text, copy_words, cut_text, cut_words, found_words, mask_line, members_line, mlids_line, mlids_words, multicast_lines, no_mft_text, ring_text, strange_mft_line}
use Rattle.audit_multicast.specs.Masks.{mlids_of}
use Rattle.audit_multicast.specs.Verdict.{all_reasons, all_verdict_line, all_words}

pub masks_are_found : MasksAreFound
unfolding mlids_of
masks_are_found = record { of_both = refl; of_one = refl; of_an_adapter = refl; mlids = refl }

pub multicast_lines_are_reported : MulticastLinesAreReported
unfolding copy_text copy_words cut_text cut_words digits found_words mask_line members_line mlids_line mlids_words multicast_lines no_mft_text ring_text strange_mft_line
multicast_lines_are_reported = record {
  no_mft = refl;
  has_mft = refl;
  strange_mft = refl;
  own_mft = refl;
  own_port = refl;
  cabled = refl;
  nowhere = refl;
  no_port = refl;
  ring = refl;
  copy = refl;
  cut = refl;
  counts = refl;
  all = refl;
}

pub multicast_verdicts_are_reported : MulticastVerdictsAreReported
unfolding all_reasons all_verdict_line all_words multicast_lines reasons
multicast_verdicts_are_reported = record {
  of_both = refl;
  of_one = refl;
  of_a_strange_mft = refl;
  of_copies = refl;
  of_loops = refl;
  of_cuts = refl;
  safe = refl;
  same = refl;
  known = refl;
  copies = refl;
  cuts = refl;
  whole = refl;
  unsafe = refl;
}
