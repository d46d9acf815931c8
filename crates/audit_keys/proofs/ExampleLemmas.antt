-- Edges of what is said of tables, computed.
use Rattle.std.proofs.Common.{refl}
use Rattle.std.specs.Fmt.{digits}
use Rattle.audit_keys.specs.Apart.{lines_of, more_line}
use Rattle.audit_keys.specs.Examples.{DirectionsAreRead, DroppedFilesAreSeen, ManyPairsAreCounted, StraysAreReported, WidePartitionsAreReported}
use Rattle.audit_keys.specs.Standing.{pairs_text}

pub many_pairs_are_counted : ManyPairsAreCounted
unfolding digits pairs_text
many_pairs_are_counted = record { hundred = refl; more = refl; all = refl; counted = refl }

pub dropped_files_are_seen : DroppedFilesAreSeen
dropped_files_are_seen = record { read = refl; nothing_read = refl; no_key = refl; limited = refl; another_key = refl }

pub directions_are_read : DirectionsAreRead
directions_are_read = record {
  inbound = refl;
  outbound = refl;
  none = refl;
  half = refl;
  both = refl;
  all_off = refl;
  some_off = refl;
  no_port = refl;
}

pub strays_are_reported : StraysAreReported
unfolding digits
strays_are_reported = record {
  stray = refl;
  absent = refl;
  known = refl;
  nowhere = refl;
  explained = refl;
  another = refl;
  no_room = refl;
  room = refl;
  other_membership = refl;
  no_full_key = refl;
  no_default_key = refl;
  full_key = refl;
  unread = refl;
}

pub wide_partitions_are_reported : WidePartitionsAreReported
unfolding digits lines_of more_line
wide_partitions_are_reported = record {
  half = refl;
  fewer = refl;
  none = refl;
  two = refl;
  four = refl;
  alone = refl;
  line = refl;
  ranked_so = refl;
  eight = refl;
  nine = refl;
  no_line = refl;
  pairs = refl;
}
