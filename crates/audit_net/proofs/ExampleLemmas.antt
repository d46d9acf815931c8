-- Entries, and what comes of packets, computed.
use Rattle.std.proofs.Common.{refl}
use Rattle.audit_net.specs.Examples.{EntriesAreReported, FatesAreReported, LoopsAreReported, TurnsAreReported, WaysAreReported}

pub entries_are_reported : EntriesAreReported
entries_are_reported = record {
  there = refl;
  closed = refl;
  without_row = refl;
  of_many_ports = refl;
  closed_of_many = refl;
  left_out = refl;
  above_a_multiple = refl;
  below_the_top = refl;
  without_table = refl;
}

pub turns_are_reported : TurnsAreReported
turns_are_reported = record { there = refl; on = refl; at_the_switch = refl; closed = refl; without_cable = refl; not_shown = refl }

pub fates_are_reported : FatesAreReported
fates_are_reported = record {
  there = refl;
  over_both = refl;
  back_over_both = refl;
  at_another_port = refl;
  at_another_node = refl;
  closed = refl;
  without_cable = refl;
  round = refl;
  not_shown = refl;
}

pub loops_are_reported : LoopsAreReported
loops_are_reported = record { from_first = refl; from_second = refl; none = refl }

pub ways_are_reported : WaysAreReported
ways_are_reported = record { over_both = refl; one = refl; round = refl; of_hosts = refl; of_hosts_at_one = refl }
