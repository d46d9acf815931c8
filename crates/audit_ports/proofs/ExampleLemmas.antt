-- What the files say of the ports of a small fabric, computed.
use Rattle.std.proofs.Common.{refl}
use Rattle.std.specs.Fmt.{digits}
use Rattle.audit_ports.specs.Ends.{with_port}
use Rattle.audit_ports.specs.Examples.{DefaultsAreTakenInTurn, KeysAreHeldOnce, PortsAreGathered, StrangersAreReported, TrunksAreGathered}
use Rattle.audit_ports.specs.Gathered.{gathered, gathered_end, lack_of, line_lacks, used_base}
use Rattle.audit_ports.specs.Strangers.{lone_lines, port_word_on, stranger_line, stranger_lines}

pub ports_are_gathered : PortsAreGathered
unfolding gathered gathered_end lack_of line_lacks used_base with_port
ports_are_gathered = record {
  in_place = refl;
  unasked = refl;
  switch_unasked = refl;
  adapter_unread = refl;
  switch_moved = refl;
  adapter_moved = refl;
  by_number = refl;
}

pub strangers_are_reported : StrangersAreReported
unfolding digits lone_lines port_word_on stranger_line stranger_lines with_port
strangers_are_reported = record { listed = refl; of_port = refl; of_node = refl; of_nobody = refl; alone = refl }

pub defaults_are_taken_in_turn : DefaultsAreTakenInTurn
defaults_are_taken_in_turn = record { none = refl; limited = refl; listed = refl; two = refl; another = refl }

pub trunks_are_gathered : TrunksAreGathered
unfolding lack_of line_lacks used_base with_port
trunks_are_gathered = record {
  dropped = refl;
  of_the_other = refl;
  off = refl;
  without_a_table = refl;
  without_enforcement = refl;
  silent = refl;
  own = refl;
}

pub keys_are_held_once : KeysAreHeldOnce
keys_are_held_once = record { once = refl; full = refl }
