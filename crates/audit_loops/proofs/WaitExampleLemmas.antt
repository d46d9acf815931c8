-- Channels and cycles, computed.
use Rattle.std.proofs.Common.{refl}
use Rattle.audit_loops.specs.Examples.{WaitsAreReported}

pub waits_are_reported : WaitsAreReported
waits_are_reported = record {
  channels_of_all = refl;
  channels_of_two = refl;
  behind = refl;
  farther = refl;
  back = refl;
  of_another_lid = refl;
  of_two_lids = refl;
  round = refl;
  of_two = refl;
  none = refl;
  at_a = refl;
  not_at_c = refl;
  none_at_two = refl;
  from_a_host = refl;
  not_at_the_host = refl;
  of_hosts = refl;
  of_no_hosts = refl;
}
