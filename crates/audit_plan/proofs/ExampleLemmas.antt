-- End ports and hosts, computed.
use Rattle.std.proofs.Common.{refl}
use Rattle.audit_plan.specs.Examples.{AttachedAreReported, DiscoveriesAreTaken, HostsAreFound, PortsAreFound}
use Rattle.audit_plan.specs.Plan.{cable_at, cables_apart, joining_cables, plan_found}

pub ports_are_found : PortsAreFound
ports_are_found = record {
  switch = refl;
  port_of_a_switch = refl;
  node = refl;
  first = refl;
  last = refl;
  past = refl;
  of_another = refl;
}

pub hosts_are_found : HostsAreFound
hosts_are_found = record { switch = refl; adapter = refl; aggregation = refl }

pub attached_are_reported : AttachedAreReported
attached_are_reported = record { first = refl; second = refl }

pub discoveries_are_taken : DiscoveriesAreTaken
unfolding plan_found joining_cables cables_apart cable_at
discoveries_are_taken = record {
  nodes = refl;
  ends = refl;
  cables = refl;
  adapter = refl;
  router = refl;
  aggregation = refl;
  lid_0 = refl;
  first_lid = refl;
  last_lid = refl;
  first_mlid = refl;
}
