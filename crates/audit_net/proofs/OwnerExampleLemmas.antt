-- Whose LIDs are, computed.
use Rattle.std.proofs.Common.{refl}
use Rattle.audit_net.specs.OwnerExamples.{KindsAreReported, LidsAreHad}

pub kinds_are_reported : KindsAreReported
kinds_are_reported = record {
  switch = refl;
  further = refl;
  adapter = refl;
  router = refl;
  adapters_own = refl;
  adapters_as_switch = refl;
  lacking = refl;
  not_lacking = refl;
  router_lacking = refl;
  further_lacking = refl;
}

pub lids_are_had : LidsAreHad
lids_are_had = record { own = refl; of_another_port = refl; of_a_switch = refl; both = refl; first = refl; second = refl }
