-- The tables of each fabric that is brought up pass the audit.
use Rattle.joint_laws.specs.RouteLaws.{OwnRoutesPass}
use Rattle.joint_laws.proofs.FreeLemmas.{is_free}
use Rattle.joint_laws.proofs.ReachLemmas.{reached}
use Rattle.joint_laws.proofs.WayLemmas.{led}

pub own_routes_pass : OwnRoutesPass
own_routes_pass plan keys routes fabric dump sound up shows = record {
  reached = λ place lid end carries is adapter. reached plan sound keys routes fabric up dump shows lid end is place carries adapter;
  led = λ place lid number end switch is out. led plan sound keys routes fabric up dump shows lid end is place number switch out;
  free = is_free plan sound keys routes fabric up dump shows;
}
