use Rattle.updn_routes.proofs.DistanceLemmas.{joined_distances, one_distance}
use Rattle.updn_routes.proofs.laws.joined_switches_have_distances.Goals as goal

pub returns-clause-some : goal.returns-clause-some
returns-clause-some c = joined_distances

pub returns-clause-one : goal.returns-clause-one
returns-clause-one c = one_distance
