use Rattle.updn_routes.proofs.TieLemmas.{least_of, shortest_of}
use Rattle.updn_routes.specs.Choice.{least_port}
use Rattle.updn_routes.proofs.tie_laws.the_first_tie_is_the_least.Goals as goal

pub returns : goal.returns
returns c = λ is_way port picked. (shortest_of (least_port 0) is_way port picked, λ other best. least_of is_way port picked other best)
