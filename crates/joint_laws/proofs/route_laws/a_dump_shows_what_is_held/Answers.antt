use Rattle.joint_laws.proofs.DumpLemmas.{a_dump_shows_what_is_held}
use Rattle.joint_laws.proofs.route_laws.a_dump_shows_what_is_held.Goals as goal

pub returns : goal.returns
returns c = a_dump_shows_what_is_held
