use Rattle.smp_wire.proofs.RequestLemmas.{entries}
use Rattle.smp_wire.proofs.request.initial_path.Goals as goal

pub returns : goal.returns
returns c = entries c.args.path.now c.copy_from_slice.new.self c.copy_from_slice.ensures.after
