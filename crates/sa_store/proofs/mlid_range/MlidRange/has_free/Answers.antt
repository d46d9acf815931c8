use Rattle.sa_store.proofs.SlotLemmas.{some_free}
use Rattle.sa_store.proofs.mlid_range.MlidRange.has_free.Goals as goal

pub returns : goal.returns
returns c =
    some_free c.self.inside.number c.self.inside.base c.self.inside.free c.self.inside.slots.items c.args.self.now c.self.invariant.all c.self.invariant.reported c.self.view_is
