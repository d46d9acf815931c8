use Rattle.sa_store.proofs.KeyLemmas.{inserted_by_base}
use Rattle.sa_store.proofs.keys.insert_key.Goals as goal

pub returns : goal.returns
returns c = rw (c.in_ok-insert.ensures.items, c.place_for-place.ensures.value, c.deref.ensures.value) (inserted_by_base c.args.keys.now.items c.args.key)
