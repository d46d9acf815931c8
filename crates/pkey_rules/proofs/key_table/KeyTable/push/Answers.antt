use Rattle.std.proofs.Common.{◌≡◌, false, rules}
use Rattle.pkey_rules.specs.PKey.{base_of}
use Rattle.pkey_rules.specs.KeyTable.{has_base}
use Rattle.pkey_rules.proofs.key_table.KeyTable.push.Goals as goal
use Rattle.pkey_rules.proofs.KeyTableLemmas.{distinct_push}

pub invariant_of-self : goal.invariant_of-self
invariant_of-self g c =
    let free : has_base (base_of c.args.key) c.self.inside.keys.items ≡ false = grind rules in
    rw c.push.ensures.items (distinct_push c.args.key c.self.inside.keys.items free c.self.invariant)
