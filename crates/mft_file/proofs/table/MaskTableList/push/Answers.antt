use Rattle.std.proofs.Common.{◌≡◌, None, nat_eq, refl}
use Rattle.mft_file.specs.Table.{place_of}
use Rattle.step_results.proofs.PlaceLemmas.{keys_grow}
use Rattle.mft_file.proofs.table.MaskTableList.push.Goals as goal

pub invariant_of-self-2 : goal.invariant_of-self-2
invariant_of-self-2 c =
    let heading = c.args.heading in
    let new : place_of heading.guid c.self.inside.tables.items ≡ None = rw c.self.view_is c.requires.new in
    rw (c.in_ok-insert.ensures.keys, c.in_ok-push.ensures.items, c.reserve.ensures.items)
    (keys_grow nat_eq (λ table. table.guid) heading.guid (record { line = heading.line; guid = heading.guid; rows = c.of.result })
    c.self.inside.guids.keys c.self.inside.tables.items c.self.invariant refl new)
