use Rattle.std.proofs.Common.{◌≡◌, ◌∙◌, ◌==◌, [], ◌∷◌, ◌++◌, ap, None, nat_eq, refl, sym, List}
use Rattle.step_results.proofs.PlaceLemmas.{keys_grow, not_there}
use Rattle.dump_file.specs.declared.table.Table.{Table}
use Rattle.dump_file.specs.Table.{place_of}
use Rattle.dump_file.proofs.LatestLemmas.{put_absent}
use Rattle.dump_file.proofs.table.TableList.push.Goals as goal

pub invariant_of-self-2 : goal.invariant_of-self-2
invariant_of-self-2 c =
    let table = c.args.table in
    let new : place_of table.guid c.self.inside.tables.items ≡ None = rw c.self.view_is c.requires.new in
    rw (c.in_ok-insert.ensures.keys, c.in_ok-push.ensures.items, c.reserve.ensures.items)
    (keys_grow nat_eq (λ one. one.guid) table.guid table c.self.inside.guids.keys c.self.inside.tables.items c.self.invariant refl new)

pub returns : goal.returns
returns c =
    c.in_ok-push.ensures.items ∙ ap (λ (some : List Table). some ++ c.args.table ∷ []) (c.reserve.ensures.items ∙ c.self.view_is)
    ∙ sym (put_absent c.args.table c.args.self.now (not_there (λ one. c.args.table.guid == one.guid) c.args.self.now c.requires.new))
