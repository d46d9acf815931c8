use Rattle.std.proofs.Common.{◌≡◌, ◌∙◌, ap, sym, List, Some, map, set}
use Rattle.dump_file.specs.declared.table.Table.{Table}
use Rattle.dump_file.specs.Table.{place_of}
use Rattle.dump_file.proofs.LatestLemmas.{keys_there, put_there}
use Rattle.dump_file.proofs.table.TableList.replace.Goals as goal

pub invariant_of-self : goal.invariant_of-self
invariant_of-self c =
    let tables = c.self.inside.tables.items in
    let there : place_of c.args.table.guid tables ≡ Some c.args.place = ap (place_of c.args.table.guid) c.self.view_is ∙ c.requires.there in
    c.self.invariant ∙ sym (keys_there c.args.table tables c.args.place there)
    ∙ ap (map (λ (one : Table). one.guid)) (sym (put_there c.args.table tables c.args.place there))

pub returns : goal.returns
returns c =
    ap (λ (tables : List Table). set tables c.args.place c.args.table) c.self.view_is ∙ put_there c.args.table c.args.self.now c.args.place c.requires.there
