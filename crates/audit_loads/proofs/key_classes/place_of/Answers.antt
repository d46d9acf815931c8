use Rattle.std.proofs.Common.{◌∙◌, ap, sym, ℕ, List}
use Rattle.std.specs.Str.{bytes_eq}
use Rattle.audit_loads.proofs.KeyLemmas.{is_there}
use Rattle.audit_loads.proofs.key_classes.place_of.Goals as goal

pub returns-then-are_same : goal.returns-then-are_same
returns-then-are_same c =
    is_there c.args.tables.now c.loop-place.place c.index-tables-place.result c.args.keys.now c.loop-place-test.true
    (ap (λ (table : List ℕ). bytes_eq table c.args.keys.now) (sym c.index-tables-place.is) ∙ sym c.if-are_same.ensures)
