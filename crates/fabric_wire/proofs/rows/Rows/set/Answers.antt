use Rattle.std.proofs.Common.{◌≡◌, sym, subst, true, List, Option}
use Rattle.fabric_parts.specs.declared.cable.PortRef.{PortRef}
use Rattle.fabric_wire.specs.Cabling.{has_place}
use Rattle.fabric_wire.proofs.RowLemmas.{places_alike, row_within, rows_put}
use Rattle.fabric_wire.proofs.rows.Rows.set.Goals as goal

pub returns-clause-far : goal.returns-clause-far
returns-clause-far c port =
    rw (← c.self.view_is)
    (rows_put c.self.inside.rows.items c.args.here c.args.far c.index_mut.result.now c.set.new.self
    (row_within c.self.inside.rows.items c.args.here (subst (λ (rows : List (List (Option PortRef))). has_place rows c.args.here ≡ true) (sym c.self.view_is) c.requires))
    c.index_mut.ensures.value c.set.ensures.far port)

pub returns-clause-places : goal.returns-clause-places
returns-clause-places c port =
    rw (← c.self.view_is)
    (places_alike c.self.inside.rows.items c.args.here port c.index_mut.result.now c.set.new.self
    (row_within c.self.inside.rows.items c.args.here (subst (λ (rows : List (List (Option PortRef))). has_place rows c.args.here ≡ true) (sym c.self.view_is) c.requires))
    c.index_mut.ensures.value c.set.ensures.long)
