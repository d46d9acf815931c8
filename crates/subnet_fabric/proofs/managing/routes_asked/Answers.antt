use Rattle.std.proofs.Common.{◌≡◌, ◌∙◌, inl, inr, refl, sym, false, true}
use Rattle.std.proofs.lemmas.Bool.{false≢true}
use Rattle.std.proofs.lemmas.Result.{err_from_is_err_and}
use Rattle.subnet_fabric.proofs.FoundLemmas.{are_routes, no_path}
use Rattle.subnet_fabric.proofs.ManagedLemmas.{all_named, are_asked}
use Rattle.subnet_fabric.proofs.managing.routes_asked.Goals as goal

pub routes-requires-clause-named : goal.routes-requires-clause-named
routes-requires-clause-named c =
    all_named c.args.graph c.args.roots.now (c.is_as_asked-is_asked.ensures.found c.if-not-is_asked.false)

pub returns-in_err-lids-clause-over : goal.returns-in_err-lids-clause-over
returns-in_err-lids-clause-over c fabric found =
    let given = err_from_is_err_and c.from_residual.result c.from_residual.ensures.1 in
    rw (given.1, given.2) (inr tt)

pub returns-then-not-is_asked-clause-over : goal.returns-then-not-is_asked-clause-over
returns-then-not-is_asked-clause-over c fabric found =
    inl (
      record {
        graph = c.args.graph;
        found = found;
        guids = c.in_ok-lids.lids;
        assigned = record { lids = c.in_ok-lids.ensures.lids; order = c.in_ok-lids.ensures.order };
        differs = λ same named. false≢true (sym c.if-not-is_asked.true ∙ c.is_as_asked-is_asked.ensures.all same named);
      },
      refl,
    )

pub returns-in_err-routes-clause-over : goal.returns-in_err-routes-clause-over
returns-in_err-routes-clause-over c fabric found =
    let given = err_from_is_err_and c.from_residual-in_err-routes.result c.from_residual-in_err-routes.ensures.1 in
    rw (given.1, given.2)
    (inr (no_path fabric c.args.graph c.in_ok-lids.lids c.args.roots.now _ found
    (record { lids = c.in_ok-lids.ensures.lids; order = c.in_ok-lids.ensures.order }) c.in_err-routes.ensures.fault))

pub returns-clause-asked : goal.returns-clause-asked
returns-clause-asked c =
    let e = c.in_ok-routes.ensures in
    are_asked c.args.graph c.in_ok-lids.lids c.args.roots.now c.args.ports.now c.in_ok-routes.field-0 c.requires.joined
    (record { lids = c.in_ok-lids.ensures.lids; order = c.in_ok-lids.ensures.order }) e.graph e.lids
    (c.is_as_asked-is_asked.ensures.same c.if-not-is_asked.false) (c.is_as_asked-is_asked.ensures.found c.if-not-is_asked.false) e.made e.reached

pub returns-clause-over : goal.returns-clause-over
returns-clause-over c fabric found =
    let e = c.in_ok-routes.ensures in
    are_routes fabric c.args.graph c.in_ok-lids.lids c.args.roots.now c.in_ok-routes.field-0 found
    (record { lids = c.in_ok-lids.ensures.lids; order = c.in_ok-lids.ensures.order }) e.graph e.lids e.made e.reached
