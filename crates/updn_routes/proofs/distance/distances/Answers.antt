use Rattle.std.proofs.Common.{◌≡◌, ℕ, List, Option, length, sym, subst, arith}
use Rattle.std.proofs.lemmas.Result.{IfOk-weaker}
use Rattle.updn_routes.specs.Order.{AreDistances}
use Rattle.updn_routes.specs.Rounds.{AreFound, is_marked}
use Rattle.updn_routes.proofs.RoundLemmas.{found_all, found_more}
use Rattle.updn_routes.proofs.distance.distances.Goals as goal

pub loop-round-preserved : goal.loop-round-preserved
loop-round-preserved c =
    rw (c.in_ok-found-2.ensures, c.deref.ensures.value) (found_more c.args.rows.now (is_marked c.args.marks.now) c.loop-round.round c.loop-round.found.items c.requires.cabling c.loop-round.invariant)

pub returns : goal.returns
returns c =
    IfOk-weaker c.all_found.result _ _
    (λ found is. subst (λ (list : List ℕ). AreDistances c.args.rows.now (is_marked c.args.marks.now) list) (sym is) (found_all c.args.rows.now c.args.marks.now c.deref-2.result.now c.requires.cabling c.requires.joined c.requires.count c.requires.some
    (subst (λ (list : List (Option ℕ)). AreFound c.args.rows.now (is_marked c.args.marks.now) (length c.args.rows.now) list) (sym c.deref-2.ensures.value)
    (let same : c.loop-round.round ≡ length c.args.rows.now = omega arith in
    subst (λ (k : ℕ). AreFound c.args.rows.now (is_marked c.args.marks.now) k c.loop-round.found.items) same c.loop-round.invariant)))) c.all_found.ensures
