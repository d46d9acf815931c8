use Rattle.std.proofs.Common.{refl, subst, sym}
use Rattle.std.proofs.lemmas.Bool.{false≢true}
use Rattle.cable_cuts.proofs.NeededLemmas.{never_up}
use Rattle.cable_cuts.specs.Cables.{without_cable}
use Rattle.cable_cuts.specs.Fate.{IsFate}
use Rattle.cable_cuts.proofs.keeping.is_needed.Goals as goal
use Rattle.cable_cuts.proofs.keeping.is_needed.Goals.{in-Keeps, in-Stops}

pub returns : goal.returns
returns c = elim c.match-branch-2.branch [
  | in-Keeps w ↦ rw w.result-is (λ same. absurd (false≢true same), λ needed. absurd (needed.1 (subst (IsFate c.args.routes.now.between.rule (without_cable c.args.cable c.args.topology.now)) w.in-Keeps.is c.in_ok-cut.ensures).0))
  | in-Stops w ↦ rw w.result-is (
    λ same. (sym c.if-not-joins_switches.ensures, never_up (without_cable c.args.cable c.args.topology.now) _ (subst (IsFate c.args.routes.now.between.rule (without_cable c.args.cable c.args.topology.now)) w.in-Stops.is c.in_ok-cut.ensures)),
    λ needed. refl,
  )
]
