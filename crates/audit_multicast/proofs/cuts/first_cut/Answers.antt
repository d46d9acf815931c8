use Rattle.std.proofs.Common.{ℕ, List, arith, length, nat_lt, subst, sym, ◌≡◌, true}
use Rattle.std.specs.List.{list_all}
use Rattle.std.proofs.lemmas.Bool.Decides.{nat_tests}
use Rattle.step_results.proofs.ListLemmas.{all_at}
use Rattle.audit_multicast.proofs.CutLemmas.{members_within}
use Rattle.audit_multicast.proofs.cuts.first_cut.Goals as goal

pub cut_from-requires-clause-place : goal.cut_from-requires-clause-place
cut_from-requires-clause-place c =
    let many = length c.args.net.now.plan.nodes in
    let inside = subst (λ (places : List ℕ). list_all (λ place. nat_lt place many) places ≡ true) (sym c.requires.places) (members_within c.args.net.now c.args.masks.now) in
    let here = all_at (λ place. nat_lt place many) c.args.places.now c.loop-place.place-index 0 inside c.loop-place-test.true in
    grind (arith, nat_tests, here)
