use Rattle.std.proofs.Common.{◌≡◌, ◌++◌, ◌∙◌, ap, ℕ, List, take, arith}
use Rattle.std.proofs.lemmas.Grind.{common_steps}
use Rattle.audit_keys.specs.Standing.{HaveBasesOf, pair_changes, pairs_at}
use Rattle.audit_keys.proofs.BaseLemmas.{no_pairs_at, over_bases}
use Rattle.audit_keys.proofs.standing.push_pair_changes.Goals as goal

pub returns : goal.returns
unfolding HaveBasesOf pair_changes
returns c =
    let old : List ℕ = c.args.text.now.items in
    let all : take c.loop-base.base-index c.args.bases.now ≡ c.args.bases.now = grind (arith, common_steps) in
    let found = rw all at c.loop-base.invariant in
    found ∙ ap (λ text. old ++ text) (over_bases (pairs_at c.args.listing.nodes.now c.args.listing.all c.args.ports.now) c.args.ports.now c.args.bases.now c.requires
    (λ n some none. no_pairs_at n some c.args.listing.nodes.now c.args.listing.all c.args.ports.now none))
