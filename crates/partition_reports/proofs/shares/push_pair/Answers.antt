use Rattle.std.proofs.Common.{◌≡◌, ◌++◌, ℕ, List, ap, ◌∙◌, take, arith}
use Rattle.std.proofs.lemmas.Grind.{common_steps}
use Rattle.partition_reports.proofs.ShareLemmas.{pair_alike}
use Rattle.partition_reports.proofs.shares.push_pair.Goals as goal

pub returns : goal.returns
returns c =
    let old : List ℕ = c.args.text.now.items in
    let all : take c.loop-base.base-index c.args.bases.now ≡ c.args.bases.now = grind (arith, common_steps) in
    let found = rw all at c.loop-base.invariant in
    found ∙ ap (λ text. old ++ text) (pair_alike c.args.bases.now c.args.port.now c.args.other.now c.requires)
