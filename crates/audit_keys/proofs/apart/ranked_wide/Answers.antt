use Rattle.std.proofs.Common.{◌≡◌, ◌∙◌, [], ap, ℕ, List, take, arith}
use Rattle.std.proofs.lemmas.Grind.{common_steps}
use Rattle.audit_keys.specs.Apart.{all_wide, ranked, wide_at}
use Rattle.audit_keys.specs.Standing.{HaveBasesOf}
use Rattle.audit_keys.proofs.BaseLemmas.{no_wide_at, over_bases}
use Rattle.audit_keys.proofs.RankLemmas.{all_ranked}
use Rattle.audit_keys.proofs.apart.ranked_wide.Goals as goal

pub returns : goal.returns
unfolding HaveBasesOf all_wide
returns c =
    let ports = c.args.ports.now in
    let all : take c.loop-base.base-index c.args.bases.now ≡ c.args.bases.now = grind (arith, common_steps) in
    let found = rw all at c.loop-base.invariant in
    found ∙ all_ranked ports [] c.args.bases.now
    ∙ ap ranked (over_bases (wide_at ports) ports c.args.bases.now c.requires (λ n some none. no_wide_at n some ports none))
