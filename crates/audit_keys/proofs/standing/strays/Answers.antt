use Rattle.std.proofs.Common.{◌≡◌, ◌∙◌, ℕ, List, take, arith}
use Rattle.std.proofs.lemmas.Grind.{common_steps}
use Rattle.audit_keys.specs.Standing.{HaveBasesOf, strays, stray_at}
use Rattle.audit_keys.proofs.BaseLemmas.{no_stray, over_bases}
use Rattle.audit_keys.proofs.standing.strays.Goals as goal

pub returns : goal.returns
unfolding HaveBasesOf strays
returns c =
    let all : take c.loop-base.base-index c.args.bases.now ≡ c.args.bases.now = grind (arith, common_steps) in
    let found = rw all at c.loop-base.invariant in
    found ∙ over_bases (stray_at c.args.ports.now) c.args.ports.now c.args.bases.now c.requires (λ n some none. no_stray n some c.args.ports.now none)
