-- Pairs are counted once each.
use Rattle.std.proofs.Common.{◌≡◌, refl, ℕ, ◌+◌, cond, List, [], ◌∷◌, arith}
use Rattle.std.proofs.lemmas.List.Sums.{sum_by-cons}
use Rattle.audit_net.specs.declared.following.Fate.{Fate}
use Rattle.audit_net.specs.declared.following.Fate.TheVariants as fates
use Rattle.audit_routes.specs.declared.pairs.Pair.{Pair}
use Rattle.audit_routes.specs.Laws.{CountsAddUp}
use Rattle.audit_routes.specs.Pairs.{count_of, is_fate}

abbrev one_if : Fate → Fate → ℕ
one_if fate found = cond (is_fate fate found) 1 0

one_more : (fate : Fate) (pair : Pair) (pairs : List Pair) → count_of fate (pair ∷ pairs) ≡ one_if fate pair.fate + count_of fate pairs
one_more fate pair pairs = sum_by-cons (λ other. one_if fate other.fate) pair pairs

each_once : (found : Fate) → one_if fates.Reached found + (one_if fates.Hole found + (one_if fates.Nowhere found + (one_if fates.Wrong found + (one_if fates.Loop found + one_if fates.Unknown found)))) ≡ 1
each_once fates.Reached = refl
each_once fates.Hole = refl
each_once fates.Nowhere = refl
each_once fates.Wrong = refl
each_once fates.Loop = refl
each_once fates.Unknown = refl

pub counts_add_up : CountsAddUp
counts_add_up [] = refl
counts_add_up (pair ∷ pairs) =
    let rest = counts_add_up pairs in
    let once = each_once pair.fate in
    let reached = one_more fates.Reached pair pairs in
    let hole = one_more fates.Hole pair pairs in
    let nowhere = one_more fates.Nowhere pair pairs in
    let wrong = one_more fates.Wrong pair pairs in
    let around = one_more fates.Loop pair pairs in
    let unknown = one_more fates.Unknown pair pairs in
    omega (arith, rest, once, reached, hole, nowhere, wrong, around, unknown)
