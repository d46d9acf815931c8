use Rattle.std.proofs.Common.{◌≡◌, ◌==◌, ℕ, List, sym, subst}
use Rattle.std.specs.List.{dedup}
use Rattle.std.specs.List.Sorted.{IsStrictlyIncreasing}
use Rattle.std.proofs.lemmas.List.Filters.{dedup_is}
use Rattle.std.proofs.lemmas.Map.Keys.{IsStrictlyIncreasing-dedup}
use Rattle.partition_reports.proofs.BaseLemmas.{same_numbers}
use Rattle.partition_reports.proofs.bases.rising.Goals as goal

pub returns-clause-order : goal.returns-clause-order
returns-clause-order c =
    let old : List ℕ = c.sort_unstable.new.self.items in
    let new : List ℕ = c.dedup.new.self.items in
    let is : new ≡ dedup (λ a b. a == b) old = dedup_is (λ a b. a == b) old new c.dedup.ensures.filtered in
    subst IsStrictlyIncreasing (sym is) (IsStrictlyIncreasing-dedup old c.sort_unstable.ensures.sorted)

pub returns-clause-same : goal.returns-clause-same
returns-clause-same c base =
    let old : List ℕ = c.sort_unstable.new.self.items in
    let new : List ℕ = c.dedup.new.self.items in
    let is : new ≡ dedup (λ a b. a == b) old = dedup_is (λ a b. a == b) old new c.dedup.ensures.filtered in
    same_numbers c.args.bases.items old new base c.sort_unstable.ensures.permutation is
