-- What is wrong with other orders: of two partitions the second has more pairs, and there are two.
use Rattle.std.proofs.Common.{◌≡◌, ℕ, ◌≤◌, Bool, true, List, [], ◌∷◌, arith}
use Rattle.audit_keys.specs.declared.apart.Wide.{Wide}
use Rattle.audit_keys.specs.WrongRules.{BasesDoNotRank, OthersCountToo}

abbrev two : List Wide
two = record { base = 1; count = 1 } ∷ record { base = 2; count = 2 } ∷ []

pub bases_do_not_rank : BasesDoNotRank
bases_do_not_rank law = let less : 2 ≤ 1 = (law.falls two).0.0 in omega (arith, less)

pub others_count_too : OthersCountToo
others_count_too law = let same : 1 ≡ 2 = law.same two (λ one. true) in omega (arith, same)
