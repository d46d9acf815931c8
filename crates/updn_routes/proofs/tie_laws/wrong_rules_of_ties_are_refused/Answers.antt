use Rattle.std.proofs.Common.{◌+◌, ◌≡◌, ◌<◌, ◌≤◌, arith}
use Rattle.updn_routes.proofs.TurnLemmas.{by_one, row_first}
use Rattle.updn_routes.proofs.tie_laws.wrong_rules_of_ties_are_refused.Goals as goal

pub returns : goal.returns
returns c =
    record {
      least = λ each. let taken = each 0 0 2 1 (omega arith) in let is = taken.2 in omega (arith, is);
      least_too = λ shared. let most : 10 ≤ 6 = shared 0 0 2 0 0 10 (omega arith) in omega (arith, most);
      last = λ each. let taken = each 0 0 2 1 (omega arith) in let is = taken.2 in let none = by_one (taken.0 + 0) in omega (arith, is, none);
      rows = λ each. let taken = each 0 0 2 1 (omega arith) in let none = row_first taken.0 2 taken.1 in let is = taken.2 in omega (arith, is, none);
      rows_too = λ shared. let most : 20 ≤ 3 = shared 0 0 20 0 0 40 (omega arith) in omega (arith, most);
      place = λ on. let is : 0 ≡ 1 = on 0 0 0 2 (omega arith) in omega (arith, is);
      rank = λ on. let is : 1 ≡ 0 = on 2 0 0 2 (omega arith) in omega (arith, is);
      far = λ names. let low : 2 < 2 = names 2 0 0 2 (omega arith) in omega (arith, low);
    }
