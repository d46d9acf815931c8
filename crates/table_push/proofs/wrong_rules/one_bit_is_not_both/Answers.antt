use Rattle.std.proofs.Common.{ℕ, ◌≡◌, ◌++◌, ◌∷◌, refl, arith, List, replicate, Ok}
use Rattle.mad_layout.specs.Bits.{field, put_field}
use Rattle.table_push.specs.Fault.{compared}
use Rattle.table_push.specs.WrongRules.{one_bit_counts}
use Rattle.table_push.specs.declared.fault.Taken.TheVariants.{NotEnforcing}
use Rattle.table_push.proofs.wrong_rules.one_bit_is_not_both.Goals as goal

-- PortInfo that is all 0 except these bits
abbrev info : ℕ → List ℕ
info bits = replicate 43 0 ++ bits ∷ replicate 20 0

counts : one_bit_counts (info 12) (info 4) ≡ Ok NotEnforcing
unfolding field put_field compared
counts = refl

outbound : field (info 4) 348 2 ≡ 1
unfolding field
outbound = refl

pub returns : goal.returns
returns c law = let none = (law (info 12) (info 4) refl refl counts).1 in absurd (grind (arith, none, outbound))
