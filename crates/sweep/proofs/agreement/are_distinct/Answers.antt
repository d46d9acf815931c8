use Rattle.std.proofs.Common.{rules, eqb}
use Rattle.std.specs.HashSet as bag
use Rattle.std.proofs.lemmas.Bool.Decides.{Decides-eqb}
use Rattle.std.proofs.lemmas.Cmp.{nat_eq_equiv}
use Rattle.std.proofs.lemmas.Map.Made.{AllPairs-from_IsDistinct, IsDistinct-from_AllPairs, hash_set_len-Decides}
use Rattle.sweep.proofs.agreement.are_distinct.Goals as goal

-- a set is as long as the list that it was made of if and only if no two of that are the same
pub returns : goal.returns
returns c =
    let made : bag.IsFromIterResult eqb c.args.guids.now c.in_ok-set.set = search rules in
    let decides = hash_set_len-Decides Decides-eqb nat_eq_equiv c.args.guids.now c.in_ok-set.set made in
    rw c.len.ensures.len (
      λ long. IsDistinct-from_AllPairs Decides-eqb c.args.guids.now (decides.0 long),
      λ distinct. decides.1 (AllPairs-from_IsDistinct Decides-eqb c.args.guids.now distinct),
    )
