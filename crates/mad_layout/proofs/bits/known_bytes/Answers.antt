use Rattle.std.proofs.Common.{arith}
use Rattle.mad_layout.proofs.NumberLemmas.{each_below}
use Rattle.mad_layout.proofs.bits.known_bytes.Goals as goal

pub returns : goal.returns
returns c = each_below c.args.bytes.now (λ k. omega (arith, c.type_inv.bytes k))
