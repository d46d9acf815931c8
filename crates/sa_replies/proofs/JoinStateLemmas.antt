-- The bits of a JoinState, and a reading that turns two of them round.
use Rattle.std.proofs.Common.{ℕ, ◌≡◌, ◌∙◌, ◌*◌, ◌/◌, ◌%◌, ◌==◌, true, false, ap, arith}
use Rattle.std.specs.Int.{bit_at}
use Rattle.std.proofs.lemmas.Bool.{false≢true}
use Rattle.std.proofs.lemmas.Bool.Decides.{nat_tests}
use Rattle.std.proofs.lemmas.Nat.Bits.{and_pow, bit_at_lowest}
use Rattle.sa_replies.specs.JoinStates.{JoinStatesAreBits}
use Rattle.sa_replies.specs.RequestWrongRules.{JoinStatesAreInOrder}

by_two : (b : ℕ) → (b * 2 == 2) ≡ (b == 1)
by_two b = grind (arith, nat_tests)

by_four : (b : ℕ) → (b * 4 == 4) ≡ (b == 1)
by_four b = grind (arith, nat_tests)

by_one : (b : ℕ) → b * 1 ≡ b
by_one b = omega arith

pub join_states_are_bits : JoinStatesAreBits
join_states_are_bits bits = record {
  full_member = ap (λ (n : ℕ). n == 1) (and_pow bits 0 ∙ (by_one (bit_at bits 0) ∙ bit_at_lowest bits));
  non_member = ap (λ (n : ℕ). n == 2) (and_pow bits 1) ∙ by_two (bits / 2 % 2);
  send_only_non_member = ap (λ (n : ℕ). n == 4) (and_pow bits 2) ∙ by_four (bits / 4 % 2);
}

pub join_states_are_in_order : JoinStatesAreInOrder
join_states_are_in_order law = false≢true (law 2).non_member
