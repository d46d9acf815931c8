-- The first byte that a search finds, as a place in a list.
use Rattle.std.proofs.Common.{arith, ℕ, ◌≡◌, Bool, List, length}
use Rattle.std.specs.List.{position_or_len}
use Rattle.std.proofs.lemmas.Bool.{false_from_ne_true}
use Rattle.std.proofs.lemmas.List.Sums.{position_or_len_is}
use Rattle.memchr.specs.Find.{NoneBefore, Nowhere, Passes}

pub found_first : (test : ℕ → Bool) (text : List ℕ) (place : ℕ) → NoneBefore (Passes test text) 0 (length text) place → Passes test text place
    → position_or_len test text ≡ place
found_first test text place none at =
    position_or_len_is test text place 0 (omega (arith, none.high))
    (λ k before. false_from_ne_true _ (none.before k (omega arith) before)) (λ within. at)

pub found_nowhere : (test : ℕ → Bool) (text : List ℕ) → Nowhere (Passes test text) 0 (length text) → position_or_len test text ≡ length text
found_nowhere test text nowhere =
    position_or_len_is test text (length text) 0 (omega arith)
    (λ k before. false_from_ne_true _ (nowhere k (omega arith) before)) (λ within. absurd (omega (arith, within)))
