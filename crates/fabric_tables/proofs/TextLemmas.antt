-- A text that grows by parts.
use Rattle.std.proofs.Common.{ℕ, ◌≡◌, ◌∙◌, ap, List, ◌++◌, append_assoc}

pub three_parts : (old a b c first second third : List ℕ) → first ≡ old ++ a → second ≡ first ++ b → third ≡ second ++ c
    → third ≡ old ++ (a ++ (b ++ c))
three_parts old a b c first second third one two three =
    three ∙ ap (λ (text : List ℕ). text ++ c) (two ∙ ap (λ (text : List ℕ). text ++ b) one)
    ∙ append_assoc (old ++ a) b c ∙ append_assoc old a (b ++ c)
