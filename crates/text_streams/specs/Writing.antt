-- What a writer that says what it holds holds after a text was written as far as it went.
use Rattle.std.specs.Prelude.{ℕ, ◌≡◌, ◌<◌, Bool, true, List, length, take, Option, Result, MatchResult}
use Rattle.std.specs.Io.KnownBytes.{Appends}

-- the contents grew by the beginning of the text, its length not said
abbrev pub AppendsPart : Option (List ℕ) → Option (List ℕ) → List ℕ → Type 0
AppendsPart old new text = (n : ℕ) × Appends old new (take n text)

-- a write of some bytes takes at least one of them
abbrev pub TakesSome : {E : Type 0} → Result ℕ E → List ℕ → Type 0
TakesSome result bytes = MatchResult result (λ n. 0 < length bytes → 0 < n) (λ _. ⊥)

-- a line is there as far as it went out, and whole if nothing is refused
pub record Writes (is_sure : Bool) (old new : Option (List ℕ)) (line : List ℕ) : Type 0 where
  pub part : AppendsPart old new line
  pub whole : is_sure ≡ true → Appends old new line
