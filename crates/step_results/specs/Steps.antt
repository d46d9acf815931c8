-- Steps that may be refused, one after the other.
use Rattle.std.specs.Prelude.{Option, Some, None, Result, Ok, Err}

-- the first of two steps that is refused decides; `do` chains steps so
infixl 10 ◌>>=◌
abbrev pub ◌>>=◌ : {A B E : Type 0} → Result A E → (A → Result B E) → Result B E
(Ok x) >>= f = f x
(Err e) >>= f = Err e

-- a value, unless there is a fault
abbrev pub unless : {X E : Type 0} → Option E → X → Result X E
unless None x = Ok x
unless (Some fault) x = Err fault
