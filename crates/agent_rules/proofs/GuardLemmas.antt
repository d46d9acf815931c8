-- Guards: what a test lets through, and what is given where it holds.
use Rattle.std.proofs.Common.{◌≡◌, Bool, true, if◌then◌else◌, Result, Ok, Err, refl}
use Rattle.step_results.proofs.StepLemmas.{let_through, same_ok}

-- a value that was let through
pub taken_ok : {X E : Type 0} (b : Bool) (x next : X) (e : E) → (if b then Ok x else Err e) ≡ Ok next → (b ≡ true) × (x ≡ next)
taken_ok b x next e h = let through = let_through b (Ok x) e next h in (through.0, same_ok x next through.1)

pub passed : {X E : Type 0} (b : Bool) (r : Result X E) (e : E) → b ≡ true → (if b then r else Err e) ≡ r
passed b r e h = rw h refl
