-- Steps that may be refused: what follows from how a chain of them ended.
use Rattle.std.proofs.Common.{◌≡◌, Bool, true, false, if◌then◌else◌, Option, Some, None, Result, Ok, Err, refl}
use Rattle.step_results.specs.Steps.{◌>>=◌, unless}
use Rattle.step_results.specs.Gives.{Fails}

-- the same value, the same refusal
pub same_ok : {A E : Type 0} (x y : A) → ◌≡◌ {A = Result A E} (Ok x) (Ok y) → x ≡ y
same_ok x y h = cc

pub same_err : {A E : Type 0} (d e : E) → ◌≡◌ {A = Result A E} (Err d) (Err e) → d ≡ e
same_err d e h = cc

-- ---- chains
-- both steps of a chain that gave a value
pub bind_ok : {A B E : Type 0} (r : Result A E) (f : A → Result B E) (y : B) → (r >>= f) ≡ Ok y → (x : A) × (r ≡ Ok x) × (f x ≡ Ok y)
bind_ok (Ok x) f y h = (x, refl, h)
bind_ok (Err e) f y h = absurd cc

-- the same where the second step is never refused
pub bind_done : {A B E : Type 0} (r : Result A E) (f : A → B) (y : B) → (r >>= λ x. Ok (f x)) ≡ Ok y → (x : A) × (r ≡ Ok x) × (f x ≡ y)
bind_done (Ok x) f y h = (x, refl, cc)
bind_done (Err e) f y h = absurd cc

pub bind_done_err : {A B E : Type 0} (r : Result A E) (f : A → B) (e : E) → (r >>= λ x. Ok (f x)) ≡ Err e → r ≡ Err e
bind_done_err (Ok x) f e h = absurd cc
bind_done_err (Err d) f e h = cc

-- after a first step that gave a value, and after one that was refused
pub bind_after : {A B E : Type 0} (r : Result A E) (f : A → Result B E) (x : A) → r ≡ Ok x → (r >>= f) ≡ f x
bind_after r f x h = rw h refl

pub bind_refused : {A B E : Type 0} (r : Result A E) (f : A → Result B E) (e : E) → r ≡ Err e → (r >>= f) ≡ Err e
bind_refused r f e h = rw h refl

-- second steps that are alike
pub bind_alike : {A B E : Type 0} (r : Result A E) (f g : A → Result B E) → ((x : A) → f x ≡ g x) → (r >>= f) ≡ (r >>= g)
bind_alike (Ok x) f g h = h x
bind_alike (Err e) f g h = refl

-- three steps, in either grouping
pub bind_twice : {A B C E : Type 0} (r : Result A E) (f : A → Result B E) (g : B → Result C E) → ((r >>= f) >>= g) ≡ (r >>= λ x. f x >>= g)
bind_twice (Ok x) f g = refl
bind_twice (Err e) f g = refl

-- a reader that fails at the first step fails so at the chain
pub fails_on : {A B Fault : Type 0} (reported : Option Fault) (given : Result A Fault) (f : A → Result B Fault) → Fails reported given → Fails reported (given >>= f)
fails_on None given f h = tt
fails_on (Some fault) given f h = rw h refl

-- ---- guards
-- what a guard lets pass
pub let_through : {A E : Type 0} (test : Bool) (r : Result A E) (e : E) (y : A) → (if test then r else Err e) ≡ Ok y → (test ≡ true) × (r ≡ Ok y)
let_through true r e y h = (refl, h)
let_through false r e y h = absurd cc

pub not_stopped : {A E : Type 0} (test : Bool) (e : E) (r : Result A E) (y : A) → (if test then Err e else r) ≡ Ok y → (test ≡ false) × (r ≡ Ok y)
not_stopped true e r y h = absurd cc
not_stopped false e r y h = (refl, h)

-- a value was given unless there was a fault
pub unless_ok : {X E : Type 0} (o : Option E) (x y : X) → unless o x ≡ Ok y → (o ≡ None) × (x ≡ y)
unless_ok None x y h = (refl, cc)
unless_ok (Some fault) x y h = absurd cc

pub unless_err : {X E : Type 0} (o : Option E) (x : X) (fault : E) → unless o x ≡ Err fault → o ≡ Some fault
unless_err None x fault h = absurd cc
unless_err (Some other) x fault h = cc
