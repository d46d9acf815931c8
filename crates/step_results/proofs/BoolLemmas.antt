-- Truth values, bits that stand for them, and values that may be there.
use Rattle.std.proofs.Common.{ℕ, zero, suc, ◌≡◌, ◌==◌, ◌-◌, ◌<◌, ◌&&◌, ◌||◌, Bool, true, false, not, Option, Some, None, is_some, option_map, refl, sym, arith}
use Rattle.std.proofs.lemmas.Bool.{false≢true}
use Rattle.std.proofs.lemmas.Option.{same_Some}

-- ---- `and`, `or` and `not` of what is known
pub or_assoc : (a b c : Bool) → ((a || b) || c) ≡ (a || (b || c))
or_assoc true b c = refl
or_assoc false b c = refl

pub or_false : (b : Bool) → (b || false) ≡ b
or_false true = refl
or_false false = refl

-- the same, the other way round
pub false_more : (b : Bool) → b ≡ (b || false)
false_more true = refl
false_more false = refl

pub or_true : (b : Bool) → (b || true) ≡ true
or_true true = refl
or_true false = refl

pub and_true : (b : Bool) → (b && true) ≡ b
and_true true = refl
and_true false = refl

pub and_false : (b : Bool) → (b && false) ≡ false
and_false true = refl
and_false false = refl

-- what follows the first counts only if the first is so
pub and_alike : (a b c : Bool) → (a ≡ true → b ≡ c) → (a && b) ≡ (a && c)
and_alike true b c same = same refl
and_alike false b c same = refl

pub not_true : (b : Bool) → not b ≡ true → b ≡ false
not_true false is = refl
not_true true is = absurd (false≢true is)

pub not_twice : (b : Bool) → not (not b) ≡ b
not_twice true = refl
not_twice false = refl

pub implied : (a b : Bool) → (not a || b) ≡ true → a ≡ true → b ≡ true
implied true b is on = is
implied false b is on = absurd (false≢true on)

-- which two of four are taken together does not matter
pub or_exchanged : (a b c d : Bool) → ((a || b) || (c || d)) ≡ ((a || c) || (b || d))
or_exchanged true b true d = refl
or_exchanged true b false d = refl
or_exchanged false true true d = refl
or_exchanged false true false d = refl
or_exchanged false false true d = refl
or_exchanged false false false d = refl

pub or_none : (a b : Bool) → (a || (b && false)) ≡ a
or_none true b = refl
or_none false true = refl
or_none false false = refl

-- a bit taken from 1 is set if and only if it was not
pub bit_turned : (b : ℕ) → b < 2 → (1 - b == 1) ≡ not (b == 1)
bit_turned zero low = refl
bit_turned (suc zero) low = refl
bit_turned (suc (suc b)) low = absurd (omega (arith, low))

-- ---- what may be there
pub none_of : {X : Type 0} (o : Option X) → is_some o ≡ false → o ≡ None
none_of None is = refl
none_of (Some x) is = absurd (false≢true (sym is))

pub mapped_some : {X Y : Type 0} (f : X → Y) (o : Option X) (y : Y) → option_map f o ≡ Some y → (x : X) × (o ≡ Some x) × (f x ≡ y)
mapped_some f (Some x) y is = (x, refl, same_Some (f x) y is)
mapped_some f None y is = cc
