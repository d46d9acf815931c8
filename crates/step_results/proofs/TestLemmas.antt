-- Tests, and what is joined of them.
use Rattle.std.proofs.Common.{ℕ, ◌≡◌, ◌==◌, ◌&&◌, ◌||◌, refl, Bool, true, false, arith}
use Rattle.std.proofs.lemmas.Bool.Decides.{nat_tests}

pub same_either_way : (a b : ℕ) → (a == b) ≡ (b == a)
same_either_way a b = grind (arith, nat_tests)

pub or_turned : (a b c : Bool) → (a || (b || c)) ≡ (b || (a || c))
or_turned true true c = refl
or_turned true false c = refl
or_turned false true c = refl
or_turned false false c = refl

pub same_and : (a b c e : Bool) → a ≡ b → c ≡ e → (a && c) ≡ (b && e)
same_and a b c e h k = rw (h, k) refl

pub same_or : (a b c e : Bool) → a ≡ b → c ≡ e → (a || c) ≡ (b || e)
same_or a b c e h k = rw (h, k) refl
