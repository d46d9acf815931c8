-- Ranks, and GUIDs where ranks are equal, put switches in order.
use Rattle.std.proofs.Common.{◌≡◌, ◌≢◌, ℕ, zero, suc, ◌<◌, true, false, ◌==◌, ◌&&◌, ◌||◌, nat_lt, List, [], ◌∷◌, length, get_or, refl, sym, ap, ◌∙◌, arith}
use Rattle.std.specs.List.{AllByRecursion, IsDistinct}
use Rattle.std.proofs.lemmas.Bool.{eq-eqb, false≢true}
use Rattle.std.proofs.lemmas.Bool.Decides.{nat_tests}
use Rattle.std.proofs.lemmas.Map.Keys.{IsDistinct-head, IsDistinct-tail}
use Rattle.updn_routes.specs.Order.{IsOrder, precedes}

-- ---- GUIDs
differs : (x : ℕ) (ys : List ℕ) (i : ℕ) → AllByRecursion (λ y. (x == y) ≡ false) ys → i < length ys
    → (x == get_or ys i 0) ≡ false
differs x [] i all less = absurd (let no_room : ⊥ = omega (arith, less) in no_room)
differs x (y ∷ ys) zero all less = all.0
differs x (y ∷ ys) (suc i) all less = differs x ys i all.1 (omega (arith, less))

pub own : (xs : List ℕ) (i j : ℕ) → IsDistinct (λ a b. a == b) xs → i < length xs → j < length xs
    → get_or xs i 0 ≡ get_or xs j 0 → i ≡ j
own [] i j apart il jl same = absurd (let no_room : ⊥ = omega (arith, il) in no_room)
own (x ∷ xs) zero zero apart il jl same = refl
own (x ∷ xs) zero (suc j) apart il jl same =
    absurd (false≢true (sym (differs x xs j (IsDistinct-head (λ a b. a == b) x xs apart) (omega (arith, jl))) ∙ eq-eqb x (get_or xs j 0) same))
own (x ∷ xs) (suc i) zero apart il jl same =
    absurd (false≢true (sym (differs x xs i (IsDistinct-head (λ a b. a == b) x xs apart) (omega (arith, il))) ∙ eq-eqb x (get_or xs i 0) (sym same)))
own (x ∷ xs) (suc i) (suc j) apart il jl same =
    ap suc (own xs i j (IsDistinct-tail (λ a b. a == b) x xs apart) (omega (arith, il)) (omega (arith, jl)) same)

-- ---- pairs of numbers, the first first
never : (a b : ℕ) → (nat_lt a a || ((a == a) && nat_lt b b)) ≡ false
never a b = grind (arith, nat_tests)

chain : (a b c x y z : ℕ) → (nat_lt a b || ((a == b) && nat_lt x y)) ≡ true
    → (nat_lt b c || ((b == c) && nat_lt y z)) ≡ true → (nat_lt a c || ((a == c) && nat_lt x z)) ≡ true
chain a b c x y z h k = grind (arith, nat_tests)

either : (a b x y : ℕ) → x ≢ y
    → ((nat_lt a b || ((a == b) && nat_lt x y)) || (nat_lt b a || ((b == a) && nat_lt y x))) ≡ true
either a b x y apart = grind (arith, nat_tests)

pub ranks_order : (ranks guids : List ℕ) → IsDistinct (λ a b. a == b) guids
    → IsOrder (length guids) (precedes ranks guids)
ranks_order ranks guids apart =
    record {
      irreflexive = λ s. never (get_or ranks s 0) (get_or guids s 0);
      transitive = λ s t u. chain (get_or ranks s 0) (get_or ranks t 0) (get_or ranks u 0) (get_or guids s 0) (get_or guids t 0) (get_or guids u 0);
      total = λ s t sl tl away. either (get_or ranks s 0) (get_or ranks t 0) (get_or guids s 0) (get_or guids t 0) (λ same. away (own guids s t apart sl tl same));
    }
