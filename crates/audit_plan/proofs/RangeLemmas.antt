-- Elements of ranges, and lists that grow by a part for each number.
use Rattle.std.proofs.Common.{◌≡◌, ◌∙◌, ap, refl, sym, ℕ, zero, suc, ◌+◌, ◌<◌, ◌≤◌, List, ◌∷◌, [], ◌++◌, map, flat_map, get_or, slice_get, arith, ◌-◌, length, drop, Option, Some, unwrap_or}
use Rattle.std.specs.List.{range_with_len}
use Rattle.std.proofs.lemmas.List.{append_assoc, map_push}
use Rattle.step_results.proofs.RangeLemmas.{flat_more, range_more}

-- ---- elements of ranges
pub at_range : {X : Type 0} (f : ℕ → X) (low many i k : ℕ) (none : X) → low + i ≡ k → i < many → get_or (map f (range_with_len low many)) i none ≡ f k
at_range f low zero i k none is within = absurd (omega (arith, within))
at_range f low (suc many) zero k none is within = let same : low ≡ k = omega (arith, is) in ap f same
at_range f low (suc many) (suc i) k none is within = at_range f (low + 1) many i k none (omega (arith, is)) (omega (arith, within))

pub past_range : {X : Type 0} (f : ℕ → X) (low many i : ℕ) (none : X) → many ≤ i → get_or (map f (range_with_len low many)) i none ≡ none
past_range f low zero i none past = refl
past_range f low (suc many) zero none past = absurd (omega (arith, past))
past_range f low (suc many) (suc i) none past = past_range f (low + 1) many i none (omega (arith, past))

-- an element of a range, if there is one
pub at_some : {X : Type 0} (f : ℕ → X) (low many i : ℕ) (x : X) → slice_get (map f (range_with_len low many)) i ≡ Some x → f (low + i) ≡ x
at_some f low zero i x is = absurd (cc)
at_some f low (suc many) zero x is =
    let here : low + 0 ≡ low = omega arith in
    ap f here ∙ ap (λ (o : Option _). unwrap_or o (f low)) is
at_some f low (suc many) (suc i) x is =
    let next : low + suc i ≡ (low + 1) + i = omega arith in
    ap f next ∙ at_some f (low + 1) many i x is

pub none_there : {X : Type 0} (xs : List X) (i : ℕ) (x : X) → xs ≡ [] → slice_get xs i ≡ Some x → ⊥
none_there [] i x none is = absurd (cc)
none_there (y ∷ ys) i x none is = absurd (cc)

-- ---- one more
pub map_range_more : {X : Type 0} (f : ℕ → X) (n : ℕ) → map f (range_with_len 0 (n + 1)) ≡ map f (range_with_len 0 n) ++ f n ∷ []
map_range_more f n =
    let next : n + 1 ≡ suc n = omega arith in
    let last : 0 + n ≡ n = omega arith in
    ap (λ (k : ℕ). map f (range_with_len 0 k)) next ∙ ap (map f) (range_more 0 n ∙ ap (λ (k : ℕ). range_with_len 0 n ++ k ∷ []) last) ∙ map_push f (range_with_len 0 n) n

pub flat_onto : {X : Type 0} (f : ℕ → List X) (before so_far after : List X) (n : ℕ) → so_far ≡ before ++ flat_map f (range_with_len 0 n) → after ≡ so_far ++ f n
    → after ≡ before ++ flat_map f (range_with_len 0 (n + 1))
flat_onto f before so_far after n is more =
    let next : n + 1 ≡ suc n = omega arith in
    more ∙ ap (λ (xs : List _). xs ++ f n) is ∙ append_assoc before (flat_map f (range_with_len 0 n)) (f n)
    ∙ ap (λ (xs : List _). before ++ xs) (sym (ap (λ (k : ℕ). flat_map f (range_with_len 0 k)) next ∙ flat_more f 0 n n (omega arith)))

pub cut_before : {X : Type 0} (cables : List X) (index : ℕ) (none : X) → 0 < index → index ≤ length cables → drop (index - 1) cables ≡ get_or cables (index - 1) none ∷ drop index cables
cut_before cables zero none some within = absurd (omega (arith, some))
cut_before [] (suc index) none some within = absurd (omega (arith, within))
cut_before (first ∷ rest) (suc zero) none some within = refl
cut_before (first ∷ rest) (suc (suc index)) none some within =
    let less : suc (suc index) - 1 ≡ suc index = omega arith in
    let again : suc index - 1 ≡ index = omega arith in
    let rest_cut = cut_before rest (suc index) none (omega arith) (omega (arith, within)) in
    rw less (rw again at rest_cut)
