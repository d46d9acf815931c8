-- What is selected of lists, as it is looked for.
use Rattle.std.proofs.Common.{◌≡◌, Bool, false, ◌&&◌, List, [], ◌∷◌, ◌++◌, filter, refl, sym, ◌∙◌, ap, inl, inr}
use Rattle.std.specs.List.{flat_map}
use Rattle.std.proofs.lemmas.Bool.{cases_Bool}

-- ---- what a look-up leaves out brings nothing
pub filter_of_some : {X : Type 0} (p keep : X → Bool) → ((x : X) → keep x ≡ false → p x ≡ false) → (xs : List X) → filter p (filter keep xs) ≡ filter p xs
filter_of_some p keep out [] = refl
filter_of_some p keep out (x ∷ xs) = elim (cases_Bool (keep x)) [
  | inl kept ↦ rw kept (elim (cases_Bool (p x)) [
    | inl passes ↦ rw passes (ap (λ rest. x ∷ rest) (filter_of_some p keep out xs))
    | inr fails ↦ rw fails (filter_of_some p keep out xs)
  ])
  | inr left ↦ rw left (rw (out x left) (filter_of_some p keep out xs))
]

pub flat_of_some : {X Y : Type 0} (f : X → List Y) (keep : X → Bool) → ((x : X) → keep x ≡ false → f x ≡ []) → (xs : List X) → flat_map f (filter keep xs) ≡ flat_map f xs
flat_of_some f keep out [] = refl
flat_of_some f keep out (x ∷ xs) = elim (cases_Bool (keep x)) [
  | inl kept ↦ rw kept (ap (λ rest. f x ++ rest) (flat_of_some f keep out xs))
  | inr left ↦ rw left (flat_of_some f keep out xs ∙ ap (λ (some : List _). some ++ flat_map f xs) (sym (out x left)))
]

-- one filter after another is a filter by both
pub filter_both : {X : Type 0} (a b : X → Bool) (xs : List X) → filter (λ x. a x && b x) xs ≡ filter a (filter b xs)
filter_both a b [] = refl
filter_both a b (x ∷ xs) = elim (cases_Bool (b x)) [
  | inl second ↦ elim (cases_Bool (a x)) [
    | inl first ↦ rw (second, first) (ap (λ rest. x ∷ rest) (filter_both a b xs))
    | inr first ↦ rw (second, first) (filter_both a b xs)
  ]
  | inr second ↦ elim (cases_Bool (a x)) [
    | inl first ↦ rw (second, first) (filter_both a b xs)
    | inr first ↦ rw (second, first) (filter_both a b xs)
  ]
]
