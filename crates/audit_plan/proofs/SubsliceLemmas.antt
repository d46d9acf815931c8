-- What stands in a text: a line that is printed of one of some stands in what is printed of all.
use Rattle.std.proofs.Common.{◌≡◌, ◌∙◌, ap, sym, subst, ℕ, zero, suc, ◌≤◌, List, [], ◌∷◌, ◌++◌, flat_map, length, slice_get, Some, arith}
use Rattle.std.specs.Str.Iter.{HasSubslice}
use Rattle.std.proofs.lemmas.Grind.{flat_map-append}
use Rattle.std.proofs.lemmas.List.{append-nil, append_assoc, length-append}

pub stands_itself : (line : List ℕ) → HasSubslice line line
stands_itself line = ([], [], sym (append-nil line))

-- with more behind it, or before it
pub stands_longer : {text : List ℕ} (line more : List ℕ) → HasSubslice text line → HasSubslice (text ++ more) line
stands_longer line more stands = (
  stands.0,
  stands.1 ++ more,
  ap (λ (t : List ℕ). t ++ more) stands.2 ∙ append_assoc stands.0 (line ++ stands.1) more ∙ ap (λ (t : List ℕ). stands.0 ++ t) (append_assoc line stands.1 more),
)

pub stands_behind : {text : List ℕ} (line more : List ℕ) → HasSubslice text line → HasSubslice (more ++ text) line
stands_behind line more stands =
    (more ++ stands.0, stands.1, ap (λ (t : List ℕ). more ++ t) stands.2 ∙ sym (append_assoc more stands.0 (line ++ stands.1)))

-- of one of some
pub stands_of_all : {X : Type 0} (f : X → List ℕ) (line : List ℕ) (all : List X) (place : ℕ) (one : X) → slice_get all place ≡ Some one
    → HasSubslice (f one) line → HasSubslice (flat_map f all) line
stands_of_all f line [] place one there stands = absurd (cc)
stands_of_all f line (x ∷ all) zero one there stands =
    let same : one ≡ x = cc in stands_longer line (flat_map f all) (subst (λ y. HasSubslice (f y) line) same stands)
stands_of_all f line (x ∷ all) (suc place) one there stands = stands_behind line (f x) (stands_of_all f line all place one there stands)

-- of lists that stand one behind the other
pub stands_of_lists : {X Y : Type 0} (f : Y → List ℕ) (g : X → List Y) (line : List ℕ) (all : List X) (place : ℕ) (one : X) → slice_get all place ≡ Some one
    → HasSubslice (flat_map f (g one)) line → HasSubslice (flat_map f (flat_map g all)) line
stands_of_lists f g line [] place one there stands = absurd (cc)
stands_of_lists f g line (x ∷ all) zero one there stands =
    let same : one ≡ x = cc in
    subst (λ t. HasSubslice t line) (sym (flat_map-append f (g x) (flat_map g all)))
    (stands_longer line (flat_map f (flat_map g all)) (subst (λ y. HasSubslice (flat_map f (g y)) line) same stands))
stands_of_lists f g line (x ∷ all) (suc place) one there stands =
    subst (λ t. HasSubslice t line) (sym (flat_map-append f (g x) (flat_map g all)))
    (stands_behind line (flat_map f (g x)) (stands_of_lists f g line all place one there stands))

-- nothing is longer than the text that it stands in
pub no_longer : (text line : List ℕ) → HasSubslice text line → length line ≤ length text
no_longer text line stands =
    let whole = ap (λ (t : List ℕ). length t) stands.2 in
    let parts = length-append stands.0 (line ++ stands.1) in
    let behind = length-append line stands.1 in
    omega (arith, whole, parts, behind)
