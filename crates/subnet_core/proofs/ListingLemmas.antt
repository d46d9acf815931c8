-- Lines that are written one after the other.
use Rattle.std.proofs.Common.{◌≡◌, ℕ, ◌+◌, ◌<◌, ◌≤◌, List, [], ◌∷◌, ◌++◌, length, take, get_or, ◌∙◌, sym, ap, refl, append-nil, append_assoc, arith}
use Rattle.std.specs.List.{flat_map, enumerate_from}
use Rattle.std.proofs.lemmas.List.{take_more, take_all}
use Rattle.std.proofs.lemmas.List.Concat.{flat_map-append}
use Rattle.std.proofs.lemmas.List.FromFn.{get_or-enumerate_from, length-enumerate_from}

-- one more item
pub one_more : {A : Type 0} (lines : A → List ℕ) (all : List A) (i : ℕ) (item : A) (before : List ℕ) → i < length all → get_or all i item ≡ item
    → (before ++ flat_map lines (take i all)) ++ lines item ≡ before ++ flat_map lines (take (i + 1) all)
one_more lines all i item before inside here =
    append_assoc before (flat_map lines (take i all)) (lines item)
    ∙ ap (λ (text : List ℕ). before ++ text)
    (sym (ap (flat_map lines) (take_more all i item inside)
    ∙ (flat_map-append lines (take i all) (get_or all i item ∷ [])
    ∙ ap (λ (text : List ℕ). flat_map lines (take i all) ++ text) (append-nil (lines (get_or all i item)) ∙ ap lines here))))

same_pair : {A : Type 0} (i j : ℕ) (a b : A) → i ≡ j → a ≡ b → let p : ℕ × A = (i, a) in let q : ℕ × A = (j, b) in p ≡ q
same_pair i j a b e f = rw (e, f) refl

-- one more item, with its place
pub one_more_placed : {A : Type 0} (lines : ℕ × A → List ℕ) (all : List A) (i : ℕ) (item : A) (before : List ℕ) → i < length all
    → get_or all i item ≡ item
    → (before ++ flat_map lines (take i (enumerate_from 0 all))) ++ lines (i, item) ≡ before ++ flat_map lines (take (i + 1) (enumerate_from 0 all))
one_more_placed {A} lines all i item before inside here =
    let within : i < length (enumerate_from 0 all) = omega (arith, length-enumerate_from 0 all) in
    one_more lines (enumerate_from 0 all) i (i, item) before within
    (get_or-enumerate_from 0 all i (i, item) inside ∙ same_pair (0 + i) i (get_or all i item) item (omega arith) here)

-- behind the last item
pub all_placed : {A : Type 0} (lines : ℕ × A → List ℕ) (all : List A) (i : ℕ) (before : List ℕ) → length all ≤ i
    → before ++ flat_map lines (take i (enumerate_from 0 all)) ≡ before ++ flat_map lines (enumerate_from 0 all)
all_placed {A} lines all i before past =
    ap (λ (some : List (ℕ × A)). before ++ flat_map lines some) (take_all i (enumerate_from 0 all) (omega (arith, length-enumerate_from 0 all)))
