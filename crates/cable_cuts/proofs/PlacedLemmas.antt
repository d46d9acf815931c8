-- What each element of a list gives with its place, one after another.
use Rattle.std.proofs.Common.{ℕ, ◌+◌, ◌<◌, ◌≤◌, ◌≡◌, ◌∙◌, ap, refl, List, [], ◌∷◌, ◌++◌, append-nil, get_or, length, take, arith}
use Rattle.std.specs.List.{enumerate_from, flat_map}
use Rattle.std.proofs.lemmas.List.{take_all, take_more}
use Rattle.std.proofs.lemmas.List.Concat.{flat_map-append}
use Rattle.std.proofs.lemmas.List.FromFn.{get_or-enumerate_from, length-enumerate_from}

pair_same : {X : Type 0} (i j : ℕ) (a b : X) → i ≡ j → a ≡ b → let p : ℕ × X = (i, a) in let q : ℕ × X = (j, b) in p ≡ q
pair_same i j a b e f = rw (e, f) refl

pub one_more : {X Y : Type 0} (f : ℕ × X → List Y) (xs : List X) (i : ℕ) (x : X) → i < length xs → get_or xs i x ≡ x
    → flat_map f (take (i + 1) (enumerate_from 0 xs)) ≡ flat_map f (take i (enumerate_from 0 xs)) ++ f (i, x)
one_more {X = X} f xs i x inside here =
    let all : List (ℕ × X) = enumerate_from 0 xs in
    let within : i < length all = omega (arith, length-enumerate_from 0 xs) in
    let at : get_or all i (0, x) ≡ (i, x) = get_or-enumerate_from 0 xs i (0, x) inside ∙ pair_same (0 + i) i (get_or xs i x) x (omega arith) here in
    ap (flat_map f) (take_more all i (0, x) within)
    ∙ (flat_map-append f (take i all) (get_or all i (0, x) ∷ [])
    ∙ ap (λ more. flat_map f (take i all) ++ more) (append-nil (f (get_or all i (0, x))) ∙ ap f at))

pub all_there : {X Y : Type 0} (f : ℕ × X → List Y) (xs : List X) (i : ℕ) → length xs ≤ i
    → flat_map f (take i (enumerate_from 0 xs)) ≡ flat_map f (enumerate_from 0 xs)
all_there f xs i past = ap (flat_map f) (take_all i (enumerate_from 0 xs) (omega (arith, past, length-enumerate_from 0 xs)))
