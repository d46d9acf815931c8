-- A piece as it counts, word by word.
use Rattle.std.proofs.Common.{◌≡◌, ℕ, ◌+◌, ◌<◌, List, [], ◌∷◌, ◌++◌, length, take, map, get_or, sym, ap, ◌∙◌, append_assoc, arith}
use Rattle.std.specs.List.{flat_map}
use Rattle.std.specs.Borrow.{Bor}
use Rattle.std.proofs.lemmas.Grind.{flat_map-append}
use Rattle.std.proofs.lemmas.List.{map_more, take-map, append-nil}

-- one more word, after a blank
pub word_more : (words : List (Bor (List ℕ))) (i : ℕ) (word : Bor (List ℕ)) (so_far before : List ℕ) → i < length words
    → so_far ≡ before ++ flat_map (λ w. 32 ∷ w) (take i (map (λ w. w.now) words))
    → (so_far ++ 32 ∷ []) ++ (get_or words i word).now ≡ before ++ flat_map (λ w. 32 ∷ w) (take (i + 1) (map (λ w. w.now) words))
word_more words i word so_far before within h =
    let f = λ (w : List ℕ). 32 ∷ w in
    let now = λ (w : Bor (List ℕ)). w.now in
    let last = (get_or words i word).now in
    let more : flat_map f (take (i + 1) (map now words)) ≡ flat_map f (take i (map now words)) ++ f last =
    ap (flat_map f) (take-map now (i + 1) words ∙ map_more now words i word within)
    ∙ flat_map-append f (map now (take i words)) (last ∷ [])
    ∙ ap (λ (rest : List ℕ). flat_map f (map now (take i words)) ++ rest) (append-nil (f last))
    ∙ ap (λ (front : List (List ℕ)). flat_map f front ++ f last) (sym (take-map now i words)) in
    rw (more, h) (grind (arith, append_assoc))
