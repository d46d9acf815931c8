-- Marks of what the elements of a list name.
use Rattle.std.proofs.Common.{◌≡◌, ◌∙◌, ap, refl, sym, ℕ, ◌+◌, ◌<◌, ◌≤◌, Bool, false, ◌||◌, List, ◌∷◌, length, drop, get_or, add-one, drop-cons}
use Rattle.std.specs.List.{list_any}
use Rattle.std.proofs.lemmas.List.{drop_all}
use Rattle.step_results.proofs.BoolLemmas.{or_assoc, or_false}
use Rattle.topo_file.specs.Rounds.{is_marked}

-- before the element of this number
pub record AreMarkedOf {X : Type 0} (names : X → ℕ → Bool) (before : List Bool) (xs : List X) (index : ℕ) (marks : List Bool) : Type 0 where
  pub long : length marks ≡ length before
  pub marked : (k : ℕ) → (is_marked marks k || list_any (λ x. names x k) (drop index xs)) ≡ (is_marked before k || list_any (λ x. names x k) xs)

-- the same if nothing was marked at first
pub record AreMarkedFrom {X : Type 0} (names : X → ℕ → Bool) (count : ℕ) (xs : List X) (index : ℕ) (marks : List Bool) : Type 0 where
  pub long : length marks ≡ count
  pub marked : (k : ℕ) → (is_marked marks k || list_any (λ x. names x k) (drop index xs)) ≡ list_any (λ x. names x k) xs

pub cut_here : {X : Type 0} (xs : List X) (index : ℕ) (none : X) → index < length xs → drop index xs ≡ get_or xs index none ∷ drop (index + 1) xs
cut_here xs index none within = rw (add-one, drop-cons xs index none) refl

pub none_marked : {X : Type 0} (names : X → ℕ → Bool) (count : ℕ) (xs : List X) (marks : List Bool) → length marks ≡ count → ((k : ℕ) → is_marked marks k ≡ false)
    → AreMarkedFrom names count xs 0 marks
none_marked names count xs marks long none = record { long = long; marked = λ k. ap (λ (b : Bool). b || list_any (λ x. names x k) xs) (none k) }

one_marked : {X : Type 0} (names : X → ℕ → Bool) (xs : List X) (index : ℕ) (marks after : List Bool) (none : X) → index < length xs
    → ((k : ℕ) → is_marked after k ≡ (is_marked marks k || names (get_or xs index none) k))
    → (k : ℕ) → (is_marked after k || list_any (λ x. names x k) (drop (index + 1) xs)) ≡ (is_marked marks k || list_any (λ x. names x k) (drop index xs))
one_marked names xs index marks after none within more k =
    ap (λ (b : Bool). b || list_any (λ x. names x k) (drop (index + 1) xs)) (more k)
    ∙ or_assoc (is_marked marks k) (names (get_or xs index none) k) (list_any (λ x. names x k) (drop (index + 1) xs))
    ∙ ap (λ (rest : List _). is_marked marks k || list_any (λ x. names x k) rest) (sym (cut_here xs index none within))

pub marked_next : {X : Type 0} (names : X → ℕ → Bool) (before : List Bool) (xs : List X) (index : ℕ) (marks after : List Bool) (none : X) → index < length xs
    → AreMarkedOf names before xs index marks → length after ≡ length marks → ((k : ℕ) → is_marked after k ≡ (is_marked marks k || names (get_or xs index none) k))
    → AreMarkedOf names before xs (index + 1) after
marked_next names before xs index marks after none within so_far long more = record {
  long = long ∙ so_far.long;
  marked = λ k. one_marked names xs index marks after none within more k ∙ so_far.marked k;
}

pub marked_after : {X : Type 0} (names : X → ℕ → Bool) (count : ℕ) (xs : List X) (index : ℕ) (marks after : List Bool) (none : X) → index < length xs
    → AreMarkedFrom names count xs index marks → length after ≡ length marks → ((k : ℕ) → is_marked after k ≡ (is_marked marks k || names (get_or xs index none) k))
    → AreMarkedFrom names count xs (index + 1) after
marked_after names count xs index marks after none within so_far long more = record {
  long = long ∙ so_far.long;
  marked = λ k. one_marked names xs index marks after none within more k ∙ so_far.marked k;
}

none_left : {X : Type 0} (names : X → ℕ → Bool) (xs : List X) (index : ℕ) (marks : List Bool) → length xs ≤ index
    → (k : ℕ) → is_marked marks k ≡ (is_marked marks k || list_any (λ x. names x k) (drop index xs))
none_left names xs index marks ended k =
    sym (or_false (is_marked marks k)) ∙ ap (λ (rest : List _). is_marked marks k || list_any (λ x. names x k) rest) (sym (drop_all index xs ended))

pub all_marked_of : {X : Type 0} (names : X → ℕ → Bool) (before : List Bool) (xs : List X) (index : ℕ) (marks : List Bool) → length xs ≤ index
    → AreMarkedOf names before xs index marks → (k : ℕ) → is_marked marks k ≡ (is_marked before k || list_any (λ x. names x k) xs)
all_marked_of names before xs index marks ended so_far k = none_left names xs index marks ended k ∙ so_far.marked k

pub all_marked_from : {X : Type 0} (names : X → ℕ → Bool) (count : ℕ) (xs : List X) (index : ℕ) (marks : List Bool) → length xs ≤ index
    → AreMarkedFrom names count xs index marks → (k : ℕ) → is_marked marks k ≡ list_any (λ x. names x k) xs
all_marked_from names count xs index marks ended so_far k = none_left names xs index marks ended k ∙ so_far.marked k
