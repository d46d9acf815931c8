-- What loops find and add, turn by turn.
use Rattle.std.proofs.Common.{◌≡◌, ◌∙◌, refl, sym, ap, ℕ, suc, ◌+◌, ◌-◌, ◌<◌, ◌≤◌, ◌&&◌, Bool, true, false, cond, List, [], ◌∷◌, ◌++◌, find, length, take, drop, drop-cons, get_or, Some, unwrap_or, append_assoc, zero, inl, inr, arith}
use Rattle.std.specs.List.{flat_map, list_all, range_with_len}
use Rattle.std.proofs.lemmas.Bool.{cases_lt}
use Rattle.std.proofs.lemmas.List.{flat_map_more, take_more}
use Rattle.step_results.proofs.RangeLemmas.{flat_more}
use Rattle.netdiscover_file.specs.declared.node.Node.{Node}
use Rattle.topology_import.specs.declared.nodes.Meant.{Meant}
use Rattle.topology_import.specs.declared.planned.Planned.{Planned}
use Rattle.topology_import.specs.Names.{named, with_name}

-- ---- a search over numbers that rise
-- the first number of those that are left, or one behind it
find_next : (p : ℕ → Bool) (a limit : ℕ) → a < limit
    → find p (range_with_len a (limit - a)) ≡ cond (p a) (Some a) (find p (range_with_len (a + 1) (limit - (a + 1))))
find_next p a limit inside =
    let left : limit - a ≡ suc (limit - (a + 1)) = omega (arith, inside) in
    rw left refl

pub found_here : (p : ℕ → Bool) (a limit other : ℕ) → a < limit → p a ≡ true → unwrap_or (find p (range_with_len a (limit - a))) other ≡ a
found_here p a limit other inside passes = rw (find_next p a limit inside, passes) refl

pub found_later : (p : ℕ → Bool) (a limit other : ℕ) → a < limit → p a ≡ false
    → unwrap_or (find p (range_with_len a (limit - a))) other ≡ unwrap_or (find p (range_with_len (a + 1) (limit - (a + 1)))) other
found_later p a limit other inside passes = rw (find_next p a limit inside, passes) refl

-- numbers that do not pass are left out of the search
skipped_by : (k : ℕ) (p : ℕ → Bool) (a b limit other : ℕ) → a ≤ b → b - a ≡ k → ((n : ℕ) → a ≤ n → n < b → p n ≡ false)
    → unwrap_or (find p (range_with_len a (limit - a))) other ≡ unwrap_or (find p (range_with_len b (limit - b))) other
skipped_by zero p a b limit other low is none = let same : a ≡ b = omega (arith, low, is) in rw same refl
skipped_by (suc k) p a b limit other low is none = elim (cases_lt a limit) [
  | inl inside ↦
      found_later p a limit other inside (none a (omega arith) (omega (arith, is)))
      ∙ skipped_by k p (a + 1) b limit other (omega (arith, is)) (omega (arith, is)) (λ n more high. none n (omega (arith, more)) high)
  | inr past ↦
      let one : limit - a ≡ 0 = omega (arith, past) in
      let two : limit - b ≡ 0 = omega (arith, past, low) in
      rw (one, two) refl
]

pub skipped : (p : ℕ → Bool) (a b limit other : ℕ) → a ≤ b → ((n : ℕ) → a ≤ n → n < b → p n ≡ false)
    → unwrap_or (find p (range_with_len a (limit - a))) other ≡ unwrap_or (find p (range_with_len b (limit - b))) other
skipped p a b limit other low none = skipped_by (b - a) p a b limit other low refl none

-- all numbers that are left pass
all_next : (p : ℕ → Bool) (a limit : ℕ) → a < limit
    → list_all p (range_with_len a (limit - a)) ≡ (p a && list_all p (range_with_len (a + 1) (limit - (a + 1))))
all_next p a limit inside =
    let left : limit - a ≡ suc (limit - (a + 1)) = omega (arith, inside) in
    rw left refl

pub all_later : (p : ℕ → Bool) (a limit : ℕ) → a < limit → p a ≡ true
    → list_all p (range_with_len a (limit - a)) ≡ list_all p (range_with_len (a + 1) (limit - (a + 1)))
all_later p a limit inside passes = rw (all_next p a limit inside, passes) refl

pub not_all : (p : ℕ → Bool) (a limit : ℕ) → a < limit → p a ≡ false → list_all p (range_with_len a (limit - a)) ≡ false
not_all p a limit inside passes = rw (all_next p a limit inside, passes) refl

pub all_over : (p : ℕ → Bool) (a limit : ℕ) → limit ≤ a → list_all p (range_with_len a (limit - a)) ≡ true
all_over p a limit past =
    let none : limit - a ≡ 0 = omega (arith, past) in
    rw none refl

-- ---- lists made of lists
-- one more item of a list
pub one_more : {X Y : Type 0} (f : X → List Y) (xs : List X) (i : ℕ) (d : X) (before : List Y) → i < length xs
    → (before ++ flat_map f (take i xs)) ++ f (get_or xs i d) ≡ before ++ flat_map f (take (i + 1) xs)
one_more f xs i d before inside =
    flat_map_more f before (take i xs) (get_or xs i d) ∙ ap (λ some. before ++ flat_map f some) (sym (take_more xs i d inside))

-- one more number
pub one_more_number : {Y : Type 0} (f : ℕ → List Y) (n : ℕ) → flat_map f (range_with_len 0 n) ++ f n ≡ flat_map f (range_with_len 0 (n + 1))
one_more_number f n =
    let next : n + 1 ≡ suc n = omega arith in
    rw next (sym (flat_more f 0 n n (omega arith)))

pub one_more_behind : {Y : Type 0} (f : ℕ → List Y) (before : List Y) (n : ℕ)
    → (before ++ flat_map f (range_with_len 0 n)) ++ f n ≡ before ++ flat_map f (range_with_len 0 (n + 1))
one_more_behind f before n = append_assoc before (flat_map f (range_with_len 0 n)) (f n) ∙ ap (λ rest. before ++ rest) (one_more_number f n)

-- what is left of a list
pub cut_at : {X : Type 0} (xs : List X) (i : ℕ) (d : X) → i < length xs → drop i xs ≡ get_or xs i d ∷ drop (i + 1) xs
cut_at xs i d inside =
    let next : i + 1 ≡ suc i = omega arith in
    rw next (drop-cons xs i d inside)

-- ---- nodes that are named
pub named_next : (found : List Node) (so_far next : List Planned) (node : Meant) (left rest : List Meant) → left ≡ node ∷ rest
    → next ≡ so_far ++ with_name found so_far node ∷ [] → named found so_far left ≡ named found next rest
unfolding named
named_next found so_far next node left rest is after = rw (is, after) refl

pub named_over : (found : List Node) (so_far : List Planned) (left : List Meant) → left ≡ [] → named found so_far left ≡ so_far
unfolding named
named_over found so_far left over = rw over refl
