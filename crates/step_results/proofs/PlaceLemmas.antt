-- Where a search finds an element of a list, where it finds none, and what stays where it is with one element more.
use Rattle.std.proofs.Common.{◌≡◌, ℕ, zero, suc, ◌+◌, ◌≤◌, Bool, true, false, cond, not, ◌&&◌, nat_le, nat_lt, if◌then◌else◌, List, [], ◌∷◌, ◌++◌, length, map, position}
use Rattle.std.proofs.Common.{Some, None, slice_get, refl, sym, ap, ◌∙◌, arith}
use Rattle.std.specs.List.{list_any, position_or_len, prefix_len}
use Rattle.std.specs.Option.{option_map_or}
use Rattle.std.proofs.lemmas.Bool.{lt-ltb, ltb-false}
use Rattle.std.proofs.lemmas.Bool.Decides.{nat_tests}
use Rattle.std.proofs.lemmas.List.{length-map, map_push}
use Rattle.std.proofs.lemmas.List.Sums.{prefix_len-le-length}
use Rattle.std.proofs.lemmas.Option.{cond_some}

pub place-found : {X : Type 0} (p : X → Bool) (xs : List X) (i : ℕ) → position p xs ≡ Some i → i ≡ position_or_len p xs
place-found p xs i h = sym (cond_some (nat_lt (position_or_len p xs) (length xs)) (position_or_len p xs) i h).1

none_below : (b : Bool) (n : ℕ) → cond b (Some n) None ≡ None → b ≡ false
none_below true n h = absurd cc
none_below false n h = refl

pub place-none : {X : Type 0} (p : X → Bool) (xs : List X) → position p xs ≡ None → length xs ≡ position_or_len p xs
place-none p xs h =
    let past = ltb-false _ _ (none_below (nat_lt (position_or_len p xs) (length xs)) (position_or_len p xs) h) in
    omega (arith, past, prefix_len-le-length (λ x. not (p x)) xs)

pub one_more : (m n : ℕ) → nat_lt m n ≡ nat_lt (1 + m) (suc n)
one_more m n = grind (arith, nat_tests)

-- some element passes if and only if the place of the first is before the end
pub list_any_place : {X : Type 0} (p : X → Bool) (xs : List X) → list_any p xs ≡ nat_lt (position_or_len p xs) (length xs)
list_any_place p [] = refl
list_any_place p (x ∷ xs) = by (p x) refl (list_any_place p xs)
  where
    by : (b : Bool) → p x ≡ b → list_any p xs ≡ nat_lt (position_or_len p xs) (length xs)
        → list_any p (x ∷ xs) ≡ nat_lt (position_or_len p (x ∷ xs)) (length (x ∷ xs))
    by true e later = rw e (sym (lt-ltb 0 (suc (length xs)) (omega arith)))
    by false e later = rw e (later ∙ one_more (position_or_len p xs) (length xs))

pub not_there : {X : Type 0} (p : X → Bool) (xs : List X) → position p xs ≡ None → list_any p xs ≡ false
not_there p xs h = list_any_place p xs ∙ none_below (nat_lt (position_or_len p xs) (length xs)) (position_or_len p xs) h

-- ---- what is looked up among keys that are read of the elements of a list, each at the place of its element
prefix_len-map : {X Y : Type 0} (p : Y → Bool) (f : X → Y) (xs : List X) → prefix_len (λ x. p (f x)) xs ≡ prefix_len p (map f xs)
prefix_len-map p f [] = refl
prefix_len-map p f (x ∷ xs) = rw (prefix_len-map p f xs) refl

-- a search by what is read of each element is a search of what is read
pub position-map : {X Y : Type 0} (p : Y → Bool) (f : X → Y) (xs : List X) → position (λ x. p (f x)) xs ≡ position p (map f xs)
position-map p f xs = rw (prefix_len-map (λ y. not (p y)) f xs, length-map xs f) refl

-- a key's place is its element's
pub place_by_key : {X K : Type 0} (p : K → Bool) (f : X → K) (keys : List K) (xs : List X) → keys ≡ map f xs → position p keys ≡ position (λ x. p (f x)) xs
place_by_key p f keys xs same = ap (position p) same ∙ sym (position-map p f xs)

-- a new key goes last, as its element does
pub keys_grow : {X K : Type 0} (is_same : K → K → Bool) (f : X → K) (key : K) (x : X) (keys : List K) (xs : List X) → keys ≡ map f xs → f x ≡ key
    → position (λ y. is_same key (f y)) xs ≡ None → (if list_any (is_same key) keys then keys else keys ++ key ∷ []) ≡ map f (xs ++ x ∷ [])
keys_grow is_same f key x keys xs same read new =
    let absent : list_any (λ other. is_same key other) keys ≡ false = not_there _ keys (place_by_key (λ other. is_same key other) f keys xs same ∙ new) in
    rw (absent, map_push f xs x, same, read) refl

-- ---- what is read of the element at a place, with one element more; the places are nodes', and a node counts its ports
count_grows : {X : Type 0} (ports : X → ℕ) (xs : List X) (x : X) (place : ℕ)
    → option_map_or ports (slice_get xs place) 0 ≤ option_map_or ports (slice_get (xs ++ x ∷ []) place) 0
count_grows ports [] x place = omega arith
count_grows ports (first ∷ xs) x zero = omega arith
count_grows ports (first ∷ xs) x (suc place) = count_grows ports xs x place

within_more : (number few many : ℕ) → few ≤ many → (nat_le 1 number && nat_le number few) ≡ true → (nat_le 1 number && nat_le number many) ≡ true
within_more number few many more h = grind (arith, nat_tests)

none_within : (number : ℕ) → (nat_le 1 number && nat_le number 0) ≡ false
none_within number = grind (arith, nat_tests)

-- a port stays one
pub port_still : {X : Type 0} (ports : X → ℕ) (xs : List X) (x : X) (place number : ℕ)
    → (nat_le 1 number && nat_le number (option_map_or ports (slice_get xs place) 0)) ≡ true
    → (nat_le 1 number && nat_le number (option_map_or ports (slice_get (xs ++ x ∷ []) place) 0)) ≡ true
port_still ports xs x place number h = within_more number _ _ (count_grows ports xs x place) h

-- and what is read of its node stays
pub read_still : {X Y : Type 0} (ports : X → ℕ) (read : X → Y) (other : Y) (xs : List X) (x : X) (place number : ℕ)
    → (nat_le 1 number && nat_le number (option_map_or ports (slice_get xs place) 0)) ≡ true
    → option_map_or read (slice_get (xs ++ x ∷ []) place) other ≡ option_map_or read (slice_get xs place) other
read_still ports read other [] x place number h = absurd (let none = none_within number in cc)
read_still ports read other (first ∷ xs) x zero number h = refl
read_still ports read other (first ∷ xs) x (suc place) number h = read_still ports read other xs x place number h
