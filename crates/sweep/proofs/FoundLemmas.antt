-- Switches that were found, and their places.
use Rattle.std.proofs.Common.{ℕ, zero, suc, ◌≤◌, ◌==◌, ◌≡◌, ◌∙◌, ◌&&◌, ◌||◌, ap, refl, sym, nat_le, Bool, true, false, cond, List, [], ◌∷◌, ◌++◌}
use Rattle.std.proofs.Common.{length, slice_get, Option, Some, None, arith}
use Rattle.std.proofs.Math.Bool.{or-true}
use Rattle.std.specs.List.{AllByRecursion, IsDistinct, list_all, list_any}
use Rattle.std.proofs.lemmas.Bool.{and_parts, false≢true, or_parts}
use Rattle.std.proofs.lemmas.Bool.Decides.{Decides-eqb, nat_tests}
use Rattle.std.proofs.lemmas.List.Folds.{list_any-append}
use Rattle.std.proofs.lemmas.Map.Keys.{IsDistinct-cons, IsDistinct-head, IsDistinct-tail}
use Rattle.step_results.proofs.ListLemmas.{IsDistinct-nil}
use Rattle.std.proofs.lemmas.Option.{same_Some, slice_get-map}
use Rattle.sweep.specs.OfFabric.{Found, is_among, nodes_of, place_of}
use Rattle.sweep.specs.Progress.{StandsAt, is_found}

-- ---- numbers of which no two are the same
rec_at : {X : Type 0} (P : X → Type 0) (xs : List X) (k : ℕ) (x : X) → AllByRecursion P xs → slice_get xs k ≡ Some x → P x
rec_at P [] k x all there = cc
rec_at P (y ∷ xs) zero x all there = rw (sym (same_Some y x there)) all.0
rec_at P (y ∷ xs) (suc k) x all there = rec_at P xs k x all.1 there

head_apart : (x : ℕ) (xs : List ℕ) (k : ℕ) → IsDistinct (λ a b. a == b) (x ∷ xs) → slice_get xs k ≡ Some x → ⊥
head_apart x xs k once there =
    let apart = rec_at (λ y. (x == y) ≡ false) xs k x (IsDistinct-head (λ a b. a == b) x xs once) there in
    false≢true (sym apart ∙ (Decides-eqb x x).1 refl)

pub one_place : (xs : List ℕ) (a b x : ℕ) → IsDistinct (λ a b. a == b) xs → slice_get xs a ≡ Some x → slice_get xs b ≡ Some x → a ≡ b
one_place [] a b x once here there = cc
one_place (y ∷ xs) zero zero x once here there = refl
one_place (y ∷ xs) zero (suc b) x once here there = absurd (head_apart y xs b once (there ∙ sym here))
one_place (y ∷ xs) (suc a) zero x once here there = absurd (head_apart y xs a once (here ∙ sym there))
one_place (y ∷ xs) (suc a) (suc b) x once here there = ap suc (one_place xs a b x (IsDistinct-tail (λ a b. a == b) y xs once) here there)

rec_push : {X : Type 0} (P : X → Type 0) (xs : List X) (x : X) → AllByRecursion P xs → P x → AllByRecursion P (xs ++ x ∷ [])
rec_push P [] x all one = (one, tt)
rec_push P (y ∷ xs) x all one = (all.0, rec_push P xs x all.1 one)

-- one element more, that is like none of them
pub distinct_push : {X : Type 0} (same : X → X → Bool) (xs : List X) (x : X) → IsDistinct same xs → list_any (λ y. same y x) xs ≡ false
    → IsDistinct same (xs ++ x ∷ [])
distinct_push same [] x once none = IsDistinct-cons same x [] tt (IsDistinct-nil same)
distinct_push same (y ∷ xs) x once none =
    let apart = or_parts (same y x) (list_any (λ y. same y x) xs) none in
    IsDistinct-cons same y (xs ++ x ∷ []) (rec_push (λ z. same y z ≡ false) xs x (IsDistinct-head same y xs once) apart.0)
    (distinct_push same xs x (IsDistinct-tail same y xs once) apart.1)

pub any_by : {X : Type 0} (p : X → Bool) (xs : List X) (k : ℕ) (x : X) → slice_get xs k ≡ Some x → p x ≡ true → list_any p xs ≡ true
any_by p [] k x there passes = cc
any_by p (y ∷ xs) zero x there passes = rw (same_Some y x there, passes) refl
any_by p (y ∷ xs) (suc k) x there passes = rw (any_by p xs k x there passes) (or-true (p y))

pub all_by : {X : Type 0} (p : X → Bool) (xs : List X) → ((k : ℕ) (x : X) → slice_get xs k ≡ Some x → p x ≡ true) → list_all p xs ≡ true
all_by p [] each = refl
all_by p (x ∷ xs) each = rw (each 0 x refl, all_by p xs (λ k y there. each (suc k) y there)) refl

-- an element that passes stands somewhere
pub record PassesAt {X : Type 0} (p : X → Bool) (xs : List X) : Type 0 where
  pub place : ℕ
  pub one : X
  pub there : slice_get xs place ≡ Some one
  pub passes : p one ≡ true

pub any_at : {X : Type 0} (p : X → Bool) (xs : List X) → list_any p xs ≡ true → PassesAt p xs
any_at p [] any = absurd (false≢true any)
any_at p (x ∷ xs) any = by (p x) refl (λ later. any_at p xs later)
  where
    by : (b : Bool) → p x ≡ b → (list_any p xs ≡ true → PassesAt p xs) → PassesAt p (x ∷ xs)
    by true is rest = record { place = 0; one = x; there = refl; passes = is }
    by false is rest =
        let later = rest (ap (λ (b : Bool). b || list_any p xs) (sym is) ∙ any) in
        record { place = suc later.place; one = later.one; there = later.there; passes = later.passes }

-- ---- places
pub place_by : (y x : ℕ) (xs : List ℕ) (b : Bool) → (y == x) ≡ b → place_of (y ∷ xs) x ≡ cond b 0 (suc (place_of xs x))
place_by y x xs true is = rw is refl
place_by y x xs false is = rw is (omega arith)

pub place_is : (xs : List ℕ) (k x : ℕ) → IsDistinct (λ a b. a == b) xs → slice_get xs k ≡ Some x → place_of xs x ≡ k
place_is [] k x once there = cc
place_is (y ∷ xs) zero x once there = place_by y x xs true ((Decides-eqb y x).1 (same_Some y x there))
place_is (y ∷ xs) (suc k) x once there = by (y == x) refl (place_is xs k x (IsDistinct-tail (λ a b. a == b) y xs once) there)
  where
    by : (b : Bool) → (y == x) ≡ b → place_of xs x ≡ k → place_of (y ∷ xs) x ≡ suc k
    by true is later = absurd (head_apart y xs k once (there ∙ ap (λ (n : ℕ). Some n) (sym ((Decides-eqb y x).0 is))))
    by false is later = place_by y x xs false is ∙ ap suc later

pub among_at : (xs : List ℕ) (k x : ℕ) → slice_get xs k ≡ Some x → is_among xs x ≡ true
among_at xs k x there = any_by (λ one. one == x) xs k x there ((Decides-eqb x x).1 refl)

pub among_place : (xs : List ℕ) (x : ℕ) → is_among xs x ≡ true → (k : ℕ) × (slice_get xs k ≡ Some x)
among_place [] x among = absurd (false≢true among)
among_place (y ∷ xs) x among = by (y == x) refl (λ later. among_place xs x later)
  where
    by : (b : Bool) → (y == x) ≡ b → (is_among xs x ≡ true → (k : ℕ) × (slice_get xs k ≡ Some x)) → (k : ℕ) × (slice_get (y ∷ xs) k ≡ Some x)
    by true is place = (0, ap (λ (n : ℕ). Some n) ((Decides-eqb y x).0 is))
    by false is place =
        let later = place (ap (λ (b : Bool). b || is_among xs x) (sym is) ∙ among) in
        (suc later.0, later.1)

-- a place is kept when others are found
pub place_kept : (xs ys : List ℕ) (x : ℕ) → is_among xs x ≡ true → place_of (xs ++ ys) x ≡ place_of xs x
place_kept [] ys x among = absurd (false≢true among)
place_kept (y ∷ xs) ys x among = by (y == x) refl (λ later. place_kept xs ys x later)
  where
    by : (b : Bool) → (y == x) ≡ b → (is_among xs x ≡ true → place_of (xs ++ ys) x ≡ place_of xs x)
        → place_of (y ∷ (xs ++ ys)) x ≡ place_of (y ∷ xs) x
    by true is kept = place_by y x (xs ++ ys) true is ∙ sym (place_by y x xs true is)
    by false is kept =
        place_by y x (xs ++ ys) false is ∙ ap suc (kept (ap (λ (b : Bool). b || is_among xs x) (sym is) ∙ among))
        ∙ sym (place_by y x xs false is)

-- ---- switches that were found
pub node_there : (found : List Found) (k : ℕ) (one : Found) → StandsAt found k one → slice_get (nodes_of found) k ≡ Some one.node
node_there found k one there = slice_get-map (λ (one : Found). one.node) found k ∙ ap (λ (o : Option Found). option_node o) there
  where
    option_node : Option Found → Option ℕ
    option_node None = None
    option_node (Some one) = Some one.node

pub found_by : (found : List Found) (k : ℕ) (one : Found) (node hops : ℕ) → StandsAt found k one → one.node ≡ node
    → length one.path ≤ hops → is_found found hops node ≡ true
found_by [] k one node hops there is near = cc
found_by (first ∷ found) zero one node hops there is near =
    let same : first ≡ one = same_Some first one there in
    rw (same, (Decides-eqb one.node node).1 is, le near) refl
  where
    le : length one.path ≤ hops → nat_le (length one.path) hops ≡ true
    le h = grind (arith, nat_tests, h)
found_by (first ∷ found) (suc k) one node hops there is near =
    rw (found_by found k one node hops there is near) (or-true ((first.node == node) && nat_le (length first.path) hops))

pub record FoundAt (found : List Found) (node hops : ℕ) : Type 0 where
  pub place : ℕ
  pub one : Found
  pub there : StandsAt found place one
  pub node_is : one.node ≡ node
  pub near : length one.path ≤ hops

near_enough : (n m : ℕ) → nat_le n m ≡ true → n ≤ m
near_enough n m h = grind (arith, nat_tests, h)

pub found_at : (found : List Found) (node hops : ℕ) → is_found found hops node ≡ true → FoundAt found node hops
found_at [] node hops is = absurd (false≢true is)
found_at (first ∷ found) node hops is = by ((first.node == node) && nat_le (length first.path) hops) refl (λ later. found_at found node hops later)
  where
    by : (b : Bool) → (first.node == node) && nat_le (length first.path) hops ≡ b → (is_found found hops node ≡ true → FoundAt found node hops)
        → FoundAt (first ∷ found) node hops
    by true first_is rest =
        let parts = and_parts (first.node == node) _ first_is in
        record { place = 0; one = first; there = refl; node_is = (Decides-eqb first.node node).0 parts.0; near = near_enough _ _ parts.1 }
    by false first_is rest =
        let later = rest (ap (λ (b : Bool). b || is_found found hops node) (sym first_is) ∙ is) in
        record { place = suc later.place; one = later.one; there = later.there; node_is = later.node_is; near = later.near }

pub found_among : (found : List Found) (node hops : ℕ) → is_found found hops node ≡ true → is_among (nodes_of found) node ≡ true
found_among found node hops is =
    let at = found_at found node hops is in
    among_at (nodes_of found) at.place node (node_there found at.place at.one at.there ∙ ap (λ (n : ℕ). Some n) at.node_is)

pub found_kept : (found more : List Found) (node hops : ℕ) → is_found found hops node ≡ true → is_found (found ++ more) hops node ≡ true
found_kept found more node hops is = list_any-append _ found more ∙ rw is refl
