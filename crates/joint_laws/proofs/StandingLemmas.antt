-- What is printed of one thing of a list stands in what is printed of all.
use Rattle.std.proofs.Common.{◌≡◌, ◌∙◌, ap, ◌+◌, ◌-◌, ◌<◌, ◌≤◌, arith, subst, ℕ, zero, suc, Bool, true, false, if◌then◌else◌, List, [], ◌∷◌, flat_map, filter, slice_get, Some}
use Rattle.std.specs.List.{Contains, enumerate_from, range_with_len}
use Rattle.std.specs.Str.Iter.{HasSubslice}
use Rattle.std.proofs.lemmas.List.Elements.{Contains-get_or}
use Rattle.std.proofs.lemmas.List.FromFn.{get_or-range_with_len, length-range_with_len}
use Rattle.audit_plan.proofs.SubsliceLemmas.{stands_of_all}
use Rattle.subnet_fabric.proofs.ListLemmas.{among_kept}
use Rattle.sweep.proofs.EndPortLemmas.{stands as place_in, there_is}

-- ---- elements
pub in_filter : {X : Type 0} (p : X → Bool) (xs : List X) (x : X) → Contains xs x → p x ≡ true → Contains (filter p xs) x
in_filter p xs x there passes =
    let at = place_in xs x there in
    let kept = among_kept p xs at.0 x at.1 passes in
    there_is (filter p xs) kept.0 x kept.1

pub in_range : (a n k : ℕ) → a ≤ k → k < a + n → Contains (range_with_len a n) k
in_range a n k from to =
    let within : k - a < n = omega (arith, from, to) in
    let back : a + (k - a) ≡ k = omega (arith, from) in
    subst (Contains (range_with_len a n)) (get_or-range_with_len a n (k - a) 0 within ∙ back)
    (Contains-get_or (range_with_len a n) (k - a) 0 (rw (length-range_with_len a n) within))

-- each with its place
numbered : {X : Type 0} (n : ℕ) (xs : List X) (k : ℕ) (x : X) → slice_get xs k ≡ Some x → slice_get (enumerate_from n xs) k ≡ Some (n + k, x)
numbered n [] k x there = absurd (cc)
numbered n (y ∷ xs) zero x there =
    let same : n ≡ n + 0 = omega arith in
    let is : y ≡ x = cc in
    ap (λ (z : _). Some (n, z)) is ∙ ap (λ (m : ℕ). Some (m, x)) same
numbered n (y ∷ xs) (suc k) x there =
    let same : n + 1 + k ≡ n + suc k = omega arith in
    subst (λ (m : ℕ). slice_get (enumerate_from (n + 1) xs) k ≡ Some (m, x)) same (numbered (n + 1) xs k x there)

pub placed : {X : Type 0} (xs : List X) (k : ℕ) (x : X) → slice_get xs k ≡ Some x → slice_get (enumerate_from 0 xs) k ≡ Some (k, x)
placed xs k x there =
    let same : 0 + k ≡ k = omega arith in
    numbered 0 xs k x there ∙ ap (λ (m : ℕ). Some (m, x)) same

-- ---- texts
pub stands_if_there : {X : Type 0} (f : X → List ℕ) (line : List ℕ) (all : List X) (one : X) → Contains all one → HasSubslice (f one) line
    → HasSubslice (flat_map f all) line
stands_if_there f line all one there stands = let at = place_in all one there in stands_of_all f line all at.0 one at.1 stands

pub if_so : (test : Bool) (one other line : List ℕ) → test ≡ true → HasSubslice one line → HasSubslice (if test then one else other) line
if_so true one other line so stands = stands
if_so false one other line so stands = absurd (cc)

pub if_not : (test : Bool) (one other line : List ℕ) → test ≡ false → HasSubslice other line → HasSubslice (if test then one else other) line
if_not true one other line so stands = absurd (cc)
if_not false one other line so stands = stands

pub either_way : (test : Bool) (one other line : List ℕ) → HasSubslice one line → HasSubslice other line → HasSubslice (if test then one else other) line
either_way true one other line this that = this
either_way false one other line this that = that
