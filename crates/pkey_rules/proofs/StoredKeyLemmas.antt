-- What a stored P_Key table accepts and holds is reported by the first word of the base.
use Rattle.std.proofs.Common.{◌≡◌, ◌≢◌, ℕ, zero, suc, ◌==◌, ◌&&◌, ◌||◌, ◌∙◌, ap, refl, sym, Bool, true, false, not, if◌then◌else◌, List, [], ◌∷◌, ◌++◌}
use Rattle.std.proofs.Common.{replicate, find, Option, Some, arith}
use Rattle.std.specs.List.{AllByRecursion, filter, list_any}
use Rattle.std.specs.Option.{option_map_or}
use Rattle.std.proofs.lemmas.Bool.{and_parts, eq-eqb, eqb-true}
use Rattle.std.proofs.lemmas.Bool.Decides.{nat_tests}
use Rattle.std.proofs.lemmas.Map.Keys.{IsDistinct-head, IsDistinct-tail}
use Rattle.pkey_rules.specs.KeyTable.{accepts, has_base, holds, same_base}
use Rattle.pkey_rules.specs.Laws.{KeysAreStored}
use Rattle.pkey_rules.specs.PKey.{base_of, matches}
use Rattle.pkey_rules.specs.StoredKeys.{stored_keys}

-- ---- lists without some elements
without_by : {X : Type 0} (p q : X → Bool) (x : X) (rest : List X) (b : Bool) → q x ≡ b → (q x ≡ false → p x ≡ false)
    → list_any p (filter q rest) ≡ list_any p rest
    → list_any p (if b then x ∷ filter q rest else filter q rest) ≡ (p x || list_any p rest)
without_by p q x rest true is none same = ap (λ (later : Bool). p x || later) same
without_by p q x rest false is none same = rw (none is) same

-- a test that fails what was left out
any_without : {X : Type 0} (p q : X → Bool) → ((x : X) → q x ≡ false → p x ≡ false) → (xs : List X)
    → list_any p (filter q xs) ≡ list_any p xs
any_without p q none [] = refl
any_without p q none (x ∷ xs) = without_by p q x xs (q x) refl (none x) (any_without p q none xs)

kept_by : {X : Type 0} (p q : X → Bool) (x : X) (rest : List X) (b : Bool) → q x ≡ b → (q x ≡ true → p x ≡ false)
    → list_any p (filter q rest) ≡ false → list_any p (if b then x ∷ filter q rest else filter q rest) ≡ false
kept_by p q x rest true is none later = rw (none is) later
kept_by p q x rest false is none later = later

-- a test that fails what was kept
none_kept : {X : Type 0} (p q : X → Bool) → ((x : X) → q x ≡ true → p x ≡ false) → (xs : List X) → list_any p (filter q xs) ≡ false
none_kept p q none [] = refl
none_kept p q none (x ∷ xs) = kept_by p q x xs (q x) refl (none x) (none_kept p q none xs)

-- ---- a test that only keys of one base pass
abbrev OfBase : ℕ → (ℕ → Bool) → Type 0
OfBase base p = (key : ℕ) → p key ≡ true → base_of key ≡ base

fails : (base : ℕ) (p : ℕ → Bool) (key : ℕ) (b : Bool) → OfBase base p → (base_of key == base) ≡ false → p key ≡ b → b ≡ false
fails base p key false of other is = refl
fails base p key true of other is = absurd (let same = eq-eqb (base_of key) base (of key is) in let clash = sym other ∙ same in cc)

-- by whether the first word is an empty place, and whether it is of the base
by_word : (base : ℕ) (p : ℕ → Bool) (word : ℕ) (words : List ℕ) (empty here : Bool) → OfBase base p → base ≢ 0
    → (base_of word == 0) ≡ empty → (base_of word == base) ≡ here
    → list_any p (stored_keys words) ≡ option_map_or p (find (λ one. base_of one == base) words) false
    → list_any p (if empty then stored_keys words else word ∷ filter (λ key. not (same_base word key)) (stored_keys words))
    ≡ option_map_or p (if here then Some word else find (λ one. base_of one == base) words) false
by_word base p word words true true of some none is so =
    let zero_is = eqb-true (base_of word) 0 none in
    let base_is = eqb-true (base_of word) base is in
    absurd (some (sym base_is ∙ zero_is))
by_word base p word words true false of some none is so = so
by_word base p word words false true of some none is so =
    let base_is = eqb-true (base_of word) base is in
    let later = none_kept p (λ key. not (same_base word key))
    (λ key other. fails base p key (p key) of (rw (← base_is) (grind (arith, nat_tests, other))) refl) (stored_keys words) in
    rw later (or_false (p word))
  where
    or_false : (b : Bool) → (b || false) ≡ b
    or_false true = refl
    or_false false = refl
by_word base p word words false false of some none is so =
    let later = any_without p (λ key. not (same_base word key))
    (λ key same. fails base p key (p key) of (grind (arith, nat_tests, is, same)) refl) (stored_keys words) in
    rw (fails base p word (p word) of is refl, later) so

any_by_base : (base : ℕ) (p : ℕ → Bool) (words : List ℕ) → OfBase base p → base ≢ 0
    → list_any p (stored_keys words) ≡ option_map_or p (find (λ one. base_of one == base) words) false
any_by_base base p [] of some = refl
any_by_base base p (word ∷ words) of some =
    by_word base p word words (base_of word == 0) (base_of word == base) of some refl refl (any_by_base base p words of some)

matches_of : (key : ℕ) → OfBase (base_of key) (λ held. matches held key)
matches_of key held is = eqb-true (base_of held) (base_of key) (and_parts (base_of held == base_of key) _ is).0

same_of : (key : ℕ) → OfBase (base_of key) (λ held. held == key)
same_of key held is = ap base_of (eqb-true held key is)

pub accepted : (key base : ℕ) (words : List ℕ) (found : Option ℕ) (reported : Bool) → base ≡ base_of key → base ≢ 0
    → found ≡ find (λ word. base_of word == base) words → reported ≡ option_map_or (λ held. matches held key) found false
    → reported ≡ accepts key (stored_keys words)
accepted key base words found reported is some there so =
    so
    ∙ ap (λ (one : Option ℕ). option_map_or (λ held. matches held key) one false) there
    ∙ sym (any_by_base base (λ held. matches held key) words (λ held h. matches_of key held h ∙ sym is) some)

pub held : (key base : ℕ) (words : List ℕ) (found : Option ℕ) (reported : Bool) → base ≡ base_of key → base ≢ 0
    → found ≡ find (λ word. base_of word == base) words → reported ≡ option_map_or (λ held. held == key) found false
    → reported ≡ holds key (stored_keys words)
held key base words found reported is some there so =
    so
    ∙ ap (λ (one : Option ℕ). option_map_or (λ held. held == key) one false) there
    ∙ sym (any_by_base base (λ held. held == key) words (λ held h. same_of key held h ∙ sym is) some)

-- a word of base 0 matches nothing
pub no_match : (word key : ℕ) (b : Bool) → (base_of word == 0) ≡ b → (base_of word ≢ 0 → ⊥) → false ≡ matches word key
no_match word key true none never = rw (eqb-true (base_of word) 0 none) (none_of (0 == base_of key))
  where
    none_of : (c : Bool) → false ≡ (c && false)
    none_of true = refl
    none_of false = refl
no_match word key false none never = absurd (never (λ same. let is = eq-eqb (base_of word) 0 same in cc))

-- ---- words that are looked at block by block
abbrev is_of : ℕ → ℕ → Bool
is_of base word = base_of word == base

past_word : (base word : ℕ) (block rest : List ℕ) (here : Bool) → is_of base word ≡ here → (here || has_base base block) ≡ false
    → (has_base base block ≡ false → find (is_of base) (block ++ rest) ≡ find (is_of base) rest)
    → (if here then Some word else find (is_of base) (block ++ rest)) ≡ find (is_of base) rest
past_word base word block rest true is none later = cc
past_word base word block rest false is none later = later none

-- past words of other bases
pub past_block : (base : ℕ) (block rest : List ℕ) → has_base base block ≡ false
    → find (is_of base) (block ++ rest) ≡ find (is_of base) rest
past_block base [] rest none = refl
past_block base (word ∷ block) rest none =
    past_word base word block rest (is_of base word) refl none (past_block base block rest)

at_word : (base word : ℕ) (block rest : List ℕ) (here : Bool) → (here || has_base base block) ≡ true
    → (has_base base block ≡ true → find (is_of base) block ≡ find (is_of base) (block ++ rest))
    → (if here then Some word else find (is_of base) block) ≡ (if here then Some word else find (is_of base) (block ++ rest))
at_word base word block rest true some later = refl
at_word base word block rest false some later = later some

-- words of which some is of that base
pub at_block : (base : ℕ) (block rest : List ℕ) → has_base base block ≡ true
    → find (is_of base) block ≡ find (is_of base) (block ++ rest)
at_block base [] rest some = cc
at_block base (word ∷ block) rest some = at_word base word block rest (is_of base word) some (at_block base block rest)

-- ---- keys of different bases
all_kept : (word : ℕ) (keys : List ℕ) → AllByRecursion (λ key. same_base word key ≡ false) keys
    → filter (λ key. not (same_base word key)) keys ≡ keys
all_kept word [] others = refl
all_kept word (key ∷ keys) others = rw others.0 (ap (λ (rest : List ℕ). key ∷ rest) (all_kept word keys others.1))

empty_places : (n : ℕ) → stored_keys (replicate n 0) ≡ []
empty_places zero = refl
empty_places (suc n) = empty_places n

not_empty : (b : Bool) → not b ≡ true → b ≡ false
not_empty true h = cc
not_empty false h = refl

pub keys_are_stored : KeysAreStored
keys_are_stored [] empty valid distinct = empty_places empty
keys_are_stored (key ∷ keys) empty valid distinct =
    let parts = and_parts (not (base_of key == 0)) _ valid in
    rw (not_empty (base_of key == 0) parts.0, keys_are_stored keys empty parts.1 (IsDistinct-tail same_base key keys distinct))
    (ap (λ (rest : List ℕ). key ∷ rest) (all_kept key keys (IsDistinct-head same_base key keys distinct)))
