-- A port of a switch holds the full form of each key of the port before it.
use Rattle.std.proofs.Common.{ℕ, zero, suc, ◌≡◌, ◌-◌, ◌==◌, ◌||◌, ◌∙◌, ap, refl, sym, not, Bool, true, false, List, [], ◌∷◌, ◌++◌, filter, length, map, replicate}
use Rattle.std.proofs.lemmas.Bool.{eq-eqb, eqb-true, false≢true, or_left, or_right}
use Rattle.smp_wire.proofs.KeyLemmas.{full_base}
use Rattle.pkey_rules.specs.KeyTable.{holds, same_base}
use Rattle.pkey_rules.specs.PKey.{base_of, full_form}
use Rattle.pkey_rules.specs.StoredKeys.{stored_keys}
use Rattle.pkey_rules.specs.declared.key_table.TheConstants.{PARTITIONS}
use Rattle.table_push.specs.Keys.{held_as, key_table}

-- ---- a key that a filter leaves
record Passed (p : ℕ → Bool) (key : ℕ) (keys : List ℕ) : Type 0 where
  passes : p key ≡ true
  held : holds key keys ≡ true

passed : (p : ℕ → Bool) (key : ℕ) (keys : List ℕ) → holds key (filter p keys) ≡ true → Passed p key keys
passed p key [] held = absurd (false≢true held)
passed p key (one ∷ keys) held = by (p one) refl (one == key) refl held (λ later. passed p key keys later)
  where
    by : (b : Bool) → p one ≡ b → (same : Bool) → (one == key) ≡ same → holds key (filter p (one ∷ keys)) ≡ true
        → (holds key (filter p keys) ≡ true → Passed p key keys) → Passed p key (one ∷ keys)
    by true is true same held later = record {
      passes = ap p (sym (eqb-true one key same)) ∙ is;
      held = or_left (one == key) (holds key keys) same;
    }
    by true is false same held later =
        let rest = later (sym (ap (λ (b : Bool). b || holds key (filter p keys)) same) ∙ (sym (rw is refl) ∙ held)) in
        record { passes = rest.passes; held = or_right (one == key) (holds key keys) rest.held }
    by false is same is_same held later =
        let rest = later (sym (rw is refl) ∙ held) in
        record { passes = rest.passes; held = or_right (one == key) (holds key keys) rest.held }

left : (p : ℕ → Bool) (key : ℕ) (keys : List ℕ) → p key ≡ true → holds key keys ≡ true → holds key (filter p keys) ≡ true
left p key [] passes held = absurd (false≢true held)
left p key (one ∷ keys) passes held = by (p one) refl (one == key) refl held (λ later. left p key keys passes later)
  where
    by : (b : Bool) → p one ≡ b → (same : Bool) → (one == key) ≡ same → holds key (one ∷ keys) ≡ true
        → (holds key keys ≡ true → holds key (filter p keys) ≡ true) → holds key (filter p (one ∷ keys)) ≡ true
    by true is true same held later = rw is (or_left (one == key) (holds key (filter p keys)) same)
    by true is false same held later =
        rw is (or_right (one == key) (holds key (filter p keys)) (later (sym (ap (λ (b : Bool). b || holds key keys) same) ∙ held)))
    by false is true same held later = absurd (false≢true (sym is ∙ ap p (eqb-true one key same) ∙ passes))
    by false is false same held later = rw is (later (sym (ap (λ (b : Bool). b || holds key keys) same) ∙ held))

-- ---- full forms
no_keys : (count key : ℕ) → holds key (stored_keys (replicate count 0)) ≡ false
no_keys zero key = refl
no_keys (suc count) key = no_keys count key

-- of the first of a base its full form is the first, too
full_held : (own : List ℕ) (count key : ℕ) → holds key (stored_keys (map (held_as false) own ++ replicate count 0)) ≡ true
    → holds (full_form key) (stored_keys (map (held_as true) own ++ replicate count 0)) ≡ true
full_held [] count key held = absurd (false≢true (sym (no_keys count key) ∙ held))
full_held (one ∷ own) count key held = by (base_of one == 0) refl (one == key) refl held (λ later. full_held own count key later)
  where
    keys : List ℕ
    keys = stored_keys (map (held_as false) own ++ replicate count 0)

    fulls : List ℕ
    fulls = stored_keys (map (held_as true) own ++ replicate count 0)

    full_empty : (b : Bool) → (base_of one == 0) ≡ b → (base_of (full_form one) == 0) ≡ b
    full_empty b is = ap (λ (base : ℕ). base == 0) (full_base one) ∙ is

    full_apart : not (same_base one key) ≡ true → not (same_base (full_form one) (full_form key)) ≡ true
    full_apart is = rw (full_base one, full_base key) is

    by : (b : Bool) → (base_of one == 0) ≡ b → (same : Bool) → (one == key) ≡ same
        → holds key (stored_keys (map (held_as false) (one ∷ own) ++ replicate count 0)) ≡ true
        → (holds key keys ≡ true → holds (full_form key) fulls ≡ true)
        → holds (full_form key) (stored_keys (map (held_as true) (one ∷ own) ++ replicate count 0)) ≡ true
    by true is same is_same held later = rw (full_empty true is) (later (sym (rw is refl) ∙ held))
    by false is true same held later =
        rw (full_empty false is)
        (or_left (full_form one == full_form key) (holds (full_form key) (filter (λ other. not (same_base (full_form one) other)) fulls))
        (eq-eqb (full_form one) (full_form key) (ap full_form (eqb-true one key same))))
    by false is false same held later =
        let rest : holds key (filter (λ other. not (same_base one other)) keys) ≡ true =
        sym (ap (λ (b : Bool). b || holds key (filter (λ other. not (same_base one other)) keys)) same) ∙ (sym (rw is refl) ∙ held) in
        let was = passed (λ other. not (same_base one other)) key keys rest in
        rw (full_empty false is)
        (or_right (full_form one == full_form key) (holds (full_form key) (filter (λ other. not (same_base (full_form one) other)) fulls))
        (left (λ other. not (same_base (full_form one) other)) (full_form key) fulls (full_apart was.passes) (later was.held)))

pub faces : (own : List ℕ) (key : ℕ) → holds key (stored_keys (key_table false own)) ≡ true → holds (full_form key) (stored_keys (key_table true own)) ≡ true
faces own key held = full_held own (PARTITIONS - length own) key held
