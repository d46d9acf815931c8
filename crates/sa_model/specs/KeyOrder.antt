-- The keys of a port in the order of their bases. A P_Key table has them in the order of the partitions' numbers.
use Rattle.std.specs.Prelude.{ℕ, ◌≡◌, Bool, true, nat_le, if◌then◌else◌, List, [], ◌∷◌}
use Rattle.std.specs.List.{list_any}
use Rattle.sa_model.specs.Sound.{pairwise}
use Rattle.pkey_rules.specs.PKey.{base_of}

-- a key takes its place by its base
abbrev pub with_key : ℕ → List ℕ → List ℕ
with_key key [] = key ∷ []
with_key key (held ∷ keys) = if nat_le (base_of key) (base_of held) then key ∷ held ∷ keys else held ∷ with_key key keys

abbrev pub by_base : List ℕ → List ℕ
by_base [] = []
by_base (key ∷ keys) = with_key key (by_base keys)

-- bases do not fall
abbrev pub is_lower_base : ℕ → ℕ → Bool
is_lower_base a b = nat_le (base_of a) (base_of b)

-- a table's keys are put in this order, and are the same keys: what is so of one of these is so of one of those
pub record StandsByBase (keys : List ℕ) : Type 0 where
  pub order : pairwise is_lower_base (by_base keys) ≡ true
  pub same : (test : ℕ → Bool) → list_any test (by_base keys) ≡ list_any test keys

abbrev pub KeysStandByBase : Type 0
KeysStandByBase = (keys : List ℕ) → StandsByBase keys
