-- The bases that definitions get which name none.
use Rattle.std.specs.Prelude.{ℕ, ◌≡◌, ◌<◌, ◌≤◌, true, false, List, [], ◌∷◌, None}
use Rattle.pkey_rules.specs.PKey.{is_base}
use Rattle.partition_file.specs.declared.definition.Definition.{Definition}
use Rattle.partition_file.specs.Counting.{has_base}
use Rattle.partition_file.specs.Partitions.{least_free, taken_after}

-- it is a base that is not taken, and each smaller one is
pub record IsLeastFree (base : ℕ) (taken : List ℕ) : Type 0 where
  pub valid : is_base base ≡ true
  pub free : has_base base taken ≡ false
  pub least : (other : ℕ) → 1 ≤ other → other < base → has_base other taken ≡ true

-- so it is for each definition that names none, after those before it
abbrev pub AllGetFree : List ℕ → List Definition → Type 0
AllGetFree taken [] = Unit {0}
AllGetFree taken (definition ∷ rest) =
    (definition.base ≡ None → IsLeastFree (least_free taken) taken) × AllGetFree (taken_after taken definition.base) rest
