-- An attribute of subnet management (IBA volume 1, chapter 14): the 64 bytes that an SMP carries.
use Rattle.std.specs.Prelude.{ℕ, ◌≡◌, List, length}
use Rattle.std.specs.Int.Digits.{AllBelowBase}

-- bytes that fill an attribute
pub record IsAttribute (bytes : List ℕ) : Type 0 where
  pub count : length bytes ≡ 64
  pub small : AllBelowBase 256 bytes
