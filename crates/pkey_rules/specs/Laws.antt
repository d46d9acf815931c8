-- What holds of every stored P_Key table.
use Rattle.std.specs.Prelude.{ℕ, ◌≡◌, ◌==◌, true, not, List, ◌++◌, replicate}
use Rattle.std.specs.List.{IsDistinct, list_all}
use Rattle.pkey_rules.specs.KeyTable.{same_base}
use Rattle.pkey_rules.specs.PKey.{base_of}
use Rattle.pkey_rules.specs.StoredKeys.{stored_keys}

-- keys of different bases, with empty places behind, mean these keys
abbrev pub KeysAreStored : Type 0
KeysAreStored =
    (keys : List ℕ) (empty : ℕ) → list_all (λ key. not (base_of key == 0)) keys ≡ true → IsDistinct same_base keys
    → stored_keys (keys ++ replicate empty 0) ≡ keys
