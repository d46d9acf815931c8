-- What a stored P_Key table means (IBA volume 1, 14.2.5.7): the words that SMPs wrote, of which those of base 0
-- are empty places.
use Rattle.std.specs.Prelude.{ℕ, ◌==◌, not, if◌then◌else◌, List, [], ◌∷◌}
use Rattle.std.specs.List.{filter}
use Rattle.pkey_rules.specs.KeyTable.{same_base}
use Rattle.pkey_rules.specs.PKey.{base_of}

-- the keys in it: of two of one base the first counts
abbrev pub stored_keys : List ℕ → List ℕ
stored_keys [] = []
stored_keys (word ∷ words) =
    if base_of word == 0 then stored_keys words else word ∷ filter (λ key. not (same_base word key)) (stored_keys words)
