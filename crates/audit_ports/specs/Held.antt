-- The keys that stand in a table, and how they differ from others.
use Rattle.std.specs.Prelude.{ℕ, Bool, not, ◌==◌, ◌&&◌, if◌then◌else◌, List, [], ◌∷◌, ◌++◌, filter, fold}
use Rattle.std.specs.List.{list_all}
use Rattle.pkey_rules.specs.KeyTable.{has_base, holds}
use Rattle.pkey_rules.specs.PKey.{base_of}
use Rattle.audit_ports.specs.declared.port.HeldKeys.{HeldKeys}

-- a word of base 0 is an empty place
abbrev pub is_key : ℕ → Bool
is_key word = not (base_of word == 0)

-- a key that stands twice counts once, at its first place
abbrev pub with_key : List ℕ → ℕ → List ℕ
with_key keys word = if is_key word && not (holds word keys) then keys ++ word ∷ [] else keys

abbrev pub held : List ℕ → HeldKeys
held words = record { keys = fold with_key [] words; is_full = list_all is_key words }

-- the keys of the first list of whose bases the second has none
abbrev pub of_other_bases : List ℕ → List ℕ → List ℕ
of_other_bases keys file = filter (λ key. not (has_base (base_of key) file)) keys

-- the keys of the first list that the second has with the other membership alone
abbrev pub of_other_membership : List ℕ → List ℕ → List ℕ
of_other_membership keys file = filter (λ key. has_base (base_of key) file && not (holds key file)) keys

-- every key of the first list is in the second
abbrev pub all_held : List ℕ → List ℕ → Bool
all_held keys file = list_all (λ key. holds key file) keys

-- every base of the first list is one of the second
abbrev pub all_bases_held : List ℕ → List ℕ → Bool
all_bases_held keys file = list_all (λ key. has_base (base_of key) file) keys

abbrev pub have_same_keys : List ℕ → List ℕ → Bool
have_same_keys keys file = all_held keys file && all_held file keys

abbrev pub have_same_bases : List ℕ → List ℕ → Bool
have_same_bases keys file = all_bases_held keys file && all_bases_held file keys
