-- What a port holds (IBA volume 1, 14.2.5.7), seen as the list of its keys.
use Rattle.std.specs.Prelude.{ℕ, ◌≡◌, Bool, true, ◌==◌, ◌&&◌, List, Option, find}
use Rattle.std.specs.List.{list_any}
use Rattle.pkey_rules.specs.PKey.{base_of, matches}

-- a packet under this key may come in: some key held matches it
abbrev pub accepts : ℕ → List ℕ → Bool
accepts key keys = list_any (λ held. matches held key) keys

-- this very key is held
abbrev pub holds : ℕ → List ℕ → Bool
holds key keys = list_any (λ held. held == key) keys

-- the key of that base
abbrev pub find_base : ℕ → List ℕ → Option ℕ
find_base base keys = find (λ held. base_of held == base) keys

-- some key of that base is held
abbrev pub has_base : ℕ → List ℕ → Bool
has_base base keys = list_any (λ held. base_of held == base) keys

-- two keys of one partition, of which a table holds at most one
abbrev pub same_base : ℕ → ℕ → Bool
same_base a b = base_of a == base_of b

-- two ports share a partition: some key of one matches some key of the other
abbrev pub shares : List ℕ → List ℕ → Bool
shares ps qs = list_any (λ p. accepts p qs) ps

-- they share the partition of this base: both hold a key of it, and these match
abbrev pub shares_base : ℕ → List ℕ → List ℕ → Bool
shares_base base ps qs =
    list_any (λ p. (base_of p == base) && list_any (λ q. (base_of q == base) && matches q p) qs) ps

-- some partition is shared
abbrev pub SomeSharedBase : List ℕ → List ℕ → Type 0
SomeSharedBase ps qs = (base : ℕ) × (shares_base base ps qs ≡ true)
