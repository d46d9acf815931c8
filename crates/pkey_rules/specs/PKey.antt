-- A P_Key (IBA volume 1, 14.2.5.7): 15 bits that name a partition, below one bit of membership.
use Rattle.std.specs.Prelude.{ℕ, ◌+◌, ◌%◌, Bool, true, not, ◌==◌, ◌&&◌, ◌||◌, nat_le, if◌then◌else◌}

-- the partition that a key names; 0 names none
abbrev pub base_of : ℕ → ℕ
base_of key = key % 32768

-- a full member's key has its top bit set
abbrev pub is_full : ℕ → Bool
is_full key = nat_le 32768 key

-- a base has 15 bits, and 0 names no partition
abbrev pub is_base : ℕ → Bool
is_base base = nat_le 1 base && nat_le base 32767

-- the key that a full or a limited member holds in the partition of this base
abbrev pub key_of : ℕ → Bool → ℕ
key_of base full = if full then base + 32768 else base

-- the key of a full member of the same partition
abbrev pub full_form : ℕ → ℕ
full_form key = key_of (base_of key) true

-- the base of the default partition
abbrev pub default_base : ℕ
default_base = 32767

-- two keys match if they name one partition and at least one of them is a full member's
abbrev pub matches : ℕ → ℕ → Bool
matches a b = (base_of a == base_of b) && (not (base_of a == 0) && (is_full a || is_full b))
