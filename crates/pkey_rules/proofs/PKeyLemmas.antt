-- The key of a base reports the base and the membership that it was made of.
use Rattle.std.proofs.Common.{◌≡◌, ℕ, ◌+◌, ◌<◌, Bool, true, false, arith}
use Rattle.std.proofs.lemmas.Bool.{le-leb, lt-leb}
use Rattle.pkey_rules.specs.PKey.{base_of, is_full, key_of}

pub key_has_base : (base : ℕ) (full : Bool) → base < 32768 → base_of (key_of base full) ≡ base
key_has_base base true below = omega arith
key_has_base base false below = omega arith

pub key_reports_membership : (base : ℕ) (full : Bool) → base < 32768 → is_full (key_of base full) ≡ full
key_reports_membership base true below = le-leb 32768 (base + 32768) (omega arith)
key_reports_membership base false below = lt-leb 32768 base (omega arith)
