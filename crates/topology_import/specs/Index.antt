-- Where a GUID stands first, as GUIDs are added. No other definition stands on this one.
use Rattle.std.specs.Prelude.{ℕ, Bool, Option, Some, None, if◌then◌else◌}
use Rattle.std.specs.Option.{option_or}

-- a place that was found stays, and else the new one is the first, if it passes
abbrev pub first_or : Option ℕ → Bool → ℕ → Option ℕ
first_or found passes new = option_or found (if passes then Some new else None)
