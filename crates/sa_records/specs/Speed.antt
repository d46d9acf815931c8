-- How fast a path is (IBA volume 1, 15.2.5): codes of rates don't rise with their speed.
use Rattle.std.specs.Prelude.{ℕ, ◌==◌, Bool, true, false, nat_le, if◌then◌else◌, List, [], ◌∷◌, Option, Some, None, option_map}
use Rattle.std.specs.List.{find}
use Rattle.attr_tables.specs.declared.rate.Rate.{Rate}
use Rattle.attr_tables.specs.declared.rate.Rate.TheVariants.{Gbps2_5, Gbps10, Gbps30, Gbps5, Gbps20, Gbps40, Gbps60, Gbps80, Gbps120}
use Rattle.attr_tables.specs.Rate.{rate_code}
use Rattle.sa_records.specs.Component.{satisfies}

abbrev pub rates : List Rate
rates = Gbps2_5 ∷ Gbps5 ∷ Gbps10 ∷ Gbps20 ∷ Gbps30 ∷ Gbps40 ∷ Gbps60 ∷ Gbps80 ∷ Gbps120 ∷ []

-- in tenths of a Gb/s
abbrev pub speed : Rate → ℕ
speed Gbps2_5 = 25
speed Gbps5 = 50
speed Gbps10 = 100
speed Gbps20 = 200
speed Gbps30 = 300
speed Gbps40 = 400
speed Gbps60 = 600
speed Gbps80 = 800
speed Gbps120 = 1200

-- the speed of the rate of this code, if there is one
unfoldable pub speed_of : ℕ → Option ℕ
speed_of code = option_map speed (find (λ rate. rate_code rate == code) rates)

-- rates are compared by their speed, and a code of no rate is none of greater, less and equal; the last selector asks for
-- the greatest that there is, and so for any
abbrev pub speed_satisfies : ℕ → Option ℕ → Option ℕ → Bool
speed_satisfies selector (Some shown) (Some asked) = satisfies selector shown asked
speed_satisfies selector (Some shown) None = false
speed_satisfies selector None asked = false

abbrev pub rate_satisfies : ℕ → ℕ → ℕ → Bool
rate_satisfies selector shown asked = if nat_le 3 selector then true else speed_satisfies selector (speed_of shown) (speed_of asked)
