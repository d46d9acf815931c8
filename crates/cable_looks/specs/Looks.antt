-- How cables are drawn, and the greatest load that is shown.
use Rattle.std.specs.Prelude.{ℕ, Bool, nat_lt, if◌then◌else◌, List, get_or}
use Rattle.std.specs.List.{fold}
use Rattle.cable_looks.specs.declared.looks.CableLoad.{CableLoad}
use Rattle.cable_looks.specs.declared.looks.Look.{Look}
use Rattle.cable_looks.specs.declared.looks.Look.TheVariants.{Loaded, Needed, Plain}

-- ---- how cables look, by their places; one of which nothing is said is plain
abbrev pub look_at : List Look → ℕ → Look
look_at looks place = get_or looks place Plain

-- a cable that is needed
abbrev pub needed_look : (needed : Bool) → Look
needed_look needed = if needed then Needed else Plain

-- ---- the load of a cable, and the greatest of all
-- that of the direction over which more pairs go
abbrev pub busier : CableLoad → ℕ
busier load = if nat_lt load.forth load.back then load.back else load.forth

abbrev pub load_shown : Look → ℕ
load_shown (Loaded load) = busier load
load_shown _ = 0

abbrev pub greater : ℕ → Look → ℕ
greater most look = if nat_lt most (load_shown look) then load_shown look else most

abbrev pub most_of : List Look → ℕ
most_of looks = fold greater 0 looks
