-- Numbers as `ibnetdiscover` prints them: decimal ones without a sign, GUIDs in hexadecimal digits of either case.
use Rattle.std.specs.Prelude.{ℕ, Bool, ◌^◌, ◌==◌, nat_le, if◌then◌else◌, List, length, Result, Ok, Err}
use Rattle.std.specs.Option.{ok_or}
use Rattle.step_results.specs.Steps.{◌>>=◌}
use Rattle.text_words.specs.Number.{digits_in, if_under}
use Rattle.netdiscover_file.specs.declared.fault.DiscoveryCause.{DiscoveryCause}
use Rattle.netdiscover_file.specs.declared.fault.DiscoveryCause.TheVariants.{Malformed}

-- what was found, if the test holds
abbrev pub only_if : {X : Type 0} → Bool → X → Result X DiscoveryCause
only_if test found = if test then Ok found else Err Malformed

-- a number below the top, in digits of this radix
abbrev pub number_below : ℕ → ℕ → List ℕ → Result ℕ DiscoveryCause
number_below top radix digits = ok_or (if_under top (digits_in radix digits)) Malformed

-- a number of 128 bits
abbrev pub decimal_in : List ℕ → Result ℕ DiscoveryCause
decimal_in digits = ok_or (digits_in 10 digits) Malformed

-- a GUID has 64 bits
abbrev pub guid_in : List ℕ → Result ℕ DiscoveryCause
guid_in digits = number_below (2 ^ 64) 16 digits

-- the same with all 16 digits
abbrev pub full_guid_in : List ℕ → Result ℕ DiscoveryCause
full_guid_in digits = if length digits == 16 then guid_in digits else Err Malformed

-- a LID has 16 bits, its mask control (LMC) 3, the number of a port 8
abbrev pub lid_in : List ℕ → Result ℕ DiscoveryCause
lid_in digits = number_below (2 ^ 16) 10 digits

abbrev pub lmc_in : List ℕ → Result ℕ DiscoveryCause
lmc_in digits = number_below 8 10 digits

abbrev pub port_number_in : List ℕ → Result ℕ DiscoveryCause
port_number_in digits = number_below (2 ^ 8) 10 digits

-- a node has 1 to 255 ports
abbrev pub port_count_in : List ℕ → Result ℕ DiscoveryCause
port_count_in digits = port_number_in digits >>= λ count. if nat_le 1 count then Ok count else Err Malformed
