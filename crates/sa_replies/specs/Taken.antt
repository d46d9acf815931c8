-- Which MTU, rate and PacketLifeTime a new group has, of those that we have.
use Rattle.std.specs.Prelude.{ℕ, ◌≡◌, Bool, true, false, not, ◌==◌, ◌||◌, nat_le, List, [], ◌∷◌, Option, Some, None}
use Rattle.std.specs.List.{list_any}
use Rattle.sa_records.specs.Component.{satisfies}
use Rattle.sa_records.specs.McMemberMask as member_mask
use Rattle.sa_records.specs.Speed.{rate_satisfies, speed_of}
use Rattle.sa_records.specs.declared.mc_member_record.McMemberRecord.{McMemberRecord}
use Rattle.sa_model.specs.Selected.{asks}
use Rattle.sa_replies.specs.Joins.{life_taken, mtu_taken, rate_taken}

-- ---- the greatest of some codes that passes a test, by an order of them; none if none passes
abbrev pub is_one_of : List ℕ → ℕ → Bool
is_one_of codes code = list_any (λ one. one == code) codes

pub record IsGreatestOf (codes : List ℕ) (passes : ℕ → Bool) (at_most : ℕ → ℕ → Bool) (taken : ℕ) : Type 0 where
  pub ours : is_one_of codes taken ≡ true
  pub fits : passes taken ≡ true
  pub greatest : (code : ℕ) → is_one_of codes code ≡ true → passes code ≡ true → at_most code taken ≡ true

abbrev pub IsGreatest : List ℕ → (ℕ → Bool) → (ℕ → ℕ → Bool) → Option ℕ → Type 0
IsGreatest codes passes at_most (Some taken) = IsGreatestOf codes passes at_most taken
IsGreatest codes passes at_most None = (code : ℕ) → is_one_of codes code ≡ true → passes code ≡ false

-- ---- what we have: MTUs of 256 to 2048 bytes, rates of 2.5, 10 and 5 Gb/s, and one PacketLifeTime
abbrev pub our_mtus : List ℕ
our_mtus = 1 ∷ 2 ∷ 3 ∷ 4 ∷ []

abbrev pub our_rates : List ℕ
our_rates = 2 ∷ 3 ∷ 5 ∷ []

abbrev pub our_life_times : List ℕ
our_life_times = 18 ∷ []

-- rates by their speed
abbrev pub is_speed_at_most : Option ℕ → Option ℕ → Bool
is_speed_at_most (Some slow) (Some fast) = nat_le slow fast
is_speed_at_most (Some slow) None = false
is_speed_at_most None fast = false

abbrev pub is_no_faster : ℕ → ℕ → Bool
is_no_faster a b = is_speed_at_most (speed_of a) (speed_of b)

-- ---- what satisfies the request: all if its mask does not ask by it
abbrev pub mtu_fits : ℕ → McMemberRecord → ℕ → Bool
mtu_fits mask asked mtu = not (asks mask member_mask.mtu) || satisfies asked.mtu_selector mtu asked.mtu

abbrev pub rate_fits : ℕ → McMemberRecord → ℕ → Bool
rate_fits mask asked rate = not (asks mask member_mask.rate) || rate_satisfies asked.rate_selector rate asked.rate

abbrev pub life_fits : ℕ → McMemberRecord → ℕ → Bool
life_fits mask asked life =
    not (asks mask member_mask.packet_life_time) || satisfies asked.packet_life_time_selector life asked.packet_life_time

-- a group gets the greatest of each that satisfies what is asked
pub record IsTaken (mask : ℕ) (asked : McMemberRecord) : Type 0 where
  pub mtu : IsGreatest our_mtus (mtu_fits mask asked) nat_le (mtu_taken mask asked)
  pub rate : IsGreatest our_rates (rate_fits mask asked) is_no_faster (rate_taken mask asked)
  pub life : IsGreatest our_life_times (life_fits mask asked) nat_le (life_taken mask asked)

abbrev pub TheGreatestIsTaken : Type 0
TheGreatestIsTaken = (mask : ℕ) (asked : McMemberRecord) → IsTaken mask asked
