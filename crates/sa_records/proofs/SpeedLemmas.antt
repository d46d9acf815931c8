-- The speed of a code.
use Rattle.std.proofs.Common.{◌≡◌, ℕ, false, ◌==◌, Some, None, refl, ◌∙◌, ap, inl, inr}
use Rattle.std.proofs.lemmas.Bool.{cases_Bool, eqb-true}
use Rattle.attr_tables.specs.declared.rate.Rate.{Rate}
use Rattle.attr_tables.specs.declared.rate.Rate.TheVariants.{Gbps2_5, Gbps10, Gbps30, Gbps5, Gbps20, Gbps40, Gbps60, Gbps80, Gbps120}
use Rattle.attr_tables.specs.Rate.{rate_code}
use Rattle.sa_records.specs.Speed.{speed, speed_of}

own_speed : (rate : Rate) → Some (speed rate) ≡ speed_of (rate_code rate)
unfolding speed_of
own_speed Gbps2_5 = refl
own_speed Gbps10 = refl
own_speed Gbps30 = refl
own_speed Gbps5 = refl
own_speed Gbps20 = refl
own_speed Gbps40 = refl
own_speed Gbps60 = refl
own_speed Gbps80 = refl
own_speed Gbps120 = refl

pub speed_found : (rate : Rate) (code : ℕ) → rate_code rate ≡ code → Some (speed rate) ≡ speed_of code
speed_found rate code e = own_speed rate ∙ ap speed_of e

other_code : (rate : Rate) (code : ℕ) → (rate_code rate ≡ code → ⊥) → (rate_code rate == code) ≡ false
other_code rate code no_rate =
    elim (cases_Bool (rate_code rate == code)) [
      | inl same ↦ absurd (no_rate (eqb-true (rate_code rate) code same))
      | inr other ↦ other
    ]

pub speed_missing : (code : ℕ) → ((rate : Rate) → rate_code rate ≡ code → ⊥) → None ≡ speed_of code
unfolding speed_of
speed_missing code none =
    let a : (2 == code) ≡ false = other_code Gbps2_5 code (none Gbps2_5) in
    let b : (5 == code) ≡ false = other_code Gbps5 code (none Gbps5) in
    let c : (3 == code) ≡ false = other_code Gbps10 code (none Gbps10) in
    let d : (6 == code) ≡ false = other_code Gbps20 code (none Gbps20) in
    let e : (4 == code) ≡ false = other_code Gbps30 code (none Gbps30) in
    let f : (7 == code) ≡ false = other_code Gbps40 code (none Gbps40) in
    let g : (8 == code) ≡ false = other_code Gbps60 code (none Gbps60) in
    let h : (9 == code) ≡ false = other_code Gbps80 code (none Gbps80) in
    let i : (10 == code) ≡ false = other_code Gbps120 code (none Gbps120) in
    rw (a, b, c, d, e, f, g, h, i) refl
