-- The numbers in the data of a service that is set (IBA volume 1, 15.2.5.14).
use Rattle.std.specs.Prelude.{ℕ, ◌≡◌, if◌then◌else◌, List, length, sum_by}
use Rattle.std.specs.List.{AllByRecursion}
use Rattle.mad_layout.specs.Bits.{field}
use Rattle.sa_records.specs.Asked.{Asked}
use Rattle.sa_records.specs.ServiceRecord.{service_data_asked}
use Rattle.sa_model.specs.Selected.{asks}
use Rattle.sa_records.specs.ServiceRecord.{numbers_asked}

-- each number is as it is asked, and 0 if the mask does not ask it
abbrev pub IsAsAsked : ℕ → List ℕ → Asked → Type 0
IsAsAsked mask numbers one =
    field (numbers_asked mask numbers) one.off one.len ≡ (if asks mask one.bits then field numbers one.off one.len else 0)

-- so it is with all of them, which fill the 64 bytes
pub record AreAsAsked (mask : ℕ) (numbers : List ℕ) : Type 0 where
  pub each : AllByRecursion (IsAsAsked mask numbers) service_data_asked
  pub all : sum_by (λ one. one.len) service_data_asked ≡ 512
  pub long : length (numbers_asked mask numbers) ≡ 64

abbrev pub NumbersAreAsAsked : Type 0
NumbersAreAsAsked = (mask : ℕ) (numbers : List ℕ) → AreAsAsked mask numbers
