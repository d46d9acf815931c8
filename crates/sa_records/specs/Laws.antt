-- What is so of all records.
use Rattle.std.specs.Prelude.{ℕ, ◌≡◌, ◌==◌, Bool, true, not, ◌&&◌, nat_lt, List, [], ◌∷◌, ◌++◌, length, map, bit_and}
use Rattle.std.specs.Int.Digits.{AllBelowBase}
use Rattle.std.specs.List.{list_all, list_any}
use Rattle.attr_tables.specs.declared.rate.Rate.{Rate}
use Rattle.attr_tables.specs.Rate.{rate_code}
use Rattle.mad_layout.specs.Layout.{Fits}
use Rattle.sa_records.specs.declared.node_record.NodeRecord.{NodeRecord}
use Rattle.sa_records.specs.declared.path_record.PathRecord.{PathRecord}
use Rattle.sa_records.specs.declared.mc_member_record.McMemberRecord.{McMemberRecord}
use Rattle.sa_records.specs.declared.service_record.ServiceRecord.{ServiceRecord}
use Rattle.sa_records.specs.Asked.{Asked}
use Rattle.sa_records.specs.Speed.{rates, speed}
use Rattle.sa_records.specs.NodeRecord.{node_in, node_record, node_record_asked, node_record_bytes}
use Rattle.sa_records.specs.PathRecord.{path_in, path_record, path_record_asked, path_record_bytes}
use Rattle.sa_records.specs.McMemberRecord.{group_in, mc_member_record, mc_member_record_asked, mc_member_record_bytes}
use Rattle.sa_records.specs.ServiceMask as service_mask
use Rattle.sa_records.specs.ServiceRecord.{service_in, service_record, service_record_asked, service_data_asked, service_record_bytes}

-- ---- a record that is written is read again, whatever follows its bytes
-- so many bytes
pub record AreBytes (count : ℕ) (bytes : List ℕ) : Type 0 where
  pub below : AllBelowBase 256 bytes
  pub long : length bytes ≡ count

abbrev pub NodeRecordsReadBack : Type 0
NodeRecordsReadBack =
    (one : NodeRecord) (rest : List ℕ) → Fits (node_record one) → AreBytes 64 one.node_string → AllBelowBase 256 rest
    → node_in (node_record_bytes one ++ rest) ≡ one

abbrev pub PathRecordsReadBack : Type 0
PathRecordsReadBack =
    (one : PathRecord) (rest : List ℕ) → Fits (path_record one) → AllBelowBase 256 rest
    → path_in (path_record_bytes one ++ rest) ≡ one

abbrev pub McMemberRecordsReadBack : Type 0
McMemberRecordsReadBack =
    (one : McMemberRecord) (rest : List ℕ) → Fits (mc_member_record one) → AllBelowBase 256 rest
    → group_in (mc_member_record_bytes one ++ rest) ≡ one

abbrev pub ServiceRecordsReadBack : Type 0
ServiceRecordsReadBack =
    (one : ServiceRecord) (rest : List ℕ) → Fits (service_record one) → AreBytes 64 one.service_name → AreBytes 64 one.service_data
    → AllBelowBase 256 rest → service_in (service_record_bytes one ++ rest) ≡ one

-- ---- each rate is listed, and each that is listed is faster than the one before it
abbrev pub are_faster : ℕ → List Rate → Bool
are_faster slowest [] = true
are_faster slowest (rate ∷ faster) = nat_lt slowest (speed rate) && are_faster (speed rate) faster

pub record RatesAreInOrder : Type 0 where
  pub rise : are_faster 0 rates ≡ true
  pub all : (rate : Rate) → list_any (λ one. rate_code one == rate_code rate) rates ≡ true

-- ---- each field that a record is asked by has bits of the ComponentMask, and no two have one in common
abbrev pub bits_apart : List ℕ → ℕ → Bool
bits_apart others bits = list_all (λ other. bit_and bits other == 0) others

abbrev pub have_own_bits : List ℕ → Bool
have_own_bits [] = true
have_own_bits (bits ∷ rest) = not (bits == 0) && (bits_apart rest bits && have_own_bits rest)

abbrev pub mask_bits : List Asked → List ℕ
mask_bits fields = map (λ one. one.bits) fields

-- a service is asked by its ServiceName too, which is no number
pub record FieldsHaveOwnBits : Type 0 where
  pub nodes : have_own_bits (mask_bits node_record_asked) ≡ true
  pub paths : have_own_bits (mask_bits path_record_asked) ≡ true
  pub groups : have_own_bits (mask_bits mc_member_record_asked) ≡ true
  pub services : have_own_bits (service_mask.service_name ∷ mask_bits (service_record_asked ++ service_data_asked)) ≡ true
