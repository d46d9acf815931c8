-- ServiceRecord (IBA volume 1, 15.2.5.14): the places of its fields.
use Rattle.std.specs.Prelude.{ℕ, Bool, ◌==◌, ◌&&◌, bit_and, if◌then◌else◌, List, [], ◌∷◌, filter, map, replicate, codes, slice_range}
use Rattle.mad_layout.specs.Bits.{field, number, put_field}
use Rattle.mad_layout.specs.Layout.{Field, at, put_all}
use Rattle.sa_records.specs.declared.service_record.ServiceRecord.{ServiceRecord}
use Rattle.std.specs.Str.{bytes_eq}
use Rattle.pkey_rules.specs.KeyTable.{same_base}
use Rattle.sa_records.specs.Component.{Component, on, is_selected, same_part}
use Rattle.sa_records.specs.Asked.{Asked, by}
use Rattle.sa_records.specs.ServiceMask as service_mask

abbrev pub service_record : ServiceRecord → List Field
service_record one =
    at 0 64 one.service_id
    ∷ at 64 128 one.service_gid
    ∷ at 192 16 one.service_p_key
    ∷ at 224 32 one.service_lease
    ∷ at 256 128 one.service_key
    ∷ at 384 512 (number one.service_name)
    ∷ at 896 512 (number one.service_data)
    ∷ []

-- those that are no bytes
abbrev pub service_fields : ServiceRecord → List Field
service_fields one =
    at 0 64 one.service_id
    ∷ at 64 128 one.service_gid
    ∷ at 192 16 one.service_p_key
    ∷ at 224 32 one.service_lease
    ∷ at 256 128 one.service_key
    ∷ []

-- the record that these bytes begin with
unfoldable pub service_in : List ℕ → ServiceRecord
service_in bytes = record {
  service_id = field bytes 0 64;
  service_gid = field bytes 64 128;
  service_p_key = field bytes 192 16;
  service_lease = field bytes 224 32;
  service_key = field bytes 256 128;
  service_name = slice_range bytes 48 112;
  service_data = slice_range bytes 112 176;
}

-- the bytes that it fills in a table
unfoldable pub service_record_bytes : ServiceRecord → List ℕ
service_record_bytes one = put_all (replicate 176 0) (service_record one)

-- the components by which services are asked for: ServiceID, ServiceGID, ServiceP_Key, ServiceLease, ServiceKey and
-- ServiceName
abbrev pub names_components : ServiceRecord → ServiceRecord → List Component
names_components shown asked =
    on service_mask.service_id (shown.service_id == asked.service_id)
    ∷ on service_mask.service_gid (shown.service_gid == asked.service_gid)
    ∷ on service_mask.service_p_key (same_base shown.service_p_key asked.service_p_key)
    ∷ on service_mask.service_lease (shown.service_lease == asked.service_lease)
    ∷ on service_mask.service_key (shown.service_key == asked.service_key)
    ∷ on service_mask.service_name (bytes_eq shown.service_name asked.service_name)
    ∷ []

unfoldable pub names_selected : ℕ → ServiceRecord → ServiceRecord → Bool
names_selected mask shown asked = is_selected mask (names_components shown asked)

-- ---- and the numbers in ServiceData, each by its bit in the mask, its first byte and how many it has
-- Data8_1 to Data8_8
abbrev pub data8_front_components : List ℕ → List ℕ → List Component
data8_front_components shown asked =
    on 128 (same_part 0 1 shown asked)
    ∷ on 256 (same_part 1 1 shown asked)
    ∷ on 512 (same_part 2 1 shown asked)
    ∷ on 1024 (same_part 3 1 shown asked)
    ∷ on 2048 (same_part 4 1 shown asked)
    ∷ on 4096 (same_part 5 1 shown asked)
    ∷ on 8192 (same_part 6 1 shown asked)
    ∷ on 16384 (same_part 7 1 shown asked)
    ∷ []

unfoldable pub data8_front_selected : ℕ → List ℕ → List ℕ → Bool
data8_front_selected mask shown asked = is_selected mask (data8_front_components shown asked)

-- Data8_9 to Data8_16
abbrev pub data8_back_components : List ℕ → List ℕ → List Component
data8_back_components shown asked =
    on 32768 (same_part 8 1 shown asked)
    ∷ on 65536 (same_part 9 1 shown asked)
    ∷ on 131072 (same_part 10 1 shown asked)
    ∷ on 262144 (same_part 11 1 shown asked)
    ∷ on 524288 (same_part 12 1 shown asked)
    ∷ on 1048576 (same_part 13 1 shown asked)
    ∷ on 2097152 (same_part 14 1 shown asked)
    ∷ on 4194304 (same_part 15 1 shown asked)
    ∷ []

unfoldable pub data8_back_selected : ℕ → List ℕ → List ℕ → Bool
data8_back_selected mask shown asked = is_selected mask (data8_back_components shown asked)

-- Data16_1 to Data16_8
abbrev pub data16_components : List ℕ → List ℕ → List Component
data16_components shown asked =
    on 8388608 (same_part 16 2 shown asked)
    ∷ on 16777216 (same_part 18 2 shown asked)
    ∷ on 33554432 (same_part 20 2 shown asked)
    ∷ on 67108864 (same_part 22 2 shown asked)
    ∷ on 134217728 (same_part 24 2 shown asked)
    ∷ on 268435456 (same_part 26 2 shown asked)
    ∷ on 536870912 (same_part 28 2 shown asked)
    ∷ on 1073741824 (same_part 30 2 shown asked)
    ∷ []

unfoldable pub data16_selected : ℕ → List ℕ → List ℕ → Bool
data16_selected mask shown asked = is_selected mask (data16_components shown asked)

-- Data32_1 to Data32_4
abbrev pub data32_components : List ℕ → List ℕ → List Component
data32_components shown asked =
    on 2147483648 (same_part 32 4 shown asked)
    ∷ on 4294967296 (same_part 36 4 shown asked)
    ∷ on 8589934592 (same_part 40 4 shown asked)
    ∷ on 17179869184 (same_part 44 4 shown asked)
    ∷ []

unfoldable pub data32_selected : ℕ → List ℕ → List ℕ → Bool
data32_selected mask shown asked = is_selected mask (data32_components shown asked)

-- Data64_1 and Data64_2
abbrev pub data64_components : List ℕ → List ℕ → List Component
data64_components shown asked =
    on 34359738368 (same_part 48 8 shown asked)
    ∷ on 68719476736 (same_part 56 8 shown asked)
    ∷ []

unfoldable pub data64_selected : ℕ → List ℕ → List ℕ → Bool
data64_selected mask shown asked = is_selected mask (data64_components shown asked)

unfoldable pub service_record_selected : ℕ → ServiceRecord → ServiceRecord → Bool
service_record_selected mask shown asked =
    names_selected mask shown asked
    && (data8_front_selected mask shown.service_data asked.service_data
    && (data8_back_selected mask shown.service_data asked.service_data
    && (data16_selected mask shown.service_data asked.service_data
    && (data32_selected mask shown.service_data asked.service_data
    && data64_selected mask shown.service_data asked.service_data))))

-- the fields that services are asked by with a number, in the order of their bits. ServiceName, bit 6, is text
abbrev pub service_record_asked : List Asked
service_record_asked =
    by (codes "sid") 1 0 64
    ∷ by (codes "gid") 2 64 128
    ∷ by (codes "pkey") 4 192 16
    ∷ by (codes "lease") 16 224 32
    ∷ by (codes "key") 32 256 128
    ∷ []

-- the numbers in ServiceData, each by its place there
abbrev pub service_data_asked : List Asked
service_data_asked =
    by (codes "data8_1") 128 0 8
    ∷ by (codes "data8_2") 256 8 8
    ∷ by (codes "data8_3") 512 16 8
    ∷ by (codes "data8_4") 1024 24 8
    ∷ by (codes "data8_5") 2048 32 8
    ∷ by (codes "data8_6") 4096 40 8
    ∷ by (codes "data8_7") 8192 48 8
    ∷ by (codes "data8_8") 16384 56 8
    ∷ by (codes "data8_9") 32768 64 8
    ∷ by (codes "data8_10") 65536 72 8
    ∷ by (codes "data8_11") 131072 80 8
    ∷ by (codes "data8_12") 262144 88 8
    ∷ by (codes "data8_13") 524288 96 8
    ∷ by (codes "data8_14") 1048576 104 8
    ∷ by (codes "data8_15") 2097152 112 8
    ∷ by (codes "data8_16") 4194304 120 8
    ∷ by (codes "data16_1") 8388608 128 16
    ∷ by (codes "data16_2") 16777216 144 16
    ∷ by (codes "data16_3") 33554432 160 16
    ∷ by (codes "data16_4") 67108864 176 16
    ∷ by (codes "data16_5") 134217728 192 16
    ∷ by (codes "data16_6") 268435456 208 16
    ∷ by (codes "data16_7") 536870912 224 16
    ∷ by (codes "data16_8") 1073741824 240 16
    ∷ by (codes "data32_1") 2147483648 256 32
    ∷ by (codes "data32_2") 4294967296 288 32
    ∷ by (codes "data32_3") 8589934592 320 32
    ∷ by (codes "data32_4") 17179869184 352 32
    ∷ by (codes "data64_1") 34359738368 384 64
    ∷ by (codes "data64_2") 68719476736 448 64
    ∷ []

-- ---- the numbers in ServiceData that the mask names, as they are given; all others are 0
abbrev pub is_named : ℕ → Asked → Bool
is_named mask one = bit_and mask one.bits == one.bits

abbrev pub numbers_asked : ℕ → List ℕ → List ℕ
numbers_asked mask numbers =
    put_all (replicate 64 0) (map (λ one. at one.off one.len (field numbers one.off one.len)) (filter (is_named mask) service_data_asked))

-- one of them
unfoldable pub with_number_named : ℕ → (numbers : List ℕ) → (bits off len : ℕ) → List ℕ → List ℕ
with_number_named mask numbers bits off len bytes =
    if bit_and mask bits == bits then put_field bytes off len (field numbers off len) else bytes
