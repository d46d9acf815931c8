-- Requests by ServiceRecords that are the same where the mask names a field.
use Rattle.std.proofs.Common.{ℕ, ◌≡◌, ◌∙◌, ◌+◌, ◌-◌, ◌*◌, ◌≤◌, ◌==◌, ◌&&◌, ◌||◌, Bool, true, not, nat_le, codes, replicate, List, [], ◌∷◌, ◌++◌, length, map, filter, take, drop, slice_range, Ok, ap, refl, sym, inl, inr, arith}
use Rattle.std.specs.Int.Digits.{AllBelowBase}
use Rattle.std.specs.List.{list_all, list_any}
use Rattle.std.specs.Str.{bytes_eq}
use Rattle.std.proofs.lemmas.Bool.{cases_Bool, and_parts, leb-true}
use Rattle.std.proofs.lemmas.List.{length-take, length-drop}
use Rattle.std.proofs.lemmas.List.Folds.{list_all-append}
use Rattle.mad_layout.specs.Bits.{field}
use Rattle.mad_layout.specs.Layout.{at, put_all}
use Rattle.mad_layout.specs.declared.status.MadStatus.TheVariants.{RequestInvalid, InvalidGid, InsufficientComponents, NoResources, NoRecords}
use Rattle.mad_layout.proofs.AlignedLemmas.{bytes_stand, field_aligned, field_of_part}
use Rattle.mad_layout.proofs.LayoutLemmas.{below_dropped, below_taken}
use Rattle.pkey_rules.specs.KeyTable.{same_base}
use Rattle.pkey_rules.specs.PKey.{base_of}
use Rattle.sa_records.specs.Asked.{Asked, by}
use Rattle.sa_records.specs.Component.{on, passes, same_part}
use Rattle.sa_records.specs.ServiceMask as service_mask
use Rattle.sa_records.specs.ServiceRecord.{data16_components, data16_selected, data32_components, data32_selected, data64_components, data64_selected, data8_back_components, data8_back_selected, data8_front_components, data8_front_selected, is_named, names_components, names_selected, numbers_asked, service_data_asked, service_in, service_record_asked, service_record_bytes, service_record_selected}
use Rattle.sa_records.specs.declared.service_record.ServiceRecord.{ServiceRecord}
use Rattle.subnet_model.specs.declared.subnet_port.SubnetPort.{SubnetPort}
use Rattle.sa_model.specs.Members.{is_in}
use Rattle.sa_model.specs.ServiceChange.{Deed, has_id, has_room}
use Rattle.sa_model.specs.Services.{Service}
use Rattle.sa_model.specs.Gid.{gid_of}
use Rattle.sa_model.specs.Outcome.{unless_status}
use Rattle.sa_model.specs.Refusals.{first_refusal, refused_if}
use Rattle.sa_model.specs.Selected.{Query, asks}
use Rattle.sa_model.specs.Shown.{service_entry, service_record_of}
use Rattle.sa_model.specs.Visible.{SaState, visible_services}
use Rattle.sa_replies.specs.ServiceRequests.{after_change, change_asked, owner_questions, service_asked, service_deleted, service_set, services_at}
use Rattle.sa_replies.specs.Success.{Success}
use Rattle.sa_replies.specs.Named.{agree_on, agree_where_named, name_and_data}
use Rattle.sa_replies.proofs.NamedLemmas.{AgreesAt, agrees, agrees_at, asks_part, only_then, passes_same, selected_same}
use Rattle.sa_replies.proofs.NamedQueryLemmas.{SameQuery}

-- ---- whole bytes of two texts that hold the same field
slices_same : (xs ys : List ℕ) (first count : ℕ) → AllBelowBase 256 xs → AllBelowBase 256 ys → first + count ≤ length xs → first + count ≤ length ys
    → field xs (8 * first) (8 * count) ≡ field ys (8 * first) (8 * count) → take count (drop first xs) ≡ take count (drop first ys)
slices_same xs ys first count below too within inside same =
    let part = take count (drop first ys) in
    let left = length-drop first ys in
    let size = length-take count (drop first ys) in
    bytes_stand xs part first count below (below_taken count (drop first ys) (below_dropped first ys too)) within (omega (arith, left, size, inside))
    (field_aligned ys first count (8 * first) (8 * count) too inside refl refl ∙ sym same)

-- ---- the numbers of ServiceData, in the 64 bytes that it has
abbrev pub is_inside : Asked → Bool
is_inside one = nat_le (one.off + one.len) 512

module _ (mask : ℕ) (x y : List ℕ) (below : AllBelowBase 256 x) (too : AllBelowBase 256 y) (long : length x ≡ 200) (wide : length y ≡ 200) where
  in_data : (xs : List ℕ) → AllBelowBase 256 xs → length xs ≡ 200 → (one : Asked) → is_inside one ≡ true
      → field (slice_range xs 112 176) one.off one.len ≡ field xs (896 + one.off) one.len
  in_data xs low size one inside =
      let fits = leb-true (one.off + one.len) 512 inside in
      field_of_part xs 112 64 one.off one.len low (omega (arith, size)) (omega (arith, fits))

  data_on : (one : Asked) → is_inside one ≡ true → agree_on mask x y (by one.name one.bits (896 + one.off) one.len)
      ≡ agree_on mask (slice_range x 112 176) (slice_range y 112 176) one
  data_on one inside =
      let left = in_data x below long one inside in
      let right = in_data y too wide one inside in
      (λ i. not (asks mask one.bits) || (sym left i == sym right i))

  pub data_agrees : (rows : List Asked) → list_all is_inside rows ≡ true
      → agree_where_named (map (λ one. by one.name one.bits (896 + one.off) one.len) rows) mask x y
      ≡ agree_where_named rows mask (slice_range x 112 176) (slice_range y 112 176)
  data_agrees [] all = refl
  data_agrees (one ∷ rows) all =
      let parts = and_parts (is_inside one) (list_all is_inside rows) all in
      (λ i. data_on one parts.0 i && data_agrees rows parts.1 i)

-- ---- ServiceRecords
pub record SameService (mask : ℕ) (x y : ServiceRecord) : Type 0 where
  pub service_id : asks mask 1 ≡ true → x.service_id ≡ y.service_id
  pub service_gid : asks mask 2 ≡ true → x.service_gid ≡ y.service_gid
  pub service_p_key : asks mask 4 ≡ true → x.service_p_key ≡ y.service_p_key
  pub service_lease : asks mask 16 ≡ true → x.service_lease ≡ y.service_lease
  pub service_key : asks mask 32 ≡ true → x.service_key ≡ y.service_key
  pub service_name : asks mask 64 ≡ true → x.service_name ≡ y.service_name
  pub numbers : agree_where_named service_data_asked mask x.service_data y.service_data ≡ true
  pub below : AllBelowBase 256 x.service_data
  pub too : AllBelowBase 256 y.service_data
  pub long : length x.service_data ≡ 64
  pub wide : length y.service_data ≡ 64

pub same_service : (mask : ℕ) (x y : List ℕ) → AllBelowBase 256 x → AllBelowBase 256 y → length x ≡ 200 → length y ≡ 200
    → agree_where_named (service_record_asked ++ name_and_data) mask x y ≡ true → SameService mask (service_in x) (service_in y)
unfolding service_in
same_service mask x y below too long wide all =
    let fields = service_record_asked ++ name_and_data in
    let parts = and_parts (agree_where_named service_record_asked mask x y) (agree_where_named name_and_data mask x y)
    (sym (list_all-append (agree_on mask x y) service_record_asked name_and_data) ∙ all) in
    let behind = and_parts (agree_on mask x y (by (codes "name") service_mask.service_name 384 512)) _ parts.1 in
    let left = length-drop 112 x in
    let size = length-take 64 (drop 112 x) in
    let other_left = length-drop 112 y in
    let other_size = length-take 64 (drop 112 y) in
    record {
      service_id = agrees_at mask x y 0 fields all;
      service_gid = agrees_at mask x y 1 fields all;
      service_p_key = agrees_at mask x y 2 fields all;
      service_lease = agrees_at mask x y 3 fields all;
      service_key = agrees_at mask x y 4 fields all;
      service_name = λ e. slices_same x y 48 64 below too (omega (arith, long)) (omega (arith, wide)) (agrees_at mask x y 5 fields all e);
      numbers = sym (data_agrees mask x y below too long wide service_data_asked refl) ∙ behind.1;
      below = below_taken 64 (drop 112 x) (below_dropped 112 x below);
      too = below_taken 64 (drop 112 y) (below_dropped 112 y too);
      long = omega (arith, left, size, long);
      wide = omega (arith, other_left, other_size, wide);
    }

module _ (mask : ℕ) (x y : ServiceRecord) (same : SameService mask x y) where
  -- a number of ServiceData that is asked
  part : (first count bits : ℕ) → first + count ≤ 64
      → (asks mask bits ≡ true → field x.service_data (8 * first) (8 * count) ≡ field y.service_data (8 * first) (8 * count))
      → (shown : List ℕ) → passes mask (on bits (same_part first count shown x.service_data)) ≡ passes mask (on bits (same_part first count shown y.service_data))
  part first count bits inside agrees shown =
      let long = same.long in
      let wide = same.wide in
      let size : (first + count) - first ≡ count = omega arith in
      passes_same mask bits _ _ (λ e.
      ap (λ (taken : List ℕ). bytes_eq (slice_range shown first (first + count)) taken)
      (ap (λ (n : ℕ). take n (drop first x.service_data)) size
      ∙ (slices_same x.service_data y.service_data first count same.below same.too (omega (arith, long, inside)) (omega (arith, wide, inside)) (agrees e)
      ∙ ap (λ (n : ℕ). take n (drop first y.service_data)) (sym size))))

  numbers_at : (n : ℕ) → AgreesAt mask x.service_data y.service_data n service_data_asked
  numbers_at n = agrees_at mask x.service_data y.service_data n service_data_asked same.numbers

  names_same : (shown : ServiceRecord) → names_selected mask shown x ≡ names_selected mask shown y
  unfolding names_selected
  names_same shown = selected_same mask (names_components shown x) (names_components shown y) (
    passes_same mask 1 _ _ (λ e. ap (λ (n : ℕ). shown.service_id == n) (same.service_id e)),
    (
      passes_same mask 2 _ _ (λ e. ap (λ (n : ℕ). shown.service_gid == n) (same.service_gid e)),
      (
        passes_same mask 4 _ _ (λ e. ap (λ (n : ℕ). same_base shown.service_p_key n) (same.service_p_key e)),
        (
          passes_same mask 16 _ _ (λ e. ap (λ (n : ℕ). shown.service_lease == n) (same.service_lease e)),
          (
            passes_same mask 32 _ _ (λ e. ap (λ (n : ℕ). shown.service_key == n) (same.service_key e)),
            (passes_same mask 64 _ _ (λ e. ap (λ (name : List ℕ). bytes_eq shown.service_name name) (same.service_name e)), tt),
          ),
        ),
      ),
    ),
  )

  data8_front_same : (shown : List ℕ) → data8_front_selected mask shown x.service_data ≡ data8_front_selected mask shown y.service_data
  unfolding data8_front_selected
  data8_front_same shown = selected_same mask (data8_front_components shown x.service_data) (data8_front_components shown y.service_data) (
    part 0 1 128 (omega arith) (numbers_at 0) shown,
    (
      part 1 1 256 (omega arith) (numbers_at 1) shown,
      (
        part 2 1 512 (omega arith) (numbers_at 2) shown,
        (
          part 3 1 1024 (omega arith) (numbers_at 3) shown,
          (
            part 4 1 2048 (omega arith) (numbers_at 4) shown,
            (
              part 5 1 4096 (omega arith) (numbers_at 5) shown,
              (
                part 6 1 8192 (omega arith) (numbers_at 6) shown,
                (part 7 1 16384 (omega arith) (numbers_at 7) shown, tt),
              ),
            ),
          ),
        ),
      ),
    ),
  )

  data8_back_same : (shown : List ℕ) → data8_back_selected mask shown x.service_data ≡ data8_back_selected mask shown y.service_data
  unfolding data8_back_selected
  data8_back_same shown = selected_same mask (data8_back_components shown x.service_data) (data8_back_components shown y.service_data) (
    part 8 1 32768 (omega arith) (numbers_at 8) shown,
    (
      part 9 1 65536 (omega arith) (numbers_at 9) shown,
      (
        part 10 1 131072 (omega arith) (numbers_at 10) shown,
        (
          part 11 1 262144 (omega arith) (numbers_at 11) shown,
          (
            part 12 1 524288 (omega arith) (numbers_at 12) shown,
            (
              part 13 1 1048576 (omega arith) (numbers_at 13) shown,
              (
                part 14 1 2097152 (omega arith) (numbers_at 14) shown,
                (part 15 1 4194304 (omega arith) (numbers_at 15) shown, tt),
              ),
            ),
          ),
        ),
      ),
    ),
  )

  data16_same : (shown : List ℕ) → data16_selected mask shown x.service_data ≡ data16_selected mask shown y.service_data
  unfolding data16_selected
  data16_same shown = selected_same mask (data16_components shown x.service_data) (data16_components shown y.service_data) (
    part 16 2 8388608 (omega arith) (numbers_at 16) shown,
    (
      part 18 2 16777216 (omega arith) (numbers_at 17) shown,
      (
        part 20 2 33554432 (omega arith) (numbers_at 18) shown,
        (
          part 22 2 67108864 (omega arith) (numbers_at 19) shown,
          (
            part 24 2 134217728 (omega arith) (numbers_at 20) shown,
            (
              part 26 2 268435456 (omega arith) (numbers_at 21) shown,
              (
                part 28 2 536870912 (omega arith) (numbers_at 22) shown,
                (part 30 2 1073741824 (omega arith) (numbers_at 23) shown, tt),
              ),
            ),
          ),
        ),
      ),
    ),
  )

  data32_same : (shown : List ℕ) → data32_selected mask shown x.service_data ≡ data32_selected mask shown y.service_data
  unfolding data32_selected
  data32_same shown = selected_same mask (data32_components shown x.service_data) (data32_components shown y.service_data) (
    part 32 4 2147483648 (omega arith) (numbers_at 24) shown,
    (
      part 36 4 4294967296 (omega arith) (numbers_at 25) shown,
      (
        part 40 4 8589934592 (omega arith) (numbers_at 26) shown,
        (part 44 4 17179869184 (omega arith) (numbers_at 27) shown, tt),
      ),
    ),
  )

  data64_same : (shown : List ℕ) → data64_selected mask shown x.service_data ≡ data64_selected mask shown y.service_data
  unfolding data64_selected
  data64_same shown = selected_same mask (data64_components shown x.service_data) (data64_components shown y.service_data) (
    part 48 8 34359738368 (omega arith) (numbers_at 28) shown,
    (part 56 8 68719476736 (omega arith) (numbers_at 29) shown, tt),
  )

  pub service_selected_same : (shown : ServiceRecord) → service_record_selected mask shown x ≡ service_record_selected mask shown y
  unfolding service_record_selected
  service_selected_same shown = (λ i. names_same shown i
      && (data8_front_same shown.service_data i
      && (data8_back_same shown.service_data i
      && (data16_same shown.service_data i
      && (data32_same shown.service_data i && data64_same shown.service_data i)))))

  pub service_query : (ports : List SubnetPort) (own : SubnetPort) (state : SaState) → SameQuery ports own state (Query.for_services mask x) (Query.for_services mask y)
  service_query ports own state = record {
    refused = refl;
    found = λ most. (λ i. map service_entry (filter (λ one. service_selected_same (service_record_of one) i) (visible_services ports own state.services)));
    wanted = refl;
    offset = refl;
  }

  -- ---- a Set: the numbers that are asked, and 0 for all others
  rows_same : (rows : List Asked) → agree_where_named rows mask x.service_data y.service_data ≡ true
      → map (λ (one : Asked). at one.off one.len (field x.service_data one.off one.len)) (filter (is_named mask) rows)
      ≡ map (λ (one : Asked). at one.off one.len (field y.service_data one.off one.len)) (filter (is_named mask) rows)
  rows_same [] all = refl
  rows_same (one ∷ rows) all =
      let parts = and_parts (agree_on mask x.service_data y.service_data one) (agree_where_named rows mask x.service_data y.service_data) all in
      elim (cases_Bool (is_named mask one)) [
        | inl named ↦
            let value = agrees mask x.service_data y.service_data one parts.0 named in
            let rest = rows_same rows parts.1 in
            rw named (λ i. at one.off one.len (value i) ∷ rest i)
        | inr other ↦ rw other (rows_same rows parts.1)
      ]

  numbers_same : numbers_asked mask x.service_data ≡ numbers_asked mask y.service_data
  numbers_same = ap (put_all (replicate 64 0)) (rows_same service_data_asked same.numbers)

  abbrev needed_of_service : ℕ
  needed_of_service = service_mask.service_id + service_mask.service_gid + service_mask.service_p_key

  module _ (named : asks mask needed_of_service ≡ true) where
    id_is : x.service_id ≡ y.service_id
    id_is = same.service_id (asks_part mask needed_of_service 1 refl named)

    gid_is : x.service_gid ≡ y.service_gid
    gid_is = same.service_gid (asks_part mask needed_of_service 2 refl named)

    key_is : x.service_p_key ≡ y.service_p_key
    key_is = same.service_p_key (asks_part mask needed_of_service 4 refl named)

    owner_same : (own : SubnetPort) → owner_questions own mask x ≡ owner_questions own mask y
    owner_same own = (λ i. refused_if (not (asks mask needed_of_service)) InsufficientComponents
        ∷ refused_if (not (gid_is i == gid_of own.guid)) InvalidGid
        ∷ refused_if (not (is_in own (base_of (key_is i)))) RequestInvalid
        ∷ [])

    service_same : service_asked mask x ≡ service_asked mask y
    service_same =
        let lease = only_then (asks mask service_mask.service_lease) x.service_lease y.service_lease same.service_lease 0 in
        let name = only_then (asks mask service_mask.service_name) x.service_name y.service_name same.service_name (replicate 64 0) in
        (λ i. record { service_id = id_is i; lease = lease i; name = name i; numbers = numbers_same i })

    change_same : (own : SubnetPort) (deed : ServiceRecord → Deed) → deed x ≡ deed y → change_asked own x (deed x) ≡ change_asked own y (deed y)
    change_same own deed same_deed = (λ i. record { port = own.guid; base = base_of (key_is i); deed = same_deed i })

    set_named : (own : SubnetPort) (state : SaState) → service_set own state mask x ≡ service_set own state mask y
    set_named own state =
        let questions = owner_same own in
        let service = service_same in
        let change = change_same own (λ asked. Deed.sets (service_asked mask asked)) (ap (λ (one : Service). Deed.sets one) service) in
        (λ i. unless_status (first_refusal (questions i))
        (unless_status (first_refusal (refused_if (not (has_room (service i).service_id (services_at (change i) state.services))) NoResources ∷ []))
        (Ok (Success.one_reply
        (service_record_bytes (service_record_of (record { port = own.guid; base = base_of (key_is i); service = service i })))
        (after_change state (change i))))))

    deleted_named : (own : SubnetPort) (state : SaState) (content : List ℕ) → service_deleted own state mask x content ≡ service_deleted own state mask y content
    deleted_named own state content =
        let questions = owner_same own in
        let change = change_same own (λ asked. Deed.deletes asked.service_id) (ap (λ (id : ℕ). Deed.deletes id) id_is) in
        (λ i. unless_status (first_refusal (questions i))
        (unless_status (first_refusal (refused_if (not (list_any (has_id (id_is i)) (services_at (change i) state.services))) NoRecords ∷ []))
        (Ok (Success.one_reply content (after_change state (change i))))))

  pub set_same : (own : SubnetPort) (state : SaState) → service_set own state mask x ≡ service_set own state mask y
  set_same own state = elim (cases_Bool (asks mask needed_of_service)) [
    | inr missing ↦ rw missing refl
    | inl named ↦ set_named named own state
  ]

  pub deleted_same : (own : SubnetPort) (state : SaState) (content : List ℕ) → service_deleted own state mask x content ≡ service_deleted own state mask y content
  deleted_same own state content = elim (cases_Bool (asks mask needed_of_service)) [
    | inr missing ↦ rw missing refl
    | inl named ↦ deleted_named named own state content
  ]
