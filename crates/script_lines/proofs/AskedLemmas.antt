-- A record that asks by one field more: its bytes are those before with the value at the field's place.
use Rattle.std.proofs.Common.{◌≡◌, ℕ, ◌+◌, ◌*◌, ◌-◌, ◌^◌, ◌<◌, ◌≤◌, ◌==◌, Bool, true, not, ◌&&◌, nat_le, nat_lt, if◌then◌else◌, List, [], ◌∷◌, ◌++◌, length, map, replicate, take, drop}
use Rattle.std.proofs.Common.{Option, Some, None, Result, Ok, IfSome, option_map, refl, sym, ◌∙◌, ap, subst, arith, ◌⊎◌, inl, inr}
use Rattle.std.specs.Int.Digits.{AllBelowBase}
use Rattle.std.specs.List.{find, list_all}
use Rattle.std.specs.Option.{option_or}
use Rattle.std.specs.Str.{bytes_eq}
use Rattle.std.proofs.lemmas.Bool.{and_parts, cases_Bool, leb-true, ltb-true}
use Rattle.std.proofs.lemmas.List.{length-replicate, length-take-le}
use Rattle.std.proofs.lemmas.List.Folds.{find-append}
use Rattle.std.proofs.lemmas.Option.{none-some, same_Some}
use Rattle.std.proofs.lemmas.Slice.Eq.{bytes_eq-Decides}
use Rattle.step_results.proofs.BoolLemmas.{not_true}
use Rattle.mad_layout.specs.Bits.{number, put_field}
use Rattle.mad_layout.specs.Layout.{Field, Fits, at, is_layout, put_all}
use Rattle.mad_layout.proofs.AlignedLemmas.{put_aligned}
use Rattle.mad_layout.proofs.LayoutLemmas.{below_dropped, below_taken, length-put_all, length-put_field, put_below, encoded_below, zeros_below}
use Rattle.mad_layout.proofs.NumberLemmas.{number_below}
use Rattle.sa_records.specs.declared.sa_record.SaRecord.{SaRecord}
use Rattle.sa_records.specs.declared.sa_record.SaRecord.TheVariants.{Node, Path, Group, Service}
use Rattle.sa_records.specs.declared.service_record.ServiceRecord.{ServiceRecord}
use Rattle.sa_records.specs.Asked.{Asked, asked_by, bits_of, if_wide_enough, with_number, with_value}
use Rattle.sa_records.specs.McMemberRecord.{mc_member_record, mc_member_record_asked, mc_member_record_bytes}
use Rattle.sa_records.specs.NodeRecord.{node_record, node_record_asked, node_record_bytes}
use Rattle.sa_records.specs.PathRecord.{path_record, path_record_asked, path_record_bytes}
use Rattle.sa_records.specs.SaRecord.{AskedBy, RecordFits, ServiceAskedBy, attribute_of, bits_asked, named, name_bits}
use Rattle.sa_records.specs.ServiceRecord.{service_data_asked, service_fields, service_record, service_record_asked, service_record_bytes}
use Rattle.script_lines.specs.Ask.{Named, holding, in_record, name_bytes, name_of, numbered, service_named}
use Rattle.script_lines.specs.Asking.{AsksToo, IfService, ServiceFits}
use Rattle.script_lines.specs.EncodedBytes.{written_in}
use Rattle.script_lines.specs.declared.script_cause.ScriptCause.{ScriptCause}
use Rattle.script_lines.proofs.PutLemmas.{put_valued, put_window, stands}

-- ---- the field of a name
-- it is one of those that are listed, and the value is narrow enough for it
record IsFound (test : Asked → Bool) (value : ℕ) (one : Asked) : Type 0 where
  passes : test one ≡ true
  narrow : value < 2 ^ one.len

this_one : (test : Asked → Bool) (value : ℕ) (first one : Asked) → test first ≡ true
    → (if nat_lt value (2 ^ first.len) then Some first else None) ≡ Some one → IsFound test value one
this_one test value first one passes is = elim (cases_Bool (nat_lt value (2 ^ first.len))) [
  | inl narrow ↦
      let same : first ≡ one = same_Some first one (rw narrow at is) in
      subst (IsFound test value) same (record { passes = passes; narrow = ltb-true value (2 ^ first.len) narrow })
  | inr wide ↦ absurd (none-some one (rw wide at is))
]

found : (test : Asked → Bool) (name : List ℕ) (value : ℕ) (fields : List Asked) (one : Asked) → list_all test fields ≡ true
    → asked_by name value fields ≡ Some one → IsFound test value one
unfolding asked_by
found test name value [] one all is = absurd (none-some one is)
found test name value (first ∷ rest) one all is = elim (cases_Bool (bytes_eq name first.name)) [
  | inl this ↦ this_one test value first one (and_parts (test first) _ all).0 (rw this at is)
  | inr other ↦ found test name value rest one (and_parts (test first) _ all).1 (rw other at is)
]

-- ---- bytes of a record with zero bytes behind them
abbrev padded : List ℕ → List ℕ
padded bytes = bytes ++ replicate (200 - length bytes) 0

put_front : (bytes : List ℕ) (off len value : ℕ) → AllBelowBase 256 bytes → off + len ≤ 8 * length bytes → value < 2 ^ len
    → put_field (padded bytes) off len value ≡ padded (put_field bytes off len value)
put_front bytes off len value below within narrow =
    let zeros : List ℕ = replicate (200 - length bytes) 0 in
    let place : 8 * 0 + off ≡ off = omega arith in
    ap (λ (n : ℕ). put_field (bytes ++ zeros) n len value) (sym place)
    ∙ put_window [] bytes zeros off len value tt below (zeros_below (200 - length bytes)) within narrow
    ∙ ap (λ (n : ℕ). put_field bytes off len value ++ replicate (200 - n) 0) (sym (length-put_field bytes off len value))

abbrev encoded : ℕ → List Field → List ℕ
encoded size layout = put_all (replicate size 0) layout

encoded_long : (size : ℕ) (layout : List Field) → length (encoded size layout) ≡ size
encoded_long size layout = length-put_all (replicate size 0) layout ∙ length-replicate size 0

-- the field lies in the record, and is one of its layout's
unfoldable is_in : ℕ → List Field → Asked → Bool
is_in size layout one = nat_le (one.off + one.len) (8 * size) && stands one.off one.len layout

-- ---- a field of the layout
abbrev Puts : ℕ → List Field → List Field → Named → Type 0
Puts size old new one = padded (encoded size new) ≡ put_field (padded (encoded size old)) one.place.off one.place.len one.place.value

puts : (size : ℕ) (old new : List Field) (value : ℕ) (one : Asked) → is_layout (8 * size) old ≡ true → Fits old
    → IsFound (is_in size old) value one → new ≡ with_value value (Some one) old → Puts size old new (holding value one)
unfolding is_in
puts size old new value one layout fits is same =
    let parts = and_parts (nat_le (one.off + one.len) (8 * size)) _ is.passes in
    let zeros : List ℕ = replicate size 0 in
    let test : is_layout (8 * length zeros) old ≡ true = ap (λ (n : ℕ). is_layout (8 * n) old) (length-replicate size 0) ∙ layout in
    let long = encoded_long size old in
    let inside = leb-true (one.off + one.len) (8 * size) parts.0 in
    ap (λ (layout : List Field). padded (encoded size layout)) same
    ∙ ap padded (put_valued zeros old one.off one.len value (zeros_below size) test fits parts.1 is.narrow)
    ∙ sym (put_front (encoded size old) one.off one.len value (encoded_below old size) (omega (arith, long, inside)) is.narrow)

puts_found : (size : ℕ) (fields : List Asked) (name : List ℕ) (value : ℕ) (old new : List Field) → list_all (is_in size old) fields ≡ true
    → is_layout (8 * size) old ≡ true → Fits old → new ≡ with_value value (asked_by name value fields) old
    → IfSome (option_map (holding value) (asked_by name value fields)) (Puts size old new)
puts_found size fields name value old new all layout fits same = by (asked_by name value fields) refl
  where
    by : (o : Option Asked) → asked_by name value fields ≡ o → IfSome (option_map (holding value) o) (Puts size old new)
    by None e = tt
    by (Some one) e =
        puts size old new value one layout fits (found (is_in size old) name value fields one all e)
        (same ∙ ap (λ (o : Option Asked). with_value value o old) e)

bits_kept : (value : ℕ) (o : Option Asked) → bits_of o ≡ option_map (λ (one : Named). one.bits) (option_map (holding value) o)
bits_kept value None = refl
bits_kept value (Some one) = refl

-- ---- a service: its own fields, and the numbers in its data
-- a number in the data is one in the record
nested : (bytes part : List ℕ) (off len value : ℕ) → AllBelowBase 256 bytes → length bytes ≡ 176 → AllBelowBase 256 part → length part ≡ 64
    → off + len ≤ 512 → value < 2 ^ len
    → put_field bytes 896 512 (number (put_field part off len value)) ≡ put_field (put_field bytes 896 512 (number part)) (896 + off) len value
nested bytes part off len value below long own wide within narrow =
    let a = take 112 bytes in
    let c = drop 64 (drop 112 bytes) in
    let new = put_field part off len value in
    let size = length-put_field part off len value in
    let front : length a ≡ 112 = length-take-le 112 bytes (omega arith) in
    let before = put_aligned bytes part 112 64 896 512 (number part) below own wide (omega arith) refl refl refl in
    let after = put_aligned bytes new 112 64 896 512 (number new) below (put_below part off len value) (size ∙ wide) (omega arith) refl refl refl in
    let place : 896 + off ≡ 8 * length a + off = omega (arith, front) in
    sym after
    ∙ sym (put_window a part c off len value (below_taken 112 bytes below) own (below_dropped 64 (drop 112 bytes) (below_dropped 112 bytes below)) (omega (arith, wide)) narrow)
    ∙ ap (λ (n : ℕ). put_field (a ++ (part ++ c)) n len value) (sym place)
    ∙ ap (λ (some : List ℕ). put_field some (896 + off) len value) before

-- the fields before the data, and the bytes that they encode
abbrev before_data : ServiceRecord → List Field
before_data one = service_fields one ++ at 384 512 (number one.service_name) ∷ []

puts_number : (old new : ServiceRecord) (value : ℕ) (one : Asked) → ServiceFits old → service_fields new ≡ service_fields old
    → new.service_name ≡ old.service_name → new.service_data ≡ put_field old.service_data one.off one.len value
    → one.off + one.len ≤ 512 → value < 2 ^ one.len → Puts 176 (service_record old) (service_record new) (holding value (in_record one))
puts_number old new value one fits fields name numbers within narrow =
    let front : before_data new ≡ before_data old =
    ap (λ (some : List Field). some ++ at 384 512 (number new.service_name) ∷ []) fields
    ∙ ap (λ (bytes : List ℕ). service_fields old ++ at 384 512 (number bytes) ∷ []) name in
    let bytes = encoded 176 (before_data old) in
    let long = encoded_long 176 (before_data old) in
    let all = encoded_long 176 (service_record old) in
    ap (λ (some : List Field). padded (put_field (encoded 176 some) 896 512 (number new.service_data))) front
    ∙ ap (λ (part : List ℕ). padded (put_field bytes 896 512 (number part))) numbers
    ∙ ap padded (nested bytes old.service_data one.off one.len value (encoded_below (before_data old) 176) long fits.below fits.long within narrow)
    ∙ sym (put_front (encoded 176 (service_record old)) (896 + one.off) one.len value (encoded_below (service_record old) 176) (omega (arith, all)) narrow)

-- a field of its own is none of the bytes
abbrev is_own : ServiceRecord → Asked → Bool
is_own old one = is_in 176 (service_record old) one && (not (384 == one.off) && not (896 == one.off))

puts_own : (old new : ServiceRecord) (value : ℕ) (one : Asked) → ServiceFits old → IsFound (is_own old) value one
    → service_fields new ≡ with_value value (Some one) (service_fields old) → new.service_name ≡ old.service_name
    → new.service_data ≡ old.service_data → Puts 176 (service_record old) (service_record new) (holding value one)
puts_own old new value one fits is fields name numbers =
    let parts = and_parts (is_in 176 (service_record old) one) _ is.passes in
    let others = and_parts (not (384 == one.off)) (not (896 == one.off)) parts.1 in
    let first = not_true (384 == one.off) others.0 in
    let second = not_true (896 == one.off) others.1 in
    puts 176 (service_record old) (service_record new) value one refl fits.fields (record { passes = parts.0; narrow = is.narrow })
    (ap (λ (some : List Field). some ++ at 384 512 (number new.service_name) ∷ at 896 512 (number new.service_data) ∷ []) fields
    ∙ ap (λ (bytes : List ℕ). with_value value (Some one) (service_fields old) ++ at 384 512 (number bytes) ∷ at 896 512 (number new.service_data) ∷ []) name
    ∙ ap (λ (bytes : List ℕ). with_value value (Some one) (service_fields old) ++ at 384 512 (number old.service_name) ∷ at 896 512 (number bytes) ∷ []) numbers
    ∙ rw (first, second) refl)

-- no number in the data has the name of an own field
abbrev is_foreign : Asked → Bool
is_foreign one = list_all (λ (other : Asked). not (bytes_eq one.name other.name)) service_data_asked

none_named : (name : List ℕ) (fields : List Asked) → list_all (λ (other : Asked). not (bytes_eq name other.name)) fields ≡ true
    → find (λ (one : Asked). bytes_eq name one.name) fields ≡ None
none_named name [] none = refl
none_named name (one ∷ rest) none =
    let parts = and_parts (not (bytes_eq name one.name)) _ none in
    rw (not_true (bytes_eq name one.name) parts.0) (none_named name rest parts.1)

named_first : (test : Asked → Bool) (name : List ℕ) (fields : List Asked) (one : Asked) → list_all test fields ≡ true
    → find (λ (one : Asked). bytes_eq name one.name) fields ≡ Some one → (test one ≡ true) × (name ≡ one.name)
named_first test name [] one all is = absurd (none-some one is)
named_first test name (first ∷ rest) one all is = elim (cases_Bool (bytes_eq name first.name)) [
  | inl this ↦
      let same : first ≡ one = same_Some first one (rw this at is) in
      subst (λ (some : Asked). (test some ≡ true) × (name ≡ some.name)) same
      ((and_parts (test first) _ all).0, (bytes_eq-Decides name first.name).0 this)
  | inr other ↦ named_first test name rest one (and_parts (test first) _ all).1 (rw other at is)
]

in_record_found : (name : List ℕ) (fields : List Asked)
    → find (λ (one : Asked). bytes_eq name one.name) (map in_record fields) ≡ option_map in_record (find (λ (one : Asked). bytes_eq name one.name) fields)
in_record_found name [] = refl
in_record_found name (one ∷ rest) = elim (cases_Bool (bytes_eq name one.name)) [
  | inl this ↦ rw this refl
  | inr other ↦ rw other (in_record_found name rest)
]

in_record_wide : (value : ℕ) (o : Option Asked) → if_wide_enough value (option_map in_record o) ≡ option_map in_record (if_wide_enough value o)
in_record_wide value None = refl
in_record_wide value (Some one) = elim (cases_Bool (nat_lt value (2 ^ one.len))) [
  | inl narrow ↦ rw narrow refl
  | inr wide ↦ rw wide refl
]

-- a name is an own field's, or it is looked for in the data
abbrev IsSought : Option Asked → Option Asked → Option Asked → Type 0
IsSought own numbers all = ((numbers ≡ None) × (all ≡ own)) ⊎ ((own ≡ None) × (all ≡ option_map in_record numbers))

sought : (name : List ℕ) (value : ℕ)
    → IsSought (asked_by name value service_record_asked) (asked_by name value service_data_asked) (asked_by name value (service_record_asked ++ map in_record service_data_asked))
unfolding asked_by
sought name value = by (find is_it service_record_asked) refl
  where
    is_it : Asked → Bool
    is_it one = bytes_eq name one.name

    split : find is_it (service_record_asked ++ map in_record service_data_asked) ≡ option_or (find is_it service_record_asked) (find is_it (map in_record service_data_asked))
    split = find-append is_it service_record_asked (map in_record service_data_asked)

    by : (o : Option Asked) → find is_it service_record_asked ≡ o
        → IsSought (if_wide_enough value (find is_it service_record_asked)) (if_wide_enough value (find is_it service_data_asked)) (if_wide_enough value (find is_it (service_record_asked ++ map in_record service_data_asked)))
    by (Some one) is =
        let first = named_first is_foreign name service_record_asked one refl is in
        let none = none_named name service_data_asked (subst (λ (some : List ℕ). list_all (λ (other : Asked). not (bytes_eq some other.name)) service_data_asked ≡ true) (sym first.1) first.0) in
        let whole : find is_it (service_record_asked ++ map in_record service_data_asked) ≡ find is_it service_record_asked =
        split ∙ ap (λ (o : Option Asked). option_or o (find is_it (map in_record service_data_asked))) is ∙ sym is in
        inl (ap (if_wide_enough value) none, ap (if_wide_enough value) whole)
    by None is =
        let whole : find is_it (service_record_asked ++ map in_record service_data_asked) ≡ option_map in_record (find is_it service_data_asked) =
        split ∙ ap (λ (o : Option Asked). option_or o (find is_it (map in_record service_data_asked))) is ∙ in_record_found name service_data_asked in
        inr (ap (if_wide_enough value) is, ap (if_wide_enough value) whole ∙ in_record_wide value (find is_it service_data_asked))

unfoldable is_within : Asked → Bool
is_within one = nat_le (one.off + one.len) 512

module _ (name : List ℕ) (value : ℕ) (old new : ServiceRecord) (fits : ServiceFits old) (asked : ServiceAskedBy name value old new) where
  abbrev PutsAll : Option Asked → Type 0
  PutsAll o = IfSome (option_map (holding value) o) (Puts 176 (service_record old) (service_record new))

  own_puts : (o : Option Asked) → asked_by name value service_record_asked ≡ o → new.service_data ≡ old.service_data → PutsAll o
  unfolding is_in stands
  own_puts None is numbers = tt
  own_puts (Some one) is numbers =
      puts_own old new value one fits (found (is_own old) name value service_record_asked one refl is)
      (asked.fields ∙ ap (λ (o : Option Asked). with_value value o (service_fields old)) is) asked.name numbers

  number_puts : (o : Option Asked) → asked_by name value service_data_asked ≡ o → service_fields new ≡ service_fields old
      → PutsAll (option_map in_record o)
  unfolding is_within
  number_puts None is fields = tt
  number_puts (Some one) is fields =
      let at_place = found is_within name value service_data_asked one refl is in
      puts_number old new value one fits fields asked.name
      (asked.«data» ∙ ap (λ (o : Option Asked). with_number value o old.service_data) is)
      (leb-true (one.off + one.len) 512 at_place.passes) at_place.narrow

  service_puts : PutsAll (asked_by name value (service_record_asked ++ map in_record service_data_asked))
  service_puts = elim (sought name value) [
    | inl own ↦
        subst PutsAll (sym own.1)
        (own_puts _ refl (asked.«data» ∙ ap (λ (o : Option Asked). with_number value o old.service_data) own.0))
    | inr numbers ↦
        subst PutsAll (sym numbers.1)
        (number_puts _ refl (asked.fields ∙ ap (λ (o : Option Asked). with_value value o (service_fields old)) numbers.0))
  ]

own_bits : (o : Option Asked) → option_or (bits_of o) None ≡ bits_of o
own_bits None = refl
own_bits (Some one) = refl

number_bits : (o : Option Asked) → bits_of o ≡ bits_of (option_map in_record o)
number_bits None = refl
number_bits (Some one) = refl

service_bits : (name : List ℕ) (value : ℕ)
    → option_or (bits_of (asked_by name value service_record_asked)) (bits_of (asked_by name value service_data_asked))
    ≡ bits_of (asked_by name value (service_record_asked ++ map in_record service_data_asked))
service_bits name value = elim (sought name value) [
  | inl own ↦
      ap (λ (o : Option Asked). option_or (bits_of (asked_by name value service_record_asked)) (bits_of o)) own.0
      ∙ own_bits _ ∙ ap bits_of (sym own.1)
  | inr numbers ↦
      ap (λ (o : Option Asked). option_or (bits_of o) (bits_of (asked_by name value service_data_asked))) numbers.0
      ∙ number_bits _ ∙ ap bits_of (sym numbers.1)
]

-- ---- a record of any kind
pub asks_number : (name : List ℕ) (value : ℕ) (old new : SaRecord) (reported : Option ℕ) → IfService old → RecordFits old
    → reported ≡ bits_asked name value old → AskedBy name value old new → (RecordFits old → RecordFits new)
    → AsksToo (numbered (attribute_of old) name value) old new reported
unfolding is_in stands node_record_bytes path_record_bytes mc_member_record_bytes service_record_bytes
asks_number name value (Node old) (Node new) reported service fits bits asked kept = record {
  bits = bits ∙ bits_kept value _;
  set = puts_found 112 node_record_asked name value (node_record old) (node_record new) refl refl fits asked;
  kind = refl;
  fits = kept fits;
}
asks_number name value (Path old) (Path new) reported service fits bits asked kept = record {
  bits = bits ∙ bits_kept value _;
  set = puts_found 64 path_record_asked name value (path_record old) (path_record new) refl refl fits asked;
  kind = refl;
  fits = kept fits;
}
asks_number name value (Group old) (Group new) reported service fits bits asked kept = record {
  bits = bits ∙ bits_kept value _;
  set = puts_found 56 mc_member_record_asked name value (mc_member_record old) (mc_member_record new) refl refl fits asked;
  kind = refl;
  fits = kept fits;
}
asks_number name value (Service old) (Service new) reported service fits bits asked kept = record {
  bits = bits ∙ service_bits name value ∙ bits_kept value _;
  set = service_puts name value old new service asked;
  kind = refl;
  fits = tt;
}
asks_number name value (Node old) (Path new) reported service fits bits asked kept = absurd asked
asks_number name value (Node old) (Group new) reported service fits bits asked kept = absurd asked
asks_number name value (Node old) (Service new) reported service fits bits asked kept = absurd asked
asks_number name value (Path old) (Node new) reported service fits bits asked kept = absurd asked
asks_number name value (Path old) (Group new) reported service fits bits asked kept = absurd asked
asks_number name value (Path old) (Service new) reported service fits bits asked kept = absurd asked
asks_number name value (Group old) (Node new) reported service fits bits asked kept = absurd asked
asks_number name value (Group old) (Path new) reported service fits bits asked kept = absurd asked
asks_number name value (Group old) (Service new) reported service fits bits asked kept = absurd asked
asks_number name value (Service old) (Node new) reported service fits bits asked kept = absurd asked
asks_number name value (Service old) (Path new) reported service fits bits asked kept = absurd asked
asks_number name value (Service old) (Group new) reported service fits bits asked kept = absurd asked

none_asked : (old new : SaRecord) (reported : Option ℕ) → RecordFits old → reported ≡ None → new ≡ old → AsksToo None old new reported
none_asked old new reported fits none same =
    subst (λ (some : SaRecord). AsksToo None old some reported) (sym same) (record { bits = none; set = tt; kind = refl; fits = fits })

-- its name
pub asks_name : (bytes : List ℕ) (old new : SaRecord) (reported : Option ℕ) (value : List ℕ) → IfService old → RecordFits old
    → number bytes < 2 ^ 512 → reported ≡ name_bits old → new ≡ named bytes old → name_bytes (written_in value) ≡ Ok bytes
    → AsksToo (service_named (attribute_of old) value) old new reported
unfolding is_in stands service_record_bytes
asks_name bytes (Service old) new reported value service fits narrow bits is encoded =
    subst (λ (some : SaRecord). AsksToo (service_named (attribute_of (Service old)) value) (Service old) some reported) (sym is)
    (subst (λ (given : Result (List ℕ) ScriptCause). AsksToo (name_of given) (Service old) (named bytes (Service old)) reported) (sym encoded)
    (record {
      bits = bits;
      set = puts 176 (service_record old) (service_record (record old { service_name = bytes })) (number bytes)
          (record { name = []; bits = 64; off = 384; len = 512 }) refl service.fields (record { passes = refl; narrow = narrow }) refl;
      kind = refl;
      fits = tt;
    }))
asks_name bytes (Node old) new reported value service fits narrow bits is encoded = none_asked (Node old) new reported fits bits is
asks_name bytes (Path old) new reported value service fits narrow bits is encoded = none_asked (Path old) new reported fits bits is
asks_name bytes (Group old) new reported value service fits narrow bits is encoded = none_asked (Group old) new reported fits bits is

-- ---- what the types of a service's fields say
pub bytes_narrow : (bytes : List ℕ) → AllBelowBase 256 bytes → length bytes ≡ 64 → number bytes < 2 ^ 512
bytes_narrow bytes below long = rw (ap (λ (n : ℕ). 2 ^ (8 * n)) long) at (number_below bytes below)

pub service_fits : (one : ServiceRecord) → Fits (service_fields one) → AllBelowBase 256 one.service_name → length one.service_name ≡ 64
    → AllBelowBase 256 one.service_data → length one.service_data ≡ 64 → ServiceFits one
service_fits one numbers name name_long bytes long = record {
  fields = (numbers.0, (numbers.1.0, (numbers.1.1.0, (numbers.1.1.1.0, (numbers.1.1.1.1.0, (bytes_narrow one.service_name name name_long, (bytes_narrow one.service_data bytes long, tt)))))));
  below = bytes;
  long = long;
}
