-- Numbers that are printed are read back.
use Rattle.std.proofs.Common.{ℕ, zero, suc, ◌≡◌, ◌+◌, ◌-◌, ◌*◌, ◌/◌, ◌%◌, ◌^◌, ◌<◌, ◌==◌, ◌&&◌, ◌∙◌, nat_eq, nat_lt, ap, refl, sym, Bool, true, false, not, if◌then◌else◌, List, [], ◌∷◌, ◌++◌, codes, decimal, drop, length, slice_index, Some, None, arith}
use Rattle.std.specs.Char.{digit_value, is_digit}
use Rattle.std.specs.Fmt.{digit_glyph, digits, digits_onto}
use Rattle.std.specs.Int.{to_be_bytes, w16, w64}
use Rattle.std.specs.List.{list_all, starts_with}
use Rattle.std.specs.Str.Parse.{digits_value, digits_value_after}
use Rattle.std.proofs.lemmas.Bool.{and_from, and_parts, eqb-true, false≢true, lt-ltb, ltb-false, ltb-true}
use Rattle.std.proofs.lemmas.Bool.Decides.{nat_tests}
use Rattle.std.proofs.lemmas.List.{length-append}
use Rattle.step_results.proofs.ListLemmas.{all_joined, list_all_weaker}
use Rattle.std.proofs.lemmas.Fmt.{decimal_is_IsNumeral}
use Rattle.std.proofs.lemmas.Nat.{from_be_bytes-to_be_bytes_2, from_be_bytes-to_be_bytes_8}
use Rattle.hex.specs.Hex.{encode_lower, encode_with, lower_digits}
use Rattle.text_words.specs.Number.{digits_in, if_under, number_in, u16_in}
use Rattle.text_words.specs.Parts.{guid_text, hex_text}
use Rattle.fabric_tables.specs.Digits.{digit_worth, hex_digit, short_hex_text, three_digits}

-- ---- digits of a radix
pub digits_read : (radix : ℕ) (ds : List ℕ) (v : ℕ) → 0 < length ds → list_all (λ byte. is_digit byte radix) ds ≡ true → digits_value radix ds ≡ v → v < 2 ^ 128
    → digits_in radix ds ≡ Some v
digits_read radix ds v some all is small =
    let within : nat_lt (digits_value radix ds) (2 ^ 128) ≡ true = ap (λ (n : ℕ). nat_lt n (2 ^ 128)) is ∙ lt-ltb v (2 ^ 128) small in
    let passes = and_from (nat_lt 0 (length ds)) _ (lt-ltb 0 (length ds) some) (and_from (list_all (λ byte. is_digit byte radix) ds) _ all within) in
    ap (λ (b : Bool). if b then Some (digits_value radix ds) else None) passes ∙ ap (λ (n : ℕ). Some n) is

digit_of : (radix byte d : ℕ) → digit_value byte ≡ d → d < radix → is_digit byte radix ≡ true
digit_of radix byte d is low = ap (λ (n : ℕ). nat_lt n radix) is ∙ lt-ltb d radix low

-- ---- bytes in hexadecimal digits
low_digit : (d : ℕ) → d < 16 → digit_value (slice_index lower_digits d) ≡ d
low_digit zero low = refl
low_digit (suc zero) low = refl
low_digit (suc (suc zero)) low = refl
low_digit (suc (suc (suc zero))) low = refl
low_digit (suc (suc (suc (suc zero)))) low = refl
low_digit (suc (suc (suc (suc (suc zero))))) low = refl
low_digit (suc (suc (suc (suc (suc (suc zero)))))) low = refl
low_digit (suc (suc (suc (suc (suc (suc (suc zero))))))) low = refl
low_digit (suc (suc (suc (suc (suc (suc (suc (suc zero)))))))) low = refl
low_digit (suc (suc (suc (suc (suc (suc (suc (suc (suc zero))))))))) low = refl
low_digit (suc (suc (suc (suc (suc (suc (suc (suc (suc (suc zero)))))))))) low = refl
low_digit (suc (suc (suc (suc (suc (suc (suc (suc (suc (suc (suc zero))))))))))) low = refl
low_digit (suc (suc (suc (suc (suc (suc (suc (suc (suc (suc (suc (suc zero)))))))))))) low = refl
low_digit (suc (suc (suc (suc (suc (suc (suc (suc (suc (suc (suc (suc (suc zero))))))))))))) low = refl
low_digit (suc (suc (suc (suc (suc (suc (suc (suc (suc (suc (suc (suc (suc (suc zero)))))))))))))) low = refl
low_digit (suc (suc (suc (suc (suc (suc (suc (suc (suc (suc (suc (suc (suc (suc (suc zero))))))))))))))) low = refl
low_digit (suc (suc (suc (suc (suc (suc (suc (suc (suc (suc (suc (suc (suc (suc (suc (suc d)))))))))))))))) low = absurd (omega (arith, low))

abbrev AreBytes : List ℕ → Type 0
AreBytes [] = Unit {0}
AreBytes (byte ∷ bytes) = (byte < 256) × AreBytes bytes

abbrev value_after : ℕ → List ℕ → ℕ
value_after v [] = v
value_after v (byte ∷ bytes) = value_after (v * 256 + byte) bytes

hex_value : (v : ℕ) (bytes : List ℕ) → AreBytes bytes → digits_value_after 16 v (encode_lower bytes) ≡ value_after v bytes
unfolding encode_with
hex_value v [] are = refl
hex_value v (byte ∷ bytes) are =
    let high = low_digit (byte / 16) (omega (arith, are.0)) in
    let low = low_digit (byte % 16) (omega arith) in
    let first : (v * 16 + byte / 16) * 16 + byte % 16 ≡ v * 256 + byte = omega arith in
    ap (λ (n : ℕ). digits_value_after 16 ((v * 16 + n) * 16 + digit_value (slice_index lower_digits (byte % 16))) (encode_lower bytes)) high
    ∙ ap (λ (n : ℕ). digits_value_after 16 ((v * 16 + byte / 16) * 16 + n) (encode_lower bytes)) low
    ∙ ap (λ (n : ℕ). digits_value_after 16 n (encode_lower bytes)) first ∙ hex_value (v * 256 + byte) bytes are.1

hex_digits : (bytes : List ℕ) → AreBytes bytes → list_all (λ byte. is_digit byte 16) (encode_lower bytes) ≡ true
unfolding encode_with
hex_digits [] are = refl
hex_digits (byte ∷ bytes) are =
    let high : byte / 16 < 16 = omega (arith, are.0) in
    let low : byte % 16 < 16 = omega arith in
    and_from (is_digit (slice_index lower_digits (byte / 16)) 16) _
    (digit_of 16 (slice_index lower_digits (byte / 16)) (byte / 16) (low_digit (byte / 16) high) high)
    (and_from (is_digit (slice_index lower_digits (byte % 16)) 16) _
    (digit_of 16 (slice_index lower_digits (byte % 16)) (byte % 16) (low_digit (byte % 16) low) low)
    (hex_digits bytes are.1))

lid_bytes : (n : ℕ) → AreBytes (to_be_bytes w16 n)
lid_bytes n = (omega arith, (omega arith, tt))

pub lid_digits : (n : ℕ) → list_all (λ byte. is_digit byte 16) (encode_lower (to_be_bytes w16 n)) ≡ true
lid_digits n = hex_digits (to_be_bytes w16 n) (lid_bytes n)

guid_bytes : (n : ℕ) → AreBytes (to_be_bytes w64 n)
guid_bytes n = (omega arith, (omega arith, (omega arith, (omega arith, (omega arith, (omega arith, (omega arith, (omega arith, tt))))))))

pub guid_digits : (n : ℕ) → list_all (λ byte. is_digit byte 16) (encode_lower (to_be_bytes w64 n)) ≡ true
guid_digits n = hex_digits (to_be_bytes w64 n) (guid_bytes n)

pub lid_read : (n : ℕ) → n < 65536 → u16_in (hex_text (to_be_bytes w16 n)) ≡ Some n
unfolding encode_with
lid_read n small =
    let back = from_be_bytes-to_be_bytes_2 n small in
    let value : digits_value 16 (encode_lower (to_be_bytes w16 n)) ≡ n = hex_value 0 (to_be_bytes w16 n) (lid_bytes n) ∙ omega (arith, back) in
    ap (if_under (2 ^ 16)) (digits_read 16 (encode_lower (to_be_bytes w16 n)) n (omega arith) (lid_digits n) value (omega (arith, small)))
    ∙ ap (λ (b : Bool). if b then Some n else None) (lt-ltb n (2 ^ 16) (omega (arith, small)))

pub guid_read : (n : ℕ) → n < 2 ^ 64 → if_under (2 ^ 64) (number_in (guid_text n)) ≡ Some n
unfolding encode_with
guid_read n small =
    let back = from_be_bytes-to_be_bytes_8 n small in
    let value : digits_value 16 (encode_lower (to_be_bytes w64 n)) ≡ n = hex_value 0 (to_be_bytes w64 n) (guid_bytes n) ∙ omega (arith, back) in
    ap (if_under (2 ^ 64)) (digits_read 16 (encode_lower (to_be_bytes w64 n)) n (omega arith) (guid_digits n) value (omega (arith, small)))
    ∙ ap (λ (b : Bool). if b then Some n else None) (lt-ltb n (2 ^ 64) small)

-- ---- decimal digits
tens_digit : (d : ℕ) → d < 10 → digit_value (48 + d) ≡ d
tens_digit d low =
    let past : nat_lt (48 + d) 48 ≡ false = grind (arith, nat_tests, low) in
    let within : nat_lt (48 + d) 58 ≡ true = grind (arith, nat_tests, low) in
    let back : 48 + d - 48 ≡ d = omega arith in
    rw (past, within) back

last_digit : (n : ℕ) (behind : List ℕ) → list_all (λ byte. is_digit byte 10) behind ≡ true
    → list_all (λ byte. is_digit byte 10) (digit_glyph false (n % 10) ∷ behind) ≡ true
last_digit n behind all =
    let low : n % 10 < 10 = omega arith in
    let glyph : digit_glyph false (n % 10) ≡ 48 + n % 10 = ap (λ (b : Bool). if b then 48 + n % 10 else 87 + n % 10) (lt-ltb (n % 10) 10 low) in
    and_from (is_digit (digit_glyph false (n % 10)) 10) _ (digit_of 10 (digit_glyph false (n % 10)) (n % 10)
    (ap digit_value glyph ∙ tens_digit (n % 10) low) low) all

all_onto : (count n : ℕ) (behind : List ℕ) → list_all (λ byte. is_digit byte 10) behind ≡ true
    → list_all (λ byte. is_digit byte 10) (digits_onto count 10 false n behind) ≡ true
all_onto zero n behind all = all
all_onto (suc count) n behind all =
    by (n / 10 == 0) (last_digit n behind all) (all_onto count (n / 10) (digit_glyph false (n % 10) ∷ behind) (last_digit n behind all))
  where
    by : (b : Bool) → list_all (λ byte. is_digit byte 10) (digit_glyph false (n % 10) ∷ behind) ≡ true
        → list_all (λ byte. is_digit byte 10) (digits_onto count 10 false (n / 10) (digit_glyph false (n % 10) ∷ behind)) ≡ true
        → list_all (λ byte. is_digit byte 10)
        (if b then digit_glyph false (n % 10) ∷ behind else digits_onto count 10 false (n / 10) (digit_glyph false (n % 10) ∷ behind)) ≡ true
    by true one more = one
    by false one more = more

pub decimal_digits : (n : ℕ) → list_all (λ byte. is_digit byte 10) (decimal n) ≡ true
unfolding digits
decimal_digits n = all_onto 64 n [] refl

-- digits are no `0x`
pub and_false : (b : Bool) → b && false ≡ false
and_false true = refl
and_false false = refl

pub no_x : (two : ℕ) → is_digit two 10 ≡ true → nat_eq 120 two ≡ false
no_x two digit = by (nat_eq 120 two) refl
  where
    by : (b : Bool) → nat_eq 120 two ≡ b → nat_eq 120 two ≡ false
    by false other = other
    by true same = let is : two ≡ 120 = grind (arith, nat_tests, same) in absurd (false≢true (ap (λ (n : ℕ). is_digit n 10) (sym is) ∙ digit))

pub no_hex : (ds : List ℕ) → list_all (λ byte. is_digit byte 10) ds ≡ true → starts_with nat_eq ds (codes "0x") ≡ false
no_hex [] all = refl
no_hex (one ∷ []) all = and_false (nat_eq 48 one)
no_hex (one ∷ two ∷ ds) all =
    let other = no_x two (and_parts (is_digit two 10) _ (and_parts (is_digit one 10) _ all).1).0 in
    ap (λ (b : Bool). nat_eq 48 one && (b && true)) other ∙ and_false (nat_eq 48 one)

pub decimal_read : (n : ℕ) → n < 2 ^ 64 → number_in (decimal n) ≡ Some n
decimal_read n small =
    let numeral = decimal_is_IsNumeral n small in
    ap (λ (b : Bool). if b then digits_in 16 (drop 2 (decimal n)) else digits_in 10 (decimal n)) (no_hex (decimal n) (decimal_digits n))
    ∙ digits_read 10 (decimal n) n numeral.0.0 (decimal_digits n) numeral.1 (omega (arith, small))

pub three_all : (n : ℕ) → n < 256 → list_all (λ byte. is_digit byte 10) (three_digits n) ≡ true
three_all n small =
    and_from (is_digit (48 + n / 100) 10) _ (digit_of 10 (48 + n / 100) (n / 100) (tens_digit (n / 100) (omega (arith, small))) (omega (arith, small)))
    (and_from (is_digit (48 + n / 10 % 10) 10) _ (digit_of 10 (48 + n / 10 % 10) (n / 10 % 10) (tens_digit (n / 10 % 10) (omega arith)) (omega arith))
    (and_from (is_digit (48 + n % 10) 10) true (digit_of 10 (48 + n % 10) (n % 10) (tens_digit (n % 10) (omega arith)) (omega arith)) refl))

pub three_read : (n : ℕ) → n < 256 → if_under (2 ^ 8) (number_in (three_digits n)) ≡ Some n
three_read n small =
    let first = tens_digit (n / 100) (omega (arith, small)) in
    let second = tens_digit (n / 10 % 10) (omega arith) in
    let third = tens_digit (n % 10) (omega arith) in
    let all = three_all n small in
    let value : digits_value 10 (three_digits n) ≡ n = omega (arith, first, second, third) in
    ap (λ (b : Bool). if_under (2 ^ 8) (if b then digits_in 16 (drop 2 (three_digits n)) else digits_in 10 (three_digits n))) (no_hex (three_digits n) all)
    ∙ ap (if_under (2 ^ 8)) (digits_read 10 (three_digits n) n (omega arith) all value (omega (arith, small)))
    ∙ ap (λ (b : Bool). if b then Some n else None) (lt-ltb n (2 ^ 8) (omega (arith, small)))

-- ---- hexadecimal digits without zeros before them
short_digit : (d : ℕ) → d < 16 → digit_value (hex_digit d) ≡ d
short_digit d low = by (nat_lt d 10) refl
  where
    by : (b : Bool) → nat_lt d 10 ≡ b → digit_value (if b then 48 + d else 87 + d) ≡ d
    by true small = tens_digit d (ltb-true d 10 small)
    by false big =
        let high = ltb-false d 10 big in
        let past : nat_lt (87 + d) 48 ≡ false = grind (arith, nat_tests, high) in
        let past_tens : nat_lt (87 + d) 58 ≡ false = grind (arith, nat_tests, high) in
        let past_mid : nat_lt (87 + d) 65 ≡ false = grind (arith, nat_tests, high) in
        let past_upper : nat_lt (87 + d) 91 ≡ false = grind (arith, nat_tests, high) in
        let past_gap : nat_lt (87 + d) 97 ≡ false = grind (arith, nat_tests, high) in
        let within : nat_lt (87 + d) 123 ≡ true = grind (arith, nat_tests, low) in
        let back : 87 + d - 87 ≡ d = omega arith in
        rw (past, past_tens, past_mid, past_upper, past_gap, within) back

-- some digits that turn one value into another
record Leads (ds : List ℕ) (before after : ℕ) : Type 0 where
  all : list_all (λ byte. is_digit byte 16) ds ≡ true
  value : digits_value_after 16 before ds ≡ after

value_joined : (v : ℕ) (xs ys : List ℕ) → digits_value_after 16 v (xs ++ ys) ≡ digits_value_after 16 (digits_value_after 16 v xs) ys
value_joined v [] ys = refl
value_joined v (x ∷ xs) ys = value_joined (v * 16 + digit_value x) xs ys

joined : (a b : List ℕ) (x y z : ℕ) → Leads a x y → Leads b y z → Leads (a ++ b) x z
joined a b x y z one other = record {
  all = all_joined (λ byte. is_digit byte 16) a b one.all other.all;
  value = value_joined x a b ∙ ap (λ (v : ℕ). digits_value_after 16 v b) one.value ∙ other.value;
}

last_leads : (d before after : ℕ) → d < 16 → before * 16 + d ≡ after → Leads (hex_digit d ∷ []) before after
last_leads d before after low more = record {
  all = and_from (is_digit (hex_digit d) 16) true (digit_of 16 (hex_digit d) d (short_digit d low) low) refl;
  value = ap (λ (n : ℕ). before * 16 + n) (short_digit d low) ∙ more;
}

worth_leads : (worth n before after : ℕ) → n / worth % 16 < 16 → (n < worth → before ≡ after) → before * 16 + n / worth % 16 ≡ after
    → Leads (digit_worth worth n) before after
worth_leads worth n before after low none more = by (nat_lt n worth) refl
  where
    by : (b : Bool) → nat_lt n worth ≡ b → Leads (if b then [] else hex_digit (n / worth % 16) ∷ []) before after
    by true less = record { all = refl; value = none (ltb-true n worth less) }
    by false other = last_leads (n / worth % 16) before after low more

abbrev short_text : ℕ → List ℕ
short_text n = digit_worth 4096 n ++ digit_worth 256 n ++ digit_worth 16 n ++ hex_digit (n % 16) ∷ []

short_leads : (n : ℕ) → n < 65536 → Leads (short_text n) 0 n
short_leads n small =
    joined (digit_worth 4096 n ++ digit_worth 256 n ++ digit_worth 16 n) (hex_digit (n % 16) ∷ []) 0 (n / 16) n
    (joined (digit_worth 4096 n ++ digit_worth 256 n) (digit_worth 16 n) 0 (n / 256) (n / 16)
    (joined (digit_worth 4096 n) (digit_worth 256 n) 0 (n / 4096) (n / 256)
    (worth_leads 4096 n 0 (n / 4096) (omega arith) (λ less. omega (arith, less)) (omega (arith, small)))
    (worth_leads 256 n (n / 4096) (n / 256) (omega arith) (λ less. omega (arith, less)) (omega arith)))
    (worth_leads 16 n (n / 256) (n / 16) (omega arith) (λ less. omega (arith, less)) (omega arith)))
    (last_leads (n % 16) (n / 16) n (omega arith) (omega arith))

-- behind `0x`
pub record IsShort (n : ℕ) : Type 0 where
  pub digits : List ℕ
  pub text : short_hex_text n ≡ codes "0x" ++ digits
  pub all : list_all (λ byte. is_digit byte 16) digits ≡ true
  pub read : u16_in (short_hex_text n) ≡ Some n

pub short_read : (n : ℕ) → n < 65536 → IsShort n
unfolding short_hex_text
short_read n small =
    let leads = short_leads n small in
    let long = length-append (digit_worth 4096 n ++ digit_worth 256 n ++ digit_worth 16 n) (hex_digit (n % 16) ∷ []) in
    record {
      digits = short_text n;
      text = refl;
      all = leads.all;
      read = ap (if_under (2 ^ 16)) (digits_read 16 (short_text n) n (omega (arith, long)) leads.all leads.value (omega (arith, small)))
          ∙ ap (λ (b : Bool). if b then Some n else None) (lt-ltb n (2 ^ 16) (omega (arith, small)));
    }

-- ---- a byte that is no digit stands in no number
pub apart : (radix other : ℕ) → is_digit other radix ≡ false → (ds : List ℕ) → list_all (λ byte. is_digit byte radix) ds ≡ true
    → list_all (λ byte. not (byte == other)) ds ≡ true
apart radix other none ds all = list_all_weaker (λ byte. is_digit byte radix) (λ byte. not (byte == other)) each ds all
  where
    each : (byte : ℕ) → is_digit byte radix ≡ true → not (byte == other) ≡ true
    each byte digit = by (byte == other) refl
      where
        by : (b : Bool) → (byte == other) ≡ b → not b ≡ true
        by false differ = refl
        by true same = absurd (false≢true (sym none ∙ ap (λ (n : ℕ). is_digit n radix) (sym (eqb-true byte other same)) ∙ digit))
