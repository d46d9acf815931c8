-- The definitions of a text that is read are those that cutting it gives.
use Rattle.std.proofs.Common.{◌≡◌, ℕ, suc, ◌+◌, take, drop, Bool, true, false, cond, ◌==◌, List, [], ◌∷◌, ◌++◌, Option, Some, None, refl, ap, ◌∙◌, arith}
use Rattle.std.specs.List.{after_first, before_first, list_any, position_or_len, slice_split, onto_first}
use Rattle.std.proofs.lemmas.Bool.{eqb-true}
use Rattle.std.proofs.lemmas.List.Splits.{slice_split-cons_no, slice_split-cons_yes}
use Rattle.partition_file.specs.declared.piece.Delimiter.{Delimiter}
use Rattle.partition_file.specs.declared.piece.Delimiter.TheVariants.{Equals, Comma, Colon, Semicolon}
use Rattle.partition_file.specs.Pieces.{delimiter_of}
use Rattle.partition_file.specs.Cut.{at_colon, at_comma, at_equals, at_semicolon}

-- ---- delimiters and their bytes
abbrev pub byte_of : Delimiter → ℕ
byte_of Equals = 61
byte_of Comma = 44
byte_of Colon = 58
byte_of Semicolon = 59

abbrev byte_in : Option Delimiter → ℕ
byte_in (Some delimiter) = byte_of delimiter
byte_in None = 0

pub byte_is : (byte : ℕ) (delimiter : Delimiter) → delimiter_of byte ≡ Some delimiter → byte ≡ byte_of delimiter
byte_is byte delimiter h = by (byte == 61) refl (byte == 44) refl (byte == 58) refl (byte == 59) refl h
  where
    by : (e : Bool) → (byte == 61) ≡ e → (c : Bool) → (byte == 44) ≡ c → (k : Bool) → (byte == 58) ≡ k → (s : Bool) → (byte == 59) ≡ s
        → cond e (Some Equals) (cond c (Some Comma) (cond k (Some Colon) (cond s (Some Semicolon) None))) ≡ Some delimiter → byte ≡ byte_of delimiter
    by true e c _ k _ s _ there = eqb-true byte 61 e ∙ ap byte_in there
    by false _ true c k _ s _ there = eqb-true byte 44 c ∙ ap byte_in there
    by false _ false _ true k s _ there = eqb-true byte 58 k ∙ ap byte_in there
    by false _ false _ false _ true s there = eqb-true byte 59 s ∙ ap byte_in there
    by false _ false _ false _ false _ there = absurd cc

-- no delimiter stands in these bytes
abbrev pub IsOpen : List ℕ → Type 0
IsOpen [] = Unit {0}
IsOpen (byte ∷ rest) = (delimiter_of byte ≡ None) × IsOpen rest

pub open_more : (raw : List ℕ) (byte : ℕ) → IsOpen raw → delimiter_of byte ≡ None → IsOpen (raw ++ byte ∷ [])
open_more [] byte h e = (e, tt)
open_more (first ∷ raw) byte h e = (h.0, open_more raw byte h.1 e)

pub record IsNone (byte : ℕ) : Type 0 where
  pub equals : at_equals byte ≡ false
  pub comma : at_comma byte ≡ false
  pub colon : at_colon byte ≡ false
  pub semicolon : at_semicolon byte ≡ false

is_none : (byte : ℕ) → delimiter_of byte ≡ None → IsNone byte
is_none byte h = by (byte == 61) refl (byte == 44) refl (byte == 58) refl (byte == 59) refl h
  where
    by : (e : Bool) → (byte == 61) ≡ e → (c : Bool) → (byte == 44) ≡ c → (k : Bool) → (byte == 58) ≡ k → (s : Bool) → (byte == 59) ≡ s
        → cond e (Some Equals) (cond c (Some Comma) (cond k (Some Colon) (cond s (Some Semicolon) None))) ≡ None → IsNone byte
    by true e c _ k _ s _ there = absurd cc
    by false _ true c k _ s _ there = absurd cc
    by false _ false _ true k s _ there = absurd cc
    by false _ false _ false _ true s there = absurd cc
    by false e false c false k false s there = record { equals = e; comma = c; colon = k; semicolon = s }

-- ---- cuts of a text that begins with bytes that miss the test
abbrev pub Misses : (ℕ → Bool) → List ℕ → Type 0
Misses test [] = Unit {0}
Misses test (byte ∷ rest) = (test byte ≡ false) × Misses test rest

pub no_equals : (raw : List ℕ) → IsOpen raw → Misses at_equals raw
no_equals [] h = tt
no_equals (byte ∷ raw) h = ((is_none byte h.0).equals, no_equals raw h.1)

pub no_comma : (raw : List ℕ) → IsOpen raw → Misses at_comma raw
no_comma [] h = tt
no_comma (byte ∷ raw) h = ((is_none byte h.0).comma, no_comma raw h.1)

pub no_colon : (raw : List ℕ) → IsOpen raw → Misses at_colon raw
no_colon [] h = tt
no_colon (byte ∷ raw) h = ((is_none byte h.0).colon, no_colon raw h.1)

pub no_semicolon : (raw : List ℕ) → IsOpen raw → Misses at_semicolon raw
no_semicolon [] h = tt
no_semicolon (byte ∷ raw) h = ((is_none byte h.0).semicolon, no_semicolon raw h.1)

pub record Parts (test : ℕ → Bool) (text : List ℕ) : Type 0 where
  pub first : List ℕ
  pub later : List (List ℕ)
  pub all : slice_split test text ≡ first ∷ later

pub parts_of : (test : ℕ → Bool) (text : List ℕ) → Parts test text
parts_of test [] = record { first = []; later = []; all = refl }
parts_of test (byte ∷ rest) = by (test byte) refl (parts_of test rest)
  where
    by : (b : Bool) → test byte ≡ b → Parts test rest → Parts test (byte ∷ rest)
    by true e parts = record { first = []; later = slice_split test rest; all = slice_split-cons_yes test byte rest e }
    by false e parts = record { first = byte ∷ parts.first; later = parts.later; all = slice_split-cons_no test byte rest e ∙ ap (onto_first byte) parts.all }

pub split_behind : (test : ℕ → Bool) (raw rest first : List ℕ) (later : List (List ℕ)) → Misses test raw → slice_split test rest ≡ first ∷ later
    → slice_split test (raw ++ rest) ≡ (raw ++ first) ∷ later
split_behind test [] rest first later m h = h
split_behind test (byte ∷ raw) rest first later m h =
    slice_split-cons_no test byte (raw ++ rest) m.0 ∙ ap (onto_first byte) (split_behind test raw rest first later m.1 h)

pub split_here : (test : ℕ → Bool) (raw rest : List ℕ) (byte : ℕ) → Misses test raw → test byte ≡ true → slice_split test (raw ++ byte ∷ rest) ≡ raw ∷ slice_split test rest
split_here test [] rest byte m e = slice_split-cons_yes test byte rest e
split_here test (first ∷ raw) rest byte m e = slice_split-cons_no test first (raw ++ byte ∷ rest) m.0 ∙ ap (onto_first first) (split_here test raw rest byte m.1 e)

pub split_nowhere : (test : ℕ → Bool) (raw : List ℕ) → Misses test raw → slice_split test raw ≡ raw ∷ []
split_nowhere test [] m = refl
split_nowhere test (byte ∷ raw) m = slice_split-cons_no test byte raw m.0 ∙ ap (onto_first byte) (split_nowhere test raw m.1)

one_more : (n : ℕ) → 1 + n ≡ suc n
one_more n = omega arith

two_more : (n : ℕ) → 1 + n + 1 ≡ suc (n + 1)
two_more n = omega arith

pub before_behind : (test : ℕ → Bool) (raw rest : List ℕ) → Misses test raw → before_first test (raw ++ rest) ≡ raw ++ before_first test rest
before_behind test [] rest m = refl
before_behind test (byte ∷ raw) rest m =
    let n = position_or_len test (raw ++ rest) in
    rw m.0 (ap (λ (k : ℕ). take k (byte ∷ (raw ++ rest))) (one_more n) ∙ ap (λ (front : List ℕ). byte ∷ front) (before_behind test raw rest m.1))

pub after_behind : (test : ℕ → Bool) (raw rest : List ℕ) → Misses test raw → after_first test (raw ++ rest) ≡ after_first test rest
after_behind test [] rest m = refl
after_behind test (byte ∷ raw) rest m =
    let n = position_or_len test (raw ++ rest) in
    rw m.0 (ap (λ (k : ℕ). drop k (byte ∷ (raw ++ rest))) (two_more n) ∙ after_behind test raw rest m.1)

pub any_behind : (test : ℕ → Bool) (raw rest : List ℕ) → Misses test raw → list_any test (raw ++ rest) ≡ list_any test rest
any_behind test [] rest m = refl
any_behind test (byte ∷ raw) rest m = rw m.0 (any_behind test raw rest m.1)

-- the same, through one byte more that misses the test
pub before_through : (test : ℕ → Bool) (raw rest : List ℕ) (byte : ℕ) → Misses test raw → test byte ≡ false
    → before_first test (raw ++ byte ∷ rest) ≡ raw ++ byte ∷ before_first test rest
before_through test raw rest byte m e =
    before_behind test raw (byte ∷ rest) m ∙ ap (λ (behind : List ℕ). raw ++ behind) (before_behind test (byte ∷ []) rest (e, tt))

pub after_through : (test : ℕ → Bool) (raw rest : List ℕ) (byte : ℕ) → Misses test raw → test byte ≡ false → after_first test (raw ++ byte ∷ rest) ≡ after_first test rest
after_through test raw rest byte m e = after_behind test raw (byte ∷ rest) m ∙ after_behind test (byte ∷ []) rest (e, tt)
