-- Lines of a text: where the first ends, and how many there are.
use Rattle.std.proofs.Common.{◌≡◌, ℕ, suc, ◌+◌, ◌<◌, ◌≤◌, Bool, true, false, List, [], ◌∷◌, length, take, drop, refl, arith}
use Rattle.std.specs.List.{position_or_len, onto_first}
use Rattle.text_words.specs.Lines.{is_line_end, lines}

longer_first : (byte n : ℕ) (rest : List ℕ) → lines rest ≡ take (n + 1) rest ∷ lines (drop (n + 1) rest)
    → onto_first byte (lines rest) ≡ take (1 + n + 1) (byte ∷ rest) ∷ lines (drop (1 + n + 1) (byte ∷ rest))
longer_first byte n rest h = let k : 1 + n + 1 ≡ suc (n + 1) = omega arith in rw (k, h) refl

-- the first line ends with the first LF
pub lines-first : (text : List ℕ) → position_or_len is_line_end text < length text
    → lines text ≡ take (position_or_len is_line_end text + 1) text ∷ lines (drop (position_or_len is_line_end text + 1) text)
lines-first [] h = absurd (omega arith)
lines-first (byte ∷ rest) h = by (is_line_end byte) refl (lines-first rest)
  where
    by : (b : Bool) → is_line_end byte ≡ b
        → (position_or_len is_line_end rest < length rest → lines rest ≡ take (position_or_len is_line_end rest + 1) rest ∷ lines (drop (position_or_len is_line_end rest + 1) rest))
        → lines (byte ∷ rest) ≡ take (position_or_len is_line_end (byte ∷ rest) + 1) (byte ∷ rest) ∷ lines (drop (position_or_len is_line_end (byte ∷ rest) + 1) (byte ∷ rest))
    by true e later = rw e refl
    by false e later =
        let shorter : position_or_len is_line_end rest < length rest = (let reported = rw e at h in omega (arith, reported)) in
        rw e (longer_first byte (position_or_len is_line_end rest) rest (later shorter))

one_longer : (byte : ℕ) (rest : List ℕ) → lines rest ≡ rest ∷ [] → onto_first byte (lines rest) ≡ (byte ∷ rest) ∷ []
one_longer byte rest h = rw h refl

-- a text without LF is one line
last_line : (rest : List ℕ) (byte : ℕ) → length (byte ∷ rest) ≤ position_or_len is_line_end (byte ∷ rest) → lines (byte ∷ rest) ≡ (byte ∷ rest) ∷ []
last_line [] byte h = by (is_line_end byte) refl
  where
    by : (b : Bool) → is_line_end byte ≡ b → lines (byte ∷ []) ≡ (byte ∷ []) ∷ []
    by true e = rw e refl
    by false e = rw e refl
last_line (next ∷ rest) byte h = by (is_line_end byte) refl (last_line rest next)
  where
    by : (b : Bool) → is_line_end byte ≡ b
        → (length (next ∷ rest) ≤ position_or_len is_line_end (next ∷ rest) → lines (next ∷ rest) ≡ (next ∷ rest) ∷ [])
        → lines (byte ∷ next ∷ rest) ≡ (byte ∷ next ∷ rest) ∷ []
    by true e later = absurd (let none = rw e at h in omega (arith, none))
    by false e later =
        let shorter : length (next ∷ rest) ≤ position_or_len is_line_end (next ∷ rest) = (let reported = rw e at h in omega (arith, reported)) in
        rw e (one_longer byte (next ∷ rest) (later shorter))

pub lines-last : (text : List ℕ) → 0 < length text → length text ≤ position_or_len is_line_end text → lines text ≡ text ∷ []
lines-last [] some h = absurd (omega arith)
lines-last (byte ∷ rest) some h = last_line rest byte h

longer_onto : (byte : ℕ) (parts : List (List ℕ)) (n : ℕ) → length parts ≤ n → length (onto_first byte parts) ≤ suc n
longer_onto byte [] n h = omega arith
longer_onto byte (part ∷ parts) n h = omega arith

-- a text has at most one line a byte
pub length-lines : (text : List ℕ) → length (lines text) ≤ length text
length-lines [] = omega arith
length-lines (byte ∷ rest) = by (is_line_end byte) refl (length-lines rest)
  where
    by : (b : Bool) → is_line_end byte ≡ b → length (lines rest) ≤ length rest → length (lines (byte ∷ rest)) ≤ length (byte ∷ rest)
    by true e h = rw e (omega arith)
    by false e h = rw e (longer_onto byte (lines rest) (length rest) h)
