-- The words of a text: where the first of them begins, where it ends, and which are left behind it.
use Rattle.std.proofs.Common.{◌≡◌, ℕ, suc, ◌+◌, ◌<◌, ◌==◌, add-one, drop-cons, Bool, true, false, not, List, [], ◌∷◌, length, take, drop, filter}
use Rattle.std.proofs.Common.{get_or, position, Some, None, refl, sym, ap, ◌∙◌, arith}
use Rattle.std.specs.List.{slice_split, position_or_len}
use Rattle.std.proofs.lemmas.Bool.Decides.{nat_tests}
use Rattle.std.proofs.lemmas.List.{drop_all}
use Rattle.std.proofs.lemmas.List.Quantifiers.{position-Some}
use Rattle.text_words.specs.Lines.{words_between}
use Rattle.step_results.proofs.PlaceLemmas.{place-found, place-none}

one_more : (n byte : ℕ) (rest : List ℕ) → drop (1 + n) (byte ∷ rest) ≡ drop n rest
one_more n byte rest = let k : 1 + n ≡ suc n = omega arith in rw k refl

-- white bytes at the beginning of a text are between words
skips : (p : ℕ → Bool) (text : List ℕ) → words_between p text ≡ words_between p (drop (position_or_len (λ byte. not (p byte)) text) text)
skips p [] = refl
skips p (byte ∷ rest) = by (p byte) refl (skips p rest)
  where
    by : (b : Bool) → p byte ≡ b → words_between p rest ≡ words_between p (drop (position_or_len (λ x. not (p x)) rest) rest)
        → words_between p (byte ∷ rest) ≡ words_between p (drop (position_or_len (λ x. not (p x)) (byte ∷ rest)) (byte ∷ rest))
    by true e later = rw e (later ∙ ap (words_between p) (sym (one_more (position_or_len (λ x. not (p x)) rest) byte rest)))
    by false e later = let none : position_or_len (λ x. not (p x)) (byte ∷ rest) ≡ 0 = rw e refl in rw none refl

-- a text of white bytes has no words
pub no_words : (p : ℕ → Bool) (text : List ℕ) → position (λ byte. not (p byte)) text ≡ None → words_between p text ≡ []
no_words p text h =
    skips p text ∙ rw (← place-none (λ byte. not (p byte)) text h, drop_all (length text) text (omega arith)) refl

-- a text in parts: the first ends at the first white byte, and the words of the others are those from there on
pub record FirstPart (p : ℕ → Bool) (text : List ℕ) : Type 0 where
  pub later : List (List ℕ)
  pub parts : slice_split p text ≡ take (position_or_len p text) text ∷ later
  pub words : filter (λ word. not (length word == 0)) later ≡ words_between p (drop (position_or_len p text) text)

is_white : (p : ℕ → Bool) (byte : ℕ) (rest : List ℕ) → p byte ≡ true → words_between p (byte ∷ rest) ≡ words_between p rest
is_white p byte rest e = rw e refl

goes_on : (p : ℕ → Bool) (byte : ℕ) (rest : List ℕ) → p byte ≡ false → position_or_len p (byte ∷ rest) ≡ suc (position_or_len p rest)
goes_on p byte rest e = rw e (omega arith)

first_part : (p : ℕ → Bool) (text : List ℕ) → FirstPart p text
first_part p [] = record { later = []; parts = refl; words = refl }
first_part p (byte ∷ rest) = by (p byte) refl (first_part p rest)
  where
    by : (b : Bool) → p byte ≡ b → FirstPart p rest → FirstPart p (byte ∷ rest)
    by true e h =
        let none : position_or_len p (byte ∷ rest) ≡ 0 = rw e refl in
        record { later = slice_split p rest; parts = rw e refl; words = rw none (sym (is_white p byte rest e)) }
    by false e h = record {
      later = h.later;
      parts = rw (goes_on p byte rest e, e, h.parts) refl;
      words = rw (goes_on p byte rest e) h.words;
    }

some_bytes : (byte : ℕ) (bytes : List ℕ) → (length (byte ∷ bytes) == 0) ≡ false
some_bytes byte bytes = grind (arith, nat_tests)

begins : (p : ℕ → Bool) (byte : ℕ) (rest : List ℕ) → p byte ≡ false
    → words_between p (byte ∷ rest) ≡ take (position_or_len p (byte ∷ rest)) (byte ∷ rest) ∷ words_between p (drop (position_or_len p (byte ∷ rest)) (byte ∷ rest))
begins p byte rest e =
    let h = first_part p rest in
    rw (goes_on p byte rest e, e, h.parts, some_bytes byte (take (position_or_len p rest) rest), h.words) refl

not_true : (b : Bool) → not b ≡ true → b ≡ false
not_true true h = sym h
not_true false h = refl

-- the first word begins at the first byte that is not white, and ends before the next white one
pub first_word : (p : ℕ → Bool) (text : List ℕ) (start : ℕ) → position (λ byte. not (p byte)) text ≡ Some start
    → words_between p text ≡ take (position_or_len p (drop start text)) (drop start text) ∷ words_between p (drop (position_or_len p (drop start text)) (drop start text))
first_word p text start h =
    let found = position-Some (λ byte. not (p byte)) text start 0 h in
    let within : start < length text = found.0 in
    let cut : drop start text ≡ get_or text start 0 ∷ drop (start + 1) text = rw (add-one, drop-cons text start 0) refl in
    skips p text ∙ rw (← place-found (λ byte. not (p byte)) text start h, cut) (begins p (get_or text start 0) (drop (start + 1) text) (not_true _ found.1))
