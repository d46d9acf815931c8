-- Bytes up to an LF, and the bytes that wait behind them.
use Rattle.std.proofs.Common.{ℕ, ◌≡◌, ◌∙◌, ◌==◌, Bool, true, false, ap, refl, sym, append_assoc, List, [], ◌∷◌, ◌++◌, Option, Some, None}
use Rattle.std.specs.Io.BufRead.{drop_through, take_through}
use Rattle.std.specs.Io.KnownBytes.{Consumes, IsAtEnd, Keeps, prepend_known}
use Rattle.std.specs.List.{list_any}

abbrev pub has_end : List ℕ → Bool
has_end bytes = list_any (λ byte. byte == 10) bytes

-- ---- up to the first LF, and what comes behind
pub through_all : (bytes : List ℕ) → take_through 10 bytes ++ drop_through 10 bytes ≡ bytes
through_all [] = refl
through_all (byte ∷ bytes) = by (through_all bytes) (byte == 10) refl
  where
    by : take_through 10 bytes ++ drop_through 10 bytes ≡ bytes → (test : Bool) → (byte == 10) ≡ test
        → take_through 10 (byte ∷ bytes) ++ drop_through 10 (byte ∷ bytes) ≡ byte ∷ bytes
    by next true is = rw is refl
    by next false is = rw is (ap (λ rest. byte ∷ rest) next)

pub through_once : (bytes : List ℕ) → take_through 10 (take_through 10 bytes) ≡ take_through 10 bytes
through_once [] = refl
through_once (byte ∷ bytes) = by (through_once bytes) (byte == 10) refl
  where
    by : take_through 10 (take_through 10 bytes) ≡ take_through 10 bytes → (test : Bool) → (byte == 10) ≡ test
        → take_through 10 (take_through 10 (byte ∷ bytes)) ≡ take_through 10 (byte ∷ bytes)
    by next true is = rw is (rw is refl)
    by next false is = rw is (rw is (ap (λ rest. byte ∷ rest) next))

pub through_has : (bytes : List ℕ) → has_end (take_through 10 bytes) ≡ has_end bytes
through_has [] = refl
through_has (byte ∷ bytes) = by (through_has bytes) (byte == 10) refl
  where
    by : has_end (take_through 10 bytes) ≡ has_end bytes → (test : Bool) → (byte == 10) ≡ test → has_end (take_through 10 (byte ∷ bytes)) ≡ has_end (byte ∷ bytes)
    by next true is = rw is (rw is refl)
    by next false is = rw is (rw is next)

-- ---- without an LF
pub false_is_not_true : false ≡ true → ⊥
false_is_not_true e = cc

first_open : (byte : ℕ) (bytes : List ℕ) → has_end (byte ∷ bytes) ≡ false → ((byte == 10) ≡ false) × (has_end bytes ≡ false)
first_open byte bytes none = by (byte == 10) refl
  where
    by : (test : Bool) → (byte == 10) ≡ test → ((byte == 10) ≡ false) × (has_end bytes ≡ false)
    by true is = absurd (false_is_not_true (sym (rw is at none)))
    by false is = (is, rw is at none)

pub none_through : (bytes : List ℕ) → has_end bytes ≡ false → take_through 10 bytes ≡ bytes
none_through [] none = refl
none_through (byte ∷ bytes) none =
    let split = first_open byte bytes none in rw split.0 (ap (λ rest. byte ∷ rest) (none_through bytes split.1))

pub none_behind : (bytes : List ℕ) → has_end bytes ≡ false → drop_through 10 bytes ≡ []
none_behind [] none = refl
none_behind (byte ∷ bytes) none = let split = first_open byte bytes none in rw split.0 (none_behind bytes split.1)

pub through_more : (line more : List ℕ) → has_end line ≡ false → take_through 10 (line ++ more) ≡ line ++ take_through 10 more
through_more [] more none = refl
through_more (byte ∷ line) more none =
    let split = first_open byte line none in rw split.0 (ap (λ rest. byte ∷ rest) (through_more line more split.1))

pub has_more : (line more : List ℕ) → has_end line ≡ false → has_end (line ++ more) ≡ has_end more
has_more [] more none = refl
has_more (byte ∷ line) more none = let split = first_open byte line none in rw split.0 (has_more line more split.1)

-- ---- what was read, where some of it waits
module _ (first : Option (List ℕ)) (line : List ℕ) where
  pub moved : (known : Option (List ℕ)) (waiting : List ℕ) → Consumes first (prepend_known waiting known) line
      → Consumes first (prepend_known (drop_through 10 waiting) known) (line ++ take_through 10 waiting)
  moved known waiting read = by first refl known read
    where
      by : (f : Option (List ℕ)) → first ≡ f → (k : Option (List ℕ)) → Consumes f (prepend_known waiting k) line
          → Consumes f (prepend_known (drop_through 10 waiting) k) (line ++ take_through 10 waiting)
      by None e k all = tt
      by (Some xs) e None all = absurd all
      by (Some xs) e (Some ys) all =
          all ∙ ap (λ s. line ++ (s ++ ys)) (sym (through_all waiting))
          ∙ ap (λ s. line ++ s) (append_assoc (take_through 10 waiting) (drop_through 10 waiting) ys)
          ∙ sym (append_assoc line (take_through 10 waiting) (drop_through 10 waiting ++ ys))

  pub read_on : (before after : Option (List ℕ)) (piece : List ℕ) → Consumes first (prepend_known [] before) line → Consumes before after piece
      → Consumes first (prepend_known piece after) line
  read_on before after piece one two = by first before after one two
    where
      by : (f b a : Option (List ℕ)) → Consumes f (prepend_known [] b) line → Consumes b a piece → Consumes f (prepend_known piece a) line
      by None b a one two = tt
      by (Some xs) None a one two = absurd one
      by (Some xs) (Some ys) None one two = absurd two
      by (Some xs) (Some ys) (Some zs) one two = one ∙ ap (λ s. line ++ s) two

  pub read_still : (before after : Option (List ℕ)) (waiting : List ℕ) → Consumes first (prepend_known waiting before) line → Keeps before after
      → Consumes first (prepend_known waiting after) line
  read_still before after waiting one two = by first before after one two
    where
      by : (f b a : Option (List ℕ)) → Consumes f (prepend_known waiting b) line → Keeps b a → Consumes f (prepend_known waiting a) line
      by None b a one two = tt
      by (Some xs) None a one two = absurd one
      by (Some xs) (Some ys) None one two = absurd two
      by (Some xs) (Some ys) (Some zs) one two = one ∙ ap (λ s. line ++ (waiting ++ s)) (sym two)

pub ends_there : (known : Option (List ℕ)) → IsAtEnd known → IsAtEnd (prepend_known [] known)
ends_there None end = tt
ends_there (Some xs) end = end
