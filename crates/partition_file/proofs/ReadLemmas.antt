-- How far a partition text is read: the loop over its bytes.
use Rattle.std.proofs.Common.{◌≡◌, ℕ, suc, ◌+◌, ◌-◌, ◌<◌, ◌≤◌, Bool, true, false, cond, not, List, [], ◌∷◌, ◌++◌, length, take, drop, get_or, reverse}
use Rattle.std.proofs.Common.{Result, Ok, refl, sym, ap, subst, ◌∙◌, arith, length-drop, drop-cons}
use Rattle.std.specs.List.{take_while}
use Rattle.std.specs.Prelude.{Option}
use Rattle.std.proofs.lemmas.List.{take_more, take_all, drop_all, reverse-append, get_or-drop}
use Rattle.std.proofs.lemmas.List.Sums.{take_while-cons, count_by_more_yes, count_by_more_no}
use Rattle.partition_file.specs.declared.definition.Definition.{Definition}
use Rattle.step_results.proofs.StepLemmas.{bind_after, bind_twice, fails_on}
use Rattle.partition_file.specs.declared.fault.PartitionCause.{PartitionCause}
use Rattle.step_results.specs.AtLine.{AtLine, on_line}
use Rattle.step_results.specs.Steps.{◌>>=◌}
use Rattle.text_words.specs.Lines.{is_line_end}
use Rattle.partition_file.specs.Pieces.{folded, is_delimiter, line_after, piece_after, since}
use Rattle.partition_file.specs.Definitions.{after, after_byte, at_end, whole}
use Rattle.partition_file.specs.ScanState.{ScanState, start}
use Rattle.step_results.specs.Gives.{Fails}

-- ---- the piece that is open, after one more byte
reverse_more : (text : List ℕ) (byte : ℕ) → reverse (text ++ byte ∷ []) ≡ byte ∷ reverse text
reverse_more text byte = reverse-append text (byte ∷ [])

since_by : (passes : ℕ → Bool) (text : List ℕ) (byte : ℕ) (b : Bool)
    → reverse (cond (not b) (byte ∷ take_while (λ x. not (passes x)) (reverse text)) []) ≡ cond b [] (since passes text ++ byte ∷ [])
since_by passes text byte true = refl
since_by passes text byte false = reverse-append (byte ∷ []) (take_while (λ x. not (passes x)) (reverse text))

pub since_more : (passes : ℕ → Bool) (text : List ℕ) (byte : ℕ) → since passes (text ++ byte ∷ []) ≡ cond (passes byte) [] (since passes text ++ byte ∷ [])
since_more passes text byte =
    ap (λ (r : List ℕ). reverse (take_while (λ x. not (passes x)) r)) (reverse_more text byte)
    ∙ ap (λ (r : List ℕ). reverse r) (take_while-cons (λ x. not (passes x)) byte (reverse text))
    ∙ since_by passes text byte (passes byte)

-- ---- how far the text is read
pub record IsReadTo (text : List ℕ) (i from number : ℕ) (s : ScanState) : Type 0 where
  pub gives : whole text ≡ (after (take i text) s (drop i text) >>= λ t. on_line (line_after text) (at_end t (piece_after text)))
  pub line : number ≡ line_after (take i text)
  pub few : number ≤ i + 1
  pub below : from ≤ i
  pub raw : take (i - from) (drop from text) ≡ since is_delimiter (take i text)

pub starts : (text : List ℕ) → IsReadTo text 0 0 1 start
unfolding whole
starts text = record { gives = refl; line = omega arith; few = omega arith; below = omega arith; raw = refl }

abbrev pub next_from : Bool → ℕ → ℕ → ℕ
next_from b from i = cond b (i + 1) from

abbrev pub next_line : Bool → ℕ → ℕ
next_line b number = cond b (number + 1) number

raw_more : (text : List ℕ) (i from : ℕ) (b : Bool) → i < length text → from ≤ i → take (i - from) (drop from text) ≡ since is_delimiter (take i text)
    → take (i + 1 - next_from b from i) (drop (next_from b from i) text) ≡ cond b [] (since is_delimiter (take i text) ++ get_or text i 0 ∷ [])
raw_more text i from true within below h = (let none : i + 1 - (i + 1) ≡ 0 = omega arith in ap (λ n. take n (drop (i + 1) text)) none)
raw_more text i from false within below h =
    let n : i + 1 - from ≡ i - from + 1 = omega arith in
    let short : i - from < length (drop from text) = omega (arith, length-drop from text) in
    let place : from + (i - from) ≡ i = omega arith in
    let last : get_or (drop from text) (i - from) 0 ≡ get_or text i 0 = get_or-drop from text (i - from) 0 ∙ ap (λ k. get_or text k 0) place in
    ap (λ k. take k (drop from text)) n ∙ take_more (drop from text) (i - from) 0 short
    ∙ ap (λ (front : List ℕ). front ++ get_or (drop from text) (i - from) 0 ∷ []) h ∙ ap (λ k. since is_delimiter (take i text) ++ k ∷ []) last

raw_next : (text : List ℕ) (i from byte : ℕ) → byte ≡ get_or text i 0 → i < length text → from ≤ i → take (i - from) (drop from text) ≡ since is_delimiter (take i text)
    → take (i + 1 - next_from (is_delimiter byte) from i) (drop (next_from (is_delimiter byte) from i) text) ≡ since is_delimiter (take (i + 1) text)
raw_next text i from byte e within below h =
    raw_more text i from (is_delimiter byte) within below h
    ∙ ap (λ k. cond (is_delimiter byte) [] (since is_delimiter (take i text) ++ k ∷ [])) (sym e)
    ∙ sym (since_more is_delimiter (take i text) byte)
    ∙ ap (λ k. since is_delimiter (take i text ++ k ∷ [])) e
    ∙ ap (since is_delimiter) (sym (take_more text i 0 within))

line_by : (text : List ℕ) (i number : ℕ) (b : Bool) → is_line_end (get_or text i 0) ≡ b → i < length text → number ≡ line_after (take i text)
    → next_line b number ≡ line_after (take (i + 1) text)
line_by text i number true e within h = omega (arith, h, count_by_more_yes is_line_end text i 0 within e)
line_by text i number false e within h = omega (arith, h, count_by_more_no is_line_end text i 0 within e)

few_by : (number i : ℕ) (b : Bool) → number ≤ i + 1 → next_line b number ≤ i + 1 + 1
few_by number i true h = omega arith
few_by number i false h = omega arith

below_by : (from i : ℕ) (b : Bool) → from ≤ i → next_from b from i ≤ i + 1
below_by from i true h = omega arith
below_by from i false h = omega arith

-- the byte at i, judged where it stands
judged_here : (text : List ℕ) (i from number : ℕ) (s : ScanState) (byte : ℕ) → byte ≡ get_or text i 0 → i < length text → IsReadTo text i from number s
    → after (take i text) s (drop i text) ≡ (on_line number (after_byte s (folded (take (i - from) (drop from text))) byte) >>= λ t. after (take (i + 1) text) t (drop (i + 1) text))
unfolding after
judged_here text i from number s byte e within so_far =
    let after_it : suc i ≡ i + 1 = omega arith in
    let cut : drop i text ≡ get_or text i 0 ∷ drop (i + 1) text = drop-cons text i 0 within ∙ ap (λ k. get_or text i 0 ∷ drop k text) after_it in
    rw (cut, e, so_far.raw, so_far.line, take_more text i 0 within) refl

goes_so : (text : List ℕ) (i from number : ℕ) (s : ScanState) (byte : ℕ) → byte ≡ get_or text i 0 → i < length text → IsReadTo text i from number s
    → whole text ≡ (on_line number (after_byte s (folded (take (i - from) (drop from text))) byte) >>= λ t. after (take (i + 1) text) t (drop (i + 1) text) >>= λ u. on_line (line_after text) (at_end u (piece_after text)))
goes_so text i from number s byte e within so_far =
    let finish = λ (t : ScanState). on_line (line_after text) (at_end t (piece_after text)) in
    so_far.gives
    ∙ ap (λ (given : Result ScanState (AtLine PartitionCause)). given >>= finish) (judged_here text i from number s byte e within so_far)
    ∙ bind_twice (on_line number (after_byte s (folded (take (i - from) (drop from text))) byte)) (λ t. after (take (i + 1) text) t (drop (i + 1) text)) finish

pub goes_on : (text : List ℕ) (i from number : ℕ) (s t : ScanState) (byte : ℕ) → byte ≡ get_or text i 0 → i < length text → IsReadTo text i from number s
    → on_line number (after_byte s (folded (take (i - from) (drop from text))) byte) ≡ Ok t
    → IsReadTo text (i + 1) (next_from (is_delimiter byte) from i) (next_line (is_line_end byte) number) t
goes_on text i from number s t byte e within so_far judged = record {
  gives =
      goes_so text i from number s byte e within so_far
      ∙ bind_after (on_line number (after_byte s (folded (take (i - from) (drop from text))) byte)) (λ u. after (take (i + 1) text) u (drop (i + 1) text) >>= λ v. on_line (line_after text) (at_end v (piece_after text))) t judged;
  line = line_by text i number (is_line_end byte) (ap is_line_end (sym e)) within so_far.line;
  few = few_by number i (is_line_end byte) so_far.few;
  below = below_by from i (is_delimiter byte) so_far.below;
  raw = raw_next text i from byte e within so_far.below so_far.raw;
}

pub stops : (reported : Option (AtLine PartitionCause)) (text : List ℕ) (i from number : ℕ) (s : ScanState) (byte : ℕ) → byte ≡ get_or text i 0
    → i < length text → IsReadTo text i from number s
    → Fails reported (on_line number (after_byte s (folded (take (i - from) (drop from text))) byte)) → Fails reported (whole text)
stops reported text i from number s byte e within so_far h =
    subst (λ (given : Result (List Definition) (AtLine PartitionCause)). Fails reported given) (sym (goes_so text i from number s byte e within so_far))
    (fails_on reported (on_line number (after_byte s (folded (take (i - from) (drop from text))) byte)) (λ t. after (take (i + 1) text) t (drop (i + 1) text) >>= λ u. on_line (line_after text) (at_end u (piece_after text))) h)

-- all bytes are read
pub ends : (text : List ℕ) (i from number : ℕ) (s : ScanState) → length text ≤ i → i ≤ length text → IsReadTo text i from number s
    → whole text ≡ on_line number (at_end s (folded (take (length text - from) (drop from text))))
unfolding after
ends text i from number s past within so_far =
    let all : i ≡ length text = omega arith in
    let none : drop i text ≡ [] = drop_all i text past in
    let whole_text : take i text ≡ text = take_all i text past in
    let raw : take (length text - from) (drop from text) ≡ since is_delimiter text = ap (λ k. take (k - from) (drop from text)) (sym all) ∙ so_far.raw ∙ ap (since is_delimiter) whole_text in
    let line : number ≡ line_after text = so_far.line ∙ ap line_after whole_text in
    so_far.gives ∙ ap (λ (rest : List ℕ). after (take i text) s rest >>= λ t. on_line (line_after text) (at_end t (piece_after text))) none ∙ rw (raw, line) refl
