-- Lines that are taken one after the other, while what is behind them is still to come.
use Rattle.std.proofs.Common.{◌≡◌, ℕ, suc, ◌+◌, ◌<◌, ◌≤◌, ◌==◌, ◌∙◌, Bool, true, false, List, [], ◌∷◌, ◌++◌, length, take, drop, refl, sym, ap, arith, append_assoc, append-nil, length-append, ◌*◌, subst, Option, Some, None, IfSome, Result, Ok, Err}
use Rattle.std.proofs.Math.Seq.{take-suc}
use Rattle.std.proofs.lemmas.Bool.{eqb-true}
use Rattle.std.proofs.lemmas.List.{take-append-drop}
use Rattle.std.specs.List.{onto_first}
use Rattle.std.specs.Prelude.{slice_index}
use Rattle.std.specs.Io.KnownBytes.{Consumes, IsAtEnd, Keeps}
use Rattle.step_results.specs.AtLine.{AtLine, after_lines}
use Rattle.step_results.specs.Gives.{Fails}
use Rattle.step_results.specs.TextGives.{text_fault_in}
use Rattle.step_results.specs.declared.text_fault.TextFault.{TextFault}
use Rattle.step_results.specs.declared.text_fault.TextFault.TheVariants.{NoMemory}
use Rattle.text_streams.specs.ReadingByLines.{IsMadeOf}
use Rattle.text_words.specs.Lines.{is_line_end, lines}
use Rattle.text_streams.proofs.KnownBytesLemmas.{consumes_more, consumes_nothing, consumes_still}

-- ---- lines behind an LF are lines of their own
pub record Begins (text : List ℕ) : Type 0 where
  pub first : List ℕ
  pub others : List (List ℕ)
  pub same : lines text ≡ first ∷ others

begins_with : (byte : ℕ) (all : List (List ℕ)) (rest : List ℕ) → lines rest ≡ all → is_line_end byte ≡ false → Begins (byte ∷ rest)
begins_with byte [] rest same unended = record { first = byte ∷ []; others = []; same = rw (unended, same) refl }
begins_with byte (line ∷ others) rest same unended = record { first = byte ∷ line; others = others; same = rw (unended, same) refl }

begins : (body : List ℕ) → Begins (body ++ 10 ∷ [])
begins [] = record { first = 10 ∷ []; others = []; same = refl }
begins (byte ∷ body) = by (is_line_end byte) refl
  where
    by : (test : Bool) → is_line_end byte ≡ test → Begins (byte ∷ (body ++ 10 ∷ []))
    by true ended = record { first = byte ∷ []; others = lines (body ++ 10 ∷ []); same = rw ended refl }
    by false unended = begins_with byte (lines (body ++ 10 ∷ [])) (body ++ 10 ∷ []) refl unended

onto_more : (byte : ℕ) (front more : List (List ℕ)) (first : List ℕ) (others : List (List ℕ)) → front ≡ first ∷ others
    → onto_first byte (front ++ more) ≡ onto_first byte front ++ more
onto_more byte front more first others same = rw same refl

pub lines_behind : (body more : List ℕ) → lines ((body ++ 10 ∷ []) ++ more) ≡ lines (body ++ 10 ∷ []) ++ lines more
lines_behind [] more = refl
lines_behind (byte ∷ body) more = by (is_line_end byte) refl (lines_behind body more)
  where
    by : (test : Bool) → is_line_end byte ≡ test → lines ((body ++ 10 ∷ []) ++ more) ≡ lines (body ++ 10 ∷ []) ++ lines more
        → lines (((byte ∷ body) ++ 10 ∷ []) ++ more) ≡ lines ((byte ∷ body) ++ 10 ∷ []) ++ lines more
    by true ended behind = rw (ended, behind) refl
    by false unended behind =
        let front = begins body in
        rw (unended, behind) (onto_more byte (lines (body ++ 10 ∷ [])) (lines more) front.first front.others front.same)

-- the bytes up to and with the LF at this place, and those behind it
pub lines_cut : (bytes rest : List ℕ) (last : ℕ) → last < length bytes → (slice_index bytes last == 10) ≡ true
    → lines (bytes ++ rest) ≡ lines (take (last + 1) bytes) ++ lines (drop (last + 1) bytes ++ rest)
lines_cut bytes rest last within ends =
    let lf : slice_index bytes last ≡ 10 = eqb-true (slice_index bytes last) 10 ends in
    let front : take (last + 1) bytes ≡ take last bytes ++ 10 ∷ [] =
    (let next : last + 1 ≡ suc last = omega arith in rw next (take-suc bytes last 0 within ∙ ap (λ byte. take last bytes ++ byte ∷ []) lf)) in
    let whole : bytes ++ rest ≡ take (last + 1) bytes ++ (drop (last + 1) bytes ++ rest) =
    ap (λ s. s ++ rest) (sym (take-append-drop (last + 1) bytes)) ∙ append_assoc (take (last + 1) bytes) (drop (last + 1) bytes) rest in
    ap lines whole ∙ rw front (lines_behind (take last bytes) (drop (last + 1) bytes ++ rest))

-- ---- what was read so far, by reads of at most 4,096 bytes, and what it makes
pub record IsTaken (Sure : Type 0) {S Cause : Type 0} (step : ℕ → S → List ℕ → Result S Cause) (nothing : S) (known left : Option (List ℕ)) (so_far : S) (number : ℕ) (waiting : List ℕ) (reads : ℕ) : Type 0 where
  pub read : List ℕ
  pub consumed : Consumes known left read
  pub same : (rest : List ℕ) → after_lines step 1 nothing (lines (read ++ rest)) ≡ after_lines step (number + 1) so_far (lines (waiting ++ rest))
  pub few : number + length waiting ≤ length read
  pub short : length read ≤ reads * 4096
  pub grows : Sure → reads ≤ length read

-- one more piece
pub one_read : (Sure : Type 0) {S Cause : Type 0} (step : ℕ → S → List ℕ → Result S Cause) (nothing : S) (known before after : Option (List ℕ)) (so_far next : S) (number now : ℕ)
    → (waiting piece left : List ℕ) (reads : ℕ) → length piece ≤ 4096 → 0 < length piece → IsTaken Sure step nothing known before so_far number waiting reads → Consumes before after piece
    → ((rest : List ℕ) → after_lines step (number + 1) so_far (lines ((waiting ++ piece) ++ rest)) ≡ after_lines step (now + 1) next (lines (left ++ rest)))
    → now + length left ≤ number + length (waiting ++ piece)
    → IsTaken Sure step nothing known after next now left (reads + 1)
one_read Sure step nothing known before after so_far next number now waiting piece left reads short some is more goes count =
    let both = length-append waiting piece in
    let all = length-append is.read piece in
    let few = is.few in
    let long = is.short in
    record {
      read = is.read ++ piece;
      consumed = consumes_more known before after is.read piece is.consumed more;
      same = λ rest.
          ap (λ s. after_lines step 1 nothing (lines s)) (append_assoc is.read piece rest)
          ∙ is.same (piece ++ rest)
          ∙ ap (λ s. after_lines step (number + 1) so_far (lines s)) (sym (append_assoc waiting piece rest))
          ∙ goes rest;
      few = omega (arith, both, all, few, count);
      short = omega (arith, all, long, short);
      grows = λ sure. let enough = is.grows sure in omega (arith, all, enough, some);
    }

-- an interrupted read
pub none_read : (Sure : Type 0) {S Cause : Type 0} (step : ℕ → S → List ℕ → Result S Cause) (nothing : S) (known before after : Option (List ℕ)) (so_far : S) (number : ℕ)
    → (waiting : List ℕ) (reads : ℕ) → IsTaken Sure step nothing known before so_far number waiting reads → Keeps before after → ¬ Sure → IsTaken Sure step nothing known after so_far number waiting (reads + 1)
none_read Sure step nothing known before after so_far number waiting reads is keeps unsure =
    let long = is.short in
    record {
      read = is.read;
      consumed = consumes_still known before after is.read is.consumed keeps;
      same = is.same;
      few = is.few;
      short = omega (arith, long);
      grows = λ sure. absurd (unsure sure);
    }

-- ---- the text once nothing more is read
-- what is left, if it is known
abbrev left_of : Option (List ℕ) → List ℕ
left_of None = []
left_of (Some bytes) = bytes

known_text : (known before after : Option (List ℕ)) (read piece : List ℕ) → Consumes known before read → Consumes before after piece
    → IfSome known (λ bytes. bytes ≡ read ++ (piece ++ left_of after))
known_text None before after read piece one two = tt
known_text (Some text) None after read piece one two = absurd one
known_text (Some text) (Some left) None read piece one two = absurd two
known_text (Some text) (Some left) (Some behind) read piece one two = one ∙ ap (λ s. read ++ s) two

nothing_left : (known : Option (List ℕ)) → IsAtEnd known → left_of known ≡ []
nothing_left None end = refl
nothing_left (Some bytes) end = end

module _ (Sure : Type 0) {S Cause : Type 0} (step : ℕ → S → List ℕ → Result S Cause) (nothing so_far : S) (number : ℕ) (waiting : List ℕ) (reads : ℕ) where
  -- a line was refused
  pub piece_refused : (error : TextFault Cause) (known before after : Option (List ℕ)) (piece : List ℕ)
      → IsTaken Sure step nothing known before so_far number waiting reads → Consumes before after piece
      → ((rest : List ℕ) → Fails (text_fault_in error) (after_lines step (number + 1) so_far (lines ((waiting ++ piece) ++ rest))))
      → IsMadeOf (λ (all : S). all) (Err error) known (λ text. after_lines step 1 nothing (lines text))
  piece_refused error known before after piece is more refused = record {
    text = is.read ++ (piece ++ left_of after);
    is_known = known_text known before after is.read piece is.consumed more;
    is_made = subst (λ given. Fails (text_fault_in error) given)
        (sym (is.same (piece ++ left_of after) ∙ ap (λ s. after_lines step (number + 1) so_far (lines s)) (sym (append_assoc waiting piece (left_of after)))))
        (refused (left_of after));
  }

  -- the text has ended
  end_same : (known before after : Option (List ℕ)) → (is : IsTaken Sure step nothing known before so_far number waiting reads) → IsAtEnd after
      → after_lines step 1 nothing (lines (is.read ++ ([] ++ left_of after))) ≡ after_lines step (number + 1) so_far (lines waiting ++ [])
  end_same known before after is end =
      is.same ([] ++ left_of after)
      ∙ ap (λ s. after_lines step (number + 1) so_far (lines s)) (ap (λ s. waiting ++ s) (nothing_left after end) ∙ append-nil waiting)
      ∙ ap (after_lines step (number + 1) so_far) (sym (append-nil (lines waiting)))

  pub all_made : (known before after : Option (List ℕ)) (next : S) (now : ℕ)
      → IsTaken Sure step nothing known before so_far number waiting reads → Consumes before after [] → IsAtEnd after
      → after_lines step (number + 1) so_far (lines waiting ++ []) ≡ after_lines step (now + 1) next []
      → IsMadeOf (λ (all : S). all) (Ok (Some next)) known (λ text. after_lines step 1 nothing (lines text))
  unfolding after_lines
  all_made known before after next now is more end made = record {
    text = is.read ++ ([] ++ left_of after);
    is_known = known_text known before after is.read [] is.consumed more;
    is_made = end_same known before after is end ∙ made;
  }

  pub end_refused : (error : TextFault Cause) (known before after : Option (List ℕ))
      → IsTaken Sure step nothing known before so_far number waiting reads → Consumes before after [] → IsAtEnd after
      → Fails (text_fault_in error) (after_lines step (number + 1) so_far (lines waiting ++ []))
      → IsMadeOf (λ (all : S). all) (Err error) known (λ text. after_lines step 1 nothing (lines text))
  end_refused error known before after is more end refused = record {
    text = is.read ++ ([] ++ left_of after);
    is_known = known_text known before after is.read [] is.consumed more;
    is_made = subst (λ given. Fails (text_fault_in error) given) (sym (end_same known before after is end)) refused;
  }

-- the text was not read to its end
pub unread : {X Y Cause : Type 0} (view : X → Y) (known : Option (List ℕ)) (definition : List ℕ → Result Y (AtLine Cause)) → IsMadeOf view (Ok None) known definition
unread view None definition = record { text = []; is_known = tt; is_made = tt }
unread view (Some bytes) definition = record { text = bytes; is_known = refl; is_made = tt }

-- memory ran out
pub out_of_memory : {X Y Cause : Type 0} (view : X → Y) (known : Option (List ℕ)) (definition : List ℕ → Result Y (AtLine Cause)) → IsMadeOf view (Err NoMemory) known definition
out_of_memory view None definition = record { text = []; is_known = tt; is_made = tt }
out_of_memory view (Some bytes) definition = record { text = bytes; is_known = refl; is_made = tt }

-- so much was read of what is known
pub read_of_known : (Sure : Type 0) {S Cause : Type 0} (step : ℕ → S → List ℕ → Result S Cause) (nothing : S) (known left : Option (List ℕ)) (so_far : S) (number : ℕ) (waiting : List ℕ) (reads : ℕ)
    → (is : IsTaken Sure step nothing known left so_far number waiting reads) → 1048576 ≤ length is.read → IfSome known (λ text. 1048576 ≤ length text)
read_of_known Sure step nothing known left so_far number waiting reads is long = by known left is.consumed
  where
    by : (k l : Option (List ℕ)) → Consumes k l is.read → IfSome k (λ text. 1048576 ≤ length text)
    by None l one = tt
    by (Some text) None one = absurd one
    by (Some text) (Some rest) one = let all = ap length one ∙ length-append is.read rest in omega (arith, all, long)
