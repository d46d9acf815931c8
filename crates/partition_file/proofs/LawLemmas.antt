-- Which fault a partition text is refused for: that of the shortest beginning with one.
use Rattle.std.proofs.Common.{◌≡◌, ℕ, zero, suc, ◌⊎◌, inl, inr, Bool, true, false, cond, List, [], ◌∷◌, ◌++◌, take, Result, Ok, Err, refl, sym, ap, subst, ◌∙◌, append_assoc}
use Rattle.std.proofs.lemmas.List.{append-nil}
use Rattle.partition_file.specs.declared.definition.Definition.{Definition}
use Rattle.partition_file.specs.declared.fault.PartitionCause.{PartitionCause}
use Rattle.partition_file.specs.declared.fault.PartitionCause.TheVariants.{Unfinished}
use Rattle.step_results.specs.AtLine.{AtLine, on_line}
use Rattle.step_results.specs.Steps.{◌>>=◌}
use Rattle.partition_file.specs.Pieces.{blanked, is_commented, line_after, piece_after, without_comments}
use Rattle.partition_file.specs.Definitions.{after, after_byte, at_end, is_inside, whole}
use Rattle.partition_file.specs.ScanState.{ScanState, start}
use Rattle.partition_file.specs.Partitions.{partitions_in, partitions_of}
use Rattle.partition_file.specs.FirstFault.{HasFaultAtEnd, HasFaultInside, IsClean, is_fault_at}
use Rattle.partition_file.specs.Laws.{CleanThroughout, EndRefuses, InsideRefuses, OnlySoRefused}
use Rattle.step_results.proofs.StepLemmas.{bind_alike, bind_done_err, bind_refused, bind_twice, same_err}
use Rattle.partition_file.proofs.TurnLemmas.{IsReportedFor, clean_here, refused_here, reported_here}

-- ---- comments
pub comments_by_beginning : (text : List ℕ) (n : ℕ) (inside : Bool) → take n (without_comments inside text) ≡ without_comments inside (take n text)
unfolding without_comments
comments_by_beginning [] zero inside = refl
comments_by_beginning [] (suc n) inside = refl
comments_by_beginning (byte ∷ rest) zero inside = refl
comments_by_beginning (byte ∷ rest) (suc n) inside =
    ap (λ (shown : List ℕ). blanked (is_commented inside byte) byte ∷ shown) (comments_by_beginning rest n (is_commented inside byte))

-- ---- a text in two parts
after_both : (xs ys so_far : List ℕ) (s : ScanState) → after so_far s (xs ++ ys) ≡ (after so_far s xs >>= λ t. after (so_far ++ xs) t ys)
unfolding after
after_both [] ys so_far s = ap (λ (front : List ℕ). after front s ys) (sym (append-nil so_far))
after_both (byte ∷ xs) ys so_far s =
    let here = on_line (line_after so_far) (after_byte s (piece_after so_far) byte) in
    let front : (so_far ++ byte ∷ []) ++ xs ≡ so_far ++ byte ∷ xs = append_assoc so_far (byte ∷ []) xs in
    bind_alike here (λ t. after (so_far ++ byte ∷ []) t (xs ++ ys)) (λ t. after (so_far ++ byte ∷ []) t xs >>= λ u. after (so_far ++ byte ∷ xs) u ys)
    (λ t. after_both xs ys (so_far ++ byte ∷ []) t ∙ ap (λ (f : List ℕ). after (so_far ++ byte ∷ []) t xs >>= λ u. after f u ys) front)
    ∙ sym (bind_twice here (λ t. after (so_far ++ byte ∷ []) t xs) (λ u. after (so_far ++ byte ∷ xs) u ys))

after_clean : (before rest : List ℕ) (byte : ℕ) (s : ScanState) → IsClean before s
    → after [] start (before ++ byte ∷ rest) ≡ (on_line (line_after before) (after_byte s (piece_after before) byte) >>= λ t. after (before ++ byte ∷ []) t rest)
unfolding after
after_clean before rest byte s clean =
    after_both before (byte ∷ rest) [] start ∙ ap (λ (given : Result ScanState (AtLine PartitionCause)). given >>= λ t. after before t (byte ∷ rest)) clean

-- ---- refused
refused_text : (text : List ℕ) (e : AtLine PartitionCause) → whole (without_comments false text) ≡ Err e → partitions_of text ≡ Err e
unfolding partitions_of
refused_text text e h = bind_refused (whole (without_comments false text)) (λ definitions. Ok (partitions_in definitions)) e h

whole_inside : (shown : List ℕ) (e : AtLine PartitionCause) → HasFaultInside shown e → whole shown ≡ Err e
unfolding whole
whole_inside shown e h =
    let refused : after_byte h.state (piece_after h.before) h.byte ≡ Err e.cause = refused_here h.state h.before h.byte e.cause h.there h.first in
    let stopped : after [] start shown ≡ Err e =
    ap (after [] start) h.cut ∙ after_clean h.before h.rest h.byte h.state h.clean
    ∙ ap (λ (given : Result ScanState PartitionCause). on_line (line_after h.before) given >>= λ t. after (h.before ++ h.byte ∷ []) t h.rest) refused
    ∙ ap (λ (line : ℕ). Err (record { line = line; cause = e.cause })) (sym h.line) in
    ap (λ (given : Result ScanState (AtLine PartitionCause)). given >>= λ s. on_line (line_after shown) (at_end s (piece_after shown))) stopped

end_by : (s : ScanState) (piece : List ℕ) (b : Bool) → is_inside s.at piece ≡ b → b ≡ true → at_end s piece ≡ Err Unfinished
end_by s piece true h k = rw h refl
end_by s piece false h k = absurd cc

whole_at_end : (shown : List ℕ) (e : AtLine PartitionCause) → HasFaultAtEnd shown e → whole shown ≡ Err e
unfolding whole
whole_at_end shown e h =
    ap (λ (given : Result ScanState (AtLine PartitionCause)). given >>= λ s. on_line (line_after shown) (at_end s (piece_after shown))) h.clean
    ∙ ap (on_line (line_after shown)) (end_by h.state (piece_after shown) (is_inside h.state.at (piece_after shown)) refl h.inside)
    ∙ ap (λ (line : ℕ). Err (record { line = line; cause = Unfinished })) (sym h.line)
    ∙ ap (λ (cause : PartitionCause). Err (record { line = e.line; cause = cause })) (sym h.cause)

pub inside_refuses : InsideRefuses
inside_refuses text e h = refused_text text e (whole_inside (without_comments false text) e h)

pub end_refuses : EndRefuses
end_refuses text e h = refused_text text e (whole_at_end (without_comments false text) e h)

-- ---- only so
pub record IsFound (so_far : List ℕ) (s : ScanState) (text : List ℕ) (e : AtLine PartitionCause) : Type 0 where
  pub before : List ℕ
  pub byte : ℕ
  pub rest : List ℕ
  pub state : ScanState
  pub cut : text ≡ before ++ byte ∷ rest
  pub clean : after so_far s before ≡ Ok state
  pub reported : IsReportedFor (is_fault_at state (so_far ++ before) byte) e.cause
  pub line : e.line ≡ line_after (so_far ++ before)

found_first : (so_far rest : List ℕ) (s : ScanState) (byte : ℕ) (f : PartitionCause) (e : AtLine PartitionCause)
    → after_byte s (piece_after so_far) byte ≡ Err f → record { line = line_after so_far; cause = f } ≡ e
    → IsFound so_far s (byte ∷ rest) e
unfolding after
found_first so_far rest s byte f e h same = record {
  before = [];
  byte = byte;
  rest = rest;
  state = s;
  cut = refl;
  clean = refl;
  reported = subst (λ (d : AtLine PartitionCause). IsReportedFor (is_fault_at s (so_far ++ []) byte) d.cause) same (rw (append-nil so_far) (reported_here s so_far byte f h));
  line = sym (ap (λ (d : AtLine PartitionCause). d.line) same) ∙ ap line_after (sym (append-nil so_far));
}

found_later : (so_far rest : List ℕ) (s t : ScanState) (byte : ℕ) (e : AtLine PartitionCause) → after_byte s (piece_after so_far) byte ≡ Ok t
    → IsFound (so_far ++ byte ∷ []) t rest e → IsFound so_far s (byte ∷ rest) e
unfolding after
found_later so_far rest s t byte e h found =
    let front : (so_far ++ byte ∷ []) ++ found.before ≡ so_far ++ byte ∷ found.before = append_assoc so_far (byte ∷ []) found.before in
    record {
      before = byte ∷ found.before;
      byte = found.byte;
      rest = found.rest;
      state = found.state;
      cut = ap (λ (xs : List ℕ). byte ∷ xs) found.cut;
      clean = ap (λ (given : Result ScanState PartitionCause). on_line (line_after so_far) given >>= λ u. after (so_far ++ byte ∷ []) u found.before) h ∙ found.clean;
      reported = subst (λ (xs : List ℕ). IsReportedFor (is_fault_at found.state xs found.byte) e.cause) front found.reported;
      line = found.line ∙ ap line_after front;
    }

found : (text so_far : List ℕ) (s : ScanState) (e : AtLine PartitionCause) → after so_far s text ≡ Err e → IsFound so_far s text e
unfolding after
found [] so_far s e h = absurd cc
found (byte ∷ rest) so_far s e h = by (after_byte s (piece_after so_far) byte) refl h (λ t there. found rest (so_far ++ byte ∷ []) t e there)
  where
    by : (given : Result ScanState PartitionCause) → after_byte s (piece_after so_far) byte ≡ given
        → (on_line (line_after so_far) given >>= λ t. after (so_far ++ byte ∷ []) t rest) ≡ Err e
        → ((t : ScanState) → after (so_far ++ byte ∷ []) t rest ≡ Err e → IsFound (so_far ++ byte ∷ []) t rest e) → IsFound so_far s (byte ∷ rest) e
    by (Ok t) k there later = found_later so_far rest s t byte e k (later t there)
    by (Err f) k there later = found_first so_far rest s byte f e k (same_err {A = ScanState} (record { line = line_after so_far; cause = f }) e there)

stopped_inside : (shown : List ℕ) (e : AtLine PartitionCause) → after [] start shown ≡ Err e → HasFaultInside shown e
stopped_inside shown e h =
    let there : IsFound [] start shown e = found shown [] start e h in
    record { before = there.before; byte = there.byte; rest = there.rest; state = there.state; cut = there.cut; clean = there.clean; there = there.reported.there; first = there.reported.first; line = there.line }

end_so : (shown : List ℕ) (e : AtLine PartitionCause) (s : ScanState) → IsClean shown s → on_line (line_after shown) (at_end s (piece_after shown)) ≡ Err e → HasFaultAtEnd shown e
end_so shown e s clean h = by (is_inside s.at (piece_after shown)) refl h
  where
    by : (b : Bool) → is_inside s.at (piece_after shown) ≡ b → on_line (line_after shown) (cond b (Err Unfinished) (Ok s.done)) ≡ Err e → HasFaultAtEnd shown e
    by false k there = absurd cc
    by true k there =
        let same : record { line = line_after shown; cause = Unfinished } ≡ e = same_err {A = List Definition} (record { line = line_after shown; cause = Unfinished }) e there in
        record { state = s; clean = clean; inside = k; cause = sym (ap (λ (d : AtLine PartitionCause). d.cause) same); line = sym (ap (λ (d : AtLine PartitionCause). d.line) same) }

whole_only_so : (shown : List ℕ) (e : AtLine PartitionCause) → whole shown ≡ Err e → HasFaultInside shown e ⊎ HasFaultAtEnd shown e
unfolding whole
whole_only_so shown e h = by (after [] start shown) refl h
  where
    by : (given : Result ScanState (AtLine PartitionCause)) → after [] start shown ≡ given
        → (given >>= λ s. on_line (line_after shown) (at_end s (piece_after shown))) ≡ Err e → HasFaultInside shown e ⊎ HasFaultAtEnd shown e
    by (Ok s) k there = inr (end_so shown e s k there)
    by (Err d) k there = inl (stopped_inside shown e (k ∙ ap (λ (x : AtLine PartitionCause). Err x) (same_err {A = List Definition} d e there)))

pub only_so_refused : OnlySoRefused
unfolding partitions_of
only_so_refused text e h = whole_only_so (without_comments false text) e (bind_done_err (whole (without_comments false text)) partitions_in e h)

-- ---- clean
clean_next : (before rest : List ℕ) (byte : ℕ) (s t : ScanState) → after before t (byte ∷ rest) ≡ Ok s → (fault : PartitionCause) → is_fault_at t before byte fault ≡ false
unfolding after
clean_next before rest byte s t h fault = by (after_byte t (piece_after before) byte) refl h
  where
    by : (given : Result ScanState PartitionCause) → after_byte t (piece_after before) byte ≡ given
        → (on_line (line_after before) given >>= λ u. after (before ++ byte ∷ []) u rest) ≡ Ok s → is_fault_at t before byte fault ≡ false
    by (Ok u) k there = clean_here t u before byte k fault
    by (Err f) k there = absurd cc

pub clean_throughout : CleanThroughout
clean_throughout before rest byte s h = by (after [] start before) refl (sym (after_both before (byte ∷ rest) [] start) ∙ h)
  where
    by : (given : Result ScanState (AtLine PartitionCause)) → after [] start before ≡ given → (given >>= λ t. after before t (byte ∷ rest)) ≡ Ok s
        → (t : ScanState) × (IsClean before t × ((fault : PartitionCause) → is_fault_at t before byte fault ≡ false))
    by (Ok t) k there = (t, (k, λ fault. clean_next before rest byte s t there fault))
    by (Err e) k there = absurd cc
