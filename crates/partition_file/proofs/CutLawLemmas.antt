-- The law of texts that are cut.
use Rattle.std.proofs.Common.{◌≡◌, ℕ, Bool, true, false, cond, List, [], ◌∷◌, ◌++◌, map, Option, Some, None, is_some, Result, Ok, Err, refl, sym, ap, subst, ◌∙◌, append_assoc}
use Rattle.std.specs.List.{slice_split, onto_first}
use Rattle.std.proofs.lemmas.List.{append-nil}
use Rattle.std.proofs.lemmas.List.Splits.{slice_split-cons_no}
use Rattle.step_results.specs.AtLine.{AtLine, on_line}
use Rattle.step_results.proofs.StepLemmas.{bind_done, bind_ok, same_ok, unless_ok}
use Rattle.partition_file.specs.declared.definition.Definition.{Definition}
use Rattle.partition_file.specs.declared.definition_part.Part.{Part}
use Rattle.partition_file.specs.declared.definition_part.Part.TheVariants as part
use Rattle.partition_file.specs.declared.fault.PartitionCause.{PartitionCause}
use Rattle.partition_file.specs.declared.fault.PartitionCause.TheVariants.{Unfinished}
use Rattle.partition_file.specs.declared.piece.Delimiter.{Delimiter}
use Rattle.partition_file.specs.declared.piece.Delimiter.TheVariants.{Equals, Comma, Colon, Semicolon}
use Rattle.partition_file.specs.declared.token.Token.{Token}
use Rattle.partition_file.specs.Cases.{fault_of}
use Rattle.partition_file.specs.Cut.{at_semicolon, definition_in, definitions_cut, ended}
use Rattle.partition_file.specs.Definitions.{after, after_byte, at_end, is_inside, judged, judged_at, next, part_after, whole, with_piece}
use Rattle.partition_file.specs.Laws.{TextsAreCut}
use Rattle.partition_file.specs.Partitions.{partitions_in, partitions_of}
use Rattle.partition_file.specs.Pieces.{delimiter_of, folded, is_allowed, is_delimiter, is_semicolon, line_after, piece_after, since, without_comments}
use Rattle.partition_file.specs.ScanState.{ScanState, blank, start}
use Rattle.partition_file.specs.Tokens.{token_of}
use Rattle.partition_file.proofs.CaseLemmas.{none_there}
use Rattle.partition_file.proofs.CutLemmas.{IsOpen, byte_is, byte_of, no_semicolon, open_more, parts_of, split_behind, split_here, split_nowhere}
use Rattle.partition_file.proofs.CutStepLemmas.{IsBegun, begun, ends, faultless, finished, stays}
use Rattle.partition_file.proofs.ReadLemmas.{since_more}

-- the definitions that pieces give to a state, of which the first goes on with its definition
abbrev reported : Part → Definition → List (List ℕ) → List Definition
reported at d [] = []
reported at d (piece ∷ []) = []
reported at d (piece ∷ following ∷ rest) = finished at d piece ∷ map definition_in (ended (following ∷ rest))

reported_blank : (pieces : List (List ℕ)) → reported part.Name blank pieces ≡ map definition_in (ended pieces)
reported_blank [] = refl
reported_blank (piece ∷ []) = refl
reported_blank (piece ∷ following ∷ rest) = refl

reported_on : (at other : Part) (d e : Definition) (piece first : List ℕ) (later : List (List ℕ)) → finished at d piece ≡ finished other e first
    → reported at d (piece ∷ later) ≡ reported other e (first ∷ later)
reported_on at other d e piece first [] h = refl
reported_on at other d e piece first (following ∷ rest) h = ap (λ (x : Definition). x ∷ map definition_in (ended (following ∷ rest))) h

-- what the text from an open piece on gives to a state
abbrev IsCut : ScanState → List ℕ → ScanState → Type 0
IsCut s text t = t.done ≡ s.done ++ reported s.at s.current (slice_split at_semicolon text)

-- ---- one byte
line_ok : {A : Type 0} (n : ℕ) (r : Result A PartitionCause) (x : A) → on_line n r ≡ Ok x → r ≡ Ok x
line_ok {A = A} n (Ok y) x h = ap (λ (z : A). Ok z) (same_ok {E = AtLine PartitionCause} y x h)
line_ok n (Err e) x h = absurd cc

same_state : (s u : ScanState) (allowed : Bool) (piece : List ℕ) → judged_at s None allowed piece ≡ Ok u → u ≡ s
same_state s u true piece h = sym (same_ok {E = PartitionCause} s u h)
same_state s u false piece h = absurd cc

-- `=`, `,` and `:` go on with the definition
goes_on : (s t : ScanState) (delimiter : Delimiter) (raw rest : List ℕ) → IsOpen raw → IsBegun s.at s.current → is_semicolon delimiter ≡ false
    → at_semicolon (byte_of delimiter) ≡ false
    → fault_of s delimiter (token_of s.at (folded raw)) ≡ None
    → IsCut (record { at = part_after s.at delimiter (token_of s.at (folded raw)); current = with_piece s.current (token_of s.at (folded raw)) delimiter (folded raw); done = s.done }) rest t
    → IsCut s (raw ++ byte_of delimiter ∷ rest) t
goes_on s t delimiter raw rest free fresh goes other none h =
    let token = token_of s.at (folded raw) in
    let parts = parts_of at_semicolon rest in
    let pieces : slice_split at_semicolon (byte_of delimiter ∷ rest) ≡ (byte_of delimiter ∷ parts.first) ∷ parts.later =
    slice_split-cons_no at_semicolon (byte_of delimiter) rest other ∙ ap (onto_first (byte_of delimiter)) parts.all in
    let all : slice_split at_semicolon (raw ++ byte_of delimiter ∷ rest) ≡ (raw ++ byte_of delimiter ∷ parts.first) ∷ parts.later =
    split_behind at_semicolon raw (byte_of delimiter ∷ rest) (byte_of delimiter ∷ parts.first) parts.later (no_semicolon raw free) pieces in
    let on : finished s.at s.current (raw ++ byte_of delimiter ∷ parts.first)
    ≡ finished (part_after s.at delimiter token) (with_piece s.current token delimiter (folded raw)) parts.first =
    stays s.at s.current s.done delimiter raw parts.first free fresh goes (faultless s delimiter token (none_there s delimiter token none)) in
    let given = reported_on s.at (part_after s.at delimiter token) s.current (with_piece s.current token delimiter (folded raw)) (raw ++ byte_of delimiter ∷ parts.first) parts.first parts.later on in
    h ∙ ap (λ (pieces : List (List ℕ)). s.done ++ reported (part_after s.at delimiter token) (with_piece s.current token delimiter (folded raw)) pieces) parts.all
    ∙ ap (λ (rest : List Definition). s.done ++ rest) (sym given)
    ∙ ap (λ (pieces : List (List ℕ)). s.done ++ reported s.at s.current pieces) (sym all)

-- `;` ends it
stops : (s t : ScanState) (raw rest : List ℕ) → IsOpen raw → fault_of s Semicolon (token_of s.at (folded raw)) ≡ None
    → IsCut (record { at = part.Name; current = blank; done = s.done ++ with_piece s.current (token_of s.at (folded raw)) Semicolon (folded raw) ∷ [] }) rest t
    → IsCut s (raw ++ 59 ∷ rest) t
stops s t raw rest free none h =
    let token = token_of s.at (folded raw) in
    let d = with_piece s.current token Semicolon (folded raw) in
    let parts = parts_of at_semicolon rest in
    let all : slice_split at_semicolon (raw ++ 59 ∷ rest) ≡ raw ∷ parts.first ∷ parts.later =
    split_here at_semicolon raw rest 59 (no_semicolon raw free) refl ∙ ap (λ (pieces : List (List ℕ)). raw ∷ pieces) parts.all in
    let ended_so : finished s.at s.current raw ≡ d = ends s.at s.current s.done raw free (faultless s Semicolon token (none_there s Semicolon token none)) in
    h ∙ append_assoc s.done (d ∷ []) (reported part.Name blank (slice_split at_semicolon rest))
    ∙ ap (λ (given : List Definition). s.done ++ d ∷ given) (reported_blank (slice_split at_semicolon rest) ∙ ap (λ (pieces : List (List ℕ)). map definition_in (ended pieces)) parts.all)
    ∙ ap (λ (e : Definition). s.done ++ e ∷ map definition_in (ended (parts.first ∷ parts.later))) (sym ended_so)
    ∙ ap (λ (pieces : List (List ℕ)). s.done ++ reported s.at s.current pieces) (sym all)

-- a delimiter, which has no fault
next_on : (s : ScanState) (delimiter : Delimiter) (token : Token) (piece : List ℕ) → is_semicolon delimiter ≡ false
    → next s delimiter token piece ≡ record { at = part_after s.at delimiter token; current = with_piece s.current token delimiter piece; done = s.done }
unfolding next
next_on s delimiter token piece goes = rw goes refl

passes : (s u t : ScanState) (delimiter : Delimiter) (raw rest : List ℕ) → IsOpen raw → IsBegun s.at s.current → is_semicolon delimiter ≡ false
    → at_semicolon (byte_of delimiter) ≡ false
    → judged s delimiter (folded raw) ≡ Ok u → (IsBegun u.at u.current → IsCut u rest t) → IsCut s (raw ++ byte_of delimiter ∷ rest) t
passes s u t delimiter raw rest free fresh goes other h later =
    let token = token_of s.at (folded raw) in
    let d = with_piece s.current token delimiter (folded raw) in
    let passed = unless_ok (fault_of s delimiter token) (next s delimiter token (folded raw)) u h in
    let same : record { at = part_after s.at delimiter token; current = d; done = s.done } ≡ u = sym (next_on s delimiter token (folded raw) goes) ∙ passed.1 in
    goes_on s t delimiter raw rest free fresh goes other passed.0
    (subst (λ (v : ScanState). IsCut v rest t) (sym same) (later (subst (λ (v : ScanState). IsBegun v.at v.current) same (begun s.at delimiter token d goes))))

ends_piece : (s u t : ScanState) (delimiter : Delimiter) (raw rest : List ℕ) → IsOpen raw → IsBegun s.at s.current → judged s delimiter (folded raw) ≡ Ok u
    → (IsBegun u.at u.current → IsCut u rest t) → IsCut s (raw ++ byte_of delimiter ∷ rest) t
unfolding next
ends_piece s u t Equals raw rest free fresh h later = passes s u t Equals raw rest free fresh refl refl h later
ends_piece s u t Comma raw rest free fresh h later = passes s u t Comma raw rest free fresh refl refl h later
ends_piece s u t Colon raw rest free fresh h later = passes s u t Colon raw rest free fresh refl refl h later
ends_piece s u t Semicolon raw rest free fresh h later =
    let token = token_of s.at (folded raw) in
    let passed = unless_ok (fault_of s Semicolon token) (next s Semicolon token (folded raw)) u h in
    stops s t raw rest free passed.0
    (subst (λ (v : ScanState). IsCut v rest t) (sym passed.1) (later (subst (λ (v : ScanState). IsBegun v.at v.current) passed.1 refl)))

-- ---- all bytes
cut_after : (rest so_far : List ℕ) (s t : ScanState) → IsOpen (since is_delimiter so_far) → IsBegun s.at s.current → after so_far s rest ≡ Ok t
    → IsCut s (since is_delimiter so_far ++ rest) t
unfolding after after_byte
cut_after [] so_far s t free fresh h =
    let raw = since is_delimiter so_far in
    ap (λ (u : ScanState). u.done) (sym (same_ok {E = AtLine PartitionCause} s t h))
    ∙ sym (append-nil s.done)
    ∙ ap (λ (pieces : List (List ℕ)). s.done ++ reported s.at s.current pieces) (sym (ap (slice_split at_semicolon) (append-nil raw) ∙ split_nowhere at_semicolon raw (no_semicolon raw free)))
cut_after (byte ∷ rest) so_far s t free fresh h =
    let step = bind_ok (on_line (line_after so_far) (after_byte s (piece_after so_far) byte)) (λ u. after (so_far ++ byte ∷ []) u rest) t h in
    by (delimiter_of byte) refl step.0 (line_ok (line_after so_far) (after_byte s (piece_after so_far) byte) step.0 step.1)
    (λ open_piece again. cut_after rest (so_far ++ byte ∷ []) step.0 t open_piece again step.2)
  where
    more : (o : Option Delimiter) → delimiter_of byte ≡ o → since is_delimiter (so_far ++ byte ∷ []) ≡ cond (is_some o) [] (since is_delimiter so_far ++ byte ∷ [])
    more o e = since_more is_delimiter so_far byte ∙ ap (λ (d : Option Delimiter). cond (is_some d) [] (since is_delimiter so_far ++ byte ∷ [])) e

    by : (o : Option Delimiter) → delimiter_of byte ≡ o → (u : ScanState) → judged_at s o (is_allowed byte) (piece_after so_far) ≡ Ok u
        → (IsOpen (since is_delimiter (so_far ++ byte ∷ [])) → IsBegun u.at u.current → IsCut u (since is_delimiter (so_far ++ byte ∷ []) ++ rest) t)
        → IsCut s (since is_delimiter so_far ++ byte ∷ rest) t
    by None e u there later =
        let raw = since is_delimiter so_far in
        let same : u ≡ s = same_state s u (is_allowed byte) (piece_after so_far) there in
        let begun_still : IsBegun u.at u.current = subst (λ (v : ScanState). IsBegun v.at v.current) (sym same) fresh in
        let cut = later (subst IsOpen (sym (more None e)) (open_more raw byte free e)) begun_still in
        subst (λ (text : List ℕ). IsCut s text t) (ap (λ (front : List ℕ). front ++ rest) (more None e) ∙ append_assoc raw (byte ∷ []) rest)
        (subst (λ (v : ScanState). IsCut v (since is_delimiter (so_far ++ byte ∷ []) ++ rest) t) same cut)
    by (Some delimiter) e u there later =
        let raw = since is_delimiter so_far in
        let open_now : IsOpen (since is_delimiter (so_far ++ byte ∷ [])) = subst IsOpen (sym (more (Some delimiter) e)) tt in
        subst (λ (b : ℕ). IsCut s (raw ++ b ∷ rest) t) (sym (byte_is byte delimiter e))
        (ends_piece s u t delimiter raw rest free fresh there
        (λ again. subst (λ (front : List ℕ). IsCut u (front ++ rest) t) (more (Some delimiter) e) (later open_now again)))

-- ---- a text
whole_is_cut : (shown : List ℕ) (definitions : List Definition) → whole shown ≡ Ok definitions → definitions ≡ definitions_cut shown
unfolding whole
whole_is_cut shown definitions h =
    let read = bind_ok (after [] start shown) (λ s. on_line (line_after shown) (at_end s (piece_after shown))) definitions h in
    let done = by (is_inside (read.0).at (piece_after shown)) read.0 (line_ok (line_after shown) (at_end read.0 (piece_after shown)) definitions read.2) in
    done ∙ cut_after shown [] start read.0 tt refl read.1 ∙ reported_blank (slice_split at_semicolon shown)
  where
    by : (b : Bool) (s : ScanState) → cond b (Err Unfinished) (Ok s.done) ≡ Ok definitions → definitions ≡ s.done
    by true s there = absurd cc
    by false s there = sym (same_ok {E = PartitionCause} s.done definitions there)

pub texts_are_cut : TextsAreCut
unfolding partitions_of
texts_are_cut text partitions h =
    let read = bind_done (whole (without_comments false text)) partitions_in partitions h in
    sym read.2 ∙ ap partitions_in (whole_is_cut (without_comments false text) read.0 read.1)
