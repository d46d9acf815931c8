-- Bytes that are read and written one part after the other, if they are known.
use Rattle.std.proofs.Common.{◌≡◌, ◌∙◌, ap, sym, refl, append_assoc, append-nil, drop, length, take, List, [], ℕ, Option, Some, None, ◌++◌}
use Rattle.std.proofs.Math.Seq.{take-append_seam}
use Rattle.std.proofs.lemmas.List.{take-append-drop}
use Rattle.std.specs.Io.KnownBytes.{Appends, Consumes, Keeps}
use Rattle.text_streams.specs.Writing.{AppendsPart}

-- ---- bytes that are read
pub consumes_nothing : (known : Option (List ℕ)) → Consumes known known []
consumes_nothing None = tt
consumes_nothing (Some xs) = refl

pub consumes_more : (first before after : Option (List ℕ)) (read more : List ℕ) → Consumes first before read → Consumes before after more
    → Consumes first after (read ++ more)
consumes_more None before after read more one two = tt
consumes_more (Some xs) None after read more one two = absurd one
consumes_more (Some xs) (Some ys) None read more one two = absurd two
consumes_more (Some xs) (Some ys) (Some zs) read more one two = one ∙ ap (λ (s : List ℕ). read ++ s) two ∙ sym (append_assoc read more zs)

pub consumes_still : (first before after : Option (List ℕ)) (read : List ℕ) → Consumes first before read → Keeps before after → Consumes first after read
consumes_still None before after read one two = tt
consumes_still (Some xs) None after read one two = absurd one
consumes_still (Some xs) (Some ys) None read one two = absurd two
consumes_still (Some xs) (Some ys) (Some zs) read one two = one ∙ ap (λ (s : List ℕ). read ++ s) (sym two)

-- ---- bytes that are written
pub appends_nothing : (known : Option (List ℕ)) → Appends known known []
appends_nothing None = tt
appends_nothing (Some xs) = sym (append-nil xs)

-- two writes give what one gives
pub write_more : (first before after : Option (List ℕ)) (text more : List ℕ) → Appends first before text → Appends before after more
    → Appends first after (text ++ more)
write_more None before after text more written next = tt
write_more (Some xs) None after text more written next = absurd written
write_more (Some xs) (Some ys) None text more written next = absurd next
write_more (Some xs) (Some ys) (Some zs) text more written next = next ∙ ap (λ (s : List ℕ). s ++ more) written ∙ append_assoc xs text more

-- a beginning of a text is some of it
pub begins_with : (text front rest : List ℕ) (old new : Option (List ℕ)) → text ≡ front ++ rest → Appends old new front → AppendsPart old new text
begins_with text front rest old new same appended =
    (length front, rw (ap (take (length front)) same ∙ take-append_seam front rest) appended)

-- and so is one behind a whole text
pub part_behind : (first second rest : List ℕ) (old middle new : Option (List ℕ)) → Appends old middle first → AppendsPart middle new second
    → AppendsPart old new (first ++ (second ++ rest))
part_behind first second rest old middle new one part =
    let front = take part.0 second in
    let back = drop part.0 second in
    begins_with (first ++ (second ++ rest)) (first ++ front) (back ++ rest) old new
    (ap (λ (s : List ℕ). first ++ (s ++ rest)) (sym (take-append-drop part.0 second)) ∙ ap (λ (s : List ℕ). first ++ s) (append_assoc front back rest) ∙ sym (append_assoc first front (back ++ rest)))
    (write_more old middle new first front one part.1)
