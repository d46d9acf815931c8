-- Texts on their way to a writer, one behind the other.
use Rattle.std.proofs.Common.{ℕ, ◌≡◌, ◌∙◌, ap, refl, sym, List, [], ◌++◌, take, drop, append_assoc, append-nil, Option}
use Rattle.std.proofs.lemmas.List.{take-append-drop}
use Rattle.std.specs.Io.KnownBytes.{Appends}
use Rattle.text_streams.specs.Writing.{AppendsPart}
use Rattle.text_streams.proofs.KnownBytesLemmas.{appends_nothing, begins_with, write_more}
use Rattle.subnet_core.specs.StreamSteps.{Puts, PutsSome}

-- ---- one text, and then another
module _ (first second text between text' : List ℕ) (old middle new : Option (List ℕ)) where
  on_both : (written more : List ℕ) → text ++ first ≡ written ++ between → between ++ second ≡ more
      → text ++ (first ++ second) ≡ written ++ more
  on_both written more one two =
      sym (append_assoc text first second)
      ∙ ap (λ (s : List ℕ). s ++ second) one
      ∙ append_assoc written between second
      ∙ ap (λ (s : List ℕ). written ++ s) two

  pub puts_on : Puts first text between old middle → Puts second between text' middle new → Puts (first ++ second) text text' old new
  puts_on one two = record {
    written = one.written ++ two.written;
    appended = write_more old middle new one.written two.written one.appended two.appended;
    same = on_both one.written (two.written ++ text') one.same two.same ∙ sym (append_assoc one.written two.written text');
  }

  pub puts_some_on : Puts first text between old middle → PutsSome second between text' middle new → PutsSome (first ++ second) text text' old new
  puts_some_on one two = record {
    written = one.written ++ two.written;
    lost = two.lost;
    appended = write_more old middle new one.written two.written one.appended two.appended;
    same =
        on_both one.written ((two.written ++ text') ++ two.lost) one.same two.same
        ∙ sym (append_assoc one.written (two.written ++ text') two.lost)
        ∙ ap (λ (s : List ℕ). s ++ two.lost) (sym (append_assoc one.written two.written text'));
  }

-- of more texts some was put as well
pub puts_some_of : (first second text text' : List ℕ) (old new : Option (List ℕ)) → PutsSome first text text' old new
    → PutsSome (first ++ second) text text' old new
puts_some_of first second text text' old new one = record {
  written = one.written;
  lost = one.lost ++ second;
  appended = one.appended;
  same =
      sym (append_assoc text first second)
      ∙ ap (λ (s : List ℕ). s ++ second) one.same
      ∙ append_assoc (one.written ++ text') one.lost second;
}

-- ---- without a write
pub puts_behind : (reported text : List ℕ) (known : Option (List ℕ)) → Puts reported text (text ++ reported) known known
puts_behind reported text known = record { written = []; appended = appends_nothing known; same = refl }

pub puts_nothing : (text : List ℕ) (known : Option (List ℕ)) → Puts [] text text known known
puts_nothing text known = record { written = []; appended = appends_nothing known; same = append-nil text }

pub loses_all : (reported text : List ℕ) (known : Option (List ℕ)) → PutsSome reported text [] known known
loses_all reported text known = record { written = []; lost = text ++ reported; appended = appends_nothing known; same = refl }

pub loses_reported : (reported text : List ℕ) (known : Option (List ℕ)) → PutsSome reported text text known known
loses_reported reported text known = record { written = []; lost = reported; appended = appends_nothing known; same = refl }

-- ---- by one
pub all_written : (text : List ℕ) (old new : Option (List ℕ)) → Appends old new text → Puts [] text [] old new
all_written text old new appended = record { written = text; appended = appended; same = refl }

pub part_written : (text : List ℕ) (old new : Option (List ℕ)) → AppendsPart old new text → PutsSome [] text [] old new
part_written text old new part = record {
  written = take part.0 text;
  lost = drop part.0 text;
  appended = part.1;
  same =
      append-nil text ∙ sym (take-append-drop part.0 text)
      ∙ ap (λ (s : List ℕ). s ++ drop part.0 text) (sym (append-nil (take part.0 text)));
}

-- ---- at the end, where nothing waited before the first
module _ (reported text : List ℕ) (old middle new : Option (List ℕ)) where
  pub ends_whole : Puts reported [] text old middle → Appends middle new text → Appends old new reported
  ends_whole puts appended = rw puts.same (write_more old middle new puts.written text puts.appended appended)

  pub ends_in_part : Puts reported [] text old middle → AppendsPart middle new text → AppendsPart old new reported
  ends_in_part puts part =
      begins_with reported (puts.written ++ take part.0 text) (drop part.0 text) old new
      (puts.same ∙ ap (λ (s : List ℕ). puts.written ++ s) (sym (take-append-drop part.0 text)) ∙ sym (append_assoc puts.written (take part.0 text) (drop part.0 text)))
      (write_more old middle new puts.written (take part.0 text) puts.appended part.1)

  pub some_ends_whole : PutsSome reported [] text old middle → Appends middle new text → AppendsPart old new reported
  some_ends_whole puts appended =
      begins_with reported (puts.written ++ text) puts.lost old new puts.same (write_more old middle new puts.written text puts.appended appended)

  pub some_ends_in_part : PutsSome reported [] text old middle → AppendsPart middle new text → AppendsPart old new reported
  some_ends_in_part puts part =
      begins_with reported (puts.written ++ take part.0 text) (drop part.0 text ++ puts.lost) old new
      (puts.same
      ∙ append_assoc puts.written text puts.lost
      ∙ ap (λ (s : List ℕ). puts.written ++ (s ++ puts.lost)) (sym (take-append-drop part.0 text))
      ∙ ap (λ (s : List ℕ). puts.written ++ s) (append_assoc (take part.0 text) (drop part.0 text) puts.lost)
      ∙ sym (append_assoc puts.written (take part.0 text) (drop part.0 text ++ puts.lost)))
      (write_more old middle new puts.written (take part.0 text) puts.appended part.1)
