-- Reads that are in time, one after the other.
use Rattle.std.proofs.Common.{◌≡◌, ◌∙◌, ap, sym, append_assoc, append-nil, ℕ, List, [], ◌∷◌, ◌++◌, Option, Some, None}
use Rattle.std.proofs.lemmas.List.Elements.{All-nil, All-push}
use Rattle.text_streams.specs.Reading.{AreInTime, IsInTime, Moment, Notes}

notes_nothing : (known : Option (List Moment)) → Notes known known []
notes_nothing None = tt
notes_nothing (Some moments) = ap Some (sym (append-nil moments))

notes_more : (first before after : Option (List Moment)) (moments more : List Moment) → Notes first before moments → Notes before after more
    → Notes first after (moments ++ more)
notes_more None before after moments more one two = tt
notes_more (Some earlier) None after moments more one two = absurd cc
notes_more (Some earlier) (Some now) after moments more one two =
    let same : now ≡ earlier ++ moments = cc in
    two ∙ rw same (ap Some (append_assoc earlier moments more))

module _ (report : List ℕ → List ℕ) (text old : Option (List ℕ)) where
  pub nothing_in_time : (known : Option (List Moment)) → AreInTime report text old known known
  nothing_in_time known = record { moments = []; noted = notes_nothing known; in_time = All-nil (IsInTime report text old) }

  -- one read more
  pub more_in_time : (first before after : Option (List Moment)) (moment : Moment) → AreInTime report text old first before
      → Notes before after (moment ∷ []) → IsInTime report text old moment → AreInTime report text old first after
  more_in_time first before after moment so_far noted in_time = record {
    moments = so_far.moments ++ moment ∷ [];
    noted = notes_more first before after so_far.moments (moment ∷ []) so_far.noted noted;
    in_time = All-push (IsInTime report text old) so_far.moments moment so_far.in_time in_time;
  }
