-- What a reader has left, and when it was read.
use Rattle.std.specs.Prelude.{ℕ, ◌≡◌, ◌≤◌, ◌++◌, List, length, Option, Some, IfSome}
use Rattle.std.specs.Io.KnownBytes.{Appends, Consumes}
use Rattle.std.specs.List.{All}
use Rattle.text_streams.specs.declared.reading.TheConstants.{READS}

-- no end came within the reads that a text is given
abbrev pub IsEndless : Option (List ℕ) → Type 0
IsEndless known = IfSome known (λ bytes. READS ≤ length bytes)

-- ---- when it was read
-- before a read: what was left then, and what an output held
pub record Moment : Type 0 where
  pub left : Option (List ℕ)
  pub written : Option (List ℕ)

-- these moments were added to those so far, if they are known
abbrev pub Notes : (old new : Option (List Moment)) → List Moment → Type 0
Notes old new moments = IfSome old (λ before. new ≡ Some (before ++ moments))

-- before this read the output held the report of what was read until then
pub record IsInTime (report : List ℕ → List ℕ) (text old : Option (List ℕ)) (moment : Moment) : Type 0 where
  pub read : List ℕ
  pub consumed : Consumes text moment.left read
  pub reported : Appends old moment.written (report read)

-- and so it did before each read that was added
pub record AreInTime (report : List ℕ → List ℕ) (text old : Option (List ℕ)) (before after : Option (List Moment)) : Type 0 where
  pub moments : List Moment
  pub noted : Notes before after moments
  pub in_time : All (IsInTime report text old) moments
