-- What the words of the clauses rule out: the statements of the laws of `src/laws.rt`.
use Rattle.std.specs.Prelude.{ℕ, ◌<◌, ◌==◌, Bool, true, false, List, [], ◌∷◌, codes, length, Option, None, Some, Result, Ok, Err}
use Rattle.step_results.specs.AtLine.{AtLine}
use Rattle.step_results.specs.declared.text_fault.TextFault.{TextFault}
use Rattle.step_results.specs.declared.text_fault.TextFault.TheVariants as text
use Rattle.text_streams.specs.declared.reading.TheConstants.{READS}
use Rattle.text_streams.specs.Reading.{AreInTime, IsEndless, IsInTime}
use Rattle.text_streams.specs.ReadingByLines.{IsMadeOf}
use Rattle.text_streams.specs.Writing.{AppendsPart, TakesSome, Writes}

-- a text of fewer bytes than there are reads is not endless
abbrev pub ShortTextsEnd : Type 0
ShortTextsEnd = (bytes : List ℕ) → length bytes < READS → IsEndless (Some bytes) → ⊥

-- if another byte was written, or one too many, that is no part of a text; and a write of nothing takes none
pub record OthersAreNoPart : Type 0 where
  pub another : AppendsPart (Some []) (Some (codes "b")) (codes "a") → ⊥
  pub twice : AppendsPart (Some []) (Some (codes "aa")) (codes "a") → ⊥
  pub lost : AppendsPart (Some (codes "a")) (Some []) (codes "a") → ⊥
  pub nothing : TakesSome {E = ℕ} (Ok 0) (codes "a") → ⊥
  -- half a line, if nothing is refused, or another one
  pub half : Writes true (Some []) (Some (codes "a")) (codes "ab") → ⊥
  pub other : Writes false (Some []) (Some (codes "b")) (codes "a") → ⊥

-- of two bytes one was read, and each is reported as it is: then neither nothing is in time, nor both
pub record LateReportsAreNotInTime : Type 0 where
  pub late : IsInTime (λ read. read) (Some (codes "ab")) (Some []) (record { left = Some (codes "b"); written = Some [] }) → ⊥
  pub early : IsInTime (λ read. read) (Some (codes "ab")) (Some []) (record { left = Some (codes "b"); written = Some (codes "ab") }) → ⊥
  pub unread : IsInTime (λ read. read) (Some (codes "ab")) (Some []) (record { left = None; written = Some [] }) → ⊥
  -- nor if it is the one read that was noted
  pub noted : AreInTime (λ read. read) (Some (codes "ab")) (Some []) (Some []) (Some (record { left = Some (codes "b"); written = Some [] } ∷ [])) → ⊥

-- ---- what is made of the lines of one byte, by a definition that says whether it is one, and by one that refuses its first line
abbrev pub is_one : List ℕ → Result Bool (AtLine Bool)
is_one text = Ok (length text == 1)

abbrev pub refused : List ℕ → Result Bool (AtLine Bool)
refused text = Err (record { line = 1; cause = true })

abbrev pub IsMadeOfOne : Result (Option Bool) (TextFault Bool) → (List ℕ → Result Bool (AtLine Bool)) → Type 0
IsMadeOfOne made definition = IsMadeOf (λ value. value) made (Some (codes "a")) definition

-- no other value is, and none of what is refused; no fault of what is not, and no other one
pub record OthersAreNotMade : Type 0 where
  pub value : IsMadeOfOne (Ok (Some false)) is_one → ⊥
  pub of_refused : IsMadeOfOne (Ok (Some true)) refused → ⊥
  pub fault : IsMadeOfOne (Err (text.At 1 true)) is_one → ⊥
  pub other_cause : IsMadeOfOne (Err (text.At 1 false)) refused → ⊥
  pub other_line : IsMadeOfOne (Err (text.At 2 true)) refused → ⊥
