-- Whose LIDs are by wrong rules.
use Rattle.std.proofs.Common.{◌≡◌, ◌==◌, ◌<◌, inl, inr, ℕ, Bool, false, Option, Some, None, ap, lit<, refl, sym}
use Rattle.std.specs.Option.{option_map_or}
use Rattle.std.proofs.lemmas.Bool.{cases_Bool, false≢true}
use Rattle.dump_file.specs.Row.{end_of}
use Rattle.dump_file.specs.Table.{rows_of}
use Rattle.audit_net.specs.OwnerWrongRules.{OldLidsDoNotCount, ReportedLidsCount, ReportsComeLast, one_reports, two_say}

-- ---- whose LIDs are
abbrev is_257 : Option ℕ → Bool
is_257 o = option_map_or (λ n. n == 257) o false

pub reports_come_last : ReportsComeLast
reports_come_last law = false≢true (ap is_257 (law.said two_say 1 257 refl))

pub old_lids_do_not_count : OldLidsDoNotCount
old_lids_do_not_count law = elim (law.free two_say 2 257 refl) [
  | inl said ↦ let none : None ≡ Some 257 = said in cc
  | inr free ↦ free.2 1 (lit< tt) refl
]

pub reported_lids_count : ReportedLidsCount
reported_lids_count law = false≢true (law.some one_reports 3 513 (refl, refl, one_has_no_row))
  where
    one_has_no_row : (other : ℕ) → other < 65536 → end_of other (rows_of one_reports.dump.tables) ≡ Some 513 → ⊥
    one_has_no_row other below is = elim (cases_Bool (1 == other)) [
      | inl here ↦ let said : Some 257 ≡ Some 513 = rw here at is in false≢true (sym (ap is_257 said))
      | inr apart ↦ let none : None ≡ Some 513 = rw apart at is in cc
    ]
