-- What stays so with one more row or table, and so of all tables that were read.
use Rattle.std.proofs.Common.{◌≡◌, ◌∙◌, ap, refl, subst, sym, ℕ, ◌+◌, ◌-◌, true, nat_le, nat_lt, List, [], ◌∷◌, ◌++◌, length, slice_get}
use Rattle.std.proofs.Common.{◌==◌, Option, Some, None, arith}
use Rattle.std.specs.Option.{option_map_or}
use Rattle.std.proofs.lemmas.Bool.{and_from, and_parts, false≢true}
use Rattle.std.proofs.lemmas.Bool.Decides.{nat_tests}
use Rattle.std.proofs.lemmas.Cmp.{nat_eq_equiv, on_equiv}
use Rattle.std.proofs.lemmas.Map.Keys.{IsDistinct-push}
use Rattle.step_results.proofs.ListLemmas.{IsDistinct-nil, list_all_push}
use Rattle.step_results.proofs.PlaceLemmas.{not_there}
use Rattle.mft_file.specs.declared.heading.Heading.{Heading}
use Rattle.mft_file.specs.declared.row.MaskRow.{MaskRow}
use Rattle.mft_file.specs.declared.stage.MftStage.TheVariants.{Between}
use Rattle.mft_file.specs.declared.table.MaskTable.{MaskTable}
use Rattle.mft_file.specs.Mfts.{DraftState, broken_off, heading_of, nothing, with_rows}
use Rattle.mft_file.specs.Row.{is_above, may_follow}
use Rattle.mft_file.specs.Sound.{IsOpen, IsSoundSoFar, StandUnder, is_rising, may_take, rise, shares_switch}
use Rattle.mft_file.specs.Table.{table_of}

pub no_masks_sound : IsSoundSoFar nothing
no_masks_sound = record { tables = record { own_switches = IsDistinct-nil shares_switch; rising = refl }; open_rows = refl }

-- ---- MLIDs rise
rise_on : (low : ℕ) (row first : MaskRow) (rest : List MaskRow) → option_map_or (λ last. nat_lt last.mlid row.mlid) (slice_get (first ∷ rest) (length rest)) true ≡ true
    → nat_le row.mlid 65534 ≡ true → rise low (first ∷ rest) ≡ true → rise low (first ∷ (rest ++ row ∷ [])) ≡ true
rise_on low row first [] above within rises =
    let outer = and_parts (nat_le low first.mlid) _ rises in
    let inner = and_parts (nat_le first.mlid 65534) _ outer.1 in
    let next : nat_le (first.mlid + 1) row.mlid ≡ true = grind (arith, nat_tests, above) in
    and_from (nat_le low first.mlid) _ outer.0 (and_from (nat_le first.mlid 65534) _ inner.0
    (and_from (nat_le (first.mlid + 1) row.mlid) _ next (and_from (nat_le row.mlid 65534) _ within refl)))
rise_on low row first (second ∷ rest) above within rises =
    let outer = and_parts (nat_le low first.mlid) _ rises in
    let inner = and_parts (nat_le first.mlid 65534) _ outer.1 in
    and_from (nat_le low first.mlid) _ outer.0 (and_from (nat_le first.mlid 65534) _ inner.0
    (rise_on (first.mlid + 1) row second rest above within inner.1))

mask_rises : (top : ℕ) (row : MaskRow) (rows : List MaskRow) → may_follow top rows row.mlid ≡ true → rise 49152 rows ≡ true → rise 49152 (rows ++ row ∷ []) ≡ true
mask_rises top row [] follows rises =
    let parts = and_parts (is_above [] row.mlid) _ follows in
    let low = and_parts (nat_le 49152 row.mlid) _ parts.1 in
    let high = and_parts (nat_le row.mlid 65534) _ low.1 in
    and_from (nat_le 49152 row.mlid) _ low.0 (and_from (nat_le row.mlid 65534) _ high.0 refl)
mask_rises top row (first ∷ rest) follows rises =
    let parts = and_parts (is_above (first ∷ rest) row.mlid) _ follows in
    let low = and_parts (nat_le 49152 row.mlid) _ parts.1 in
    let high = and_parts (nat_le row.mlid 65534) _ low.1 in
    let last : length (first ∷ rest) - 1 ≡ length rest = omega arith in
    let above = sym (ap (λ i. option_map_or (λ r. nat_lt r.mlid row.mlid) (slice_get (first ∷ rest) i) true) last) ∙ parts.0 in
    rise_on 49152 row first rest above high.0 rises

-- ---- one more row
mask_opens : (heading : Option Heading) (tables : List MaskTable) (rows : List MaskRow) (row : MaskRow) → may_take heading rows row ≡ true
    → StandUnder heading tables rows → StandUnder heading tables (rows ++ row ∷ [])
mask_opens (Some heading) tables rows row takes stand = record { new = stand.new; rising = mask_rises heading.top row rows takes stand.rising }
mask_opens None tables rows row takes stand = absurd (false≢true takes)

pub sound_with_mask : (so_far : DraftState) (row : MaskRow) → IsSoundSoFar so_far → may_take (heading_of so_far.stage) so_far.rows row ≡ true
    → IsSoundSoFar (with_rows so_far (so_far.rows ++ row ∷ []))
sound_with_mask so_far row sound takes = record {
  tables = sound.tables;
  open_rows = mask_opens (heading_of so_far.stage) so_far.tables so_far.rows row takes sound.open_rows;
}

-- ---- one more table
pub sound_with_masks : (so_far : DraftState) (heading : Heading) → IsSoundSoFar so_far → heading_of so_far.stage ≡ Some heading
    → IsSoundSoFar (record { tables = so_far.tables ++ table_of heading so_far.rows ∷ []; stage = Between; rows = [] })
sound_with_masks so_far heading sound under =
    let stand : IsOpen so_far.tables heading so_far.rows = subst (λ h. StandUnder h so_far.tables so_far.rows) under sound.open_rows in
    record {
      tables = record {
        own_switches = IsDistinct-push (on_equiv (λ (table : MaskTable). table.guid) nat_eq_equiv) so_far.tables (table_of heading so_far.rows)
            sound.tables.own_switches (not_there (λ table. heading.guid == table.guid) so_far.tables stand.new);
        rising = list_all_push is_rising so_far.tables (table_of heading so_far.rows) sound.tables.rising stand.rising;
      };
      open_rows = refl;
    }
