-- What stays so with one more row, and so of all that was read.
use Rattle.std.proofs.Common.{◌≡◌, refl, true, [], ◌∷◌, ◌++◌, None}
use Rattle.step_results.proofs.ListLemmas.{IsDistinct-nil, list_all_push}
use Rattle.step_results.proofs.PlaceLemmas.{not_there}
use Rattle.std.specs.Cmp.{IsEquivalence}
use Rattle.std.proofs.lemmas.Cmp.{and_equiv, nat_eq_equiv, on_equiv}
use Rattle.std.proofs.lemmas.Map.Keys.{IsDistinct-push}
use Rattle.sl2vl_file.specs.declared.row.LaneRow.{LaneRow}
use Rattle.sl2vl_file.specs.Lanes.{DraftState, nothing}
use Rattle.sl2vl_file.specs.Rows.{is_row_of, place_of}
use Rattle.sl2vl_file.specs.Sound.{IsSoundSoFar, is_whole_row, shares_ports}

pub nothing_sound : IsSoundSoFar nothing
nothing_sound = record { own_ports = IsDistinct-nil shares_ports; whole_rows = refl; low_sls = refl; low_stage = refl }

-- ---- rows of one LID and the same ports
shares_equiv : IsEquivalence shares_ports
shares_equiv =
    and_equiv (on_equiv (λ (row : LaneRow). row.lid) nat_eq_equiv)
    (and_equiv (on_equiv (λ (row : LaneRow). row.input) nat_eq_equiv) (on_equiv (λ (row : LaneRow). row.output) nat_eq_equiv))

-- ---- one more row
pub sound_with_row : (so_far : DraftState) (row : LaneRow) → IsSoundSoFar so_far → place_of row.lid row.input row.output so_far.rows ≡ None
    → is_whole_row row ≡ true → IsSoundSoFar (record so_far { rows = so_far.rows ++ row ∷ [] })
sound_with_row so_far row sound new whole = record {
  own_ports = IsDistinct-push shares_equiv so_far.rows row sound.own_ports (not_there (is_row_of row.lid row.input row.output) so_far.rows new);
  whole_rows = list_all_push is_whole_row so_far.rows row sound.whole_rows whole;
  low_sls = sound.low_sls;
  low_stage = sound.low_stage;
}
