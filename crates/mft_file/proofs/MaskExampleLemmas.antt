-- The examples, computed.
use Rattle.std.proofs.Common.{refl, sym}
use Rattle.std.specs.List.{IsDistinct}
use Rattle.std.proofs.lemmas.Bool.{false≢true}
use Rattle.step_results.specs.AtLine.{after_lines}
use Rattle.mft_file.specs.Examples.{MasksAreRead, MftTextsAreRead, TitlesAreRead, UnsoundMasksAreReported}
use Rattle.mft_file.specs.Heading.{columns_in, guid_behind_way, heading_in}
use Rattle.mft_file.specs.Mfts.{after_line, count_reported, heading_reported, mfts_of, row_reported, whole}
use Rattle.mft_file.specs.Row.{mlid_of, row_in}

pub titles_are_read : TitlesAreRead
unfolding columns_in guid_behind_way heading_in
titles_are_read = record {
  by_path = refl;
  by_lid = refl;
  of_last_guid = refl;
  by_no_way = refl;
  without_end = refl;
  of_a_part = refl;
  of_4_ports = refl;
  of_11_ports = refl;
  of_255_ports = refl;
  of_256_ports = refl;
  tens = refl;
  of_wrong_digits = refl;
}

pub masks_are_read : MasksAreRead
unfolding count_reported mlid_of row_in
masks_are_read = record {
  of_three = refl;
  of_the_ends = refl;
  of_the_last = refl;
  of_none = refl;
  past_the_last = refl;
  before_the_first = refl;
  between = refl;
  no_cross = refl;
  of_five_digits = refl;
  next_follows = refl;
  top_follows = refl;
  last_follows = refl;
  same_does_not = refl;
  past_the_top_does_not = refl;
  a_lid_does_not = refl;
  the_permissive_lid_does_not = refl;
  counted = refl;
  miscounted = refl;
}

pub mft_texts_are_read : MftTextsAreRead
unfolding after_line after_lines columns_in count_reported guid_behind_way heading_in heading_reported mfts_of mlid_of row_in row_reported whole
mft_texts_are_read = record {
  whole = refl;
  of_12_ports = refl;
  within_an_lft = refl;
  of_an_lft = refl;
  unfinished_behind_one = refl;
  without_titles = refl;
  unfinished = refl;
  of_one_switch = refl;
  failed_between = refl;
  failed_within = refl;
  failed_at_titles = refl;
  failed_alone = refl;
  counted_behind_it = refl;
  twice = refl;
}

pub unsound_masks_are_reported : UnsoundMasksAreReported
unfolding IsDistinct
unsound_masks_are_reported = record {
  of_one_switch = λ distinct. false≢true (sym distinct.0.0);
  twice = refl;
  of_a_lid = refl;
  of_the_permissive_lid = refl;
}
