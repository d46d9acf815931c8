use Rattle.table_push.proofs.AllMaskLemmas.{mlid_ranges_make_all}
use Rattle.table_push.proofs.MaskLemmas.{mlid_ranges_are_their_own, mlid_ranges_make_the_whole}
use Rattle.table_push.proofs.laws.mlid_ranges_are_of_the_whole.Goals as goal

pub returns : goal.returns
returns c = record { own = mlid_ranges_are_their_own; whole = mlid_ranges_make_the_whole; all = mlid_ranges_make_all }
