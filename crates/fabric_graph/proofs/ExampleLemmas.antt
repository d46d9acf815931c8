-- Which pictures are crowded, colours, and lists of adapters, computed.
use Rattle.std.proofs.Common.{refl}
use Rattle.std.specs.Fmt.{digits}
use Rattle.fabric_graph.specs.Examples.{ColoursAreRepeated, FewAdaptersMakeNoList, ManyCablesAreACrowd}
use Rattle.fabric_graph.specs.Lists.{is_first, make_list, members}
use Rattle.fabric_graph.specs.Partitions.{colour_words, fill}

pub colours_are_repeated : ColoursAreRepeated
unfolding colour_words digits fill
colours_are_repeated = record { first = refl; twelfth = refl; thirteenth = refl; of_three = refl }

pub few_adapters_make_no_list : FewAdaptersMakeNoList
unfolding is_first make_list members
few_adapters_make_no_list = record { of_three = refl; one_by_one = refl; of_four = refl; at_first = refl; at_others = refl }

pub many_cables_are_a_crowd : ManyCablesAreACrowd
many_cables_are_a_crowd = record { labelled = refl; crowded = refl }
