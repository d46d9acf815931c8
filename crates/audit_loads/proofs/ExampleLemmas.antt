-- What is printed, computed.
use Rattle.std.proofs.Common.{refl}
use Rattle.std.specs.Fmt.{digits}
use Rattle.audit_loads.specs.Examples.{FractionsAreRoundedDown, PortsSendToOthers, TextsAreSo}
use Rattle.audit_loads.specs.Text.{level_line, level_means, level_text, level_words, least_line, load_line, mean_line, most_line, pairs_line, text_by, text_of}

pub texts_are_so : TextsAreSo
unfolding level_line level_means level_text level_words digits least_line load_line mean_line most_line pairs_line text_by text_of
texts_are_so = record { even = refl; lost = refl; looped = refl; unknown = refl; shared = refl; apart = refl; small_mean = refl; great_mean = refl }

pub fractions_are_rounded_down : FractionsAreRoundedDown
fractions_are_rounded_down = record { mean = refl; ratio = refl; none = refl; least = refl }

pub ports_send_to_others : PortsSendToOthers
ports_send_to_others = record {
  of_one_host = refl;
  itself = refl;
  attached_hosts = refl;
  aggregation_node = refl;
  to_aggregation_node = refl;
  keys_that_stand_first = refl;
  of_no_key = refl;
}
