-- What records and blocks encode fills an attribute.
use Rattle.std.proofs.Common.{◌≡◌, ℕ, ◌*◌, ◌^◌, ◌<◌, List, [], ◌∷◌, length, replicate, refl, ◌∙◌, ap, arith, length-append}
use Rattle.std.specs.Int.{bytes_high_first}
use Rattle.std.specs.Int.Digits.{AllBelowBase}
use Rattle.std.specs.List.{flat_map}
use Rattle.std.proofs.lemmas.List.{length-replicate}
use Rattle.byteorder.specs.Numbers.{length-bytes_high_first}
use Rattle.mad_layout.specs.Bits.{number}
use Rattle.mad_layout.specs.Layout.{Field, put_all}
use Rattle.mad_layout.proofs.LayoutLemmas.{length-put_all, encoded_below}
use Rattle.mad_layout.proofs.NumberLemmas.{below_append, below_bytes, number_below}
use Rattle.attr_tables.specs.declared.node_info.NodeInfo.{NodeInfo}
use Rattle.attr_tables.specs.declared.port_info.PortInfo.{PortInfo}
use Rattle.attr_tables.specs.declared.switch_info.SwitchInfo.{SwitchInfo}
use Rattle.attr_tables.specs.Attribute.{IsAttribute}
use Rattle.attr_tables.specs.Blocks.{word_bytes}
use Rattle.attr_tables.specs.Laws.{AttributesAreEncoded}
use Rattle.attr_tables.specs.NodeInfo.{node_info, node_info_bytes}
use Rattle.attr_tables.specs.PortInfo.{port_info, port_info_bytes}
use Rattle.attr_tables.specs.SwitchInfo.{switch_info, switch_info_bytes}

encoded : (ps : List Field) → IsAttribute (put_all (replicate 64 0) ps)
encoded ps =
    record {
      count = length-put_all (replicate 64 0) ps ∙ length-replicate {A = ℕ} 64 0;
      small = encoded_below ps 64;
    }

node_info_is : (info : NodeInfo) → IsAttribute (node_info_bytes info)
unfolding node_info_bytes
node_info_is info = encoded (node_info info)

port_info_is : (info : PortInfo) → IsAttribute (port_info_bytes info)
unfolding port_info_bytes
port_info_is info = encoded (port_info info)

switch_info_is : (info : SwitchInfo) → IsAttribute (switch_info_bytes info)
unfolding switch_info_bytes
switch_info_is info = encoded (switch_info info)

words_count : (words : List ℕ) → length (flat_map (bytes_high_first 2) words) ≡ 2 * length words
words_count [] = refl
words_count (word ∷ words) =
    let a = length-append (bytes_high_first 2 word) (flat_map (bytes_high_first 2) words) in
    let b = length-bytes_high_first 2 word in
    let c = words_count words in
    omega arith

words_small : (words : List ℕ) → AllBelowBase 256 (flat_map (bytes_high_first 2) words)
words_small [] = tt
words_small (word ∷ words) =
    below_append (bytes_high_first 2 word) (flat_map (bytes_high_first 2) words) (below_bytes 2 word) (words_small words)

words_are : (words : List ℕ) → length words ≡ 32 → IsAttribute (word_bytes words)
unfolding word_bytes
words_are words long = let c = words_count words in record { count = omega arith; small = words_small words }

pub attributes : AttributesAreEncoded
attributes = record { node_info = node_info_is; port_info = port_info_is; switch_info = switch_info_is; words = words_are }

pub attribute_fits : (bytes : List ℕ) → IsAttribute bytes → number bytes < 2 ^ 512
attribute_fits bytes is = rw (ap (λ (n : ℕ). 2 ^ (8 * n)) is.count) at (number_below bytes is.small)
