-- What wrong rules report of one switch whose tables and masks differ.
use Rattle.std.proofs.Common.{◌≡◌, ◌∙◌, refl, sym, Bool, true, false, List, [], ◌∷◌, Some, length, lit<, arith}
use Rattle.std.proofs.lemmas.Bool.{false≢true}
use Rattle.std.proofs.lemmas.Map.Keys.{IsDistinct-head}
use Rattle.std.specs.List.{Contains, IsDistinct}
use Rattle.fabric_parts.specs.declared.node_type.NodeType.TheVariants.{Switch}
use Rattle.partition_file.specs.declared.heading.Heading.{Heading}
use Rattle.subnet_model.specs.Configuration.{ConfigurationState}
use Rattle.subnet_model.specs.declared.subnet_port.SubnetPort.{SubnetPort}
use Rattle.cable_cuts.proofs.ChangeLemmas.{first_in, later_in, none_in, only_in}
use Rattle.cable_cuts.proofs.OnceLemmas.{one_alone}
use Rattle.cable_cuts.specs.Changes.{Tables}
use Rattle.cable_cuts.specs.Laws.{IsDifference, have_same_lid, same_entry, same_mask}
use Rattle.cable_cuts.specs.Masks.{Masks}
use Rattle.cable_cuts.specs.Whole.{end_port}
use Rattle.cable_cuts.specs.WrongRules.{CountedTwiceIsMore, EntriesTwiceAreMore, MasksTwiceAreMore, NoMasksAreLess}
use Rattle.cable_cuts.specs.declared.changes.Change.{Change}
use Rattle.cable_cuts.specs.declared.masks.MaskChange.{MaskChange}

-- a switch, and a partition with a group
abbrev a_switch : SubnetPort
a_switch = end_port 1 [] Switch 0

abbrev a_partition : Heading
a_partition = record { base = 1; name = []; group = Some (record { rate = 3; mtu = 4; service_level = 0; scope = 2; q_key = 1 }) }

abbrev one_switch : ConfigurationState
one_switch = record { ports = a_switch ∷ []; partitions = a_partition ∷ [] }

-- each entry, and each bit, becomes another
abbrev one : Tables
one guid lid = 1

abbrev other : Tables
other guid lid = 2

abbrev set : Masks
set number heading guid port = true

abbrev clear : Masks
clear number heading guid port = false

abbrev the_mask : MaskChange
the_mask = record { switch = 1; partition = 0 }

pub no_masks_are_less : NoMasksAreLess
no_masks_are_less law = none_in the_mask ((law one_switch set clear the_mask).1 (record {
  switch = a_switch;
  switch_listed = first_in a_switch [];
  is_switch = refl;
  number = 0;
  heading = a_partition;
  partition = refl;
  group = refl;
  port = 0;
  port_low = lit< tt;
  differ = λ same. false≢true (sym same);
  change_is = refl;
}))

-- a list that begins with the same twice
pub never_twice : {X : Type 0} (same : X → X → Bool) (x : X) (rest : List X) → same x x ≡ true → IsDistinct same (x ∷ x ∷ rest) → ⊥
never_twice same x rest is once = false≢true (sym (IsDistinct-head same x (x ∷ rest) once).0 ∙ is)

pub entries_twice_are_more : EntriesTwiceAreMore
entries_twice_are_more law =
    never_twice same_entry (record { switch = 1; lid = 1; was = 1; becomes = 2 }) [] refl (law (a_switch ∷ []) one other (one_alone have_same_lid a_switch))

pub masks_twice_are_more : MasksTwiceAreMore
masks_twice_are_more law = never_twice same_mask the_mask [] refl (law one_switch set clear (one_alone have_same_lid a_switch))

-- ---- entries that are counted twice
abbrev the_change : Change
the_change = record { switch = 1; lid = 1; was = 1; becomes = 2 }

only_change : (change : Change) → IsDifference (a_switch ∷ []) one other change → change ≡ the_change
only_change change is =
    let switch : is.switch ≡ a_switch = only_in a_switch is.switch is.switch_listed in
    let port : is.port ≡ a_switch = only_in a_switch is.port is.port_listed in
    is.change_is ∙ (λ i. record { switch = (switch i).lid; lid = (port i).lid; was = 1; becomes = 2 })

not_two : (all : List Change) → IsDistinct same_entry all → ((change : Change) → Contains all change → change ≡ the_change) → 2 ≡ length all → ⊥
not_two [] once alike two = omega (arith, two)
not_two (a ∷ []) once alike two = omega (arith, two)
not_two (a ∷ b ∷ rest) once alike two =
    let first : a ≡ the_change = alike a (first_in a (b ∷ rest)) in
    let second : b ≡ the_change = alike b (later_in a (b ∷ rest) b (first_in b rest)) in
    let apart : same_entry a b ≡ false = (IsDistinct-head same_entry a (b ∷ rest) once).0 in
    false≢true (sym apart ∙ (λ i. same_entry (first i) (second i)))

pub counted_twice_is_more : CountedTwiceIsMore
counted_twice_is_more law =
    let numbers = law one_switch one other set clear (one_alone have_same_lid a_switch) in
    not_two numbers.all numbers.once (λ change there. only_change change ((numbers.each change).0 there)) numbers.entries_are
