-- The masks that are counted are those in which some port has different bits.
use Rattle.std.proofs.Common.{ℕ, zero, suc, ◌+◌, ◌<◌, ◌≤◌, ◌≡◌, ◌≢◌, ◌∙◌, ◌&&◌, ◌||◌, refl, sym, ap, subst, Bool, true, false, if◌then◌else◌, List, [], ◌∷◌, Some, is_some, slice_get, arith}
use Rattle.std.specs.List.{Contains, enumerate_from, flat_map, list_any, range_with_len}
use Rattle.std.proofs.lemmas.Bool.{and_from, and_parts, false≢true}
use Rattle.std.proofs.lemmas.Option.{none-some, same_Some}
use Rattle.fabric_parts.specs.NodeType.{is_switch_type}
use Rattle.partition_file.specs.declared.heading.Heading.{Heading}
use Rattle.subnet_model.specs.Configuration.{ConfigurationState}
use Rattle.subnet_model.specs.declared.subnet_port.SubnetPort.{SubnetPort}
use Rattle.cable_cuts.proofs.ChangeLemmas.{IsGiven, first_in, given, gives_all, later_in, none_in, only_in}
use Rattle.cable_cuts.specs.Laws.{IsMaskDifference, MaskChangesAreWhatDiffers}
use Rattle.cable_cuts.specs.Masks.{Masks, differs, is_other, mask_change_at, mask_changes, mask_changes_at}
use Rattle.cable_cuts.specs.declared.masks.MaskChange.{MaskChange}

-- ---- numbers that pass a test
record IsSome (test : ℕ → Bool) (first count : ℕ) : Type 0 where
  number : ℕ
  high : number < first + count
  passes : test number ≡ true

some_of : (test : ℕ → Bool) (first count : ℕ) → list_any test (range_with_len first count) ≡ true → IsSome test first count
some_of test first zero is = absurd (false≢true is)
some_of test first (suc count) is = by (test first) refl is (some_of test (first + 1) count)
  where
    by : (b : Bool) → test first ≡ b → (b || list_any test (range_with_len (first + 1) count)) ≡ true
        → (list_any test (range_with_len (first + 1) count) ≡ true → IsSome test (first + 1) count) → IsSome test first (suc count)
    by true here is later = record { number = first; high = omega arith; passes = here }
    by false other is later =
        let rest = later is in
        let high = rest.high in
        record { number = rest.number; high = omega (arith, high); passes = rest.passes }

of_some : (test : ℕ → Bool) (first count number : ℕ) → first ≤ number → number < first + count → test number ≡ true
    → list_any test (range_with_len first count) ≡ true
of_some test first zero number low high is = absurd (omega (arith, low, high))
of_some test first (suc count) number low high is = by (test first) refl (of_some test (first + 1) count number)
  where
    by : (b : Bool) → test first ≡ b
        → (first + 1 ≤ number → number < first + 1 + count → test number ≡ true → list_any test (range_with_len (first + 1) count) ≡ true)
        → (b || list_any test (range_with_len (first + 1) count)) ≡ true
    by true here later = refl
    by false other later =
        let apart : first ≢ number = λ same. false≢true (sym other ∙ ap test same ∙ is) in
        later (omega (arith, low, apart)) (omega (arith, high)) is

other_bits : (a b : Bool) → is_other a b ≡ true → a ≢ b
other_bits true true is = absurd (false≢true is)
other_bits true false is = λ same. false≢true (sym same)
other_bits false true is = λ same. false≢true same
other_bits false false is = absurd (false≢true is)

bits_other : (a b : Bool) → a ≢ b → is_other a b ≡ true
bits_other true true differ = absurd (differ refl)
bits_other true false differ = refl
bits_other false true differ = refl
bits_other false false differ = absurd (differ refl)

-- ---- partitions with their numbers
record IsNumbered {X : Type 0} (first : ℕ) (xs : List X) (number : ℕ) (x : X) : Type 0 where
  place : ℕ
  number_is : number ≡ first + place
  there : slice_get xs place ≡ Some x

numbered : {X : Type 0} (first : ℕ) (xs : List X) (number : ℕ) (x : X) → Contains (enumerate_from first xs) (number, x) → IsNumbered first xs number x
numbered first [] number x there = absurd (none_in (number, x) there)
numbered first (y ∷ xs) number x (zero, less, same) =
    let moved : first ≡ number = ap (λ p. p.0) same in
    let one : y ≡ x = ap (λ p. p.1) same in
    record { place = 0; number_is = sym moved ∙ omega arith; there = ap (λ z. Some z) one }
numbered first (y ∷ xs) number x (suc k, less, same) =
    let rest = numbered (first + 1) xs number x (k, omega (arith, less), same) in
    record { place = suc rest.place; number_is = rest.number_is ∙ omega arith; there = rest.there }

listed_at : {X : Type 0} (first : ℕ) (xs : List X) (k number : ℕ) (x : X) → number ≡ first + k → slice_get xs k ≡ Some x
    → Contains (enumerate_from first xs) (number, x)
listed_at first [] k number x number_is there = absurd (none-some x there)
listed_at first (y ∷ xs) zero number x number_is there =
    let moved : first ≡ number = omega (arith, number_is) in
    let one : y ≡ x = same_Some y x there in
    subst (λ p. Contains ((first, y) ∷ enumerate_from (first + 1) xs) p) (λ i. (moved i, one i)) (first_in (first, y) (enumerate_from (first + 1) xs))
listed_at first (y ∷ xs) (suc k) number x number_is there =
    later_in (first, y) (enumerate_from (first + 1) xs) (number, x) (listed_at (first + 1) xs k number x (omega (arith, number_is)) there)

-- ---- masks
module _ (configuration : ConfigurationState) (one other : Masks) where
  abbrev reported : SubnetPort → ℕ → MaskChange
  reported switch number = record { switch = switch.lid; partition = number }

  abbrev bit_differs : SubnetPort → ℕ → Heading → ℕ → Bool
  bit_differs switch number heading port = is_other (one number heading switch.guid port) (other number heading switch.guid port)

  module _ (change : MaskChange) where
    abbrev Is : Type 0
    Is = IsMaskDifference configuration one other change

    at_partition : (switch : SubnetPort) → Contains configuration.ports switch → is_switch_type switch.node_type ≡ true
        → (number : ℕ) (heading : Heading) → slice_get configuration.partitions number ≡ Some heading
        → Contains (mask_change_at one other switch (number, heading)) change → Is
    at_partition switch listed is number heading partition there = by (is_some heading.group && differs one other number heading switch.guid) refl there
      where
        by : (b : Bool) → (is_some heading.group && differs one other number heading switch.guid) ≡ b
            → Contains (if b then reported switch number ∷ [] else []) change → Is
        by false alike there = absurd (none_in change there)
        by true both there =
            let parts = and_parts (is_some heading.group) (differs one other number heading switch.guid) both in
            let some = some_of (bit_differs switch number heading) 0 48 parts.1 in
            let high = some.high in record {
              switch = switch;
              switch_listed = listed;
              is_switch = is;
              number = number;
              heading = heading;
              partition = partition;
              group = parts.0;
              port = some.number;
              port_low = omega (arith, high);
              differ = other_bits (one number heading switch.guid some.number) (other number heading switch.guid some.number) some.passes;
              change_is = only_in (reported switch number) change there;
            }

    at_number : (switch : SubnetPort) → Contains configuration.ports switch → is_switch_type switch.node_type ≡ true
        → (p : ℕ × Heading) → Contains (enumerate_from 0 configuration.partitions) p → Contains (mask_change_at one other switch p) change → Is
    at_number switch listed is (number, heading) there gives =
        let at = numbered 0 configuration.partitions number heading there in
        let number_is = at.number_is in
        let moved : at.place ≡ number = omega (arith, number_is) in
        at_partition switch listed is number heading (subst (λ (n : ℕ). slice_get configuration.partitions n ≡ Some heading) moved at.there) gives

    at_switch : IsGiven (mask_changes_at configuration.partitions one other) configuration.ports change → Is
    at_switch gave = by (is_switch_type gave.one.node_type) refl gave.gives
      where
        by : (b : Bool) → is_switch_type gave.one.node_type ≡ b
            → Contains (if b then flat_map (mask_change_at one other gave.one) (enumerate_from 0 configuration.partitions) else []) change → Is
        by true is there =
            let at = given (mask_change_at one other gave.one) (enumerate_from 0 configuration.partitions) change there in
            at_number gave.one gave.listed is at.one at.listed at.gives
        by false is there = absurd (none_in change there)

    found : Contains (mask_changes configuration one other) change → Is
    found there = at_switch (given (mask_changes_at configuration.partitions one other) configuration.ports change there)

    reported_all : Is → Contains (mask_changes configuration one other) change
    reported_all is =
        let what = reported is.switch is.number in
        let some : differs one other is.number is.heading is.switch.guid ≡ true =
        of_some (bit_differs is.switch is.number is.heading) 0 48 is.port (omega arith) is.port_low
        (bits_other (one is.number is.heading is.switch.guid is.port) (other is.number is.heading is.switch.guid is.port) is.differ) in
        let both = and_from (is_some is.heading.group) (differs one other is.number is.heading is.switch.guid) is.group some in
        let at_one : Contains (mask_change_at one other is.switch (is.number, is.heading)) what = rw both (first_in what []) in
        let at_all : Contains (flat_map (mask_change_at one other is.switch) (enumerate_from 0 configuration.partitions)) what =
        gives_all (mask_change_at one other is.switch) (enumerate_from 0 configuration.partitions) (is.number, is.heading) what
        (listed_at 0 configuration.partitions is.number is.number is.heading (omega arith) is.partition) at_one in
        subst (Contains (mask_changes configuration one other)) (sym is.change_is)
        (gives_all (mask_changes_at configuration.partitions one other) configuration.ports is.switch what is.switch_listed (rw is.is_switch at_all))

pub mask_changes_are_what_differs : MaskChangesAreWhatDiffers
mask_changes_are_what_differs configuration one other change = (found configuration one other change, reported_all configuration one other change)
