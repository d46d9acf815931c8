-- Masks that agree for the partitions of a configuration and the ports of a switch have the same changes.
use Rattle.std.proofs.Common.{ℕ, suc, zero, ◌+◌, ◌<◌, ◌≡◌, ◌&&◌, ◌||◌, refl, subst, sym, Bool, if◌then◌else◌, List, [], ◌∷◌, ◌++◌, slice_get, Some, arith}
use Rattle.std.proofs.Math.Nat.{zero-add}
use Rattle.std.specs.List.{enumerate_from, flat_map, list_any, range_with_len}
use Rattle.std.specs.Option.{is_some}
use Rattle.fabric_parts.specs.NodeType.{is_switch_type}
use Rattle.partition_file.specs.declared.heading.Heading.{Heading}
use Rattle.subnet_model.specs.Configuration.{ConfigurationState}
use Rattle.subnet_model.specs.declared.subnet_port.SubnetPort.{SubnetPort}
use Rattle.cable_cuts.specs.Masks.{Masks, differs, is_other, mask_change_at, mask_changes, mask_changes_at}

any_same : (p q : ℕ → Bool) (a n : ℕ) → ((k : ℕ) → k < a + n → p k ≡ q k) → list_any p (range_with_len a n) ≡ list_any q (range_with_len a n)
any_same p q a zero same = refl
any_same p q a (suc n) same =
    let here = same a (omega arith) in
    let rest = any_same p q (a + 1) n (λ k low. same k (omega (arith, low))) in
    λ i. here i || rest i

each_same : {X Y : Type 0} (f g : ℕ × X → List Y) (first : ℕ) (xs : List X) → ((k : ℕ) (x : X) → slice_get xs k ≡ Some x → f (first + k, x) ≡ g (first + k, x))
    → flat_map f (enumerate_from first xs) ≡ flat_map g (enumerate_from first xs)
each_same f g first [] same = refl
each_same f g first (x ∷ xs) same =
    let none : first + 0 ≡ first = omega arith in
    let here : f (first, x) ≡ g (first, x) = subst (λ (n : ℕ). f (n, x) ≡ g (n, x)) none (same 0 x refl) in
    let rest = each_same f g (first + 1) xs
    (λ k y there.
    let moved : first + suc k ≡ first + 1 + k = omega arith in
    subst (λ (n : ℕ). f (n, y) ≡ g (n, y)) moved (same (suc k) y there)) in
    λ i. here i ++ rest i

module _ (configuration : ConfigurationState) (one two three four : Masks)
    (first : (number : ℕ) (heading : Heading) (guid port : ℕ) → slice_get configuration.partitions number ≡ Some heading → port < 48
    → one number heading guid port ≡ three number heading guid port)
    (second : (number : ℕ) (heading : Heading) (guid port : ℕ) → slice_get configuration.partitions number ≡ Some heading → port < 48
    → two number heading guid port ≡ four number heading guid port) where
  change_same : (switch : SubnetPort) (number : ℕ) (heading : Heading) → slice_get configuration.partitions number ≡ Some heading
      → mask_change_at one two switch (number, heading) ≡ mask_change_at three four switch (number, heading)
  change_same switch number heading there =
      let same : differs one two number heading switch.guid ≡ differs three four number heading switch.guid =
      any_same (λ port. is_other (one number heading switch.guid port) (two number heading switch.guid port))
      (λ port. is_other (three number heading switch.guid port) (four number heading switch.guid port)) 0 48
      (λ port below.
      let few : port < 48 = omega (arith, below) in
      λ i. is_other (first number heading switch.guid port there few i) (second number heading switch.guid port there few i)) in
      λ i. if is_some heading.group && same i then record { switch = switch.lid; partition = number } ∷ [] else []

  at_switch : (switch : SubnetPort) → mask_changes_at configuration.partitions one two switch ≡ mask_changes_at configuration.partitions three four switch
  at_switch switch =
      let same = each_same (mask_change_at one two switch) (mask_change_at three four switch) 0 configuration.partitions
      (λ number heading there.
      subst (λ (n : ℕ). mask_change_at one two switch (n, heading) ≡ mask_change_at three four switch (n, heading)) (sym (zero-add number))
      (change_same switch number heading there)) in
      λ i. if is_switch_type switch.node_type then same i else []

  pub all_same : mask_changes configuration one two ≡ mask_changes configuration three four
  all_same = λ i. flat_map (λ switch. at_switch switch i) configuration.ports
