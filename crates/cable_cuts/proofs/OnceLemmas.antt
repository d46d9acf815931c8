-- Each entry that differs is reported once, and so is each mask, where each end port has a LID of its own.
use Rattle.std.proofs.Common.{ℕ, ◌+◌, ◌<◌, ◌≡◌, ◌==◌, ◌&&◌, refl, sym, subst, Bool, true, false, if◌then◌else◌, List, [], ◌∷◌, ◌++◌, is_some, length, map, arith}
use Rattle.std.specs.List.{AllByRecursion, IsDistinct, enumerate_from, flat_map, range_with_len}
use Rattle.std.proofs.lemmas.Bool.{and_left, and_right, ne_eqb}
use Rattle.std.proofs.lemmas.Bool.Decides.{nat_tests}
use Rattle.std.proofs.lemmas.Map.Keys.{IsDistinct-cons, IsDistinct-head, IsDistinct-tail}
use Rattle.step_results.proofs.ListLemmas.{IsDistinct-nil}
use Rattle.step_results.proofs.ElementLemmas.{each_joined, each_weaker}
use Rattle.fabric_parts.specs.NodeType.{is_switch_type}
use Rattle.partition_file.specs.declared.heading.Heading.{Heading}
use Rattle.subnet_model.specs.declared.subnet_port.SubnetPort.{SubnetPort}
use Rattle.cable_cuts.proofs.ChangeLemmas.{changes_are_what_differs}
use Rattle.cable_cuts.proofs.MaskReportedLemmas.{mask_changes_are_what_differs}
use Rattle.cable_cuts.specs.Changes.{Tables, change_at, changes, changes_at}
use Rattle.cable_cuts.specs.Laws.{EntriesAreReportedOnce, LidsAreOwn, MasksAreReportedOnce, NumbersAreOfWhatDiffers, have_same_lid, same_entry, same_mask}
use Rattle.cable_cuts.specs.Masks.{Masks, differs, mask_change_at, mask_changes, mask_changes_at}
use Rattle.cable_cuts.specs.declared.changes.Change.{Change}
use Rattle.cable_cuts.specs.declared.masks.MaskChange.{MaskChange}

-- what is given by things of different keys, each of which gives no two that are the same, and all of its own key
module _ {X Y : Type 0} (same : Y → Y → Bool) (key : Y → ℕ) (of : X → ℕ) (f : X → List Y)
    (apart : (a b : Y) → (key a == key b) ≡ false → same a b ≡ false) (own : (x : X) → AllByRecursion (λ y. key y ≡ of x) (f x))
    (each : (x : X) → IsDistinct same (f x)) where
  -- no others have that key
  abbrev Other : ℕ → Y → Type 0
  Other n y = (n == key y) ≡ false

  others : (n : ℕ) (xs : List X) → AllByRecursion (λ x. (n == of x) ≡ false) xs → AllByRecursion (Other n) (flat_map f xs)
  others n [] all = tt
  others n (x ∷ xs) all =
      each_joined (Other n) (f x) (flat_map f xs)
      (each_weaker (λ y. key y ≡ of x) (Other n) (λ y is. subst (λ (k : ℕ). (n == k) ≡ false) (sym is) all.0) (f x) (own x)) (others n xs all.1)

  joined : (n : ℕ) (ys zs : List Y) → AllByRecursion (λ y. key y ≡ n) ys → IsDistinct same ys → AllByRecursion (Other n) zs → IsDistinct same zs
      → IsDistinct same (ys ++ zs)
  joined n [] zs are once other more = more
  joined n (y ∷ ys) zs are once other more =
      IsDistinct-cons same y (ys ++ zs)
      (each_joined (λ z. same y z ≡ false) ys zs (IsDistinct-head same y ys once)
      (each_weaker (Other n) (λ z. same y z ≡ false) (λ z is. apart y z (subst (λ (k : ℕ). (k == key z) ≡ false) (sym are.0) is)) zs other))
      (joined n ys zs are.1 (IsDistinct-tail same y ys once) other more)

  once_all : (xs : List X) → IsDistinct (λ a b. of a == of b) xs → IsDistinct same (flat_map f xs)
  once_all [] differ = IsDistinct-nil same
  once_all (x ∷ xs) differ =
      joined (of x) (f x) (flat_map f xs) (own x) (each x) (others (of x) xs (IsDistinct-head (λ a b. of a == of b) x xs differ))
      (once_all xs (IsDistinct-tail (λ a b. of a == of b) x xs differ))

-- ---- LIDs that count on
lids_behind : (lid first : ℕ) (ports : List SubnetPort) → lid < first → map (λ port. port.lid) ports ≡ range_with_len first (length ports)
    → AllByRecursion (λ port. (lid == port.lid) ≡ false) ports
lids_behind lid first [] low are = tt
lids_behind lid first (port ∷ ports) low are =
    let here : port.lid ≡ first = cc in
    (ne_eqb lid port.lid (λ same. absurd (omega arith)), lids_behind lid (first + 1) ports (omega arith) (cc))

lids_differ : (first : ℕ) (ports : List SubnetPort) → map (λ port. port.lid) ports ≡ range_with_len first (length ports)
    → IsDistinct have_same_lid ports
lids_differ first [] are = IsDistinct-nil have_same_lid
lids_differ first (port ∷ ports) are =
    let here : port.lid ≡ first = cc in
    IsDistinct-cons have_same_lid port ports (lids_behind port.lid (first + 1) ports (omega arith) (cc)) (lids_differ (first + 1) ports (cc))

pub lids_are_own : LidsAreOwn
lids_are_own ports are = lids_differ 1 ports are

pub one_alone : {Y : Type 0} (same : Y → Y → Bool) (y : Y) → IsDistinct same (y ∷ [])
one_alone same y = IsDistinct-cons same y [] tt (IsDistinct-nil same)

-- ---- entries
module _ (ports : List SubnetPort) (one other : Tables) where
  reported_one : (switch port : SubnetPort) → IsDistinct same_entry (change_at one other switch port)
  reported_one switch port = by (one switch.guid port.lid == other switch.guid port.lid)
    where
      by : (b : Bool) → IsDistinct same_entry (if b then [] else record { switch = switch.lid; lid = port.lid; was = one switch.guid port.lid; becomes = other switch.guid port.lid } ∷ [])
      by true = IsDistinct-nil same_entry
      by false = one_alone same_entry _

  own_one : (switch port : SubnetPort) → AllByRecursion (λ (change : Change). (change.switch ≡ switch.lid) × (change.lid ≡ port.lid)) (change_at one other switch port)
  own_one switch port = by (one switch.guid port.lid == other switch.guid port.lid)
    where
      by : (b : Bool) → AllByRecursion (λ (change : Change). (change.switch ≡ switch.lid) × (change.lid ≡ port.lid))
          (if b then [] else record { switch = switch.lid; lid = port.lid; was = one switch.guid port.lid; becomes = other switch.guid port.lid } ∷ [])
      by true = tt
      by false = ((refl, refl), tt)

  all_of_switch : (switch : SubnetPort) (some : List SubnetPort) → AllByRecursion (λ (change : Change). change.switch ≡ switch.lid) (flat_map (change_at one other switch) some)
  all_of_switch switch [] = tt
  all_of_switch switch (port ∷ some) =
      each_joined (λ (change : Change). change.switch ≡ switch.lid) (change_at one other switch port) (flat_map (change_at one other switch) some)
      (each_weaker (λ (change : Change). (change.switch ≡ switch.lid) × (change.lid ≡ port.lid)) (λ (change : Change). change.switch ≡ switch.lid) (λ change is. is.0) (change_at one other switch port) (own_one switch port))
      (all_of_switch switch some)

  at_switch : IsDistinct have_same_lid ports → (switch : SubnetPort) → IsDistinct same_entry (changes_at ports one other switch)
  at_switch lids switch = by (is_switch_type switch.node_type)
    where
      by : (b : Bool) → IsDistinct same_entry (if b then flat_map (change_at one other switch) ports else [])
      by true =
          once_all same_entry (λ (change : Change). change.lid) (λ port. port.lid) (change_at one other switch)
          (λ a b is. and_right (a.switch == b.switch) (a.lid == b.lid) is)
          (λ port. each_weaker (λ (change : Change). (change.switch ≡ switch.lid) × (change.lid ≡ port.lid)) (λ (change : Change). change.lid ≡ port.lid) (λ change is. is.1) (change_at one other switch port) (own_one switch port))
          (reported_one switch) ports lids
      by false = IsDistinct-nil same_entry

  of_switch : (switch : SubnetPort) → AllByRecursion (λ (change : Change). change.switch ≡ switch.lid) (changes_at ports one other switch)
  of_switch switch = by (is_switch_type switch.node_type)
    where
      by : (b : Bool) → AllByRecursion (λ (change : Change). change.switch ≡ switch.lid) (if b then flat_map (change_at one other switch) ports else [])
      by true = all_of_switch switch ports
      by false = tt

pub entries_are_reported_once : EntriesAreReportedOnce
entries_are_reported_once ports one other lids =
    once_all same_entry (λ (change : Change). change.switch) (λ port. port.lid) (changes_at ports one other)
    (λ a b is. and_left (a.switch == b.switch) (a.lid == b.lid) is) (of_switch ports one other) (at_switch ports one other lids) ports lids

-- ---- masks
module _ (partitions : List Heading) (one other : Masks) where
  mask_one : (switch : SubnetPort) (p : ℕ × Heading) → IsDistinct same_mask (mask_change_at one other switch p)
  mask_one switch (number, heading) = by (is_some heading.group && differs one other number heading switch.guid)
    where
      by : (b : Bool) → IsDistinct same_mask (if b then record { switch = switch.lid; partition = number } ∷ [] else [])
      by true = one_alone same_mask _
      by false = IsDistinct-nil same_mask

  own_mask : (switch : SubnetPort) (p : ℕ × Heading) → AllByRecursion (λ (change : MaskChange). (change.switch ≡ switch.lid) × (change.partition ≡ p.0)) (mask_change_at one other switch p)
  own_mask switch (number, heading) = by (is_some heading.group && differs one other number heading switch.guid)
    where
      by : (b : Bool) → AllByRecursion (λ (change : MaskChange). (change.switch ≡ switch.lid) × (change.partition ≡ number)) (if b then record { switch = switch.lid; partition = number } ∷ [] else [])
      by true = ((refl, refl), tt)
      by false = tt

  masks_of_switch : (switch : SubnetPort) (some : List (ℕ × Heading)) → AllByRecursion (λ (change : MaskChange). change.switch ≡ switch.lid) (flat_map (mask_change_at one other switch) some)
  masks_of_switch switch [] = tt
  masks_of_switch switch (p ∷ some) =
      each_joined (λ (change : MaskChange). change.switch ≡ switch.lid) (mask_change_at one other switch p) (flat_map (mask_change_at one other switch) some)
      (each_weaker (λ (change : MaskChange). (change.switch ≡ switch.lid) × (change.partition ≡ p.0)) (λ (change : MaskChange). change.switch ≡ switch.lid) (λ change is. is.0) (mask_change_at one other switch p) (own_mask switch p))
      (masks_of_switch switch some)

  -- numbers rise
  above : (n first : ℕ) (some : List Heading) → n < first → AllByRecursion (λ p. (n == p.0) ≡ false) (enumerate_from first some)
  above n first [] low = tt
  above n first (heading ∷ some) low = ((let differ : (n == first) ≡ false = grind (arith, nat_tests, low) in differ), above n (first + 1) some (omega (arith, low)))

  numbers_differ : (first : ℕ) (some : List Heading) → IsDistinct (λ a b. a.0 == b.0) (enumerate_from first some)
  numbers_differ first [] = IsDistinct-nil (λ a b. a.0 == b.0)
  numbers_differ first (heading ∷ some) =
      IsDistinct-cons (λ a b. a.0 == b.0) (first, heading) (enumerate_from (first + 1) some) (above first (first + 1) some (omega arith)) (numbers_differ (first + 1) some)

  masks_at : (switch : SubnetPort) → IsDistinct same_mask (mask_changes_at partitions one other switch)
  masks_at switch = by (is_switch_type switch.node_type)
    where
      by : (b : Bool) → IsDistinct same_mask (if b then flat_map (mask_change_at one other switch) (enumerate_from 0 partitions) else [])
      by true =
          once_all same_mask (λ (change : MaskChange). change.partition) (λ p. p.0) (mask_change_at one other switch)
          (λ a b is. and_right (a.switch == b.switch) (a.partition == b.partition) is)
          (λ p. each_weaker (λ (change : MaskChange). (change.switch ≡ switch.lid) × (change.partition ≡ p.0)) (λ (change : MaskChange). change.partition ≡ p.0) (λ change is. is.1) (mask_change_at one other switch p) (own_mask switch p))
          (mask_one switch) (enumerate_from 0 partitions) (numbers_differ 0 partitions)
      by false = IsDistinct-nil same_mask

  masks_of : (switch : SubnetPort) → AllByRecursion (λ (change : MaskChange). change.switch ≡ switch.lid) (mask_changes_at partitions one other switch)
  masks_of switch = by (is_switch_type switch.node_type)
    where
      by : (b : Bool) → AllByRecursion (λ (change : MaskChange). change.switch ≡ switch.lid) (if b then flat_map (mask_change_at one other switch) (enumerate_from 0 partitions) else [])
      by true = masks_of_switch switch (enumerate_from 0 partitions)
      by false = tt

pub masks_are_reported_once : MasksAreReportedOnce
masks_are_reported_once configuration one other lids =
    once_all same_mask (λ (change : MaskChange). change.switch) (λ port. port.lid) (mask_changes_at configuration.partitions one other)
    (λ a b is. and_left (a.switch == b.switch) (a.partition == b.partition) is) (masks_of configuration.partitions one other) (masks_at configuration.partitions one other)
    configuration.ports lids

-- ---- numbers
pub numbers_are_of_what_differs : NumbersAreOfWhatDiffers
numbers_are_of_what_differs configuration one other was becomes lids = record {
  all = changes configuration.ports one other;
  once = entries_are_reported_once configuration.ports one other lids;
  each = changes_are_what_differs configuration.ports one other;
  entries_are = refl;
  all_masks = mask_changes configuration was becomes;
  masks_once = masks_are_reported_once configuration was becomes lids;
  each_mask = mask_changes_are_what_differs configuration was becomes;
  masks_are = refl;
}
