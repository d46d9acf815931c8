-- Ports that pass a test, and which of them there are.
use Rattle.std.proofs.Common.{ℕ, zero, suc, ◌≡◌, ◌<◌, ◌∙◌, ap, refl, sym, Bool, true, false, List, [], ◌∷◌, filter, find, length, map, slice_get, slice_index_or, Some, arith}
use Rattle.std.specs.List.{AllByRecursion, Contains}
use Rattle.std.specs.List.Sorted.{IsStrictlySortedBy}
use Rattle.std.specs.Ordering.{nat_cmp, on}
use Rattle.std.specs.declared.cmp.Ordering.TheVariants.{Less}
use Rattle.smp_wire.specs.Deliveries.{in_order}
use Rattle.smp_wire.specs.declared.numbers.Numbers.{Numbers}
use Rattle.std.proofs.lemmas.Option.{none-some, same_Some}
use Rattle.subnet_model.specs.declared.subnet_port.SubnetPort.{SubnetPort}

pub record IsAmong {X : Type 0} (p : X → Bool) (xs : List X) (x : X) : Type 0 where
  pub place : ℕ
  pub there : slice_get xs place ≡ Some x
  pub passes : p x ≡ true

further : {X : Type 0} (p : X → Bool) (xs : List X) (x y : X) → IsAmong p xs x → IsAmong p (y ∷ xs) x
further p xs x y among = record { place = suc among.place; there = among.there; passes = among.passes }

-- the first that passes
pub found_among : {X : Type 0} (p : X → Bool) (xs : List X) (x : X) → find p xs ≡ Some x → IsAmong p xs x
found_among p [] x is = absurd (none-some x is)
found_among {X = X} p (y ∷ xs) x is = by (p y) refl (λ later. found_among p xs x later)
  where
    by : (b : Bool) → p y ≡ b → (find p xs ≡ Some x → IsAmong p xs x) → IsAmong p (y ∷ xs) x
    by true passes later =
        let same : y ≡ x = same_Some y x (sym (rw passes refl) ∙ is) in
        record { place = 0; there = ap (λ (z : X). Some z) same; passes = ap p (sym same) ∙ passes }
    by false fails later = further p xs x y (later (sym (rw fails refl) ∙ is))

-- all that pass
pub kept_among : {X : Type 0} (p : X → Bool) (xs : List X) (k : ℕ) (x : X) → slice_get (filter p xs) k ≡ Some x → IsAmong p xs x
kept_among p [] k x there = absurd (none-some x there)
kept_among {X = X} p (y ∷ xs) k x there = by (p y) refl k there (λ j at. kept_among p xs j x at)
  where
    by : (b : Bool) → p y ≡ b → (k : ℕ) → slice_get (filter p (y ∷ xs)) k ≡ Some x → ((j : ℕ) → slice_get (filter p xs) j ≡ Some x → IsAmong p xs x)
        → IsAmong p (y ∷ xs) x
    by false fails k there later = further p xs x y (later k (sym (rw fails refl) ∙ there))
    by true passes zero there later =
        let same : y ≡ x = same_Some y x (sym (rw passes refl) ∙ there) in
        record { place = 0; there = ap (λ (z : X). Some z) same; passes = ap p (sym same) ∙ passes }
    by true passes (suc k) there later = further p xs x y (later k (sym (rw passes refl) ∙ there))

pub among_kept : {X : Type 0} (p : X → Bool) (xs : List X) (k : ℕ) (x : X) → slice_get xs k ≡ Some x → p x ≡ true → (j : ℕ) × (slice_get (filter p xs) j ≡ Some x)
among_kept p [] k x there is = absurd (none-some x there)
among_kept {X = X} p (y ∷ xs) zero x there is =
    let same : y ≡ x = same_Some y x there in
    let passes : p y ≡ true = ap p same ∙ is in
    (0, rw passes (ap (λ (z : X). Some z) same))
among_kept {X = X} p (y ∷ xs) (suc k) x there is = by (p y) refl (among_kept p xs k x there is)
  where
    by : (b : Bool) → p y ≡ b → (j : ℕ) × (slice_get (filter p xs) j ≡ Some x) → (j : ℕ) × (slice_get (filter p (y ∷ xs)) j ≡ Some x)
    by true passes rest = (suc rest.0, rw passes rest.1)
    by false fails rest = (rest.0, rw fails rest.1)

-- ---- what a map makes of them
pub mapped_from : {X Y : Type 0} (f : X → Y) (xs : List X) (y : Y) → Contains (map f xs) y
    → (k : ℕ) × (x : X) × (slice_get xs k ≡ Some x) × (f x ≡ y)
mapped_from f [] y there = absurd (let low = there.1 in omega (arith, low))
mapped_from {X = X} f (x ∷ xs) y there = by there.0 there.1 there.2 (λ rest. mapped_from f xs y rest)
  where
    by : (k : ℕ) → k < length (f x ∷ map f xs) → slice_index_or (f x ∷ map f xs) k y ≡ y
        → (Contains (map f xs) y → (k : ℕ) × (x : X) × (slice_get xs k ≡ Some x) × (f x ≡ y))
        → (k : ℕ) × (z : X) × (slice_get (x ∷ xs) k ≡ Some z) × (f z ≡ y)
    by zero low is later = (0, x, refl, is)
    by (suc k) low is later = let rest = later (k, omega (arith, low), is) in (suc rest.0, rest.1, rest.2, rest.3)

pub mapped_to : {X Y : Type 0} (f : X → Y) (xs : List X) (k : ℕ) (x : X) → slice_get xs k ≡ Some x → Contains (map f xs) (f x)
mapped_to f [] k x there = absurd (none-some x there)
mapped_to f (y ∷ xs) zero x there = (0, omega arith, ap f (same_Some y x there))
mapped_to f (y ∷ xs) (suc k) x there =
    let rest = mapped_to f xs k x there in
    let low = rest.1 in
    (suc rest.0, omega (arith, low), rest.2)

-- ---- ports in order of LID are in order of their numbers
abbrev pub numbers_as_listed : SubnetPort → Numbers
numbers_as_listed port = record { lid = port.lid; guid = port.guid }

lesser : (a b : SubnetPort) → nat_cmp a.lid b.lid ≡ Less → in_order (numbers_as_listed a) (numbers_as_listed b) ≡ Less
lesser a b low = rw low refl

each_lesser : (port : SubnetPort) (ports : List SubnetPort) → AllByRecursion (λ other. nat_cmp port.lid other.lid ≡ Less) ports
    → AllByRecursion (λ other. in_order (numbers_as_listed port) other ≡ Less) (map numbers_as_listed ports)
each_lesser port [] all = tt
each_lesser port (other ∷ ports) all = (lesser port other all.0, each_lesser port ports all.1)

pub by_lid : (ports : List SubnetPort) → IsStrictlySortedBy (on (λ port. port.lid) nat_cmp) ports → IsStrictlySortedBy in_order (map numbers_as_listed ports)
unfolding IsStrictlySortedBy
by_lid [] order = tt
by_lid (port ∷ ports) order = (each_lesser port ports order.0, by_lid ports order.1)
