-- Where receivers are attached, as bits of ports and of switches.
use Rattle.std.proofs.Common.{ℕ, ◌≡◌, ◌+◌, ◌-◌, ◌*◌, ◌%◌, ◌^◌, ◌<◌, ◌≤◌, ◌==◌, ◌&&◌, ◌||◌, ◌∙◌, ap, refl, sym, subst, Bool, true, false, if◌then◌else◌, List, [], length, take, get_or, replicate, bit_or, nat_lt, slice_get, slice_set, Option, Some, None, option_map, ◌⊎◌, inl, inr, arith}
use Rattle.std.specs.Int.{bit_at}
use Rattle.std.specs.Option.{option_and_then, option_map_or}
use Rattle.std.proofs.lemmas.Bool.{cases_Bool, eq-eqb, eqb-true, false≢true, ltb-true, ne_eqb}
use Rattle.std.proofs.lemmas.Bool.Decides.{nat_tests}
use Rattle.std.proofs.lemmas.List.{get_or-replicate, get_or-set_other, get_or-set_same, length-set, take_all}
use Rattle.std.proofs.lemmas.List.Folds.{list_any_more}
use Rattle.std.proofs.lemmas.Option.{get_or_from_slice_get, same_Some, slice_get-get_or, slice_get_within}
use Rattle.fabric_parts.specs.declared.cable.PortRef.{PortRef}
use Rattle.fabric_parts.specs.declared.lid.TheConstants.{FIRST_MULTICAST_LID}
use Rattle.step_results.proofs.ListLemmas.{all_there}
use Rattle.step_results.proofs.TestLemmas.{same_either_way}
use Rattle.subnet_model.specs.declared.group_receiver.GroupReceiver.{GroupReceiver}
use Rattle.table_push.specs.Masks.{is_in_mlid_range}
use Rattle.table_push.specs.MaskSteps.{AreBits, AreAttached, AreReceiversBits, adapter_home, is_attached_at, is_attached_to, is_that_port, attachment_in, slot_in, some_receives}
use Rattle.table_push.specs.declared.attachments.Attachment.{Attachment}
use Rattle.table_push.proofs.ReachLemmas.{either_bit, no_bits, port_bit}
use Rattle.updn_routes.specs.Routes.{AreRoutes, home_of}
use Rattle.updn_routes.specs.Subnet.{RoutesState}

-- ---- attachments
home_low : (routes : RoutesState) (lid : ℕ) (home : PortRef) → AreRoutes routes.between → home_of routes.between.homes lid ≡ Some home → home.node < 64
home_low routes lid home are is = by (lid == 0) refl
  where
    by : (b : Bool) → (lid == 0) ≡ b → home.node < 64
    by true first =
        let gone : home_of routes.between.homes lid ≡ None = rw first refl in
        let never = sym gone ∙ is in
        absurd (cc)
    by false some =
        let there : home_of routes.between.homes lid ≡ slice_get routes.between.homes (lid - 1) = rw some refl in
        let within : nat_lt home.node (length routes.between.rows) ≡ true =
        all_there (λ (one : PortRef). nat_lt one.node (length routes.between.rows)) routes.between.homes (lid - 1) home are.hang (sym there ∙ is) in
        omega (arith, ltb-true home.node (length routes.between.rows) within, are.few)

pub adapter_low : (routes : RoutesState) (lid : ℕ) (home : PortRef) → AreRoutes routes.between → adapter_home routes.between.homes lid ≡ Some home → home.node < 64
adapter_low routes lid home are is = by (home_of routes.between.homes lid) refl is
  where
    kept : (found : PortRef) → (if found.port == 0 then None else Some found) ≡ Some home → found ≡ home
    kept found same = one (found.port == 0) same
      where
        one : (b : Bool) → (if b then None else Some found) ≡ Some home → found ≡ home
        one true never = absurd (cc)
        one false same = same_Some found home same

    by : (o : Option PortRef) → home_of routes.between.homes lid ≡ o
        → option_and_then (λ home. if home.port == 0 then None else Some home) o ≡ Some home → home.node < 64
    by None at never = absurd (cc)
    by (Some found) at same = home_low routes lid home are (at ∙ ap (λ (one : PortRef). Some one) (kept found same))

slot_low : (partition mlid slot : ℕ) → slot_in partition mlid ≡ Some slot → slot < 32
slot_low partition mlid slot is = by (is_in_mlid_range partition mlid) refl
  where
    low : is_in_mlid_range partition mlid ≡ true → mlid - (FIRST_MULTICAST_LID + 32 * partition) < 32
    low here = grind (arith, nat_tests)

    by : (b : Bool) → is_in_mlid_range partition mlid ≡ b → slot < 32
    by true here =
        let at : slot_in partition mlid ≡ Some (mlid - (FIRST_MULTICAST_LID + 32 * partition)) = rw here refl in
        subst (λ (n : ℕ). n < 32) (same_Some _ _ (sym at ∙ is)) (low here)
    by false other =
        let gone : slot_in partition mlid ≡ None = rw other refl in
        let never = sym gone ∙ is in
        absurd (cc)

pub attachment_low : (routes : RoutesState) (partition mlid lid slot : ℕ) (home : PortRef) → AreRoutes routes.between → slot_in partition mlid ≡ Some slot
    → adapter_home routes.between.homes lid ≡ Some home → (slot < 32) × (home.node < 64)
attachment_low routes partition mlid lid slot home are at there = (slot_low partition mlid slot at, adapter_low routes lid home are there)

record Parts (routes : RoutesState) (partition : ℕ) (one : GroupReceiver) (attachment : Attachment) : Type 0 where
  slot : slot_in partition one.mlid ≡ Some attachment.slot
  home : adapter_home routes.between.homes one.lid ≡ Some attachment.home

attachment_parts : (routes : RoutesState) (partition : ℕ) (one : GroupReceiver) (attachment : Attachment) → attachment_in routes partition one ≡ Some attachment
    → Parts routes partition one attachment
attachment_parts routes partition one attachment is = by (slot_in partition one.mlid) (adapter_home routes.between.homes one.lid) refl refl is
  where
    by : (slot : Option ℕ) (home : Option PortRef) → slot_in partition one.mlid ≡ slot → adapter_home routes.between.homes one.lid ≡ home
        → option_and_then (λ slot. option_map (λ home. record { slot = slot; home = home }) home) slot ≡ Some attachment → Parts routes partition one attachment
    by None home at there never = absurd (cc)
    by (Some slot) None at there never = absurd (cc)
    by (Some slot) (Some home) at there same =
        let equal : ◌≡◌ {A = Attachment} (record { slot = slot; home = home }) attachment = same_Some _ _ same in
        record {
          slot = at ∙ ap (λ (one : Attachment). Some one.slot) equal;
          home = there ∙ ap (λ (one : Attachment). Some one.home) equal;
        }

no_attachment : (routes : RoutesState) (partition : ℕ) (one : GroupReceiver) → attachment_in routes partition one ≡ None
    → (slot_in partition one.mlid ≡ None) ⊎ (adapter_home routes.between.homes one.lid ≡ None)
no_attachment routes partition one is = by (slot_in partition one.mlid) (adapter_home routes.between.homes one.lid) refl refl is
  where
    by : (slot : Option ℕ) (home : Option PortRef) → slot_in partition one.mlid ≡ slot → adapter_home routes.between.homes one.lid ≡ home
        → ◌≡◌ {A = Option Attachment} (option_and_then (λ slot. option_map (λ home. record { slot = slot; home = home }) home) slot) None
        → (slot_in partition one.mlid ≡ None) ⊎ (adapter_home routes.between.homes one.lid ≡ None)
    by None home at there none = inl at
    by (Some slot) None at there none = inr there
    by (Some slot) (Some home) at there never = absurd (cc)

-- ---- one receiver more
pub some_more : (receivers : List GroupReceiver) (k mlid : ℕ) (one : GroupReceiver) (test : ℕ → Bool) → slice_get receivers k ≡ Some one
    → some_receives (take (k + 1) receivers) mlid test ≡ (some_receives (take k receivers) mlid test || ((one.mlid == mlid) && test one.lid))
some_more receivers k mlid one test there =
    let passes : GroupReceiver → Bool = λ other. (other.mlid == mlid) && test other.lid in
    list_any_more passes receivers k one (slice_get_within receivers k one there)
    ∙ ap (λ (other : GroupReceiver). some_receives (take k receivers) mlid test || passes other) (get_or_from_slice_get receivers k one one there)

or_nothing : (a b c : Bool) → b ≡ false → a ≡ (a || (b && c))
or_nothing true b c none = refl
or_nothing false b c none = rw none refl

or_none : (a b c : Bool) → c ≡ false → a ≡ (a || (b && c))
or_none true b c none = refl
or_none false true c none = sym none
or_none false false c none = refl

slot_is : (partition mlid : ℕ) → is_in_mlid_range partition mlid ≡ true
    → mlid ≡ FIRST_MULTICAST_LID + (32 * partition + (mlid - (FIRST_MULTICAST_LID + 32 * partition)))
slot_is partition mlid is = grind (arith, nat_tests)

slot_apart : (partition mlid i : ℕ) → is_in_mlid_range partition mlid ≡ false → i < 32 → (mlid == FIRST_MULTICAST_LID + (32 * partition + i)) ≡ false
slot_apart partition mlid i none within = grind (arith, nat_tests)

mlid_of : (partition mlid j : ℕ) → slot_in partition mlid ≡ Some j → mlid ≡ FIRST_MULTICAST_LID + (32 * partition + j)
mlid_of partition mlid j is = by (is_in_mlid_range partition mlid) refl
  where
    by : (b : Bool) → is_in_mlid_range partition mlid ≡ b → mlid ≡ FIRST_MULTICAST_LID + (32 * partition + j)
    by true here =
        let at : slot_in partition mlid ≡ Some (mlid - (FIRST_MULTICAST_LID + 32 * partition)) = rw here refl in
        slot_is partition mlid here ∙ ap (λ (n : ℕ). FIRST_MULTICAST_LID + (32 * partition + n)) (same_Some _ _ (sym at ∙ is))
    by false other =
        let gone : slot_in partition mlid ≡ None = rw other refl in
        let never = sym gone ∙ is in
        absurd (cc)

none_of : (partition mlid i : ℕ) → slot_in partition mlid ≡ None → i < 32 → (mlid == FIRST_MULTICAST_LID + (32 * partition + i)) ≡ false
none_of partition mlid i is low = by (is_in_mlid_range partition mlid) refl
  where
    by : (b : Bool) → is_in_mlid_range partition mlid ≡ b → (mlid == FIRST_MULTICAST_LID + (32 * partition + i)) ≡ false
    by true here =
        let at : slot_in partition mlid ≡ Some (mlid - (FIRST_MULTICAST_LID + 32 * partition)) = rw here refl in
        let never = sym at ∙ is in
        absurd (cc)
    by false other = slot_apart partition mlid i other low

added : (limit partition k j : ℕ) (receivers : List GroupReceiver) (one : GroupReceiver) (reaches : ℕ → ℕ → Bool) (bits next : ℕ → ℕ)
    → slice_get receivers k ≡ Some one → slot_in partition one.mlid ≡ Some j
    → ((number : ℕ) → number < limit → (bit_at (next j) number == 1) ≡ ((bit_at (bits j) number == 1) || reaches one.lid number))
    → ((i : ℕ) → (i ≡ j → ⊥) → next i ≡ bits i)
    → AreReceiversBits limit partition (take k receivers) reaches bits → AreReceiversBits limit partition (take (k + 1) receivers) reaches next
added limit partition k j receivers one reaches bits next there slot here apart are i number low below = elim (cases_Bool (i == j)) [
  | inl same ↦
      let equal : i ≡ j = eqb-true i j same in
      let mlid = FIRST_MULTICAST_LID + (32 * partition + i) in
      let own : (one.mlid == mlid) ≡ true =
      eq-eqb one.mlid mlid (mlid_of partition one.mlid j slot ∙ ap (λ (n : ℕ). FIRST_MULTICAST_LID + (32 * partition + n)) (sym equal)) in
      ap (λ (n : ℕ). bit_at (next n) number == 1) equal ∙ here number below
      ∙ ap (λ (n : ℕ). (bit_at (bits n) number == 1) || reaches one.lid number) (sym equal)
      ∙ ap (λ (b : Bool). b || reaches one.lid number) (are i number low below)
      ∙ ap (λ (b : Bool). some_receives (take k receivers) mlid (λ lid. reaches lid number) || (b && reaches one.lid number)) (sym own)
      ∙ sym (some_more receivers k mlid one (λ lid. reaches lid number) there)
  | inr other ↦
      let differ : (i ≡ j → ⊥) = λ equal. false≢true (sym other ∙ eq-eqb i j equal) in
      let mlid = FIRST_MULTICAST_LID + (32 * partition + i) in
      let mlid_is = mlid_of partition one.mlid j slot in
      ap (λ (n : ℕ). bit_at n number == 1) (apart i differ) ∙ are i number low below
      ∙ or_nothing (some_receives (take k receivers) mlid (λ lid. reaches lid number)) (one.mlid == mlid) (reaches one.lid number)
      (ne_eqb one.mlid mlid (λ equal. differ (omega (arith, equal, mlid_is))))
      ∙ sym (some_more receivers k mlid one (λ lid. reaches lid number) there)
]

passed : (limit partition k : ℕ) (receivers : List GroupReceiver) (one : GroupReceiver) (reaches : ℕ → ℕ → Bool) (bits : ℕ → ℕ)
    → slice_get receivers k ≡ Some one → (slot_in partition one.mlid ≡ None) ⊎ ((number : ℕ) → reaches one.lid number ≡ false)
    → AreReceiversBits limit partition (take k receivers) reaches bits → AreReceiversBits limit partition (take (k + 1) receivers) reaches bits
passed limit partition k receivers one reaches bits there why are i number low below =
    are i number low below ∙ by why ∙ sym (some_more receivers k (FIRST_MULTICAST_LID + (32 * partition + i)) one (λ lid. reaches lid number) there)
  where
    by : (slot_in partition one.mlid ≡ None) ⊎ ((number : ℕ) → reaches one.lid number ≡ false)
        → some_receives (take k receivers) (FIRST_MULTICAST_LID + (32 * partition + i)) (λ lid. reaches lid number)
        ≡ (some_receives (take k receivers) (FIRST_MULTICAST_LID + (32 * partition + i)) (λ lid. reaches lid number)
        || ((one.mlid == FIRST_MULTICAST_LID + (32 * partition + i)) && reaches one.lid number))
    by (inl slot) =
        or_nothing (some_receives (take k receivers) (FIRST_MULTICAST_LID + (32 * partition + i)) (λ lid. reaches lid number))
        (one.mlid == FIRST_MULTICAST_LID + (32 * partition + i)) (reaches one.lid number) (none_of partition one.mlid i slot low)
    by (inr never) =
        or_none (some_receives (take k receivers) (FIRST_MULTICAST_LID + (32 * partition + i)) (λ lid. reaches lid number))
        (one.mlid == FIRST_MULTICAST_LID + (32 * partition + i)) (reaches one.lid number) (never number)

-- ---- the arrays
pub record SoFar (routes : RoutesState) (partition : ℕ) (receivers : List GroupReceiver) (ports : List (List ℕ)) (switches : List ℕ) : Type 0 where
  pub long : length ports ≡ 32
  pub rows : (i : ℕ) → i < 32 → length (get_or ports i []) ≡ 64
  pub count : length switches ≡ 32
  pub are : AreAttached routes partition receivers ports switches

pub none_attached : (routes : RoutesState) (partition : ℕ) (ports : List (List ℕ)) → ports ≡ replicate 32 (replicate 64 0)
    → SoFar routes partition [] ports (replicate 32 0)
none_attached routes partition ports is = record {
  long = ap length is;
  rows = λ i low. ap length (row i low);
  count = refl;
  are = record {
    of_ports = λ s low i number within below. ap (λ (n : ℕ). bit_at n number == 1)
        (ap (λ (one : List ℕ). get_or one s 0) (row i within) ∙ get_or-replicate 64 s 0 0 low) ∙ no_bits number;
    of_switches = λ i number within below. ap (λ (n : ℕ). bit_at n number == 1) (get_or-replicate 32 i 0 0 within) ∙ no_bits number;
  };
}
  where
    row : (i : ℕ) → i < 32 → get_or ports i [] ≡ replicate 64 0
    row i low = ap (λ (all : List (List ℕ)). get_or all i []) is ∙ get_or-replicate 32 i (replicate 64 0) [] low

-- the bit of a port of that switch, and of no other
one_bit : (old x s node n port : ℕ) (b : Bool) → (s == node) ≡ b → (bit_at x n == 1) ≡ (port == n)
    → (bit_at (if b then bit_or old x else old) n == 1) ≡ ((bit_at old n == 1) || ((node == s) && (port == n)))
one_bit old x s node n port true same its =
    let turned : (node == s) ≡ true = same_either_way node s ∙ same in
    either_bit old x n ∙ ap (λ (b : Bool). (bit_at old n == 1) || b) (its ∙ ap (λ (b : Bool). b && (port == n)) (sym turned))
one_bit old x s node n port false other its =
    let turned : (node == s) ≡ false = same_either_way node s ∙ other in
    nothing_more (bit_at old n == 1) ∙ ap (λ (b : Bool). (bit_at old n == 1) || (b && (port == n))) (sym turned)
  where
    nothing_more : (a : Bool) → a ≡ (a || false)
    nothing_more true = refl
    nothing_more false = refl

pub set_at : (row : List ℕ) (s node value : ℕ) (b : Bool) → (s == node) ≡ b → node < length row
    → get_or (slice_set row node value) s 0 ≡ (if b then value else get_or row s 0)
set_at row s node value true same low =
    ap (λ (at : ℕ). get_or (slice_set row node value) at 0) (eqb-true s node same) ∙ get_or-set_same row node value 0 low
set_at row s node value false other low = get_or-set_other row node s value 0 (λ equal. false≢true (sym other ∙ eq-eqb s node equal))

-- the value of the switch's own, where it is that one
pub own_bit : (row : List ℕ) (x s node n port : ℕ) → node < length row → (b : Bool) → (s == node) ≡ b → (bit_at x n == 1) ≡ (port == n)
    → (bit_at (get_or (slice_set row node (bit_or (get_or row node 0) x)) s 0) n == 1) ≡ ((bit_at (get_or row s 0) n == 1) || ((node == s) && (port == n)))
own_bit row x s node n port low b is its =
    ap (λ (value : ℕ). bit_at value n == 1) (set_at row s node (bit_or (get_or row node 0) x) b is low ∙ here b is)
    ∙ one_bit (get_or row s 0) x s node n port b is its
  where
    here : (b : Bool) → (s == node) ≡ b → (if b then bit_or (get_or row node 0) x else get_or row s 0) ≡ (if b then bit_or (get_or row s 0) x else get_or row s 0)
    here true same = ap (λ (at : ℕ). bit_or (get_or row at 0) x) (sym (eqb-true s node same))
    here false other = refl

long_row : (ports : List (List ℕ)) (slot i : ℕ) (row : List ℕ) → slot < length ports → length row ≡ 64 → length (get_or ports i []) ≡ 64
    → (b : Bool) → (i == slot) ≡ b → length (get_or (slice_set ports slot row) i []) ≡ 64
long_row ports slot i row low long old true same =
    ap (λ (at : ℕ). length (get_or (slice_set ports slot row) at [])) (eqb-true i slot same) ∙ ap length (get_or-set_same ports slot row [] low) ∙ long
long_row ports slot i row low long old false other =
    ap length (get_or-set_other ports slot i row [] (λ equal. false≢true (sym other ∙ eq-eqb i slot equal))) ∙ old

pub attached : (routes : RoutesState) (partition k x : ℕ) (receivers : List GroupReceiver) (one : GroupReceiver) (attachment : Attachment) (ports next : List (List ℕ))
    (switches after : List ℕ) (d : List ℕ) → slice_get receivers k ≡ Some one → attachment_in routes partition one ≡ Some attachment
    → (attachment.slot < 32) × (attachment.home.node < 64) → AreBits x (is_that_port (Some attachment.home.port))
    → next ≡ slice_set ports attachment.slot (slice_set (get_or ports attachment.slot d) attachment.home.node (bit_or (get_or (get_or ports attachment.slot d) attachment.home.node 0) x))
    → after ≡ slice_set switches attachment.slot (bit_or (get_or switches attachment.slot 0) (1 * 2 ^ attachment.home.node % 2 ^ 64))
    → SoFar routes partition (take k receivers) ports switches → SoFar routes partition (take (k + 1) receivers) next after
attached routes partition k x receivers one attachment ports next switches after d there is low its next_is after_is so_far =
    let slot = attachment.slot in
    let node = attachment.home.node in
    let row = get_or ports slot [] in
    let value = bit_or (get_or row node 0) x in
    let now = slice_set ports slot (slice_set row node value) in
    let marked = bit_or (get_or switches slot 0) (1 * 2 ^ node % 2 ^ 64) in
    let parts = attachment_parts routes partition one attachment is in
    let slot_within : slot < length ports = omega (arith, so_far.long, low.0) in
    let node_within : node < length row = omega (arith, so_far.rows slot low.0, low.1) in
    let row_is : get_or ports slot d ≡ row = get_or_from_slice_get ports slot row d (slice_get-get_or ports slot [] slot_within) in
    let plain : next ≡ now = next_is ∙ ap (λ (some : List ℕ). slice_set ports slot (slice_set some node (bit_or (get_or some node 0) x))) row_is in
    let attached_here : (s number : ℕ) → is_attached_at routes.between.homes s one.lid number ≡ ((node == s) && (attachment.home.port == number)) =
    λ s number. ap (λ (o : Option PortRef). option_map_or (λ home. (home.node == s) && (home.port == number)) o false) parts.home in
    let attached_there : (number : ℕ) → is_attached_to routes.between.homes one.lid number ≡ (node == number) =
    λ number. ap (λ (o : Option PortRef). option_map_or (λ home. home.node == number) o false) parts.home in
    let at_port : (s number : ℕ) → number < 48 → (bit_at (get_or (get_or now slot []) s 0) number == 1)
    ≡ ((bit_at (get_or row s 0) number == 1) || is_attached_at routes.between.homes s one.lid number) =
    λ s number below.
    ap (λ (some : List ℕ). bit_at (get_or some s 0) number == 1) (get_or-set_same ports slot (slice_set row node value) [] slot_within)
    ∙ own_bit row x s node number attachment.home.port node_within (s == node) refl (its number below)
    ∙ ap (λ (b : Bool). (bit_at (get_or row s 0) number == 1) || b) (sym (attached_here s number)) in
    let at_switch : (number : ℕ) → number < 64 → (bit_at (get_or (slice_set switches slot marked) slot 0) number == 1)
    ≡ ((bit_at (get_or switches slot 0) number == 1) || is_attached_to routes.between.homes one.lid number) =
    λ number below.
    ap (λ (n : ℕ). bit_at n number == 1) (get_or-set_same switches slot marked 0 (omega (arith, so_far.count, low.0)))
    ∙ either_bit (get_or switches slot 0) (1 * 2 ^ node % 2 ^ 64) number
    ∙ ap (λ (b : Bool). (bit_at (get_or switches slot 0) number == 1) || b) (port_bit node number low.1 ∙ sym (attached_there number)) in
    let rows_now : (i : ℕ) → i < 32 → length (get_or now i []) ≡ 64 =
    λ i within. long_row ports slot i (slice_set row node value) slot_within (length-set row node value ∙ so_far.rows slot low.0) (so_far.rows i within) (i == slot) refl in
    let all : SoFar routes partition (take (k + 1) receivers) now (slice_set switches slot marked) = record {
      long = length-set ports slot (slice_set row node value) ∙ so_far.long;
      rows = rows_now;
      count = length-set switches slot marked ∙ so_far.count;
      are = record {
        of_ports = λ s within. added 48 partition k slot receivers one (is_attached_at routes.between.homes s) (λ i. get_or (get_or ports i []) s 0) (λ i. get_or (get_or now i []) s 0)
            there parts.slot (at_port s)
            (λ i apart. ap (λ (some : List ℕ). get_or some s 0) (get_or-set_other ports slot i (slice_set row node value) [] apart))
            (so_far.are.of_ports s within);
        of_switches = added 64 partition k slot receivers one (is_attached_to routes.between.homes) (λ i. get_or switches i 0) (λ i. get_or (slice_set switches slot marked) i 0)
            there parts.slot at_switch (λ i apart. get_or-set_other switches slot i marked 0 apart) so_far.are.of_switches;
      };
    } in
    subst (λ (some : List (List ℕ)). SoFar routes partition (take (k + 1) receivers) some after) (sym plain)
    (subst (λ (some : List ℕ). SoFar routes partition (take (k + 1) receivers) now some) (sym after_is) all)

pub unattached : (routes : RoutesState) (partition k : ℕ) (receivers : List GroupReceiver) (one : GroupReceiver) (ports next : List (List ℕ)) (switches after : List ℕ)
    → slice_get receivers k ≡ Some one → attachment_in routes partition one ≡ None → next ≡ ports → after ≡ switches
    → SoFar routes partition (take k receivers) ports switches → SoFar routes partition (take (k + 1) receivers) next after
unattached routes partition k receivers one ports next switches after there is next_is after_is so_far =
    let why = no_attachment routes partition one is in
    let never_at : (s : ℕ) → (slot_in partition one.mlid ≡ None) ⊎ ((number : ℕ) → is_attached_at routes.between.homes s one.lid number ≡ false) =
    λ s. elim why [
      | inl slot ↦ inl slot
      | inr home ↦ inr (λ number. ap (λ (o : Option PortRef). option_map_or (λ home. (home.node == s) && (home.port == number)) o false) home)
    ] in
    let never_on : (slot_in partition one.mlid ≡ None) ⊎ ((number : ℕ) → is_attached_to routes.between.homes one.lid number ≡ false) =
    elim why [
      | inl slot ↦ inl slot
      | inr home ↦ inr (λ number. ap (λ (o : Option PortRef). option_map_or (λ home. home.node == number) o false) home)
    ] in
    let all : SoFar routes partition (take (k + 1) receivers) ports switches = record {
      long = so_far.long;
      rows = so_far.rows;
      count = so_far.count;
      are = record {
        of_ports = λ s within. passed 48 partition k receivers one (is_attached_at routes.between.homes s) (λ i. get_or (get_or ports i []) s 0) there (never_at s) (so_far.are.of_ports s within);
        of_switches = passed 64 partition k receivers one (is_attached_to routes.between.homes) (λ i. get_or switches i 0) there never_on so_far.are.of_switches;
      };
    } in
    subst (λ (some : List (List ℕ)). SoFar routes partition (take (k + 1) receivers) some after) (sym next_is)
    (subst (λ (some : List ℕ). SoFar routes partition (take (k + 1) receivers) ports some) (sym after_is) all)

pub all_attached : (routes : RoutesState) (partition count : ℕ) (receivers : List GroupReceiver) (ports : List (List ℕ)) (switches : List ℕ) → length receivers ≤ count
    → SoFar routes partition (take count receivers) ports switches → SoFar routes partition receivers ports switches
all_attached routes partition count receivers ports switches all so_far =
    subst (λ (some : List GroupReceiver). SoFar routes partition some ports switches) (take_all count receivers all) so_far

-- ---- one word for each multicast LID
-- the numbers below a limit that the first receivers reach
pub record Slots (limit partition : ℕ) (receivers : List GroupReceiver) (reaches : ℕ → ℕ → Bool) (bits : List ℕ) : Type 0 where
  pub long : length bits ≡ 32
  pub are : AreReceiversBits limit partition receivers reaches (λ i. get_or bits i 0)

pub no_slots : (limit partition : ℕ) (reaches : ℕ → ℕ → Bool) → Slots limit partition [] reaches (replicate 32 0)
no_slots limit partition reaches = record {
  long = refl;
  are = λ i number within below. ap (λ (n : ℕ). bit_at n number == 1) (get_or-replicate 32 i 0 0 within) ∙ no_bits number;
}

pub slot_more : (routes : RoutesState) (limit partition k x : ℕ) (receivers : List GroupReceiver) (one : GroupReceiver) (attachment : Attachment) (reaches : ℕ → ℕ → Bool)
    (bits next : List ℕ) → slice_get receivers k ≡ Some one → attachment_in routes partition one ≡ Some attachment → attachment.slot < 32
    → (adapter_home routes.between.homes one.lid ≡ Some attachment.home → (number : ℕ) → number < limit → (bit_at x number == 1) ≡ reaches one.lid number)
    → next ≡ slice_set bits attachment.slot (bit_or (get_or bits attachment.slot 0) x)
    → Slots limit partition (take k receivers) reaches bits → Slots limit partition (take (k + 1) receivers) reaches next
slot_more routes limit partition k x receivers one attachment reaches bits next there is low its next_is so_far =
    let slot = attachment.slot in
    let value = bit_or (get_or bits slot 0) x in
    let parts = attachment_parts routes partition one attachment is in
    record {
      long = ap length next_is ∙ length-set bits slot value ∙ so_far.long;
      are = added limit partition k slot receivers one reaches (λ i. get_or bits i 0) (λ i. get_or next i 0) there parts.slot
          (λ number below. ap (λ (some : List ℕ). bit_at (get_or some slot 0) number == 1) next_is
          ∙ ap (λ (n : ℕ). bit_at n number == 1) (get_or-set_same bits slot value 0 (omega (arith, so_far.long, low)))
          ∙ either_bit (get_or bits slot 0) x number
          ∙ ap (λ (b : Bool). (bit_at (get_or bits slot 0) number == 1) || b) (its parts.home number below))
          (λ i apart. ap (λ (some : List ℕ). get_or some i 0) next_is ∙ get_or-set_other bits slot i value 0 apart) so_far.are;
    }

pub slot_passed : (routes : RoutesState) (limit partition k : ℕ) (receivers : List GroupReceiver) (one : GroupReceiver) (reaches : ℕ → ℕ → Bool) (bits next : List ℕ)
    → slice_get receivers k ≡ Some one → attachment_in routes partition one ≡ None
    → (adapter_home routes.between.homes one.lid ≡ None → (number : ℕ) → reaches one.lid number ≡ false)
    → next ≡ bits → Slots limit partition (take k receivers) reaches bits → Slots limit partition (take (k + 1) receivers) reaches next
slot_passed routes limit partition k receivers one reaches bits next there is never next_is so_far =
    let why : (slot_in partition one.mlid ≡ None) ⊎ ((number : ℕ) → reaches one.lid number ≡ false) =
    elim (no_attachment routes partition one is) [ inl slot ↦ inl slot | inr home ↦ inr (never home) ] in
    subst (Slots limit partition (take (k + 1) receivers) reaches) (sym next_is)
    (record { long = so_far.long; are = passed limit partition k receivers one reaches (λ i. get_or bits i 0) there why so_far.are })

pub all_slots : (limit partition count : ℕ) (receivers : List GroupReceiver) (reaches : ℕ → ℕ → Bool) (bits : List ℕ) → length receivers ≤ count
    → Slots limit partition (take count receivers) reaches bits → Slots limit partition receivers reaches bits
all_slots limit partition count receivers reaches bits all so_far =
    subst (λ (some : List GroupReceiver). Slots limit partition some reaches bits) (take_all count receivers all) so_far

-- the port of a switch, if the receiver is attached there
pub port_there : (homes : List PortRef) (place lid number : ℕ) (home : PortRef) → adapter_home homes lid ≡ Some home
    → is_that_port (if home.node == place then Some home.port else None) number ≡ is_attached_at homes place lid number
port_there homes place lid number home is =
    by (home.node == place) ∙ sym (ap (λ (o : Option PortRef). option_map_or (λ home. (home.node == place) && (home.port == number)) o false) is)
  where
    by : (b : Bool) → is_that_port (if b then Some home.port else None) number ≡ (b && (home.port == number))
    by true = refl
    by false = refl

pub switch_there : (homes : List PortRef) (lid s : ℕ) (home : PortRef) → adapter_home homes lid ≡ Some home → (home.node == s) ≡ is_attached_to homes lid s
switch_there homes lid s home is = sym (ap (λ (o : Option PortRef). option_map_or (λ home. home.node == s) o false) is)

pub nobody_on : (homes : List PortRef) (lid s : ℕ) → adapter_home homes lid ≡ None → is_attached_to homes lid s ≡ false
nobody_on homes lid s is = ap (λ (o : Option PortRef). option_map_or (λ home. home.node == s) o false) is

pub nobody_at : (homes : List PortRef) (place lid number : ℕ) → adapter_home homes lid ≡ None → is_attached_at homes place lid number ≡ false
nobody_at homes place lid number is = ap (λ (o : Option PortRef). option_map_or (λ home. (home.node == place) && (home.port == number)) o false) is
