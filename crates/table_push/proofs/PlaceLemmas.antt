-- Which switches' masks may change.
use Rattle.std.proofs.Common.{ℕ, ◌≡◌, ◌+◌, ◌<◌, ◌≤◌, ◌==◌, ◌&&◌, ◌||◌, ◌∙◌, ap, refl, sym, subst, inl, inr, Bool, true, false, List, get_or, bit_or, take, length, slice_get, Option, Some, None, arith}
use Rattle.std.specs.Int.{bit_at}
use Rattle.std.specs.Option.{option_map_or}
use Rattle.std.proofs.lemmas.Bool.{cases_lt, false≢true, or_parts}
use Rattle.std.proofs.lemmas.List.{take_all}
use Rattle.std.proofs.lemmas.Option.{none-some, slice_get-get_or}
use Rattle.fabric_parts.specs.declared.cable.PortRef.{PortRef}
use Rattle.subnet_model.specs.declared.group_receiver.GroupReceiver.{GroupReceiver}
use Rattle.table_push.specs.MaskSteps.{adapter_home, is_attached_at, is_attached_to, is_that_port, some_receives}
use Rattle.table_push.specs.PlaceSteps.{IsUnturned}
use Rattle.table_push.specs.TreeSteps.{leads_up, meets, some_lead_down}
use Rattle.table_push.specs.declared.trees.Tree.{Tree}
use Rattle.table_push.proofs.NodeLemmas.{same_number}
use Rattle.table_push.proofs.ReachLemmas.{either_bit}
use Rattle.table_push.proofs.AttachmentBitLemmas.{some_more}
use Rattle.table_push.proofs.TreeMaskLemmas.{down_any, down_first, down_none}

pub no_bit : (a b n : ℕ) → (bit_at (bit_or a b) n == 1) ≡ false → ((bit_at a n == 1) ≡ false) × ((bit_at b n == 1) ≡ false)
no_bit a b n none = or_parts (bit_at a n == 1) (bit_at b n == 1) (sym (either_bit a b n) ∙ none)

-- ---- receivers
none_attached : (homes : List PortRef) (s lid number : ℕ) → is_attached_to homes lid s ≡ false → is_attached_at homes s lid number ≡ false
none_attached homes s lid number none = by (adapter_home homes lid) none
  where
    and_false : (a b : Bool) → a ≡ false → (a && b) ≡ false
    and_false true b is = absurd (false≢true (sym is))
    and_false false b is = refl

    by : (o : Option PortRef) → option_map_or (λ home. home.node == s) o false ≡ false
        → option_map_or (λ home. (home.node == s) && (home.port == number)) o false ≡ false
    by None none = refl
    by (Some home) none = and_false (home.node == s) (home.port == number) none

or_none : (a m b : Bool) → b ≡ false → (a || (m && b)) ≡ a
or_none true m b none = refl
or_none false true b none = none
or_none false false b none = refl

pub none_there : (receivers : List GroupReceiver) (k : ℕ) → slice_get receivers k ≡ None → length receivers ≤ k
none_there receivers k none = elim (cases_lt k (length receivers)) [
  | inl less ↦
      let blank : GroupReceiver = record { mlid = 0; lid = 0 } in
      absurd (none-some (get_or receivers k blank) (sym none ∙ slice_get-get_or receivers k blank less))
  | inr past ↦ past
]

-- at the switches whose bits are not there the same of the first receivers are attached of both lists
abbrev pub SameSoFar : List PortRef → (before after : List GroupReceiver) → (gone come places : ℕ) → Type 0
SameSoFar homes before after gone come places =
    (s mlid number : ℕ) → s < 64 → (bit_at places s == 1) ≡ false
    → some_receives (take gone before) mlid (λ lid. is_attached_at homes s lid number) ≡ some_receives (take come after) mlid (λ lid. is_attached_at homes s lid number)

pub both_more : (homes : List PortRef) (before after : List GroupReceiver) (gone come places : ℕ) (one : GroupReceiver) → slice_get before gone ≡ Some one
    → slice_get after come ≡ Some one → SameSoFar homes before after gone come places → SameSoFar homes before after (gone + 1) (come + 1) places
both_more homes before after gone come places one there too same s mlid number low none =
    some_more before gone mlid one (λ lid. is_attached_at homes s lid number) there
    ∙ ap (λ (b : Bool). b || ((one.mlid == mlid) && is_attached_at homes s one.lid number)) (same s mlid number low none)
    ∙ sym (some_more after come mlid one (λ lid. is_attached_at homes s lid number) too)

-- a bit is put for one that is in one list alone
module _ (homes : List PortRef) (before after : List GroupReceiver) (gone come places bit : ℕ) (one : GroupReceiver) (its : (s : ℕ) → s < 64 → (bit_at bit s == 1) ≡ is_attached_to homes one.lid s) (same : SameSoFar homes before after gone come places) where
  passed : (receivers : List GroupReceiver) (k : ℕ) → slice_get receivers k ≡ Some one → (s mlid number : ℕ) → s < 64 → (bit_at bit s == 1) ≡ false
      → some_receives (take (k + 1) receivers) mlid (λ lid. is_attached_at homes s lid number) ≡ some_receives (take k receivers) mlid (λ lid. is_attached_at homes s lid number)
  passed receivers k there s mlid number low none =
      some_more receivers k mlid one (λ lid. is_attached_at homes s lid number) there
      ∙ or_none (some_receives (take k receivers) mlid (λ lid. is_attached_at homes s lid number)) (one.mlid == mlid) (is_attached_at homes s one.lid number)
      (none_attached homes s one.lid number (sym (its s low) ∙ none))

  pub gone_more : slice_get before gone ≡ Some one → SameSoFar homes before after (gone + 1) come (bit_or places bit)
  gone_more there s mlid number low none =
      let parts = no_bit places bit s none in
      passed before gone there s mlid number low parts.1 ∙ same s mlid number low parts.0

  pub come_more : slice_get after come ≡ Some one → SameSoFar homes before after gone (come + 1) (bit_or places bit)
  come_more there s mlid number low none =
      let parts = no_bit places bit s none in
      same s mlid number low parts.0 ∙ sym (passed after come there s mlid number low parts.1)

pub same_as : (homes : List PortRef) (before after : List GroupReceiver) (gone come places gone' come' places' : ℕ) → gone' ≡ gone → come' ≡ come → places' ≡ places
    → SameSoFar homes before after gone come places → SameSoFar homes before after gone' come' places'
same_as homes before after gone come places gone' come' places' one two three same =
    subst (λ (n : ℕ). SameSoFar homes before after n come' places') (sym one)
    (subst (λ (n : ℕ). SameSoFar homes before after gone n places') (sym two)
    (subst (λ (n : ℕ). SameSoFar homes before after gone come n) (sym three) same))

pub same_to_the_end : (homes : List PortRef) (before after : List GroupReceiver) (gone come places : ℕ) → length before ≤ gone → length after ≤ come
    → SameSoFar homes before after gone come places → (s mlid number : ℕ) → s < 64 → (bit_at places s == 1) ≡ false
    → some_receives before mlid (λ lid. is_attached_at homes s lid number) ≡ some_receives after mlid (λ lid. is_attached_at homes s lid number)
same_to_the_end homes before after gone come places all too same s mlid number low none =
    ap (λ (some : List GroupReceiver). some_receives some mlid (λ lid. is_attached_at homes s lid number)) (sym (take_all gone before all))
    ∙ same s mlid number low none
    ∙ ap (λ (some : List GroupReceiver). some_receives some mlid (λ lid. is_attached_at homes s lid number)) (take_all come after too)

-- ---- ports that lead to switches
pub record Unturned (tree : Tree) (before after count s number : ℕ) : Type 0 where
  pub up : s < count → leads_up tree before s number ≡ leads_up tree after s number
  pub down : some_lead_down tree count before s number ≡ some_lead_down tree count after s number

abbrev pub TurnedSoFar : Tree → (before after count places : ℕ) → Type 0
TurnedSoFar tree before after count places = (s number : ℕ) → s < 64 → (bit_at places s == 1) ≡ false → Unturned tree before after count s number

pub none_turned : (tree : Tree) (before after places : ℕ) → TurnedSoFar tree before after 0 places
none_turned tree before after places s number low none = record {
  up = λ never. absurd (omega (arith, never));
  down = down_first tree before s number ∙ sym (down_first tree after s number);
}

-- such bits are put where the set meets one of both alone
abbrev pub Turns : (before after set bits result : ℕ) → Type 0
Turns before after set bits result = (n : ℕ) → (bit_at bits n == 1) ≡ true → (bit_at result n == 1) ≡ false → meets before set ≡ meets after set

pub turned_more : (tree : Tree) (before after k places own up of down : ℕ) → k < 64
    → ((s : ℕ) → s < 64 → (bit_at own s == 1) ≡ (k == s)) → Turns before after (get_or tree.outside k 0) own up
    → ((s : ℕ) → s < 64 → (bit_at of s == 1) ≡ is_that_port (get_or tree.parents k None) s) → Turns before after (get_or tree.below k 0) of down
    → TurnedSoFar tree before after k places → TurnedSoFar tree before after (k + 1) (bit_or (bit_or places up) down)
turned_more tree before after k places own up of down few own_is up_turns of_is down_turns so_far s number low none =
    let parts = no_bit (bit_or places up) down s none in
    let more = no_bit places up s parts.0 in
    let old = so_far s number low more.0 in
    record {
      up = λ less. elim (cases_lt s k) [
        | inl sooner ↦ old.up sooner
        | inr last ↦
            let is : k ≡ s = omega (arith, less, last) in
            let met : meets before (get_or tree.outside s 0) ≡ meets after (get_or tree.outside s 0) =
            subst (λ (n : ℕ). meets before (get_or tree.outside n 0) ≡ meets after (get_or tree.outside n 0)) is
            (up_turns s (own_is s low ∙ ap (λ (n : ℕ). n == s) is ∙ same_number s) more.1) in
            ap (λ (b : Bool). b && (bit_at (get_or tree.ups s 0) number == 1)) met
      ];
      down = by (is_that_port (get_or tree.parents k None) s) refl old.down parts.1;
    }
  where
    by : (b : Bool) → is_that_port (get_or tree.parents k None) s ≡ b → some_lead_down tree k before s number ≡ some_lead_down tree k after s number
        → (bit_at down s == 1) ≡ false → some_lead_down tree (k + 1) before s number ≡ some_lead_down tree (k + 1) after s number
    by true is old unset =
        let met = down_turns s (of_is s low ∙ is) unset in
        down_any tree k before s number
        ∙ ap (λ (b : Bool). b || (is_that_port (get_or tree.parents k None) s && (meets before (get_or tree.below k 0) && (bit_at (get_or tree.ends k 0) number == 1)))) old
        ∙ ap (λ (b : Bool). some_lead_down tree k after s number || (is_that_port (get_or tree.parents k None) s && (b && (bit_at (get_or tree.ends k 0) number == 1)))) met
        ∙ sym (down_any tree k after s number)
    by false is old unset =
        down_none tree before k s number is ∙ old ∙ sym (down_none tree after k s number is)

pub all_turned : (tree : Tree) (before after count places : ℕ) → 64 ≤ count → count ≤ 64 → TurnedSoFar tree before after count places
    → (s : ℕ) → s < 64 → (bit_at places s == 1) ≡ false → IsUnturned tree before after s
all_turned tree before after count places least most so_far s low none number =
    let whole : count ≡ 64 = omega (arith, least, most) in
    let each = so_far s number low none in
    (each.up (omega (arith, low, least)), subst (λ (n : ℕ). some_lead_down tree n before s number ≡ some_lead_down tree n after s number) whole each.down)

pub alike_unturned : (tree : Tree) (before after s : ℕ) → before ≡ after → IsUnturned tree before after s
alike_unturned tree before after s same number =
    (ap (λ (n : ℕ). leads_up tree n s number) same, ap (λ (n : ℕ). some_lead_down tree 64 n s number) same)

-- ---- all of it
pub record Unchanged (homes : List PortRef) (tree : Tree) (before after : List GroupReceiver) (switches_before switches_after : List ℕ) (count places : ℕ) : Type 0 where
  pub own : (s mlid number : ℕ) → s < 64 → (bit_at places s == 1) ≡ false
      → some_receives before mlid (λ lid. is_attached_at homes s lid number) ≡ some_receives after mlid (λ lid. is_attached_at homes s lid number)
  pub ways : (s i : ℕ) → s < 64 → i < count → (bit_at places s == 1) ≡ false → IsUnturned tree (get_or switches_before i 0) (get_or switches_after i 0) s

pub nothing_looked_at : (homes : List PortRef) (tree : Tree) (before after : List GroupReceiver) (switches_before switches_after : List ℕ) (places : ℕ)
    → ((s mlid number : ℕ) → s < 64 → (bit_at places s == 1) ≡ false
    → some_receives before mlid (λ lid. is_attached_at homes s lid number) ≡ some_receives after mlid (λ lid. is_attached_at homes s lid number))
    → Unchanged homes tree before after switches_before switches_after 0 places
nothing_looked_at homes tree before after switches_before switches_after places own =
    record { own = own; ways = λ s i low never none. absurd (omega (arith, never)) }

pub slot_looked_at : (homes : List PortRef) (tree : Tree) (before after : List GroupReceiver) (switches_before switches_after : List ℕ) (k places more : ℕ)
    → ((s : ℕ) → s < 64 → (bit_at more s == 1) ≡ false → IsUnturned tree (get_or switches_before k 0) (get_or switches_after k 0) s)
    → Unchanged homes tree before after switches_before switches_after k places
    → Unchanged homes tree before after switches_before switches_after (k + 1) (bit_or places more)
slot_looked_at homes tree before after switches_before switches_after k places more turned so_far = record {
  own = λ s mlid number low none. so_far.own s mlid number low (no_bit places more s none).0;
  ways = λ s i low less none.
      let parts = no_bit places more s none in
      elim (cases_lt i k) [
        | inl sooner ↦ so_far.ways s i low sooner parts.0
        | inr last ↦
            let is : k ≡ i = omega (arith, less, last) in
            subst (λ (n : ℕ). IsUnturned tree (get_or switches_before n 0) (get_or switches_after n 0) s) is (turned s low parts.1)
      ];
}
