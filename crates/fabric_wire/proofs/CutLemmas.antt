-- One cable of a list that goes behind the others, or comes back before them.
use Rattle.std.proofs.Common.{ℕ, suc, ◌≡◌, ◌+◌, ◌-◌, ◌<◌, ◌≤◌, ◌∙◌, ap, refl, sym, subst, cond, Bool, true, false, ◌&&◌, List, [], ◌∷◌, ◌++◌}
use Rattle.std.proofs.Common.{filter, flat_map, length, take, drop, get_or, Option, Some, None, arith, inl, inr}
use Rattle.std.specs.List.{IsDistinct, list_all, list_any, remove}
use Rattle.std.specs.Option.{option_or}
use Rattle.std.proofs.lemmas.Bool.{and_from, and_parts, or_cases, or_from, or_parts}
use Rattle.std.proofs.lemmas.Grind.{flat_map-append}
use Rattle.std.proofs.Math.Nat.{min-eq_left, min-le_right}
use Rattle.std.proofs.lemmas.List.{append_assoc, drop-append-le, get_or-append-add, get_or_append_left, length-append, length-drop, length-take, take-append-drop, take-append-le}
use Rattle.std.proofs.lemmas.List.Folds.{list_all-append, list_any-append}
use Rattle.std.proofs.Math.Seq.{drop-append_seam, drop-cons, take-append_seam}
use Rattle.std.proofs.lemmas.Slice.{between_to_end}
use Rattle.std.proofs.lemmas.Map.Keys.{IsDistinct-tail}
use Rattle.step_results.proofs.ListLemmas.{list_all_weaker}
use Rattle.step_results.proofs.DistinctLemmas.{left_part, none_shares, right_part}
use Rattle.fabric_parts.specs.declared.cable.Cable.{Cable}
use Rattle.fabric_parts.specs.declared.cable.PortRef.{PortRef}
use Rattle.fabric_parts.specs.Cable.{far_end, is_same_port}
use Rattle.smp_wire.specs.Good.{ends_of}
use Rattle.smp_wire.proofs.CableLemmas.{far_end_before, ports_turn, same_port}
use Rattle.fabric_wire.specs.Cabling.{IsLookedUp, has_place, is_between, is_not_between}
use Rattle.fabric_wire.specs.Rows.{far_in}

-- ---- a port that no cable of a list ends at
abbrev pub Free : PortRef → List Cable → Type 0
Free at cables = list_any (is_same_port at) (flat_map ends_of cables) ≡ false

record FreeOf (p q : List Cable) (cable : Cable) (at : PortRef) : Type 0 where
  first : is_same_port at cable.first ≡ false
  second : is_same_port at cable.second ≡ false
  others : Free at (p ++ q)

free_of : (p q : List Cable) (cable : Cable) (at : PortRef) → Free at (p ++ cable ∷ q) → FreeOf p q cable at
free_of [] q cable at free =
    let one = or_parts (is_same_port at cable.first) _ free in
    let two = or_parts (is_same_port at cable.second) _ one.1 in
    record { first = one.0; second = two.0; others = two.1 }
free_of (x ∷ p) q cable at free =
    let one = or_parts (is_same_port at x.first) _ free in
    let two = or_parts (is_same_port at x.second) _ one.1 in
    let rest = free_of p q cable at two.1 in
    record { first = rest.first; second = rest.second; others = or_from (is_same_port at x.first) _ one.0 (or_from (is_same_port at x.second) _ two.0 rest.others) }

-- where no port has two cables, the ends of one are no ends of the others
pub record Apart (cable : Cable) (cables : List Cable) : Type 0 where
  pub first : Free cable.first cables
  pub second : Free cable.second cables

head_apart : (cable : Cable) (cables : List Cable) → IsDistinct is_same_port (flat_map ends_of (cable ∷ cables)) → Apart cable cables
head_apart cable cables own =
    let first = none_shares is_same_port cable.first (cable.second ∷ flat_map ends_of cables) own in
    record {
      first = (or_parts (is_same_port cable.first cable.second) _ first).1;
      second = none_shares is_same_port cable.second (flat_map ends_of cables) (IsDistinct-tail is_same_port cable.first _ own);
    }

rest_own : (cable : Cable) (cables : List Cable) → IsDistinct is_same_port (flat_map ends_of (cable ∷ cables)) → IsDistinct is_same_port (flat_map ends_of cables)
rest_own cable cables own = IsDistinct-tail is_same_port cable.second _ (IsDistinct-tail is_same_port cable.first _ own)

more_free : (at : PortRef) (x : Cable) (cables : List Cable) → is_same_port x.first at ≡ false → is_same_port x.second at ≡ false → Free at cables → Free at (x ∷ cables)
more_free at x cables first second free =
    or_from (is_same_port at x.first) _ (ports_turn at x.first ∙ first) (or_from (is_same_port at x.second) _ (ports_turn at x.second ∙ second) free)

pub apart : (p q : List Cable) (cable : Cable) → IsDistinct is_same_port (flat_map ends_of (p ++ cable ∷ q)) → Apart cable (p ++ q)
apart [] q cable own = head_apart cable q own
apart (x ∷ p) q cable own =
    let head = head_apart x (p ++ cable ∷ q) own in
    let first = free_of p q cable x.first head.first in
    let second = free_of p q cable x.second head.second in
    let rest = apart p q cable (rest_own x (p ++ cable ∷ q) own) in
    record {
      first = more_free cable.first x (p ++ q) first.first second.first rest.first;
      second = more_free cable.second x (p ++ q) first.second second.second rest.second;
    }

-- ---- far ends
pub none_far : (cables : List Cable) (at : PortRef) → Free at cables → far_end cables at ≡ None
none_far [] at free = refl
none_far (x ∷ cables) at free =
    let one = or_parts (is_same_port at x.first) _ free in
    let two = or_parts (is_same_port at x.second) _ one.1 in
    sym (far_end_before x cables at) ∙ rw (ports_turn x.first at ∙ one.0, ports_turn x.second at ∙ two.0) (none_far cables at two.1)

by_two : (first second : Bool) (a b rest other : Option PortRef) → ((first ≡ true) → option_or a other ≡ a) → ((second ≡ true) → option_or b other ≡ b)
    → cond first a (cond second b (option_or rest other)) ≡ option_or (cond first a (cond second b rest)) other
by_two true second a b rest other some_a some_b = sym (some_a refl)
by_two false true a b rest other some_a some_b = sym (some_b refl)
by_two false false a b rest other some_a some_b = refl

far_along : (p q : List Cable) (at : PortRef) → far_end (p ++ q) at ≡ option_or (far_end p at) (far_end q at)
far_along [] q at = refl
far_along (x ∷ p) q at =
    sym (far_end_before x (p ++ q) at)
    ∙ rw (far_along p q at) (by_two (is_same_port x.first at) (is_same_port x.second at) (Some x.second) (Some x.first) (far_end p at) (far_end q at) (λ e. refl) (λ e. refl))
    ∙ ap (λ (far : Option PortRef). option_or far (far_end q at)) (far_end_before x p at)

none_behind : (far : Option PortRef) → option_or far None ≡ far
none_behind None = refl
none_behind (Some at) = refl

-- a cable is taken out
taken_by : (p q : List Cable) (cable : Cable) (at : PortRef) (first second : Bool) → is_same_port cable.first at ≡ first → is_same_port cable.second at ≡ second
    → Apart cable (p ++ q) → far_end (p ++ q) at ≡ cond second None (cond first None (far_end (p ++ cable ∷ q) at))
taken_by p q cable at first true f s apart =
    none_far (p ++ q) at (subst (λ (port : PortRef). Free port (p ++ q)) (same_port cable.second at s) apart.second)
taken_by p q cable at true false f s apart =
    none_far (p ++ q) at (subst (λ (port : PortRef). Free port (p ++ q)) (same_port cable.first at f) apart.first)
taken_by p q cable at false false f s apart =
    far_along p q at ∙ ap (option_or (far_end p at)) (rw (← far_end_before cable q at, f, s) refl) ∙ sym (far_along p (cable ∷ q) at)

pub taken_out : (p q : List Cable) (cable : Cable) (at : PortRef) → IsDistinct is_same_port (flat_map ends_of (p ++ cable ∷ q))
    → far_end (p ++ q) at ≡ cond (is_same_port cable.second at) None (cond (is_same_port cable.first at) None (far_end (p ++ cable ∷ q) at))
taken_out p q cable at own =
    taken_by p q cable at (is_same_port cable.first at) (is_same_port cable.second at) refl refl (apart p q cable own)

-- and put behind others
put_by : (p : List Cable) (cable : Cable) (at : PortRef) (first second : Bool) → is_same_port cable.first at ≡ first → is_same_port cable.second at ≡ second
    → Free cable.first p → Free cable.second p
    → option_or (far_end p at) (cond first (Some cable.second) (cond second (Some cable.first) None))
    ≡ cond second (Some cable.first) (cond first (Some cable.second) (far_end p at))
put_by p cable at true true f s first second =
    let none = none_far p at (subst (λ (port : PortRef). Free port p) (same_port cable.first at f) first) in
    rw none (ap (λ (port : PortRef). Some port) (same_port cable.second at s ∙ sym (same_port cable.first at f)))
put_by p cable at true false f s first second =
    let none = none_far p at (subst (λ (port : PortRef). Free port p) (same_port cable.first at f) first) in rw none refl
put_by p cable at false true f s first second =
    let none = none_far p at (subst (λ (port : PortRef). Free port p) (same_port cable.second at s) second) in rw none refl
put_by p cable at false false f s first second = none_behind (far_end p at)

pub put_behind : (p : List Cable) (cable : Cable) (at : PortRef) → Free cable.first p → Free cable.second p
    → far_end (p ++ cable ∷ []) at ≡ cond (is_same_port cable.second at) (Some cable.first) (cond (is_same_port cable.first at) (Some cable.second) (far_end p at))
put_behind p cable at first second =
    far_along p (cable ∷ []) at
    ∙ ap (option_or (far_end p at)) (sym (far_end_before cable [] at))
    ∙ put_by p cable at (is_same_port cable.first at) (is_same_port cable.second at) refl refl first second

-- ---- no other cable is between the same ports
not_it : (a b : PortRef) (cable y : Cable) → is_between a b cable ≡ true
    → is_same_port cable.first y.first ≡ false → is_same_port cable.second y.first ≡ false → is_between a b y ≡ false
not_it a b cable y between first second =
    elim (or_cases (is_same_port cable.first a && is_same_port cable.second b) _ between) [
      | inl this ↦
          let parts = and_parts (is_same_port cable.first a) _ this in
          one_way a b y
          (ports_turn y.first a ∙ subst (λ (port : PortRef). is_same_port port y.first ≡ false) (same_port cable.first a parts.0) first)
          (ports_turn y.first b ∙ subst (λ (port : PortRef). is_same_port port y.first ≡ false) (same_port cable.second b parts.1) second)
      | inr other ↦
          let parts = and_parts (is_same_port cable.first b) _ other in
          one_way a b y
          (ports_turn y.first a ∙ subst (λ (port : PortRef). is_same_port port y.first ≡ false) (same_port cable.second a parts.1) second)
          (ports_turn y.first b ∙ subst (λ (port : PortRef). is_same_port port y.first ≡ false) (same_port cable.first b parts.0) first)
    ]
  where
    one_way : (c d : PortRef) (y : Cable) → is_same_port y.first c ≡ false → is_same_port y.first d ≡ false → is_between c d y ≡ false
    one_way c d y is_c is_d = rw (is_c, is_d) refl

pub none_between : (a b : PortRef) (cable : Cable) (cables : List Cable) → is_between a b cable ≡ true → Free cable.first cables → Free cable.second cables
    → (filter (is_between a b) cables ≡ []) × (filter (is_not_between a b) cables ≡ cables)
none_between a b cable [] between first second = (refl, refl)
none_between a b cable (y ∷ cables) between first second =
    let one = or_parts (is_same_port cable.first y.first) _ first in
    let two = or_parts (is_same_port cable.second y.first) _ second in
    let rest = none_between a b cable cables between (or_parts (is_same_port cable.first y.second) _ one.1).1 (or_parts (is_same_port cable.second y.second) _ two.1).1 in
    let other = not_it a b cable y between one.0 two.0 in
    (rw other rest.0, rw other (ap (λ (ys : List Cable). y ∷ ys) rest.1))

-- so of a list with one between them it is the only one
pub between_one : (a b : PortRef) (p q : List Cable) (cable : Cable) → is_between a b cable ≡ true → IsDistinct is_same_port (flat_map ends_of (p ++ cable ∷ q))
    → (filter (is_between a b) (p ++ cable ∷ q) ≡ cable ∷ []) × (filter (is_not_between a b) (p ++ cable ∷ q) ≡ p ++ q)
between_one a b [] q cable between own =
    let free = head_apart cable q own in
    let none = none_between a b cable q between free.first free.second in
    (rw (between, none.0) refl, rw between none.1)
between_one a b (x ∷ p) q cable between own =
    let head = head_apart x (p ++ cable ∷ q) own in
    let first = free_of p q cable x.first head.first in
    let second = free_of p q cable x.second head.second in
    let rest = between_one a b p q cable between (rest_own x (p ++ cable ∷ q) own) in
    let other = not_it a b cable x between (ports_turn cable.first x.first ∙ first.first) (ports_turn cable.second x.first ∙ first.second) in
    (rw other rest.0, rw other (ap (λ (ys : List Cable). x ∷ ys) rest.1))

-- ---- by places
pub free_first : (at : PortRef) (p q : List Cable) → Free at (p ++ q) → Free at p
free_first at p q free =
    (or_parts (list_any (is_same_port at) (flat_map ends_of p)) _
    (sym (list_any-append (is_same_port at) (flat_map ends_of p) (flat_map ends_of q))
    ∙ ap (list_any (is_same_port at)) (sym (flat_map-append ends_of p q)) ∙ free)).0

split : (xs : List Cable) (k : ℕ) (none : Cable) → k < length xs → xs ≡ take k xs ++ get_or xs k none ∷ drop (suc k) xs
split xs k none within = sym (take-append-drop k xs) ∙ ap (λ (rest : List Cable). take k xs ++ rest) (drop-cons xs k none within)

all_of : (test : PortRef → Bool) (p q : List Cable)
    → list_all test (flat_map ends_of (p ++ q)) ≡ (list_all test (flat_map ends_of p) && list_all test (flat_map ends_of q))
all_of test p q = ap (list_all test) (flat_map-append ends_of p q) ∙ list_all-append test (flat_map ends_of p) (flat_map ends_of q)

-- what is so of all ends in one order is so of them in another
moved_all : (test : PortRef → Bool) (p q ys : List Cable) (cable : Cable) → list_all test (flat_map ends_of ((p ++ cable ∷ q) ++ ys)) ≡ true
    → list_all test (flat_map ends_of ((p ++ q) ++ (ys ++ cable ∷ []))) ≡ true
moved_all test p q ys cable all =
    let outer = and_parts (list_all test (flat_map ends_of (p ++ cable ∷ q))) _ (sym (all_of test (p ++ cable ∷ q) ys) ∙ all) in
    let inner = and_parts (list_all test (flat_map ends_of p)) _ (sym (all_of test p (cable ∷ q)) ∙ outer.0) in
    let first = and_parts (test cable.first) _ inner.1 in
    let second = and_parts (test cable.second) _ first.1 in
    all_of test (p ++ q) (ys ++ cable ∷ [])
    ∙ and_from (list_all test (flat_map ends_of (p ++ q))) _
    (all_of test p q ∙ and_from (list_all test (flat_map ends_of p)) _ inner.0 second.1)
    (all_of test ys (cable ∷ [])
    ∙ and_from (list_all test (flat_map ends_of ys)) _ outer.1 (and_from (test cable.first) _ first.0 (and_from (test cable.second) _ second.0 refl)))

back_all : (test : PortRef → Bool) (xs p q : List Cable) (cable : Cable) → list_all test (flat_map ends_of (xs ++ (p ++ cable ∷ q))) ≡ true
    → list_all test (flat_map ends_of (xs ++ cable ∷ (p ++ q))) ≡ true
back_all test xs p q cable all =
    let outer = and_parts (list_all test (flat_map ends_of xs)) _ (sym (all_of test xs (p ++ cable ∷ q)) ∙ all) in
    let inner = and_parts (list_all test (flat_map ends_of p)) _ (sym (all_of test p (cable ∷ q)) ∙ outer.1) in
    let first = and_parts (test cable.first) _ inner.1 in
    let second = and_parts (test cable.second) _ first.1 in
    all_of test xs (cable ∷ (p ++ q))
    ∙ and_from (list_all test (flat_map ends_of xs)) _ outer.0
    (and_from (test cable.first) _ first.0 (and_from (test cable.second) _ second.0
    (all_of test p q ∙ and_from (list_all test (flat_map ends_of p)) _ inner.0 second.1)))

-- the first `count` cables of a list, when one of them, or one more, is among them
pub record Changed (all new : List Cable) (count now : ℕ) (present taken : List Cable) (becomes : (PortRef → Option PortRef) → PortRef → Option PortRef) : Type 0 where
  pub few : now ≤ length new
  pub cables : take now new ≡ present
  pub cut : drop now new ≡ taken
  pub far : (at : PortRef) → far_end (take now new) at ≡ becomes (far_end (take count all)) at
  pub places : (test : PortRef → Bool) → list_all test (flat_map ends_of all) ≡ true → list_all test (flat_map ends_of new) ≡ true

-- it is cut
abbrev pub gone : Cable → (PortRef → Option PortRef) → PortRef → Option PortRef
gone cable far at = cond (is_same_port cable.second at) None (cond (is_same_port cable.first at) None (far at))

-- it is mended
abbrev pub come : Cable → (PortRef → Option PortRef) → PortRef → Option PortRef
come cable far at = cond (is_same_port cable.second at) (Some cable.first) (cond (is_same_port cable.first at) (Some cable.second) (far at))

cut_by : (a b : PortRef) (all new xs ys p q : List Cable) (count : ℕ) (cable : Cable) → all ≡ xs ++ ys → take count all ≡ xs → drop count all ≡ ys → length xs ≡ count
    → xs ≡ p ++ cable ∷ q → new ≡ (p ++ q) ++ (ys ++ cable ∷ []) → is_between a b cable ≡ true → IsDistinct is_same_port (flat_map ends_of (xs ++ ys))
    → Changed all new count (count - 1) (filter (is_not_between a b) xs) (ys ++ filter (is_between a b) xs) (gone cable)
cut_by a b all new xs ys p q count cable whole first last long parts is between own =
    let own_first : IsDistinct is_same_port (flat_map ends_of (p ++ cable ∷ q)) =
    subst (λ (some : List Cable). IsDistinct is_same_port (flat_map ends_of some)) parts
    (left_part is_same_port (flat_map ends_of xs) (flat_map ends_of ys) (subst (λ (ends : List PortRef). IsDistinct is_same_port ends) (flat_map-append ends_of xs ys) own)) in
    let one = between_one a b p q cable between own_first in
    let size : length (p ++ q) ≡ count - 1 =
    (let sum = length-append p (cable ∷ q) in let rest = length-append p q in let same = ap length parts in omega (arith, sum, rest, same, long)) in
    record {
      few = rw is (let sum = length-append (p ++ q) (ys ++ cable ∷ []) in omega (arith, sum, size));
      cables = rw (is, ← size, parts, one.1) (take-append_seam (p ++ q) (ys ++ cable ∷ []));
      cut = rw (is, ← size, parts, one.0) (drop-append_seam (p ++ q) (ys ++ cable ∷ []));
      far = λ at. rw (is, ← size, take-append_seam (p ++ q) (ys ++ cable ∷ []), first, parts) (taken_out p q cable at own_first);
      places = λ test every. rw is (moved_all test p q ys cable (rw (← parts, ← whole) every));
    }

pub is_cut : (a b : PortRef) (all new : List Cable) (count k : ℕ) (none : Cable) → count ≤ length all → k < length (take count all)
    → is_between a b (get_or (take count all) k none) ≡ true → IsDistinct is_same_port (flat_map ends_of (take count all ++ drop count all))
    → new ≡ remove all k ++ get_or all k none ∷ []
    → Changed all new count (count - 1) (filter (is_not_between a b) (take count all)) (drop count all ++ filter (is_between a b) (take count all)) (gone (get_or all k none))
is_cut a b all new count k none few within between own is =
    let xs = take count all in
    let ys = drop count all in
    let whole : all ≡ xs ++ ys = sym (take-append-drop count all) in
    let long : length xs ≡ count = length-take count all ∙ min-eq_left few in
    let there : get_or all k none ≡ get_or xs k none = ap (λ (some : List Cable). get_or some k none) whole ∙ get_or_append_left xs ys none k within in
    let before : take k all ≡ take k xs = ap (take k) whole ∙ take-append-le k xs ys (omega (arith, within)) in
    let after : drop (suc k) all ≡ drop (suc k) xs ++ ys = ap (drop (suc k)) whole ∙ drop-append-le (suc k) xs ys within in
    rw there
    (cut_by a b all new xs ys (take k xs) (drop (suc k) xs) count (get_or xs k none) whole refl refl long (split xs k none within)
    (is ∙ rw (before, after, there) (regroup (take k xs) (drop (suc k) xs) ys (get_or xs k none))) between own)
  where
    regroup : (p q ys : List Cable) (cable : Cable) → (p ++ (q ++ ys)) ++ cable ∷ [] ≡ (p ++ q) ++ (ys ++ cable ∷ [])
    regroup p q ys cable =
        ap (λ (some : List Cable). some ++ cable ∷ []) (sym (append_assoc p q ys)) ∙ append_assoc (p ++ q) ys (cable ∷ [])

mended_by : (a b : PortRef) (all new xs ys p q : List Cable) (count : ℕ) (cable : Cable) → all ≡ xs ++ ys → take count all ≡ xs → length xs ≡ count
    → ys ≡ p ++ cable ∷ q → new ≡ xs ++ cable ∷ (p ++ q) → is_between a b cable ≡ true → IsDistinct is_same_port (flat_map ends_of (xs ++ ys))
    → Changed all new count (count + 1) (xs ++ filter (is_between a b) ys) (filter (is_not_between a b) ys) (come cable)
mended_by a b all new xs ys p q count cable whole first long parts is between own =
    let own_last : IsDistinct is_same_port (flat_map ends_of (p ++ cable ∷ q)) =
    subst (λ (some : List Cable). IsDistinct is_same_port (flat_map ends_of some)) parts
    (right_part is_same_port (flat_map ends_of xs) (flat_map ends_of ys) (subst (λ (ends : List PortRef). IsDistinct is_same_port ends) (flat_map-append ends_of xs ys) own)) in
    let one = between_one a b p q cable between own_last in
    let apart_all = apart (xs ++ p) q cable
    (subst (λ (some : List Cable). IsDistinct is_same_port (flat_map ends_of some)) (ap (λ (some : List Cable). xs ++ some) parts ∙ sym (append_assoc xs p (cable ∷ q))) own) in
    let first_free = free_first cable.first xs p (free_first cable.first (xs ++ p) q apart_all.first) in
    let second_free = free_first cable.second xs p (free_first cable.second (xs ++ p) q apart_all.second) in
    let along : xs ++ cable ∷ (p ++ q) ≡ (xs ++ cable ∷ []) ++ (p ++ q) = sym (append_assoc xs (cable ∷ []) (p ++ q)) in
    let size : length (xs ++ cable ∷ []) ≡ count + 1 = length-append xs (cable ∷ []) ∙ ap (λ n. n + 1) long in
    record {
      few = rw is (let sum = length-append xs (cable ∷ (p ++ q)) in omega (arith, sum, long));
      cables = rw (is, along, ← size, parts, one.0) (take-append_seam (xs ++ cable ∷ []) (p ++ q));
      cut = rw (is, along, ← size, parts, one.1) (drop-append_seam (xs ++ cable ∷ []) (p ++ q));
      far = λ at. rw (is, along, ← size, take-append_seam (xs ++ cable ∷ []) (p ++ q), first) (put_behind xs cable at first_free second_free);
      places = λ test every. rw is (back_all test xs p q cable (rw (← parts, ← whole) every));
    }

pub is_mended : (a b : PortRef) (all new : List Cable) (count k : ℕ) (none : Cable) → count ≤ length all → k < length (drop count all)
    → is_between a b (get_or (drop count all) k none) ≡ true → IsDistinct is_same_port (flat_map ends_of (take count all ++ drop count all))
    → new ≡ take count all ++ get_or all (count + k) none ∷ remove (drop count all) k
    → Changed all new count (count + 1) (take count all ++ filter (is_between a b) (drop count all)) (filter (is_not_between a b) (drop count all)) (come (get_or all (count + k) none))
is_mended a b all new count k none few within between own is =
    let xs = take count all in
    let ys = drop count all in
    let whole : all ≡ xs ++ ys = sym (take-append-drop count all) in
    let long : length xs ≡ count = length-take count all ∙ min-eq_left few in
    let there : get_or all (count + k) none ≡ get_or ys k none =
    ap (λ (some : List Cable). get_or some (count + k) none) whole ∙ ap (λ n. get_or (xs ++ ys) (n + k) none) (sym long) ∙ get_or-append-add xs ys k none in
    rw there
    (mended_by a b all new xs ys (take k ys) (drop (suc k) ys) count (get_or ys k none) whole refl long (split ys k none within)
    (is ∙ rw there refl) between own)

-- what is so of all ends is so of those of each cable
pub ends_are : (test : PortRef → Bool) (cables : List Cable) (k : ℕ) (none : Cable) → k < length cables → list_all test (flat_map ends_of cables) ≡ true
    → (test (get_or cables k none).first ≡ true) × (test (get_or cables k none).second ≡ true)
ends_are test cables k none within all =
    let parts = and_parts (list_all test (flat_map ends_of (take k cables))) _
    (sym (all_of test (take k cables) (get_or cables k none ∷ drop (suc k) cables))
    ∙ ap (λ (some : List Cable). list_all test (flat_map ends_of some)) (sym (split cables k none within)) ∙ all) in
    let first = and_parts (test (get_or cables k none).first) _ parts.1 in
    (first.0, (and_parts (test (get_or cables k none).second) _ first.1).0)

-- where no cable is between two ports, none is taken out
pub none_there : (a b : PortRef) (cables : List Cable) → list_any (is_between a b) cables ≡ false
    → (filter (is_between a b) cables ≡ []) × (filter (is_not_between a b) cables ≡ cables)
none_there a b [] none = (refl, refl)
none_there a b (x ∷ cables) none =
    let parts = or_parts (is_between a b x) _ none in
    let rest = none_there a b cables parts.1 in
    (rw parts.0 rest.0, rw parts.0 (ap (λ (ys : List Cable). x ∷ ys) rest.1))

-- the cable by another name
pub cut_named : {all new present taken : List Cable} {count now : ℕ} {one cable : Cable} → one ≡ cable
    → Changed all new count now present taken (gone cable) → Changed all new count now present taken (gone one)
cut_named {all = all} {new = new} {present = present} {taken = taken} {count = count} {now = now} same changed =
    subst (λ (cable : Cable). Changed all new count now present taken (gone cable)) (sym same) changed

pub mended_named : {all new present taken : List Cable} {count now : ℕ} {one cable : Cable} → one ≡ cable
    → Changed all new count now present taken (come cable) → Changed all new count now present taken (come one)
mended_named {all = all} {new = new} {present = present} {taken = taken} {count = count} {now = now} same changed =
    subst (λ (cable : Cable). Changed all new count now present taken (come cable)) (sym same) changed

-- ---- the look-up, when the far ends of both ends are written
pub looks_up : {all new present taken : List Cable} {count now : ℕ} (cable : Cable) (first second : Option PortRef)
    (rows middle last : List (List (Option PortRef)))
    → Changed all new count now present taken (λ far at. cond (is_same_port cable.second at) second (cond (is_same_port cable.first at) first (far at)))
    → IsLookedUp count all rows
    → ((at : PortRef) → far_in middle at ≡ cond (is_same_port cable.first at) first (far_in rows at)) → ((at : PortRef) → has_place middle at ≡ has_place rows at)
    → ((at : PortRef) → far_in last at ≡ cond (is_same_port cable.second at) second (far_in middle at)) → ((at : PortRef) → has_place last at ≡ has_place middle at)
    → IsLookedUp now new last
looks_up {all = all} cable first second rows middle last changed looked one_far one_place two_far two_place = record {
  few = changed.few;
  far = λ at. two_far at ∙ rw (one_far at, looked.far at) (sym (changed.far at));
  places = changed.places (has_place last)
      (list_all_weaker (has_place rows) (has_place last) (λ at has. two_place at ∙ (one_place at ∙ has)) (flat_map ends_of all) looked.places);
}

-- a place in the first part of a list is one in the list
pub place_within : (all : List Cable) (count k : ℕ) → k < length (take count all) → k < length all
place_within all count k within = let few = length-take count all in let least = min-le_right count (length all) in omega (arith, within, few, least)

pub place_behind : (all : List Cable) (count k : ℕ) → k < length (drop count all) → count + k < length all
place_behind all count k within = let few = length-drop count all in omega (arith, within, few)

-- a list from a place on, as a slice has it
pub from_place : (all : List Cable) (count : ℕ) → take (length all - count) (drop count all) ≡ drop count all
from_place all count = between_to_end all count (length all) (omega arith)
