-- What never ends, and ways that do.
use Rattle.std.proofs.Common.{◌≡◌, ◌∙◌, inl, inr, ap, refl, subst, sym, ℕ, zero, suc, Bool, true, not, ◌==◌, ◌||◌, List, [], ◌∷◌, length, map, arith, Option, Some, None, is_some, option_map}
use Rattle.std.specs.List.{list_any}
use Rattle.std.proofs.lemmas.Bool.{and_parts, cases_Bool, eq-eqb, false≢true, or_right}
use Rattle.std.proofs.lemmas.Bool.Decides.{nat_tests}
use Rattle.std.proofs.lemmas.List.{length-map}
use Rattle.std.proofs.lemmas.Option.{same_Some}
use Rattle.fabric_parts.specs.Cable.{far_end, port}
use Rattle.fabric_parts.specs.declared.cable.PortRef.{PortRef}
use Rattle.topo_file.specs.Connectivity.{switches}
use Rattle.topo_file.specs.Node.{is_switch_at}
use Rattle.audit_net.specs.declared.entry.Entry.{Entry}
use Rattle.audit_net.specs.declared.entry.Entry.TheVariants.{Out, Missing, Unreported}
use Rattle.audit_net.specs.declared.following.Turn.{Turn}
use Rattle.audit_net.specs.declared.following.Turn.TheVariants as turns
use Rattle.audit_net.specs.Following.{back, end_from, end_within, if_goes, switch_total, then_end, turn, turn_by, turn_to}
use Rattle.audit_net.specs.Laws.{EndsBy, GoRound, IsWay, LoopsNeverEnd, ReportedLoopsGoRound, WaysAreFollowed}
use Rattle.audit_net.specs.Net.{NetState, entry}
use Rattle.audit_net.proofs.FollowingLemmas.{ends_here}
use Rattle.audit_net.proofs.RoundLemmas.{AreGrowing, are_below, settled}
use Rattle.audit_plan.proofs.PlaceLemmas.{is_listed}

-- ---- what goes on goes on at a switch
goes_to_switch : (net : NetState) (number next : ℕ) (there : Option PortRef) → turn_to net number there ≡ turns.Goes next → is_switch_at net.plan.nodes next ≡ true
goes_to_switch net number next None goes = cc
goes_to_switch net number next (Some there) goes = elim (cases_Bool (is_switch_at net.plan.nodes there.node)) [
  | inl here ↦ let step : turns.Goes there.node ≡ turns.Goes next = rw here at goes in let same : there.node ≡ next = cc in subst (λ (n : ℕ). is_switch_at net.plan.nodes n ≡ true) same here
  | inr other ↦ let step : turns.Arrives there ≡ turns.Goes next = rw other at goes in absurd (cc)
]

goes_on_at : (net : NetState) (place next : ℕ) (e : Entry) → turn_by net place e ≡ turns.Goes next → is_switch_at net.plan.nodes next ≡ true
goes_on_at net place next Unreported goes = cc
goes_on_at net place next Missing goes = cc
goes_on_at net place next (Out number) goes = elim (cases_Bool (number == 0)) [
  | inl here ↦ let step : turns.Arrives (port place 0) ≡ turns.Goes next = rw here at goes in absurd (cc)
  | inr other ↦ goes_to_switch net number next (far_end net.plan.cables (port place number)) (rw other at goes)
]

pub turn_goes : (net : NetState) (lid place next : ℕ) → turn net lid place ≡ turns.Goes next → is_switch_at net.plan.nodes next ≡ true
turn_goes net lid place next goes = goes_on_at net place next (entry net lid place) goes

-- ---- all switches
pub some_of : (p : ℕ → Bool) (xs : List ℕ) → list_any p xs ≡ true → (x : ℕ) × (p x ≡ true) × (list_any (λ y. y == x) xs ≡ true)
some_of p [] some = absurd (false≢true some)
some_of p (x ∷ xs) some = elim (cases_Bool (p x)) [
  | inl here ↦ (x, here, let same : (x == x) ≡ true = eq-eqb x x refl in rw same refl)
  | inr other ↦ let rest = some_of p xs (rw other at some) in (rest.0, rest.1, or_right (x == rest.0) _ rest.2)
]

pub any_of : (p : ℕ → Bool) (xs : List ℕ) (x : ℕ) → list_any (λ y. y == x) xs ≡ true → p x ≡ true → list_any p xs ≡ true
any_of p [] x there passes = absurd (false≢true there)
any_of p (y ∷ ys) x there passes = elim (cases_Bool (y == x)) [
  | inl here ↦ let same : x ≡ y = grind (arith, nat_tests, here) in let now : p y ≡ true = ap p (sym same) ∙ passes in rw now refl
  | inr other ↦ or_right (p y) _ (any_of p ys x (rw other at there) passes)
]

-- ---- marks of the switches from which it ends within so many
pub same_at : (f g : ℕ → Bool) (k : ℕ) (xs : List ℕ) → map f xs ≡ map g xs → list_any (λ n. n == k) xs ≡ true → f k ≡ g k
same_at f g k [] same there = absurd (false≢true there)
same_at f g k (x ∷ xs) same there = elim (cases_Bool (x == k)) [
  | inl here ↦ let is : k ≡ x = grind (arith, nat_tests, here) in let first : f x ≡ g x = cc in ap f is ∙ first ∙ ap g (sym is)
  | inr other ↦ let rest : map f xs ≡ map g xs = cc in same_at f g k xs rest (rw other at there)
]

pub map_alike : (f g : ℕ → Bool) (xs : List ℕ) → ((k : ℕ) → f k ≡ g k) → map f xs ≡ map g xs
map_alike f g [] same = refl
map_alike f g (x ∷ xs) same = rw (same x, map_alike f g xs same) refl

pub below_map : (f g : ℕ → Bool) (xs : List ℕ) → ((k : ℕ) → f k ≡ true → g k ≡ true) → are_below (map f xs) (map g xs) ≡ true
below_map f g [] more = refl
below_map f g (x ∷ xs) more = elim (cases_Bool (f x)) [
  | inl here ↦ rw (here, more x here) (below_map f g xs more)
  | inr other ↦ rw other (below_map f g xs more)
]

abbrev ends : NetState → ℕ → ℕ → ℕ → Bool
ends net lid count place = is_some (end_within net lid count place)

then_more : (one more : ℕ → Option Turn) (turned : Turn) → ((next : ℕ) → is_some (one next) ≡ true → is_some (more next) ≡ true)
    → is_some (then_end one turned) ≡ true → is_some (then_end more turned) ≡ true
then_more one more (turns.Goes next) grows is = grows next is
then_more one more (turns.Arrives there) grows is = refl
then_more one more turns.Hole grows is = refl
then_more one more (turns.Nowhere number) grows is = refl
then_more one more turns.Unknown grows is = refl

ends_more : (net : NetState) (lid count place : ℕ) → ends net lid count place ≡ true → ends net lid (suc count) place ≡ true
ends_more net lid zero place is = absurd (false≢true is)
ends_more net lid (suc count) place is =
    then_more (λ next. end_within net lid count next) (λ next. end_within net lid (suc count) next) (turn net lid place) (λ next k. ends_more net lid count next k) is

then_same : (net : NetState) (one other : ℕ → Option Turn) (turned : Turn) → ((next : ℕ) → turned ≡ turns.Goes next → is_some (one next) ≡ is_some (other next))
    → is_some (then_end one turned) ≡ is_some (then_end other turned)
then_same net one other (turns.Goes next) same = same next refl
then_same net one other (turns.Arrives there) same = refl
then_same net one other turns.Hole same = refl
then_same net one other (turns.Nowhere number) same = refl
then_same net one other turns.Unknown same = refl

next_marks : (net : NetState) (lid n m : ℕ) → map (ends net lid n) (switches net.plan.nodes) ≡ map (ends net lid m) (switches net.plan.nodes)
    → map (ends net lid (suc n)) (switches net.plan.nodes) ≡ map (ends net lid (suc m)) (switches net.plan.nodes)
next_marks net lid n m same =
    map_alike (ends net lid (suc n)) (ends net lid (suc m)) (switches net.plan.nodes)
    (λ place. then_same net (λ next. end_within net lid n next) (λ next. end_within net lid m next) (turn net lid place)
    (λ next goes. same_at (ends net lid n) (ends net lid m) next (switches net.plan.nodes) same (is_listed net.plan.nodes next (turn_goes net lid place next goes))))

growing : (net : NetState) (lid : ℕ) → AreGrowing (λ n. map (ends net lid n) (switches net.plan.nodes)) (switch_total net)
growing net lid = record {
  grows = λ n. below_map (ends net lid n) (ends net lid (suc n)) (switches net.plan.nodes) (λ place is. ends_more net lid n place is);
  long = λ n. let same = length-map (switches net.plan.nodes) (ends net lid n) in omega (arith, same);
  follows = λ n m same. next_marks net lid n m same;
}

pub below_at : (f g : ℕ → Bool) (k : ℕ) (xs : List ℕ) → are_below (map f xs) (map g xs) ≡ true → list_any (λ n. n == k) xs ≡ true → f k ≡ true → g k ≡ true
below_at f g k [] below there is = absurd (false≢true there)
below_at f g k (x ∷ xs) below there is = elim (cases_Bool (x == k)) [
  | inl here ↦ let same : k ≡ x = grind (arith, nat_tests, here) in
      let first : f x ≡ true = ap f (sym same) ∙ is in
      let parts = and_parts (not (f x) || g x) _ below in
      ap g same ∙ (rw first at parts.0)
  | inr other ↦ let parts = and_parts (not (f x) || g x) _ below in below_at f g k xs parts.1 (rw other at there) is
]

-- what ends at all ends within as many switches as there are
pub ends_in_time : (net : NetState) (lid count place : ℕ) → is_switch_at net.plan.nodes place ≡ true → ends net lid count place ≡ true → ends net lid (switch_total net) place ≡ true
ends_in_time net lid count place is ended =
    below_at (ends net lid count) (ends net lid (switch_total net)) place (switches net.plan.nodes)
    (settled (λ n. map (ends net lid n) (switches net.plan.nodes)) (switch_total net) (growing net lid) count) (is_listed net.plan.nodes place is) ended

none_by : (o : Option Turn) → (is_some o ≡ true → ⊥) → o ≡ None
none_by None not_some = refl
none_by (Some turned) not_some = absurd (not_some refl)

pub loops_never_end : LoopsNeverEnd
loops_never_end net lid place is none count =
    none_by (end_within net lid count place) (λ ended. false≢true (sym (ap is_some none) ∙ ends_in_time net lid count place is ended))

-- ---- ways
way_ends : (net : NetState) (lid place : ℕ) (way : List ℕ) (turned : Turn) → IsWay net lid place way turned → end_within net lid (suc (length way)) place ≡ Some turned
way_ends net lid place [] turned is = ap (then_end (λ next. end_within net lid 0 next)) is.0 ∙ ends_here (λ next. end_within net lid 0 next) turned is.1
way_ends net lid place (next ∷ way) turned is = ap (then_end (λ n. end_within net lid (suc (length way)) n)) is.0 ∙ way_ends net lid next way turned is.1

then_agree : (one other : ℕ → Option Turn) (turned a b : Turn) → ((next : ℕ) → one next ≡ Some a → other next ≡ Some b → a ≡ b)
    → then_end one turned ≡ Some a → then_end other turned ≡ Some b → a ≡ b
then_agree one other (turns.Goes next) a b agree is also = agree next is also
then_agree one other (turns.Arrives there) a b agree is also = cc
then_agree one other turns.Hole a b agree is also = cc
then_agree one other (turns.Nowhere number) a b agree is also = cc
then_agree one other turns.Unknown a b agree is also = cc

ends_agree : (net : NetState) (lid n m place : ℕ) (a b : Turn) → end_within net lid n place ≡ Some a → end_within net lid m place ≡ Some b → a ≡ b
ends_agree net lid zero m place a b is also = cc
ends_agree net lid (suc n) zero place a b is also = cc
ends_agree net lid (suc n) (suc m) place a b is also =
    then_agree (λ next. end_within net lid n next) (λ next. end_within net lid m next) (turn net lid place) a b (λ next k l. ends_agree net lid n m next a b k l) is also

some_by : (o : Option Turn) → is_some o ≡ true → (turned : Turn) × (o ≡ Some turned)
some_by (Some turned) is = (turned, refl)
some_by None is = absurd (false≢true is)

way_reported : (net : NetState) (lid place : ℕ) (turned : Turn) → is_switch_at net.plan.nodes place ≡ true → EndsBy net lid place turned → end_from net lid place ≡ Some turned
way_reported net lid place turned is way =
    let ended = way_ends net lid place way.0 turned way.1 in
    let found = some_by (end_from net lid place) (ends_in_time net lid (suc (length way.0)) place is (ap is_some ended)) in
    found.1 ∙ ap (λ (t : Turn). Some t) (ends_agree net lid (switch_total net) (suc (length way.0)) place found.0 turned found.1 ended)

pub way_there : (net : NetState) (lid count place : ℕ) (turned : Turn) → end_within net lid count place ≡ Some turned → EndsBy net lid place turned
way_there net lid zero place turned ended = cc
way_there net lid (suc count) place turned ended = by (turn net lid place) refl ended (λ next k. way_there net lid count next turned k)
  where
    by : (t : Turn) → turn net lid place ≡ t → then_end (λ next. end_within net lid count next) t ≡ Some turned
        → ((next : ℕ) → end_within net lid count next ≡ Some turned → EndsBy net lid next turned) → EndsBy net lid place turned
    by (turns.Goes next) is ended later = (let rest = later next ended in (next ∷ rest.0, (is, rest.1)))
    by (turns.Arrives there) is ended later =
        let same : turns.Arrives there ≡ turned = same_Some (turns.Arrives there) turned ended in
        ([], (is ∙ same, λ next goes. let e : turns.Arrives there ≡ turns.Goes next = same ∙ goes in cc))
    by turns.Hole is ended later =
        let same : turns.Hole ≡ turned = same_Some turns.Hole turned ended in
        ([], (is ∙ same, λ next goes. let e : turns.Hole ≡ turns.Goes next = same ∙ goes in cc))
    by (turns.Nowhere number) is ended later =
        let same : turns.Nowhere number ≡ turned = same_Some (turns.Nowhere number) turned ended in
        ([], (is ∙ same, λ next goes. let e : turns.Nowhere number ≡ turns.Goes next = same ∙ goes in cc))
    by turns.Unknown is ended later =
        let same : turns.Unknown ≡ turned = same_Some turns.Unknown turned ended in
        ([], (is ∙ same, λ next goes. let e : turns.Unknown ≡ turns.Goes next = same ∙ goes in cc))

pub ways_are_followed : WaysAreFollowed
ways_are_followed = record {
  reported = way_reported;
  there = λ net lid place turned ended. way_there net lid (switch_total net) place turned ended;
}

-- ---- loops
loop_mapped : (f : List ℕ → List ℕ) (o : Option (List ℕ)) (ring : List ℕ) → option_map f o ≡ Some ring → (rest : List ℕ) × (o ≡ Some rest) × (f rest ≡ ring)
loop_mapped f (Some rest) ring is = (rest, refl, same_Some (f rest) ring is)
loop_mapped f None ring is = cc

goes_by : (rest : ℕ → Option (List ℕ)) (turned : Turn) (ring : List ℕ) → if_goes rest turned ≡ Some ring → (next : ℕ) × (turned ≡ turns.Goes next) × (rest next ≡ Some ring)
goes_by rest (turns.Goes next) ring is = (next, refl, is)
goes_by rest (turns.Arrives there) ring is = cc
goes_by rest turns.Hole ring is = cc
goes_by rest (turns.Nowhere number) ring is = cc
goes_by rest turns.Unknown ring is = cc

back_goes_round : (net : NetState) (lid home count place before : ℕ) (rest : List ℕ) → turn net lid before ≡ turns.Goes place → back net lid home count place ≡ Some rest
    → GoRound net lid home (before ∷ rest)
back_goes_round net lid home zero place before rest goes is = cc
back_goes_round net lid home (suc count) place before rest goes is = elim (cases_Bool (place == home)) [
  | inl here ↦
      let same : place ≡ home = grind (arith, nat_tests, here) in
      let none : [] ≡ rest = same_Some [] rest (rw here at is) in
      rw (← none) (goes ∙ ap (λ (n : ℕ). turns.Goes n) same)
  | inr other ↦
      let mapped = loop_mapped (λ more. place ∷ more) (if_goes (λ next. back net lid home count next) (turn net lid place)) rest (rw other at is) in
      let step = goes_by (λ next. back net lid home count next) (turn net lid place) mapped.0 mapped.1 in
      rw (← mapped.2) (goes, back_goes_round net lid home count step.0 place mapped.0 step.1 step.2)
]

pub reported_loops_go_round : ReportedLoopsGoRound
reported_loops_go_round net lid home ring reported =
    let mapped = loop_mapped (λ rest. home ∷ rest) (if_goes (λ next. back net lid home (switch_total net) next) (turn net lid home)) ring reported in
    let step = goes_by (λ next. back net lid home (switch_total net) next) (turn net lid home) mapped.0 mapped.1 in
    (mapped.0, sym mapped.2, back_goes_round net lid home (switch_total net) step.0 home mapped.0 step.1 step.2)
