-- The lines of what decides: which switches they are of, and that each reason has one.
use Rattle.std.proofs.Common.{◌≡◌, ◌∙◌, inl, inr, ap, refl, subst, sym, ℕ, suc, ◌-◌, ◌<◌, ◌≤◌, Bool, true, false, ◌==◌, ◌&&◌, nat_lt, if◌then◌else◌, List, [], ◌∷◌, ◌++◌, codes, decimal, filter, flat_map, length, slice_get, take, arith, Option, Some, None, option_map}
use Rattle.std.specs.List.{list_any, range_with_len}
use Rattle.std.specs.Str.Iter.{HasSubslice}
use Rattle.std.proofs.lemmas.Bool.{cases_Bool, eq-eqb, false≢true, or_left, or_right}
use Rattle.std.proofs.lemmas.Bool.Decides.{nat_tests}
use Rattle.std.proofs.lemmas.List.{append-nil, append_assoc, take_all}
use Rattle.std.proofs.lemmas.Map.Keys.{any_passes_from_place}
use Rattle.std.proofs.lemmas.Option.{slice_get-map}
use Rattle.fabric_parts.specs.Cable.{is_same_port}
use Rattle.fabric_parts.specs.declared.cable.PortRef.{PortRef}
use Rattle.topo_file.specs.Connectivity.{switches}
use Rattle.topo_file.specs.Node.{is_switch_at}
use Rattle.topo_file.specs.declared.node.Node.{Node}
use Rattle.audit_net.specs.declared.following.Turn.{Turn}
use Rattle.audit_net.specs.declared.following.Turn.TheVariants as turns
use Rattle.audit_plan.specs.Attached.{carries_host}
use Rattle.audit_net.specs.Following.{end_from, fate, fate_by, switch_total}
use Rattle.audit_net.specs.Net.{NetState}
use Rattle.audit_plan.specs.Plan.{is_host}
use Rattle.audit_plan.proofs.SubsliceLemmas.{stands_behind, stands_itself, stands_longer, stands_of_all}
use Rattle.audit_net.specs.declared.lids.Aim.{Aim}
use Rattle.audit_net.specs.OwnerLaws.{end_port_of}
use Rattle.audit_net.specs.Lids.{aim_of, aims, known_lids}
use Rattle.audit_net.proofs.EndlessLemmas.{way_there, ways_are_followed}
use Rattle.audit_plan.proofs.PlaceLemmas.{in_kept, is_listed}
use Rattle.audit_routes.specs.Deciding.{host_switches, losers, losing, losing_to, more_words, places_line, switches_words, unreached_line}
use Rattle.audit_routes.specs.Laws.{IsLostFrom, LostPairsAreNamed, NamesLost, PrintsLost, SaysWhich}
use Rattle.audit_routes.specs.Lines.{lid_text, name_word}
use Rattle.audit_routes.specs.Verdict.{is_lost_by}
use Rattle.audit_routes.proofs.CarriesLemmas.{carried, carries}
use Rattle.audit_routes.proofs.PrintedLemmas.{in_unreached, text}
use Rattle.audit_routes.proofs.ReportedLemmas.{itself}
use Rattle.audit_routes.proofs.SafeLemmas.{has_end, is_listed_lid, same_port}

-- ---- elements of lists
abbrev pub is_in : ℕ → List ℕ → Bool
is_in x xs = list_any (λ n. n == x) xs

pub kept_back : (p : ℕ → Bool) (xs : List ℕ) (x : ℕ) → is_in x (filter p xs) ≡ true → (p x ≡ true) × (is_in x xs ≡ true)
kept_back p [] x there = absurd (false≢true there)
kept_back p (y ∷ ys) x there = elim (cases_Bool (p y)) [
  | inr drops ↦ let later = kept_back p ys x (rw drops at there) in (later.0, or_right (y == x) _ later.1)
  | inl keeps ↦ elim (cases_Bool (y == x)) [
    | inl here ↦ let same : x ≡ y = grind (arith, nat_tests, here) in (ap p same ∙ keeps, or_left (y == x) _ here)
    | inr other ↦ let later = kept_back p ys x (rw (keeps, other) at there) in (later.0, or_right (y == x) _ later.1)
  ]
]

pub is_there : (xs : List ℕ) (index x : ℕ) → slice_get xs index ≡ Some x → is_in x xs ≡ true
is_there xs index x there = any_passes_from_place (λ n. n == x) xs index x there (eq-eqb x x refl)

pub index_of : (xs : List ℕ) (x : ℕ) → is_in x xs ≡ true → (index : ℕ) × (slice_get xs index ≡ Some x)
index_of [] x there = absurd (false≢true there)
index_of (y ∷ ys) x there = elim (cases_Bool (y == x)) [
  | inl here ↦ let same : y ≡ x = grind (arith, nat_tests, here) in (0, ap (λ (n : ℕ). Some n) same)
  | inr other ↦ let later = index_of ys x (rw other at there) in (suc later.0, later.1)
]

pub switch_back : (nodes : List Node) (place : ℕ) → is_in place (switches nodes) ≡ true → is_switch_at nodes place ≡ true
switch_back nodes place there = (kept_back (is_switch_at nodes) (range_with_len 0 (length nodes)) place there).0

pub aim_there : (net : NetState) (index lid : ℕ) → slice_get (known_lids net) index ≡ Some lid → slice_get (aims net) index ≡ Some (aim_of net lid)
aim_there net index lid there = slice_get-map (aim_of net) (known_lids net) index ∙ ap (option_map (aim_of net)) there

filter_twice : (p q : ℕ → Bool) (xs : List ℕ) → filter q (filter p xs) ≡ filter (λ x. p x && q x) xs
filter_twice p q [] = refl
filter_twice p q (x ∷ xs) = elim (cases_Bool (p x)) [
  | inr drops ↦ rw drops (filter_twice p q xs)
  | inl keeps ↦ elim (cases_Bool (q x)) [
    | inl also ↦ rw (keeps, also) (ap (λ (ys : List ℕ). x ∷ ys) (filter_twice p q xs))
    | inr other ↦ rw (keeps, other) (filter_twice p q xs)
  ]
]

pub none_pass : (xs : List ℕ) → filter (λ (x : ℕ). false) xs ≡ []
none_pass [] = refl
none_pass (x ∷ xs) = none_pass xs

-- ---- what stands in a line that stands in a text
pub stands_in : {text : List ℕ} (line part : List ℕ) → HasSubslice text line → HasSubslice line part → HasSubslice text part
stands_in line part outer inner =
    subst (λ (t : List ℕ). HasSubslice t part) (sym outer.2) (stands_behind part outer.0 (stands_longer part outer.1 inner))

joined : (w d s n m l : List ℕ) → w ++ (d ++ s ++ n ++ m ++ l) ≡ w ++ d ++ s ++ n ++ m ++ l
joined w d s n m l =
    sym (append_assoc w (d ++ s ++ n ++ m) l)
    ∙ ap (λ (t : List ℕ). t ++ l) (sym (append_assoc w (d ++ s ++ n) m)
    ∙ ap (λ (t : List ℕ). t ++ m) (sym (append_assoc w (d ++ s) n) ∙ ap (λ (t : List ℕ). t ++ n) (sym (append_assoc w d s))))

more_joined : (x a b c l : List ℕ) → x ++ (a ++ b ++ c) ++ l ≡ x ++ a ++ b ++ (c ++ l)
more_joined x a b c l =
    append_assoc x (a ++ b ++ c) l ∙ ap (λ (t : List ℕ). x ++ t) (append_assoc (a ++ b) c l)
    ∙ (sym (append_assoc x (a ++ b) (c ++ l)) ∙ ap (λ (t : List ℕ). t ++ (c ++ l)) (sym (append_assoc x a b)))

-- ---- what the line of some switches says
module _ (net : NetState) (word joint : List ℕ) (aim : Aim) where
  abbrev words : List ℕ
  words = word ++ lid_text net aim.lid aim.end ++ joint

  line_is : (x : ℕ) (xs : List ℕ) → places_line word joint net aim (x ∷ xs)
      ≡ words ++ decimal (length (x ∷ xs)) ++ codes " switches:" ++ flat_map (name_word net) (take 8 (x ∷ xs)) ++ more_words (length (x ∷ xs)) ++ 10 ∷ []
  unfolding switches_words
  line_is x xs =
      joined words (decimal (length (x ∷ xs))) (codes " switches:") (flat_map (name_word net) (take 8 (x ∷ xs))) (more_words (length (x ∷ xs))) (10 ∷ [])

  few_are : (x : ℕ) (xs : List ℕ) → length (x ∷ xs) ≤ 8 → places_line word joint net aim (x ∷ xs)
      ≡ words ++ decimal (length (x ∷ xs)) ++ codes " switches:" ++ flat_map (name_word net) (x ∷ xs) ++ 10 ∷ []
  few_are x xs most =
      let begun : List ℕ = words ++ decimal (length (x ∷ xs)) ++ codes " switches:" in
      let few : nat_lt 8 (length (x ∷ xs)) ≡ false = grind (arith, nat_tests, most) in
      let none : more_words (length (x ∷ xs)) ≡ [] = rw few refl in
      line_is x xs
      ∙ (ap (λ (m : List ℕ). begun ++ flat_map (name_word net) (take 8 (x ∷ xs)) ++ m ++ 10 ∷ []) none
      ∙ (ap (λ (t : List ℕ). t ++ 10 ∷ []) (append-nil (begun ++ flat_map (name_word net) (take 8 (x ∷ xs))))
      ∙ ap (λ (ps : List ℕ). begun ++ flat_map (name_word net) ps ++ 10 ∷ []) (take_all 8 (x ∷ xs) most)))

  many_are : (x : ℕ) (xs : List ℕ) → 8 < length (x ∷ xs) → places_line word joint net aim (x ∷ xs)
      ≡ words ++ decimal (length (x ∷ xs)) ++ codes " switches:" ++ flat_map (name_word net) (take 8 (x ∷ xs)) ++ codes " and "
      ++ decimal (length (x ∷ xs) - 8) ++ codes " more\n"
  many_are x xs more =
      let begun : List ℕ = words ++ decimal (length (x ∷ xs)) ++ codes " switches:" ++ flat_map (name_word net) (take 8 (x ∷ xs)) in
      let many : nat_lt 8 (length (x ∷ xs)) ≡ true = grind (arith, nat_tests, more) in
      let some : more_words (length (x ∷ xs)) ≡ codes " and " ++ decimal (length (x ∷ xs) - 8) ++ codes " more" = rw many refl in
      line_is x xs
      ∙ (ap (λ (m : List ℕ). begun ++ m ++ 10 ∷ []) some
      ∙ more_joined begun (codes " and ") (decimal (length (x ∷ xs) - 8)) (codes " more") (10 ∷ []))

  pub says_which : (places : List ℕ) → SaysWhich net words places (places_line word joint net aim places)
  says_which [] = record { none = λ is. refl; few = λ some most. absurd (omega (arith, some)); many = λ some. absurd (omega (arith, some)) }
  says_which (x ∷ xs) = record {
    none = λ is. absurd (omega (arith, is));
    few = λ some most. few_are x xs most;
    many = λ some. many_are x xs some;
  }

  pub line_begins : (places : List ℕ) (place : ℕ) → is_in place places ≡ true → (0 < length places)
      × HasSubslice (places_line word joint net aim places) (words ++ decimal (length places) ++ codes " switches:")
  line_begins [] place there = absurd (false≢true there)
  line_begins (x ∷ xs) place there = (
    omega arith,
    subst (λ (t : List ℕ). HasSubslice t (words ++ decimal (length (x ∷ xs)) ++ codes " switches:")) (sym (line_is x xs))
        (stands_longer _ _ (stands_longer _ _ (stands_longer _ _ (stands_itself (words ++ decimal (length (x ∷ xs)) ++ codes " switches:"))))),
  )

-- ---- what is lost
arrives_kept : (end : PortRef) (o : Option Turn) → o ≡ Some (turns.Arrives end) → is_lost_by (fate_by end o) ≡ false
arrives_kept end o is = rw (is, itself end) refl

unknown_kept : (end : PortRef) (o : Option Turn) → o ≡ Some turns.Unknown → is_lost_by (fate_by end o) ≡ false
unknown_kept end o is = rw is refl

lost_else : (end : PortRef) (o : Option Turn) → (o ≡ Some (turns.Arrives end) → ⊥) → (o ≡ Some turns.Unknown → ⊥) → is_lost_by (fate_by end o) ≡ true
lost_else end None arrives known = refl
lost_else end (Some (turns.Goes next)) arrives known = refl
lost_else end (Some turns.Hole) arrives known = refl
lost_else end (Some (turns.Nowhere number)) arrives known = refl
lost_else end (Some turns.Unknown) arrives known = absurd (known refl)
lost_else end (Some (turns.Arrives there)) arrives known = elim (cases_Bool (is_same_port there end)) [
  | inl same ↦ absurd (arrives (ap (λ (at : PortRef). Some (turns.Arrives at)) (same_port there end same)))
  | inr apart ↦ rw apart refl
]

pub is_lost_from : (net : NetState) (lid place : ℕ) (end : PortRef) → is_switch_at net.plan.nodes place ≡ true → end_port_of net lid ≡ Some end
    → is_host net.plan end.node ≡ true → carries_host net.plan place ≡ true → is_lost_by (fate net lid end place) ≡ true → IsLostFrom net lid place
is_lost_from net lid place end switch named host carrying lost = record {
  carries = carried net place switch carrying;
  end = end;
  named = named;
  host = host;
  arrives = λ way. false≢true (sym (arrives_kept end (end_from net lid place) (ways_are_followed.reported net lid place (turns.Arrives end) switch way)) ∙ lost);
  known = λ way. false≢true (sym (unknown_kept end (end_from net lid place) (ways_are_followed.reported net lid place turns.Unknown switch way)) ∙ lost);
}

losers_are : (net : NetState) (lid : ℕ) (end : PortRef) → end_port_of net lid ≡ Some end → is_host net.plan end.node ≡ true
    → losers net (aim_of net lid) ≡ losing net lid end
losers_are net lid end named host =
    let kept : losing_to net lid (Some end) ≡ losing net lid end = rw host refl in
    ap (losing_to net lid) named ∙ kept

pub in_losers : (net : NetState) (lid place : ℕ) → IsLostFrom net lid place → is_in place (losers net (aim_of net lid)) ≡ true
in_losers net lid place lost =
    let there = is_listed net.plan.nodes place lost.carries.switch in
    let host = in_kept (carries_host net.plan) place (switches net.plan.nodes) (carries net place lost.carries) there in
    let lose : is_lost_by (fate net lid lost.end place) ≡ true =
    lost_else lost.end (end_from net lid place)
    (λ is. lost.arrives (way_there net lid (switch_total net) place (turns.Arrives lost.end) is))
    (λ is. lost.known (way_there net lid (switch_total net) place turns.Unknown is)) in
    subst (λ (places : List ℕ). is_in place places ≡ true) (sym (losers_are net lid lost.end lost.named lost.host))
    (in_kept (λ p. is_lost_by (fate net lid lost.end p)) place (host_switches net) lose host)

of_losers : (net : NetState) (lid place : ℕ) → is_in place (losers net (aim_of net lid)) ≡ true → IsLostFrom net lid place
of_losers net lid place there = by (end_port_of net lid) refl there
  where
    by : (o : Option PortRef) → end_port_of net lid ≡ o → is_in place (losing_to net lid o) ≡ true → IsLostFrom net lid place
    by None is there = absurd (false≢true there)
    by (Some end) is there = elim (cases_Bool (is_host net.plan end.node)) [
      | inr other ↦ absurd (false≢true (rw other at there))
      | inl host ↦
          let lose = kept_back (λ p. is_lost_by (fate net lid end p)) (host_switches net) place (rw host at there) in
          let hosts = kept_back (carries_host net.plan) (switches net.plan.nodes) place lose.1 in
          is_lost_from net lid place end (switch_back net.plan.nodes place hosts.1) is host hosts.0 lose.0
    ]

abbrev test_of : NetState → ℕ → Option PortRef → ℕ → Bool
test_of net lid (Some end) = λ place. is_host net.plan end.node && (carries_host net.plan place && is_lost_by (fate net lid end place))
test_of net lid None = λ place. false

in_order_by : (net : NetState) (lid : ℕ) (end : PortRef) (host : Bool) → (if host then losing net lid end else [])
    ≡ filter (λ place. host && (carries_host net.plan place && is_lost_by (fate net lid end place))) (switches net.plan.nodes)
in_order_by net lid end true = filter_twice (carries_host net.plan) (λ p. is_lost_by (fate net lid end p)) (switches net.plan.nodes)
in_order_by net lid end false = sym (none_pass (switches net.plan.nodes))

in_order : (net : NetState) (lid : ℕ) (o : Option PortRef) → losing_to net lid o ≡ filter (test_of net lid o) (switches net.plan.nodes)
in_order net lid None = sym (none_pass (switches net.plan.nodes))
in_order net lid (Some end) = in_order_by net lid end (is_host net.plan end.node)

names_lost : NamesLost unreached_line
names_lost net lid = (
  losers net (aim_of net lid),
  record {
    test = test_of net lid (end_port_of net lid);
    order = in_order net lid (end_port_of net lid);
    all = in_losers net lid;
    only = of_losers net lid;
  },
  says_which net (codes "unreached ") (codes " from ") (aim_of net lid) (losers net (aim_of net lid)),
)

prints_lost : (whole : Bool) → PrintsLost (text whole)
prints_lost whole net lid place below lost =
    let there = index_of (known_lids net) lid (is_listed_lid net lid below (has_end net lid lost.end lost.named)) in
    in_unreached whole net (unreached_line net (aim_of net lid))
    (stands_of_all (unreached_line net) (unreached_line net (aim_of net lid)) (aims net) there.0 (aim_of net lid) (aim_there net there.0 lid there.1)
    (stands_itself (unreached_line net (aim_of net lid))))

pub lost_pairs_are_named : LostPairsAreNamed
lost_pairs_are_named = record { lines = names_lost; brief = prints_lost false; whole = prints_lost true }
