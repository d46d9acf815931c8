-- Thick edges: between which rows they are, what they count, and that each cable is drawn once.
use Rattle.std.proofs.Common.{ℕ, zero, suc, ◌+◌, ◌<◌, ◌≤◌, ◌≡◌, ◌⊎◌, ◌==◌, ◌∙◌, ap, refl, sym, arith, ◌&&◌, not, inl, inr, if◌then◌else◌}
use Rattle.std.proofs.Common.{Bool, true, false, List, [], ◌∷◌, count_by, length, map, get_or, nat_le, nat_lt, Option, Some, None, slice_get}
use Rattle.std.specs.Prelude.{filter}
use Rattle.std.specs.List.{list_all, range_with_len}
use Rattle.std.specs.Option.{option_map_or}
use Rattle.std.proofs.lemmas.Bool.{cases_Bool, cases_lt, eq-eqb, eqb-true, le-leb, leb-true, lt-ltb, or_cases}
use Rattle.std.proofs.lemmas.List.FromFn.{get_or-map-range_with_len}
use Rattle.std.proofs.lemmas.List.Sums.{length-filter}
use Rattle.std.proofs.lemmas.Option.{same_Some, slice_get_within}
use Rattle.fabric_graph.proofs.CableLemmas.{lines_of_cable, listed_is_adapter, none_kept, not_true, same_kept}
use Rattle.fabric_graph.proofs.DrawnLemmas.{and_both, clashing, one_in_range, only, other_number}
use Rattle.fabric_graph.specs.Cables.{is_cut}
use Rattle.fabric_graph.specs.Graph.{is_edge, ranks_drawn}
use Rattle.fabric_graph.specs.Laws.{EachCableIsDrawnOnce, JoinedRowsHaveThickEdges, LeadsFrom, ThickEdgesJoinAllToAll, ThickEdgesShowNumbers, shows_cable}
use Rattle.fabric_graph.specs.Lists.{AttachmentState, attachments_of, is_in_list, is_listed, places}
use Rattle.cable_looks.specs.Looks.{look_at}
use Rattle.fabric_graph.specs.Ranks.{has_rank, rank_at, rank_count, ranks_of, row_of}
use Rattle.fabric_graph.specs.Rows.{Picture, are_cabled, are_joined, is_cabled_to_all, is_counted, is_merged, is_next, is_ordinary, is_plain, is_thick, joins_rows, leads_down}
use Rattle.fabric_graph.specs.Rows.{may_count, may_count_at, picture_with, thick_edges, thickness, upper_of, upper_rank}
use Rattle.cable_looks.specs.declared.looks.Look.{Look}
use Rattle.cable_looks.specs.declared.looks.Look.TheVariants.{Loaded, Needed, Plain}
use Rattle.fabric_parts.specs.declared.cable.Cable.{Cable}
use Rattle.smp_wire.specs.FabricState.{FabricState}
use Rattle.step_results.proofs.ListLemmas.{range_at}
use Rattle.step_results.proofs.BoolLemmas.{and_false}
use Rattle.subnet_model.specs.Configuration.{ConfigurationState}
use Rattle.topo_file.specs.Node.{is_switch_at}
use Rattle.topo_file.specs.Topology.{TopologyState}
use Rattle.topo_file.specs.declared.node.Node.{Node}
use Rattle.updn_routes.specs.Subnet.{RoutesState}

-- ---- the ranks of a cable
upper_is : (one other : Option ℕ) (rank : ℕ) → upper_of one other ≡ Some rank
    → ((one ≡ Some rank) × (other ≡ Some (rank + 1))) ⊎ ((other ≡ Some rank) × (one ≡ Some (rank + 1)))
upper_is None other rank e = absurd (cc)
upper_is (Some a) None rank e = absurd (cc)
upper_is (Some a) (Some b) rank e = elim (cases_Bool (is_next a b)) [
  | inl f ↦ let same : Some a ≡ Some rank = rw f at e in inl (same, ap (λ (n : ℕ). Some n) (eqb-true b (a + 1) f ∙ ap (λ (n : ℕ). n + 1) (same_Some a rank same)))
  | inr f ↦ elim (cases_Bool (is_next b a)) [
    | inl g ↦ let same : Some b ≡ Some rank = rw (f, g) at e in inr (same, ap (λ (n : ℕ). Some n) (eqb-true a (b + 1) g ∙ ap (λ (n : ℕ). n + 1) (same_Some b rank same)))
    | inr g ↦ let none : None ≡ Some rank = rw (f, g) at e in absurd (cc)
  ]
]

no_upper_first : (one other : Option ℕ) → one ≡ None → upper_of one other ≡ None
no_upper_first None other e = refl
no_upper_first (Some a) other e = absurd (cc)

no_upper_second : (one other : Option ℕ) → other ≡ None → upper_of one other ≡ None
no_upper_second None None e = refl
no_upper_second (Some a) None e = refl
no_upper_second one (Some b) e = absurd (cc)

is_rank : (own : Option ℕ) (rank : ℕ) → option_map_or (λ upper. upper == rank) own false ≡ true → own ≡ Some rank
is_rank None rank e = absurd (clashing (sym e))
is_rank (Some upper) rank e = ap (λ (n : ℕ). Some n) (eqb-true upper rank e)

no_rank : (routes : RoutesState) (nodes : List Node) (place : ℕ) → is_switch_at nodes place ≡ false → rank_at (ranks_of routes nodes) place ≡ None
no_rank routes [] place adapter = refl
no_rank routes (node ∷ nodes) zero adapter = rw adapter refl
no_rank routes (node ∷ nodes) (suc k) adapter = no_rank routes nodes k adapter

has_place : (ranks : List (Option ℕ)) (place rank : ℕ) → rank_at ranks place ≡ Some rank → place < length ranks
has_place [] place rank e = absurd (cc)
has_place (r ∷ ranks) zero rank e = omega arith
has_place (r ∷ ranks) (suc place) rank e = let low = has_place ranks place rank e in omega (arith, low)

-- ---- what passes a test for all of a row
of_kept : (kept p : ℕ → Bool) (xs : List ℕ) (k x : ℕ) → list_all p (filter kept xs) ≡ true → slice_get xs k ≡ Some x → kept x ≡ true → p x ≡ true
of_kept kept p [] k x all there is = absurd (cc)
of_kept kept p (y ∷ ys) zero x all there is =
    let same : y ≡ x = cc in
    let here : kept y ≡ true = ap kept same ∙ is in
    let both : (p y && list_all p (filter kept ys)) ≡ true = rw here at all in
    ap p (sym same) ∙ (and_both (p y) (list_all p (filter kept ys)) both).0
of_kept kept p (y ∷ ys) (suc k) x all there is = elim (cases_Bool (kept y)) [
  | inl e ↦ let both : (p y && list_all p (filter kept ys)) ≡ true = rw e at all in of_kept kept p ys k x (and_both (p y) (list_all p (filter kept ys)) both).1 there is
  | inr e ↦ let rest : list_all p (filter kept ys) ≡ true = rw e at all in of_kept kept p ys k x rest there is
]

in_row : (ranks : List (Option ℕ)) (rank place : ℕ) (p : ℕ → Bool) → list_all p (row_of ranks rank) ≡ true → rank_at ranks place ≡ Some rank → p place ≡ true
unfolding row_of
in_row ranks rank place p all is =
    let own : has_rank ranks rank place ≡ true = rw is (eq-eqb rank rank refl) in
    let here : 0 + place ≡ place = omega arith in
    let there = range_at 0 (length ranks) place (has_place ranks place rank is) ∙ ap (λ (n : ℕ). Some n) here in
    of_kept (has_rank ranks rank) p (range_with_len 0 (length ranks)) place place all there own

-- ---- what is so of a cable that is counted
plain_is : (look : Look) → is_plain look ≡ true → look ≡ Plain
plain_is Plain e = refl
plain_is Needed e = absurd (clashing (sym e))
plain_is (Loaded load) e = absurd (clashing (sym e))

module _ (picture : Picture) (rank k : ℕ) (is : is_counted picture rank k ≡ true) where
  rows_joined : joins_rows picture rank ≡ true
  rows_joined = (and_both (joins_rows picture rank) (may_count_at picture rank k) is).0

  counted_at : may_count_at picture rank k ≡ true
  counted_at = (and_both (joins_rows picture rank) (may_count_at picture rank k) is).1

  abbrev uppers : List ℕ
  uppers = row_of picture.ranks rank

  abbrev lowers : List ℕ
  lowers = row_of picture.ranks (rank + 1)

  crowded_is : picture.crowded ≡ true
  crowded_is = (and_both picture.crowded (are_joined picture.cables uppers lowers) rows_joined).0

  both_joined : are_joined picture.cables uppers lowers ≡ true
  both_joined = (and_both picture.crowded (are_joined picture.cables uppers lowers) rows_joined).1

  several : (2 ≤ length uppers) × (2 ≤ length lowers)
  several =
      let enough = (and_both (nat_le 2 (length uppers) && nat_le 2 (length lowers)) (list_all (is_cabled_to_all picture.cables lowers) uppers) both_joined).0 in
      let parts = and_both (nat_le 2 (length uppers)) (nat_le 2 (length lowers)) enough in
      (leb-true 2 (length uppers) parts.0, leb-true 2 (length lowers) parts.1)

  all_to_all : (upper lower : ℕ) → rank_at picture.ranks upper ≡ Some rank → rank_at picture.ranks lower ≡ Some (rank + 1) → are_cabled picture.cables upper lower ≡ true
  all_to_all upper lower at_upper at_lower =
      let all = (and_both (nat_le 2 (length uppers) && nat_le 2 (length lowers)) (list_all (is_cabled_to_all picture.cables lowers) uppers) both_joined).1 in
      let to_all = in_row picture.ranks rank upper (is_cabled_to_all picture.cables lowers) all at_upper in
      in_row picture.ranks (rank + 1) lower (are_cabled picture.cables upper) to_all at_lower

  -- it may be counted
  counts_cable : (cable : Cable) → slice_get picture.cables k ≡ Some cable → may_count picture rank (look_at picture.looks k) cable ≡ true
  counts_cable cable there = rw there at counted_at

  ordinary : (cable : Cable) → may_count picture rank (look_at picture.looks k) cable ≡ true → is_ordinary picture.fabric (look_at picture.looks k) cable ≡ true
  ordinary cable may = (and_both (leads_down picture.ranks rank cable) (is_ordinary picture.fabric (look_at picture.looks k) cable) may).1

  plain : look_at picture.looks k ≡ Plain
  plain = by (slice_get picture.cables k) counted_at
    where
      by : (given : Option Cable) → option_map_or (may_count picture rank (look_at picture.looks k)) given false ≡ true → look_at picture.looks k ≡ Plain
      by None e = absurd (clashing (sym e))
      by (Some cable) e =
          plain_is (look_at picture.looks k) (and_both (is_plain (look_at picture.looks k)) (not (is_cut picture.fabric cable)) (ordinary cable e)).0

  whole : (cable : Cable) → slice_get picture.cables k ≡ Some cable → is_cut picture.fabric cable ≡ false
  whole cable there =
      not_true (is_cut picture.fabric cable)
      (and_both (is_plain (look_at picture.looks k)) (not (is_cut picture.fabric cable)) (ordinary cable (counts_cable cable there))).1

  ends : (cable : Cable) → slice_get picture.cables k ≡ Some cable
      → ((rank_at picture.ranks cable.first.node ≡ Some rank) × (rank_at picture.ranks cable.second.node ≡ Some (rank + 1)))
      ⊎ ((rank_at picture.ranks cable.second.node ≡ Some rank) × (rank_at picture.ranks cable.first.node ≡ Some (rank + 1)))
  ends cable there =
      let leads = (and_both (leads_down picture.ranks rank cable) (is_ordinary picture.fabric (look_at picture.looks k) cable) (counts_cable cable there)).0 in
      upper_is (rank_at picture.ranks cable.first.node) (rank_at picture.ranks cable.second.node) rank (is_rank (upper_rank picture.ranks cable) rank leads)

pub thick_edges_join_all_to_all : ThickEdgesJoinAllToAll
thick_edges_join_all_to_all = record {
  crowded = λ picture rank k is. crowded_is picture rank k is;
  ends = λ picture rank k cable is there. ends picture rank k is cable there;
  whole = λ picture rank k cable is there. whole picture rank k is cable there;
  plain = λ picture rank k is. plain picture rank k is;
  several = λ picture rank k is. several picture rank k is;
  all_to_all = λ picture rank k is upper lower at_upper at_lower. all_to_all picture rank k is upper lower at_upper at_lower;
}

-- ---- what is counted
all_of_kept : (kept p : ℕ → Bool) (xs : List ℕ) → ((x : ℕ) → kept x ≡ true → p x ≡ true) → list_all p (filter kept xs) ≡ true
all_of_kept kept p [] each = refl
all_of_kept kept p (x ∷ xs) each = elim (cases_Bool (kept x)) [
  | inl e ↦ let here = each x e in rw (e, here) (all_of_kept kept p xs each)
  | inr e ↦ rw e (all_of_kept kept p xs each)
]

all_in_row : (ranks : List (Option ℕ)) (rank : ℕ) (p : ℕ → Bool) → ((place : ℕ) → rank_at ranks place ≡ Some rank → p place ≡ true)
    → list_all p (row_of ranks rank) ≡ true
unfolding row_of
all_in_row ranks rank p each =
    all_of_kept (has_rank ranks rank) p (range_with_len 0 (length ranks)) (λ place is. each place (is_rank (rank_at ranks place) rank is))

upper_is_first : (rank : ℕ) → upper_of (Some rank) (Some (rank + 1)) ≡ Some rank
upper_is_first rank = rw (eq-eqb (rank + 1) (rank + 1) refl) refl

upper_is_second : (rank : ℕ) → upper_of (Some (rank + 1)) (Some rank) ≡ Some rank
upper_is_second rank =
    let below = other_number rank (rank + 1 + 1) (λ e. omega (arith, e)) in
    rw (below, eq-eqb (rank + 1) (rank + 1) refl) refl

leads_from : (picture : Picture) (rank : ℕ) (cable : Cable) → LeadsFrom picture rank cable → upper_rank picture.ranks cable ≡ Some rank
leads_from picture rank cable leads = elim leads [
  | inl e ↦ rw (e.0, e.1) (upper_is_first rank)
  | inr e ↦ rw (e.0, e.1) (upper_is_second rank)
]

pub joined_rows_have_thick_edges : JoinedRowsHaveThickEdges
joined_rows_have_thick_edges picture rank k cable crowded there leads uncut plain uppers lowers all =
    let to_all : list_all (is_cabled_to_all picture.cables (row_of picture.ranks (rank + 1))) (row_of picture.ranks rank) ≡ true =
    all_in_row picture.ranks rank (is_cabled_to_all picture.cables (row_of picture.ranks (rank + 1)))
    (λ upper at_upper. all_in_row picture.ranks (rank + 1) (are_cabled picture.cables upper) (λ lower at_lower. all upper lower at_upper at_lower)) in
    let down : leads_down picture.ranks rank cable ≡ true = rw (leads_from picture rank cable leads) (eq-eqb rank rank refl) in
    let ordinary : is_ordinary picture.fabric (look_at picture.looks k) cable ≡ true = rw (plain, uncut) refl in
    rw (crowded, le-leb 2 (length (row_of picture.ranks rank)) uppers, le-leb 2 (length (row_of picture.ranks (rank + 1))) lowers, to_all, there, down, ordinary) refl

-- ---- numbers
thickness_is : (picture : Picture) (rank : ℕ) → thickness picture rank ≡ length (filter (is_counted picture rank) (range_with_len 0 (length picture.cables)))
unfolding thickness
thickness_is picture rank = sym (length-filter (is_counted picture rank) (range_with_len 0 (length picture.cables)))

pub thick_if_joined : (picture : Picture) (rank : ℕ) → joins_rows picture rank ≡ true
    → thickness picture rank ≡ count_by (may_count_at picture rank) (range_with_len 0 (length picture.cables))
unfolding thickness
thick_if_joined picture rank joined = rw joined refl

pub thin_if_apart : (picture : Picture) (rank : ℕ) → joins_rows picture rank ≡ false → thickness picture rank ≡ 0
thin_if_apart picture rank apart = thickness_is picture rank ∙ ap length (none_kept (is_counted picture rank) none (range_with_len 0 (length picture.cables)))
  where
    none : (place : ℕ) → is_counted picture rank place ≡ false
    none place = rw apart refl

pub thick_edges_show_numbers : ThickEdgesShowNumbers
thick_edges_show_numbers picture ranks rank low =
    get_or-map-range_with_len (thickness picture) 0 ranks rank rank 0 low (omega arith) ∙ thickness_is picture rank

some_kept : (p : ℕ → Bool) (xs : List ℕ) (k x : ℕ) → slice_get xs k ≡ Some x → p x ≡ true → 1 ≤ length (filter p xs)
some_kept p [] k x there is = absurd (cc)
some_kept p (y ∷ ys) zero x there is = let same : y ≡ x = cc in let here : p y ≡ true = ap p same ∙ is in rw here (omega arith)
some_kept p (y ∷ ys) (suc k) x there is = elim (cases_Bool (p y)) [
  | inl e ↦ rw e (omega arith)
  | inr e ↦ rw e (some_kept p ys k x there is)
]

none_above : (place a n : ℕ) → a + n ≤ place → filter (only place) (range_with_len a n) ≡ []
none_above place a zero above = refl
none_above place a (suc n) above =
    let other = other_number a place (λ e. omega (arith, above, e)) in
    rw other (none_above place (a + 1) n (omega (arith, above)))

past : (f : ℕ → ℕ) (a n place : ℕ) → n ≤ place → get_or (map f (range_with_len a n)) place 0 ≡ 0
past f a zero place above = refl
past f a (suc n) zero above = absurd (omega (arith, above))
past f a (suc n) (suc place) above = past f (a + 1) n place (omega (arith, above))

module _ (picture : Picture) (ranks k : ℕ) (cable : Cable) (there : slice_get picture.cables k ≡ Some cable) where
  abbrev look : Look
  look = look_at picture.looks k

  abbrev thick : List ℕ
  thick = thick_edges picture ranks

  abbrev merged : Bool
  merged = is_merged thick picture look cable

  abbrev times : ℕ
  times = length (filter (λ rank. is_counted picture rank k) (range_with_len 0 ranks))

  counted_by : (own : Option ℕ) (ordinary : Bool) → upper_rank picture.ranks cable ≡ own → is_ordinary picture.fabric look cable ≡ ordinary
      → (rank : ℕ) → is_counted picture rank k ≡ (joins_rows picture rank && (option_map_or (λ upper. upper == rank) own false && ordinary))
  counted_by own ordinary e f rank = rw (there, e, f) refl

  merged_by : (own : Option ℕ) (ordinary : Bool) → upper_rank picture.ranks cable ≡ own → is_ordinary picture.fabric look cable ≡ ordinary
      → merged ≡ (option_map_or (is_thick thick) own false && ordinary)
  merged_by own ordinary e f = rw (e, f) refl

  nothing : ((rank : ℕ) → is_counted picture rank k ≡ false) → merged ≡ false → times ≡ (if merged then 1 else 0)
  nothing none m = ap length (none_kept (λ rank. is_counted picture rank k) none (range_with_len 0 ranks)) ∙ sym (rw m refl)

  of_upper : (upper : ℕ) → upper_rank picture.ranks cable ≡ Some upper → is_ordinary picture.fabric look cable ≡ true → times ≡ (if merged then 1 else 0)
  of_upper upper e f = elim (cases_Bool (joins_rows picture upper)) [
    | inl joined ↦ elim (cases_lt upper ranks) [
      | inl low ↦
          ap length (same_kept (λ rank. is_counted picture rank k) (only upper) (only_upper joined) (range_with_len 0 ranks) ∙ one_in_range upper 0 ranks (omega arith) (omega (arith, low)))
          ∙ sym (rw (is_thick_below joined low) refl)
      | inr high ↦
          ap length (same_kept (λ rank. is_counted picture rank k) (only upper) (only_upper joined) (range_with_len 0 ranks) ∙ none_above upper 0 ranks (omega (arith, high)))
          ∙ sym (rw (is_thin_above high) refl)
    ]
    | inr apart ↦ nothing (never apart) (is_thin apart)
  ]
    where
      -- no other rank's
      other_rank : (rank : ℕ) → (upper == rank) ≡ false → is_counted picture rank k ≡ false
      other_rank rank differ = counted_by (Some upper) true e f rank ∙ rw differ (and_false (joins_rows picture rank))

      own_rank : joins_rows picture upper ≡ true → is_counted picture upper k ≡ true
      own_rank joined = counted_by (Some upper) true e f upper ∙ rw (joined, eq-eqb upper upper refl) refl

      only_upper : joins_rows picture upper ≡ true → (rank : ℕ) → is_counted picture rank k ≡ only upper rank
      only_upper joined rank = elim (cases_Bool (rank == upper)) [
        | inl same ↦ ap (λ (r : ℕ). is_counted picture r k) (eqb-true rank upper same) ∙ own_rank joined ∙ sym same
        | inr differ ↦ other_rank rank (turned rank differ) ∙ sym differ
      ]
        where
          turned : (rank : ℕ) → (rank == upper) ≡ false → (upper == rank) ≡ false
          turned rank differ = other_number upper rank (λ same. clashing (sym (eq-eqb rank upper (sym same)) ∙ differ))

      never : joins_rows picture upper ≡ false → (rank : ℕ) → is_counted picture rank k ≡ false
      never apart rank = elim (cases_Bool (upper == rank)) [
        | inl same ↦ ap (λ (r : ℕ). is_counted picture r k) (sym (eqb-true upper rank same)) ∙ rw apart refl
        | inr differ ↦ other_rank rank differ
      ]

      by_number : (count : ℕ) → get_or thick upper 0 ≡ count → merged ≡ (nat_lt 0 count && true)
      by_number count is = merged_by (Some upper) true e f ∙ rw is refl

      is_thick_below : joins_rows picture upper ≡ true → upper < ranks → merged ≡ true
      is_thick_below joined low =
          let counts = thick_edges_show_numbers picture ranks upper low in
          let within = slice_get_within picture.cables k cable there in
          let here : 0 + k ≡ k = omega arith in
          let at_k = range_at 0 (length picture.cables) k within ∙ ap (λ (n : ℕ). Some n) here in
          let some = some_kept (is_counted picture upper) (range_with_len 0 (length picture.cables)) k k at_k (own_rank joined) in
          by_number (get_or thick upper 0) refl ∙ rw (lt-ltb 0 (get_or thick upper 0) (omega (arith, counts, some))) refl

      is_thin_above : ranks ≤ upper → merged ≡ false
      is_thin_above high = by_number 0 (past (thickness picture) 0 ranks upper high)

      is_thin : joins_rows picture upper ≡ false → merged ≡ false
      is_thin apart = elim (cases_lt upper ranks) [
        | inl low ↦ by_number 0 (get_or-map-range_with_len (thickness picture) 0 ranks upper upper 0 low (omega arith) ∙ thin_if_apart picture upper apart)
        | inr high ↦ is_thin_above high
      ]

  counted_once : times ≡ (if merged then 1 else 0)
  counted_once = by (upper_rank picture.ranks cable) refl (is_ordinary picture.fabric look cable) refl
    where
      by : (own : Option ℕ) → upper_rank picture.ranks cable ≡ own → (ordinary : Bool) → is_ordinary picture.fabric look cable ≡ ordinary → times ≡ (if merged then 1 else 0)
      by None e o f = nothing (λ rank. counted_by None o e f rank ∙ and_false (joins_rows picture rank)) (merged_by None o e f)
      by (Some upper) e true f = of_upper upper e f
      by (Some upper) e false f =
          nothing (λ rank. counted_by (Some upper) false e f rank ∙ rw (and_false (upper == rank)) (and_false (joins_rows picture rank)))
          (merged_by (Some upper) false e f ∙ and_false (is_thick thick upper))

-- ---- the law
module _ (plan : TopologyState) (subnet : ConfigurationState) (routes : RoutesState) (fabric : FabricState) (looks : List Look) (crowded : Bool) (k : ℕ) (cable : Cable) where
  abbrev own_attachments : List (Option AttachmentState)
  own_attachments = attachments_of plan subnet

  abbrev drawn : Picture
  drawn = picture_with crowded plan (ranks_of routes plan.nodes) fabric looks

  abbrev all_thick : List ℕ
  all_thick = thick_edges drawn (rank_count routes)

  abbrev is_one_of_many : Bool
  is_one_of_many = is_merged all_thick drawn (look_at looks k) cable

  abbrev is_own : Bool
  is_own = is_edge own_attachments all_thick drawn (look_at looks k) cable

  abbrev lines : ℕ
  lines = length (filter (shows_cable own_attachments cable) (places own_attachments))

  abbrev thick_times : ℕ
  thick_times = length (filter (λ rank. is_counted drawn rank k) (ranks_drawn routes))

  -- an adapter has no rank
  unranked : upper_rank drawn.ranks cable ≡ None → is_one_of_many ≡ false
  unranked none = rw none refl

  listed_is_alone : is_in_list own_attachments cable ≡ true → is_one_of_many ≡ false
  listed_is_alone listed = elim (or_cases (is_listed own_attachments cable.first.node) (is_listed own_attachments cable.second.node) listed) [
    | inl first ↦
        unranked (no_upper_first (rank_at drawn.ranks cable.first.node) (rank_at drawn.ranks cable.second.node)
        (no_rank routes plan.nodes cable.first.node (listed_is_adapter plan subnet cable.first.node first)))
    | inr second ↦
        unranked (no_upper_second (rank_at drawn.ranks cable.first.node) (rank_at drawn.ranks cable.second.node)
        (no_rank routes plan.nodes cable.second.node (listed_is_adapter plan subnet cable.second.node second)))
  ]

  drawn_once : lines ≡ (if is_in_list own_attachments cable then 1 else 0) → thick_times ≡ (if is_one_of_many then 1 else 0)
      → lines + (if is_own then 1 else 0) + thick_times ≡ 1
  drawn_once one_line one_thick = by (is_in_list own_attachments cable) refl is_one_of_many refl
    where
      sum_of : (a b c : ℕ) → lines ≡ a → (if is_own then 1 else 0) ≡ b → thick_times ≡ c → a + b + c ≡ 1 → lines + (if is_own then 1 else 0) + thick_times ≡ 1
      sum_of a b c e f g is = rw (e, f, g) is

      by : (listed : Bool) → is_in_list own_attachments cable ≡ listed → (many : Bool) → is_one_of_many ≡ many
          → lines + (if is_own then 1 else 0) + thick_times ≡ 1
      by true e true f = absurd (clashing (sym f ∙ listed_is_alone e))
      by true e false f = sum_of 1 0 0 (one_line ∙ rw e refl) (rw e refl) (one_thick ∙ rw f refl) refl
      by false e true f = sum_of 0 0 1 (one_line ∙ rw e refl) (rw (e, f) refl) (one_thick ∙ rw f refl) refl
      by false e false f = sum_of 0 1 0 (one_line ∙ rw e refl) (rw (e, f) refl) (one_thick ∙ rw f refl) refl

pub each_cable_is_drawn_once : EachCableIsDrawnOnce
each_cable_is_drawn_once plan subnet routes fabric looks crowded k cable sound there =
    let picture = picture_with crowded plan (ranks_of routes plan.nodes) fabric looks in
    drawn_once plan subnet routes fabric looks crowded k cable (lines_of_cable plan subnet k cable sound there)
    (counted_once picture (rank_count routes) k cable there)
