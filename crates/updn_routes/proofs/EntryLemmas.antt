-- What the tables hold obeys the definition of the choice.
use Rattle.std.proofs.Common.{◌≡◌, ◌≢◌, ℕ, suc, ◌+◌, ◌<◌, ◌≤◌, ◌⊎◌, Bool, true, false, cond, if◌then◌else◌, ◌==◌, ◌&&◌, nat_lt, List, [], ◌∷◌, length, map, filter}
use Rattle.std.proofs.Common.{Option, Some, None, option_map, slice_get, refl, sym, ap, subst, ◌∙◌, inl, inr, arith}
use Rattle.std.specs.List.{fold, list_all, list_any}
use Rattle.std.specs.Option.{option_and_then, option_map_or}
use Rattle.std.proofs.lemmas.Bool.Decides.{nat_tests}
use Rattle.std.proofs.lemmas.Bool.{and_parts, and_from, or_cases, cases_lt, cases_order, eqb-false, eqb-true, eq-eqb, ne_eqb, lt-ltb, ltb-true, false≢true}
use Rattle.std.proofs.lemmas.List.FromFn.{get_or-map-range_with_len, length-map-range_with_len}
use Rattle.std.proofs.lemmas.List.Sums.{position_or_len_is}
use Rattle.updn_routes.specs.declared.link.Link.{Link}
use Rattle.updn_routes.specs.declared.table.NextHop.{NextHop}
use Rattle.updn_routes.specs.Cabling.{is_cabling, leads, links_of, rises}
use Rattle.updn_routes.specs.Choice.{AllChosen, IsRule, least_port}
use Rattle.updn_routes.specs.Laws.{KeepsTheOrder}
use Rattle.updn_routes.specs.Order.{IsOrder, place_of, precedes}
use Rattle.updn_routes.specs.Places.{placed_link}
use Rattle.updn_routes.specs.Tables.{AllDown, AllUp, IsTable, all_downs, all_ups, best_of, downs_at, entry_at, home, links_at, or_better, or_link, place_at, places_of, switch_at, ups_at}
use Rattle.updn_routes.specs.UpDown.{is_down, is_up}
use Rattle.updn_routes.proofs.BestLemmas.{BestIn, NoneIn, pass_best, skip_best, take_best}
use Rattle.updn_routes.proofs.CablingLemmas.{ends, goes, later_port, leads_next, links_within, row_rises}
use Rattle.updn_routes.proofs.PlaceLemmas.{keeps_order}
use Rattle.updn_routes.proofs.TableLemmas.{Climbs, Falls, IsBest, IsEntry, NoneAt, Rests, all_chosen, least_chosen, picked_by, same_some}
use Rattle.step_results.proofs.BoolLemmas.{and_false}
use Rattle.updn_routes.proofs.TieLemmas.{passes, ties_in}
use Rattle.updn_routes.proofs.WriteLemmas.{past_end}
use Rattle.updn_routes.specs.Routes.{is_as_short}
use Rattle.sweep.specs.Rounds.{is_exactly}

not_hop : (hop : NextHop) → ◌≡◌ {A = Option NextHop} None (Some hop) → ⊥
not_hop hop h = cc

same_hop : (one other : NextHop) → ◌≡◌ {A = Option NextHop} (Some one) (Some other) → one ≡ other
same_hop one other h = cc

-- ---- tests
one_more : (h k : ℕ) → (h + 1 == suc k) ≡ (h == k)
one_more h k = grind (arith, nat_tests)

-- two tests that agree where links lead to switches leave the same ones of these
filter_alike : (count : ℕ) (p q : Link → Bool) → ((link : Link) → link.to < count → p link ≡ q link) → (row : List Link)
    → list_all (λ link. nat_lt link.to count) row ≡ true → filter p row ≡ filter q row
filter_alike count p q same [] all = refl
filter_alike count p q same (link ∷ row) all =
    let parts = and_parts (nat_lt link.to count) (list_all (λ l. nat_lt l.to count) row) all in
    ap (λ (b : Bool). cond b (link ∷ filter p row) (filter p row)) (same link (ltb-true link.to count parts.0))
    ∙ ap (λ (rest : List Link). cond (q link) (link ∷ rest) rest) (filter_alike count p q same row parts.1)

-- ---- the first of the shortest
module _ (falls : Bool) (table : List (Option NextHop)) (place : ℕ → ℕ) (test : ℕ → Bool) where
  abbrev kind : ℕ → Bool
  kind t = test (place t)

  abbrev far : ℕ → Option ℕ
  far t = option_map (λ hop. hop.hops) (entry_at table (place t))

  abbrev found : List Link → Option NextHop → Option NextHop
  found row best = fold (or_link falls table) best (filter (λ link. test link.to) (map (placed_link place) row))

  -- what was found before is no worse than all of these links
  abbrev Ahead : List Link → Option NextHop → Type 0
  Ahead row best =
      (q t j : ℕ) → list_any (goes q t) row ≡ true → kind t ≡ true → far t ≡ Some j → (hop : NextHop) × (best ≡ Some hop) × (hop.hops ≤ suc j)

  pub record Taken (row : List Link) (best given : Option NextHop) : Type 0 where
    port : ℕ
    more : ℕ
    is : given ≡ Some (record { port = port; hops = suc more; falls = falls })
    own : BestIn row kind far port more
    ahead : (hop : NextHop) → best ≡ Some hop → suc more < hop.hops

  abbrev Picks : List Link → Option NextHop → Option NextHop → Type 0
  Picks row best given = ((given ≡ best) × Ahead row best) ⊎ Taken row best given

  -- a link that leads nowhere
  off : (link : Link) (row : List Link) (best given : Option NextHop) → (kind link.to ≡ true → far link.to ≡ None)
      → Picks row best given → Picks (link ∷ row) best given
  off link row best given out (inr t) =
      inr (record { port = t.port; more = t.more; is = t.is; own = skip_best kind far link row t.port t.more out t.own; ahead = t.ahead })
  off link row best given out (inl kept) =
      inl (
        kept.0,
        λ q t j way fits at. elim (or_cases (goes q t link) (list_any (goes q t) row) way) [
          | inl here ↦
              (let same = eqb-true link.to t (and_parts (link.port == q) (link.to == t) here).1 in
              absurd (none_some j (sym (subst (λ (v : ℕ). far v ≡ None) same (out (subst (λ (v : ℕ). kind v ≡ true) (sym same) fits))) ∙ at)))
          | inr later ↦ kept.1 q t j later fits at
        ],
      )
    where
      none_some : (j : ℕ) → ◌≡◌ {A = Option ℕ} None (Some j) → ⊥
      none_some j h = cc

  -- a link that is better than what was found before
  over : (link : Link) (row : List Link) (best : Option NextHop) (beyond : NextHop) (given : Option NextHop)
      → rises (map (λ l. l.port) (link ∷ row)) ≡ true → kind link.to ≡ true → far link.to ≡ Some beyond.hops
      → ((hop : NextHop) → best ≡ Some hop → suc beyond.hops < hop.hops)
      → Picks row (Some (record { port = link.port; hops = suc beyond.hops; falls = falls })) given → Picks (link ∷ row) best given
  over link row best beyond given rising fits at ahead (inl kept) =
      inr (record {
        port = link.port;
        more = beyond.hops;
        is = kept.0;
        own = take_best kind far link row beyond.hops fits at
            (λ q t j way so_fits so_at. near j (kept.1 q t j way so_fits so_at))
            (λ q t way so_fits so_at. let later = later_port link.port q t row (and_parts (list_all (λ y. nat_lt link.port y) (map (λ l. l.port) row)) _ rising).0 way in omega (arith, later));
        ahead = ahead;
      })
    where
      near : (j : ℕ) → (hop : NextHop) × (Some (record { port = link.port; hops = suc beyond.hops; falls = falls }) ≡ Some hop) × (hop.hops ≤ suc j) → beyond.hops ≤ j
      near j h =
          let same : suc beyond.hops ≡ h.0.hops = ap (λ hop. hop.hops) (same_hop (record { port = link.port; hops = suc beyond.hops; falls = falls }) h.0 h.1) in
          let most = h.2 in
          omega (arith, same, most)
  over link row best beyond given rising fits at ahead (inr t) =
      let less = t.ahead (record { port = link.port; hops = suc beyond.hops; falls = falls }) refl in
      inr (record {
        port = t.port;
        more = t.more;
        is = t.is;
        own = pass_best kind far link row beyond.hops t.port t.more at (inl (omega (arith, less))) t.own;
        ahead = λ hop e. (let high = ahead hop e in omega (arith, less, high));
      })

  -- a link that is no better
  under : (link : Link) (row : List Link) (hop : NextHop) (beyond : ℕ) (given : Option NextHop) → far link.to ≡ Some beyond
      → hop.hops ≤ suc beyond → Picks row (Some hop) given → Picks (link ∷ row) (Some hop) given
  under link row hop beyond given at worse (inl kept) =
      inl (
        kept.0,
        λ q t j way fits so_at. elim (or_cases (goes q t link) (list_any (goes q t) row) way) [
          | inl here ↦
              (let same = eqb-true link.to t (and_parts (link.port == q) (link.to == t) here).1 in
              let even = same_some beyond j (sym at ∙ (ap far same ∙ so_at)) in (hop, refl, omega (arith, worse, even)))
          | inr later ↦ kept.1 q t j later fits so_at
        ],
      )
  under link row hop beyond given at worse (inr t) =
      let less = t.ahead hop refl in
      inr (record {
        port = t.port;
        more = t.more;
        is = t.is;
        own = pass_best kind far link row beyond t.port t.more at (inl (omega (arith, less, worse))) t.own;
        ahead = t.ahead;
      })

  picks : (row : List Link) (best : Option NextHop) → rises (map (λ l. l.port) row) ≡ true → Picks row best (found row best)
  picks [] best rising = inl (refl, λ q t j way. absurd (false≢true way))
  picks (link ∷ row) best rising =
      by (test (place link.to)) refl (entry_at table (place link.to)) refl (λ acc. picks row acc rest)
    where
      rest : rises (map (λ l. l.port) row) ≡ true
      rest = (and_parts (list_all (λ y. nat_lt link.port y) (map (λ l. l.port) row)) (rises (map (λ l. l.port) row)) rising).1

      taken : (b : Bool) → test (place link.to) ≡ b
          → found (link ∷ row) best ≡ fold (or_link falls table) best (cond b (placed_link place link ∷ filter (λ l. test l.to) (map (placed_link place) row)) (filter (λ l. test l.to) (map (placed_link place) row)))
      taken b e = rw e refl

      better : (o : Option NextHop) → entry_at table (place link.to) ≡ o → test (place link.to) ≡ true
          → found (link ∷ row) best ≡ found row (or_better falls best link.port o)
      better o e f = taken true f ∙ ap (λ p. fold (or_link falls table) (or_better falls best link.port p) (filter (λ l. test l.to) (map (placed_link place) row))) e

      by : (b : Bool) → test (place link.to) ≡ b → (o : Option NextHop) → entry_at table (place link.to) ≡ o
          → ((acc : Option NextHop) → Picks row acc (found row acc)) → Picks (link ∷ row) best (found (link ∷ row) best)
      by false e o f later =
          subst (λ (given : Option NextHop). Picks (link ∷ row) best given) (sym (taken false e)) (off link row best (found row best) (λ fits. absurd (false≢true (sym e ∙ fits))) (later best))
      by true e None f later =
          subst (λ (given : Option NextHop). Picks (link ∷ row) best given) (sym (better None f e)) (off link row best (found row best) (λ fits. ap (option_map (λ hop. hop.hops)) f) (later best))
      by true e (Some beyond) f later = on best refl
        where
          at : far link.to ≡ Some beyond.hops
          at = ap (option_map (λ hop. hop.hops)) f

          plus : beyond.hops + 1 ≡ suc beyond.hops
          plus = omega arith

          same : ◌≡◌ {A = Option NextHop} (Some (record { port = link.port; hops = beyond.hops + 1; falls = falls })) (Some (record { port = link.port; hops = suc beyond.hops; falls = falls }))
          same = ap (λ k. Some (record { port = link.port; hops = k; falls = falls })) plus

          first : ((hop : NextHop) → best ≡ Some hop → suc beyond.hops < hop.hops)
              → or_better falls best link.port (Some beyond) ≡ Some (record { port = link.port; hops = suc beyond.hops; falls = falls })
              → Picks (link ∷ row) best (found (link ∷ row) best)
          first ahead is =
              subst (λ (given : Option NextHop). Picks (link ∷ row) best given) (sym (better (Some beyond) f e ∙ ap (found row) is))
              (over link row best beyond (found row (Some (record { port = link.port; hops = suc beyond.hops; falls = falls }))) rising e at ahead (later (Some (record { port = link.port; hops = suc beyond.hops; falls = falls }))))

          on : (acc : Option NextHop) → best ≡ acc → Picks (link ∷ row) best (found (link ∷ row) best)
          on None g =
              first (λ hop h. absurd (not_hop hop (sym g ∙ h))) (ap (λ acc. or_better falls acc link.port (Some beyond)) g ∙ same)
          on (Some hop) g = less (nat_lt (beyond.hops + 1) hop.hops) refl
            where
              less : (c : Bool) → nat_lt (beyond.hops + 1) hop.hops ≡ c → Picks (link ∷ row) best (found (link ∷ row) best)
              less true h =
                  let low = ltb-true (beyond.hops + 1) hop.hops h in
                  first (λ other k. let even = same_hop hop other (sym g ∙ k) in subst (λ (one : NextHop). suc beyond.hops < one.hops) even (omega (arith, low)))
                  (ap (λ acc. or_better falls acc link.port (Some beyond)) g ∙ (ap (λ b. Some (cond b (record { port = link.port; hops = beyond.hops + 1; falls = falls }) hop)) h ∙ same))
              less false h =
                  let high : hop.hops ≤ beyond.hops + 1 = elim (cases_lt (beyond.hops + 1) hop.hops) [ inl low ↦ absurd (false≢true (sym h ∙ lt-ltb _ _ low)) | inr more ↦ more ] in
                  let stays = ap (λ acc. or_better falls acc link.port (Some beyond)) g ∙ ap (λ b. Some (cond b (record { port = link.port; hops = beyond.hops + 1; falls = falls }) hop)) h in
                  subst (λ (acc : Option NextHop). Picks (link ∷ row) acc (found (link ∷ row) best)) (sym g)
                  (subst (λ (given : Option NextHop). Picks (link ∷ row) (Some hop) given) (sym (better (Some beyond) f e ∙ ap (found row) stays))
                  (under link row hop beyond.hops (found row (Some hop)) at (omega (arith, high)) (later (Some hop))))

  -- none, and then no link of that kind leads on; or the best
  pub record BestFound (row : List Link) (given : Option NextHop) : Type 0 where
    port : ℕ
    more : ℕ
    is : given ≡ Some (record { port = port; hops = suc more; falls = falls })
    own : BestIn row kind far port more

  pub best_found : (row : List Link) → rises (map (λ l. l.port) row) ≡ true
      → ((found row None ≡ None) × NoneIn row kind far) ⊎ BestFound row (found row None)
  best_found row rising = by (picks row None rising)
    where
      none : (o : Option ℕ) (q t : ℕ) → Ahead row None → list_any (goes q t) row ≡ true → kind t ≡ true → far t ≡ o → o ≡ None
      none None q t ahead way fits at = refl
      none (Some j) q t ahead way fits at = let h = ahead q t j way fits at in absurd (not_hop h.0 h.1)

      by : Picks row None (found row None) → ((found row None ≡ None) × NoneIn row kind far) ⊎ BestFound row (found row None)
      by (inl kept) = inl (kept.0, λ q t way fits. none (far t) q t kept.1 way fits refl)
      by (inr t) = inr (record { port = t.port; more = t.more; is = t.is; own = t.own })

-- ---- links that lead down, and links that lead up
list_all_kept : {X : Type 0} (p : X → Bool) (xs : List X) → list_all p (filter p xs) ≡ true
list_all_kept p [] = refl
list_all_kept p (x ∷ xs) = by (p x) refl (list_all_kept p xs)
  where
    by : (b : Bool) → p x ≡ b → list_all p (filter p xs) ≡ true → list_all p (cond b (x ∷ filter p xs) (filter p xs)) ≡ true
    by true e more = and_from (p x) (list_all p (filter p xs)) e more
    by false e more = more

pub all_down : (rows : List (List Link)) (places : List ℕ) → AllDown (all_downs rows places)
all_down rows places p =
    elim (cases_lt p (length places)) [
      | inl less ↦
          (let same : 0 + p ≡ p = omega arith in
          subst (λ (row : List Link). list_all (λ link. nat_lt p link.to) row ≡ true) (sym (get_or-map-range_with_len (downs_at rows places) 0 (length places) p p [] less same)) (list_all_kept (λ link. nat_lt p link.to) (links_at rows places p)))
      | inr past ↦
          (let long = length-map-range_with_len (downs_at rows places) 0 (length places) in
          subst (λ (row : List Link). list_all (λ link. nat_lt p link.to) row ≡ true) (sym (past_end (all_downs rows places) p [] (omega (arith, past, long)))) refl)
    ]

pub all_up : (rows : List (List Link)) (places : List ℕ) → AllUp (all_ups rows places)
all_up rows places p =
    elim (cases_lt p (length places)) [
      | inl less ↦
          (let same : 0 + p ≡ p = omega arith in
          subst (λ (row : List Link). list_all (λ link. nat_lt link.to p) row ≡ true) (sym (get_or-map-range_with_len (ups_at rows places) 0 (length places) p p [] less same)) (list_all_kept (λ link. nat_lt link.to p) (links_at rows places p)))
      | inr past ↦
          (let long = length-map-range_with_len (ups_at rows places) 0 (length places) in
          subst (λ (row : List Link). list_all (λ link. nat_lt link.to p) row ≡ true) (sym (past_end (all_ups rows places) p [] (omega (arith, past, long)))) refl)
    ]

-- ---- places
pub places_count : (ranks guids : List ℕ) → length (places_of ranks guids) ≡ length guids
places_count ranks guids = length-map-range_with_len (place_of (precedes ranks guids) (length guids)) 0 (length guids)

pub place_is : (ranks guids : List ℕ) (s : ℕ) → s < length guids
    → place_at (places_of ranks guids) s ≡ place_of (precedes ranks guids) (length guids) s
place_is ranks guids s less =
    let same : 0 + s ≡ s = omega arith in
    get_or-map-range_with_len (place_of (precedes ranks guids) (length guids)) 0 (length guids) s s (length (places_of ranks guids)) less same

pub places_keep : (ranks guids : List ℕ) → IsOrder (length guids) (precedes ranks guids)
    → KeepsTheOrder (length guids) (precedes ranks guids) (place_at (places_of ranks guids))
places_keep ranks guids order =
    record {
      below = λ s less. subst (λ (k : ℕ). k < length guids) (sym (place_is ranks guids s less)) (keeps.below s less);
      less = λ s t sl tl. (ap (λ k. nat_lt k (place_at (places_of ranks guids) t)) (place_is ranks guids s sl) ∙ ap (λ k. nat_lt (place_of (precedes ranks guids) (length guids) s) k) (place_is ranks guids t tl)) ∙ keeps.less s t sl tl;
      own = λ s t sl tl same. keeps.own s t sl tl (sym (place_is ranks guids s sl) ∙ (same ∙ place_is ranks guids t tl));
    }
  where
    keeps : KeepsTheOrder (length guids) (precedes ranks guids) (place_of (precedes ranks guids) (length guids))
    keeps = keeps_order (length guids) (precedes ranks guids) order

-- ---- what the table of a target holds
module _ (rows : List (List Link)) (before : ℕ → ℕ → Bool) (places : List ℕ) (cabling : is_cabling rows ≡ true) (count : length places ≡ length rows)
    (keeps : KeepsTheOrder (length rows) before (place_at places)) where
  switch_is : (s : ℕ) → s < length rows → switch_at places (place_at places s) ≡ Some s
  switch_is s less =
      let first = position_or_len_is (λ other. other == place_at places s) places s (length places) (omega (arith, less, count))
      (λ k low. ne_eqb (place_at places k) (place_at places s) (λ same. let even = keeps.own k s (omega (arith, low, less)) less same in let no_room : ⊥ = omega (arith, low, even) in no_room))
      (λ low. eq-eqb (place_at places s) (place_at places s) refl) in
      let room : s < length places = omega (arith, less, count) in
      rw (first, lt-ltb s (length places) room) refl

  links_are : (s : ℕ) → s < length rows
      → links_at rows places (place_at places s) ≡ map (placed_link (place_at places)) (links_of rows s)
  links_are s less =
      ap (λ (o : Option ℕ). map (placed_link (place_at places)) (option_map_or (links_of rows) o [])) (switch_is s less)

  room : (s : ℕ) → s < length rows → place_at places s < length places
  room s less = let below = keeps.below s less in omega (arith, below, count)

  abbrev down_row : ℕ → List Link
  down_row s = filter (λ link. nat_lt (place_at places s) link.to) (map (placed_link (place_at places)) (links_of rows s))

  abbrev up_row : ℕ → List Link
  up_row s = filter (λ link. nat_lt link.to (place_at places s)) (map (placed_link (place_at places)) (links_of rows s))

  downs_are : (s : ℕ) → s < length rows → links_of (all_downs rows places) (place_at places s) ≡ down_row s
  downs_are s less =
      let same : 0 + place_at places s ≡ place_at places s = omega arith in
      get_or-map-range_with_len (downs_at rows places) 0 (length places) (place_at places s) (place_at places s) [] (room s less) same
      ∙ ap (filter (λ link. nat_lt (place_at places s) link.to)) (links_are s less)

  ups_are : (s : ℕ) → s < length rows → links_of (all_ups rows places) (place_at places s) ≡ up_row s
  ups_are s less =
      let same : 0 + place_at places s ≡ place_at places s = omega arith in
      get_or-map-range_with_len (ups_at rows places) 0 (length places) (place_at places s) (place_at places s) [] (room s less) same
      ∙ ap (filter (λ link. nat_lt link.to (place_at places s))) (links_are s less)

  module _ (d : ℕ) (table : List (Option NextHop)) (there : d < length rows) (is : IsTable (all_downs rows places) (all_ups rows places) (place_at places d) table) where
    abbrev hops_in : List (Option NextHop) → ℕ → Option ℕ
    hops_in list t = option_map (λ hop. hop.hops) (entry_at list (place_at places t))

    abbrev next : ℕ → Option ℕ
    next t = option_map (λ hop. hop.port) (entry_at table (place_at places t))

    reached : (s port t : ℕ) → s < length rows → leads rows s port t ≡ true → t < length rows
    reached s port t less out = (ends rows s t cabling less (leads_next rows s port t out)).0

    best_down : (list : List (Option NextHop)) (s port more : ℕ) → s < length rows
        → BestIn (links_of rows s) (λ t. nat_lt (place_at places s) (place_at places t)) (hops_in list) port more
        → IsBest rows (is_down before s) (hops_in list) s port more
    best_down list s port more less best =
        record {
          to = best.to;
          out = best.out;
          fits = sym (keeps.less s best.to less (reached s port best.to less best.out)) ∙ best.fits;
          at = best.at;
          nearest = λ q t j out fits at. best.nearest q t j out (keeps.less s t less (reached s q t less out) ∙ fits) at;
          least = λ q t out fits at. best.least q t out (keeps.less s t less (reached s q t less out) ∙ fits) at;
        }

    best_up : (list : List (Option NextHop)) (s port more : ℕ) → s < length rows
        → BestIn (links_of rows s) (λ t. nat_lt (place_at places t) (place_at places s)) (hops_in list) port more
        → IsBest rows (is_up before s) (hops_in list) s port more
    best_up list s port more less best =
        record {
          to = best.to;
          out = best.out;
          fits = sym (keeps.less best.to s (reached s port best.to less best.out) less) ∙ best.fits;
          at = best.at;
          nearest = λ q t j out fits at. best.nearest q t j out (keeps.less t s (reached s q t less out) less ∙ fits) at;
          least = λ q t out fits at. best.least q t out (keeps.less t s (reached s q t less out) less ∙ fits) at;
        }

    -- what is read off the entry of a switch
    abbrev falling : ℕ → Option ℕ
    falling t = option_and_then (λ hop. if hop.falls then Some hop.hops else None) (entry_at table (place_at places t))

    abbrev At : ℕ → Option NextHop → Type 0
    At s o = entry_at table (place_at places s) ≡ o

    abbrev Seen : ℕ → Type 0
    Seen s =
        ((f : Falls (IsBest rows) before (hops_in is.down) (hops_in table) next s) × At s (Some (record { port = f.port; hops = suc f.more; falls = true })))
        ⊎ (((f : Climbs rows (IsBest rows) before (hops_in is.down) (hops_in table) next s)
        × At s (Some (record { port = f.port; hops = suc f.more; falls = false })))
        ⊎ (Rests rows before (hops_in is.down) (hops_in table) next s × At s None))

    -- where no way leads down
    from_up : (s : ℕ) → s < length rows → entry_at is.down (place_at places s) ≡ None
        → NoneAt rows (is_down before s) (hops_in is.down) s → Seen s
    from_up s less empty none =
        by (best_found false table (place_at places) (λ q. nat_lt q (place_at places s)) (links_of rows s) (row_rises rows s cabling less))
      where
        entry : entry_at table (place_at places s) ≡ best_of false table (up_row s)
        entry =
            is.up_is.right (place_at places s) (let long = length-map-range_with_len (downs_at rows places) 0 (length places) in let low = room s less in omega (arith, long, low)) empty
            ∙ ap (best_of false table) (ups_are s less)

        by : ((best_of false table (up_row s) ≡ None) × NoneIn (links_of rows s) (λ t. nat_lt (place_at places t) (place_at places s)) (hops_in table))
            ⊎ BestFound false table (place_at places) (λ q. nat_lt q (place_at places s)) (links_of rows s) (best_of false table (up_row s))
            → Seen s
        by (inl gone) =
            inr (inr (
              record {
                down_is = ap (option_map (λ hop. hop.hops)) empty;
                none_down = none;
                own_is = ap (option_map (λ hop. hop.hops)) (entry ∙ gone.0);
                none_up = λ q t out fits. gone.1 q t out (keeps.less t s (reached s q t less out) less ∙ fits);
                next_is = ap (option_map (λ hop. hop.port)) (entry ∙ gone.0);
              },
              entry ∙ gone.0,
            ))
        by (inr f) =
            inr (inl (
              record {
                port = f.port;
                more = f.more;
                down_is = ap (option_map (λ hop. hop.hops)) empty;
                none_down = none;
                own_is = ap (option_map (λ hop. hop.hops)) (entry ∙ f.is);
                next_is = ap (option_map (λ hop. hop.port)) (entry ∙ f.is);
                best = best_up table s f.port f.more less f.own;
              },
              entry ∙ f.is,
            ))

    from_down : (s : ℕ) → s < length rows → place_at places s < place_at places d → Seen s
    from_down s less low =
        by (best_found true is.down (place_at places) (λ q. nat_lt (place_at places s) q) (links_of rows s) (row_rises rows s cabling less))
      where
        entry : entry_at is.down (place_at places s) ≡ best_of true is.down (down_row s)
        entry = is.down_is.right (place_at places s) (omega arith) low ∙ ap (best_of true is.down) (downs_are s less)

        by : ((best_of true is.down (down_row s) ≡ None) × NoneIn (links_of rows s) (λ t. nat_lt (place_at places s) (place_at places t)) (hops_in is.down))
            ⊎ BestFound true is.down (place_at places) (λ q. nat_lt (place_at places s) q) (links_of rows s) (best_of true is.down (down_row s))
            → Seen s
        by (inl gone) =
            from_up s less (entry ∙ gone.0) (λ q t out fits. gone.1 q t out (keeps.less s t less (reached s q t less out) ∙ fits))
        by (inr f) =
            let kept = is.up_is.kept (place_at places s) (record { port = f.port; hops = suc f.more; falls = true }) (entry ∙ f.is) in
            inl (
              record {
                port = f.port;
                more = f.more;
                down_is = ap (option_map (λ hop. hop.hops)) (entry ∙ f.is);
                own_is = ap (option_map (λ hop. hop.hops)) kept;
                next_is = ap (option_map (λ hop. hop.port)) kept;
                best = best_down is.down s f.port f.more less f.own;
              },
              kept,
            )

    from_past : (s : ℕ) → s < length rows → place_at places d < place_at places s → Seen s
    from_past s less high =
        from_up s less (is.down_is.past (place_at places s) high)
        (λ q t out fits. let more = ltb-true (place_at places s) (place_at places t) (keeps.less s t less (reached s q t less out) ∙ fits) in
        ap (option_map (λ hop. hop.hops)) (is.down_is.past (place_at places t) (omega (arith, high, more))))

    seen : (s : ℕ) → s < length rows → s ≢ d → Seen s
    seen s less away =
        elim (cases_order (place_at places s) (place_at places d)) [
          | inl even ↦ absurd (away (keeps.own s d less there even))
          | inr other ↦ elim other [ inl low ↦ from_down s less low | inr high ↦ from_past s less high ]
        ]

    each : (s : ℕ) → s < length rows → s ≢ d → IsEntry rows before (hops_in is.down) (hops_in table) next s
    each s less away = by (seen s less away)
      where
        by : Seen s → IsEntry rows before (hops_in is.down) (hops_in table) next s
        by (inl f) = inl f.0
        by (inr (inl f)) = inr (inl f.0)
        by (inr (inr f)) = inr (inr f.0)

    home_kept : entry_at table (place_at places d) ≡ Some home
    home_kept = is.up_is.kept (place_at places d) home is.down_is.at_home

    down_home : hops_in is.down d ≡ Some 0
    down_home = ap (option_map (λ hop. hop.hops)) is.down_is.at_home

    own_home : hops_in table d ≡ Some 0
    own_home = ap (option_map (λ hop. hop.hops)) home_kept

    pub table_right : AllChosen rows before least_port next d
    table_right = least_chosen rows before d cabling (hops_in is.down) (hops_in table) next down_home own_home each

    pub table_home : next d ≡ Some 0
    table_home = ap (option_map (λ hop. hop.port)) home_kept

    -- ---- ties, as they are read off
    falls_is : (t : ℕ) → t < length rows → hops_in is.down t ≡ falling t
    falls_is t less = by (t == d) refl
      where
        on : Seen t → hops_in is.down t ≡ falling t
        on (inl f) = f.0.down_is ∙ sym (ap (option_and_then (λ hop. if hop.falls then Some hop.hops else None)) f.1)
        on (inr (inl f)) = f.0.down_is ∙ sym (ap (option_and_then (λ hop. if hop.falls then Some hop.hops else None)) f.1)
        on (inr (inr f)) = f.0.down_is ∙ sym (ap (option_and_then (λ hop. if hop.falls then Some hop.hops else None)) f.1)

        by : (b : Bool) → (t == d) ≡ b → hops_in is.down t ≡ falling t
        by true e =
            let same = eqb-true t d e in
            ap (hops_in is.down) same ∙ (down_home
            ∙ sym (ap falling same ∙ ap (option_and_then (λ hop. if hop.falls then Some hop.hops else None)) home_kept))
        by false e = on (seen t less (eqb-false t d e))

    abbrev is_tie : ℕ → NextHop → Link → Bool
    is_tie s own link = option_map_or (is_as_short own (place_at places s) (place_at places link.to)) (entry_at table (place_at places link.to)) false

    abbrev ties : ℕ → NextHop → List ℕ
    ties s own = map (λ link. link.port) (filter (is_tie s own) (links_of rows s))

    -- down, the links are those that lead to a switch from which a way leads down that is one hop shorter
    falls_alike : (s port more : ℕ) (link : Link) → s < length rows → link.to < length rows
        → is_tie s (record { port = port; hops = suc more; falls = true }) link ≡ passes (is_down before s) (hops_in is.down) more link
    falls_alike s port more link sl tl =
        by (entry_at table (place_at places link.to)) refl
      where
        by : (o : Option NextHop) → entry_at table (place_at places link.to) ≡ o
            → is_tie s (record { port = port; hops = suc more; falls = true }) link ≡ passes (is_down before s) (hops_in is.down) more link
        by o e =
            ap (λ (p : Option NextHop). option_map_or (is_as_short (record { port = port; hops = suc more; falls = true }) (place_at places s) (place_at places link.to)) p false) e
            ∙ (step (nat_lt (place_at places s) (place_at places link.to)) (before s link.to) (keeps.less s link.to sl tl) o
            ∙ sym (ap (λ (p : Option ℕ). before s link.to && is_exactly p more)
            (falls_is link.to tl ∙ ap (option_and_then (λ hop. if hop.falls then Some hop.hops else None)) e)))
          where
            step : (b c : Bool) → b ≡ c → (o : Option NextHop)
                → option_map_or (λ beyond. (b && beyond.falls) && (beyond.hops + 1 == suc more)) o false
                ≡ (c && is_exactly (option_and_then (λ hop. if hop.falls then Some hop.hops else None) o) more)
            step b c same None = sym (and_false c)
            step b c same (Some beyond) = rw same (by_fall beyond.falls refl c)
              where
                by_fall : (f : Bool) → beyond.falls ≡ f → (c : Bool)
                    → ((c && beyond.falls) && (beyond.hops + 1 == suc more)) ≡ (c && is_exactly (if beyond.falls then Some beyond.hops else None) more)
                by_fall true e true = rw e (one_more beyond.hops more)
                by_fall true e false = refl
                by_fall false e true = rw e refl
                by_fall false e false = refl

    -- up, those that lead to a switch whose route is one hop shorter
    climbs_alike : (s port more : ℕ) (link : Link) → s < length rows → link.to < length rows
        → is_tie s (record { port = port; hops = suc more; falls = false }) link ≡ passes (is_up before s) (hops_in table) more link
    climbs_alike s port more link sl tl =
        by (entry_at table (place_at places link.to)) refl
      where
        by : (o : Option NextHop) → entry_at table (place_at places link.to) ≡ o
            → is_tie s (record { port = port; hops = suc more; falls = false }) link ≡ passes (is_up before s) (hops_in table) more link
        by o e =
            ap (λ (p : Option NextHop). option_map_or (is_as_short (record { port = port; hops = suc more; falls = false }) (place_at places s) (place_at places link.to)) p false) e
            ∙ (step (nat_lt (place_at places link.to) (place_at places s)) (before link.to s) (keeps.less link.to s tl sl) o
            ∙ sym (ap (λ (p : Option NextHop). before link.to s && is_exactly (option_map (λ hop. hop.hops) p) more) e))
          where
            step : (b c : Bool) → b ≡ c → (o : Option NextHop)
                → option_map_or (λ beyond. b && (beyond.hops + 1 == suc more)) o false
                ≡ (c && is_exactly (option_map (λ hop. hop.hops) o) more)
            step b c same None = sym (and_false c)
            step b c same (Some beyond) = rw same (ap (λ (one : Bool). c && one) (one_more beyond.hops more))

    -- the ties of an entry are those of its kind and length
    falls_same : (s port more : ℕ) → s < length rows
        → ties s (record { port = port; hops = suc more; falls = true }) ≡ ties_in (is_down before s) (hops_in is.down) more (links_of rows s)
    falls_same s port more less =
        ap (map (λ link. link.port)) (filter_alike (length rows) (is_tie s (record { port = port; hops = suc more; falls = true }))
        (passes (is_down before s) (hops_in is.down) more) (λ link low. falls_alike s port more link less low) (links_of rows s) (links_within rows s cabling less))

    climbs_same : (s port more : ℕ) → s < length rows
        → ties s (record { port = port; hops = suc more; falls = false }) ≡ ties_in (is_up before s) (hops_in table) more (links_of rows s)
    climbs_same s port more less =
        ap (map (λ link. link.port)) (filter_alike (length rows) (is_tie s (record { port = port; hops = suc more; falls = false }))
        (passes (is_up before s) (hops_in table) more) (λ link low. climbs_alike s port more link less low) (links_of rows s) (links_within rows s cabling less))

    abbrev named : (ℕ → ℕ → ℕ) → ℕ → Option NextHop → Option ℕ
    named pick s o = option_and_then (λ own. slice_get (ties s own) (pick s (length (ties s own)))) o

    -- what a rule names among these is chosen
    pub table_picked : (pick : ℕ → ℕ → ℕ) (now : ℕ → Option ℕ) → IsRule pick
        → ((s : ℕ) → s < length rows → s ≢ d → now s ≡ named pick s (entry_at table (place_at places s))) → AllChosen rows before pick now d
    unfolding picked_by
    table_picked pick now rule are =
        all_chosen rows before d cabling (hops_in is.down) (hops_in table) next down_home own_home each pick now rule
        (λ s less away. are s less away ∙ by s less (seen s less away))
      where
        by : (s : ℕ) → s < length rows → Seen s
            → named pick s (entry_at table (place_at places s)) ≡ picked_by rows before pick (hops_in is.down) (hops_in table) s (hops_in is.down s) (hops_in table s)
        by s less (inl f) =
            ap (named pick s) f.1
            ∙ (ap (λ (list : List ℕ). slice_get list (pick s (length list))) (falls_same s f.0.port f.0.more less)
            ∙ sym (ap (λ (o : Option ℕ). picked_by rows before pick (hops_in is.down) (hops_in table) s o (hops_in table s)) f.0.down_is))
        by s less (inr (inl f)) =
            ap (named pick s) f.1
            ∙ (ap (λ (list : List ℕ). slice_get list (pick s (length list))) (climbs_same s f.0.port f.0.more less)
            ∙ sym (ap (λ (o : Option ℕ). picked_by rows before pick (hops_in is.down) (hops_in table) s o (hops_in table s)) f.0.down_is
            ∙ ap (picked_by rows before pick (hops_in is.down) (hops_in table) s None) f.0.own_is))
        by s less (inr (inr f)) =
            ap (named pick s) f.1
            ∙ sym (ap (λ (o : Option ℕ). picked_by rows before pick (hops_in is.down) (hops_in table) s o (hops_in table s)) f.0.down_is
            ∙ ap (picked_by rows before pick (hops_in is.down) (hops_in table) s None) f.0.own_is)
