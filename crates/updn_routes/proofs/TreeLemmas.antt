-- The tree: each switch but the first root has a tree port, and they lead to the first root.
use Rattle.std.proofs.Common.{◌≡◌, ◌≢◌, ℕ, zero, suc, ◌+◌, ◌<◌, ◌≤◌, Bool, true, false, ◌==◌, nat_lt, List, [], ◌∷◌, map, cond, find, length, get_or}
use Rattle.std.proofs.Common.{Option, Some, None, option_map, refl, sym, ap, subst, ◌∙◌, inl, inr, arith}
use Rattle.std.specs.List.{list_all, list_any}
use Rattle.std.proofs.lemmas.Bool.{and_parts, and_from, or_cases, or_left, or_right, eqb-true, eq-eqb, ne_eqb, false≢true}
use Rattle.updn_routes.specs.declared.link.Link.{Link}
use Rattle.updn_routes.specs.Cabling.{is_cabling, is_next_to, is_walk, links_of, rises}
use Rattle.updn_routes.specs.Choice.{is_route}
use Rattle.updn_routes.specs.Laws.{IsTreePort}
use Rattle.updn_routes.specs.Order.{AreDistances}
use Rattle.updn_routes.specs.Tree.{tree_link, tree_port}
use Rattle.updn_routes.proofs.CablingLemmas.{ends, goes, later_port, leads_next, row_rises}
use Rattle.updn_routes.proofs.RouteLemmas.{step_first}

-- ---- the first link of a row that leads to a good switch
none_found : (p : Link → Bool) (row : List Link) → ((link : Link) → p link ≡ false) → find p row ≡ None
none_found p [] off = refl
none_found p (link ∷ row) off = rw (off link) (none_found p row off)

record Found (good : ℕ → Bool) (row : List Link) : Type 0 where
  link : Link
  first : find (λ l. good l.to) row ≡ Some link
  passes : good link.to ≡ true
  there : list_any (goes link.port link.to) row ≡ true
  least : (port t : ℕ) → list_any (goes port t) row ≡ true → good t ≡ true → link.port ≤ port

found : (good : ℕ → Bool) (row : List Link) → rises (map (λ link. link.port) row) ≡ true
    → list_any (λ l. good l.to) row ≡ true → Found good row
found good [] up h = absurd (false≢true h)
found good (link ∷ row) up h = by (good link.to) refl (λ more. found good row parts.1 more)
  where
    parts : (list_all (λ y. nat_lt link.port y) (map (λ l. l.port) row) ≡ true) × (rises (map (λ l. l.port) row) ≡ true)
    parts = and_parts (list_all (λ y. nat_lt link.port y) (map (λ l. l.port) row)) (rises (map (λ l. l.port) row)) up

    later : good link.to ≡ false → (list_any (λ l. good l.to) row ≡ true)
    later e =
        elim (or_cases (good link.to) (list_any (λ l. good l.to) row) h) [ inl here ↦ absurd (false≢true (sym e ∙ here)) | inr more ↦ more ]

    here_first : (b : Bool) → b ≡ true → (if_so : Option Link) → cond b (Some link) if_so ≡ Some link
    here_first b e if_so = rw e refl

    here_not : (b : Bool) → b ≡ false → (if_so o : Option Link) → if_so ≡ o → cond b (Some link) if_so ≡ o
    here_not b e if_so o same = rw e same

    by : (b : Bool) → good link.to ≡ b → (list_any (λ l. good l.to) row ≡ true → Found good row)
        → Found good (link ∷ row)
    by true e more =
        record {
          link = link;
          first = here_first (good link.to) e (find (λ l. good l.to) row);
          passes = e;
          there = or_left (goes link.port link.to link) _ (and_from (link.port == link.port) (link.to == link.to) (eq-eqb link.port link.port refl) (eq-eqb link.to link.to refl));
          least = λ port t way is. elim (or_cases (goes port t link) (list_any (goes port t) row) way) [
            | inl here ↦ (let same = eqb-true link.port port (and_parts (link.port == port) (link.to == t) here).0 in omega (arith, same))
            | inr rest ↦ (let past = later_port link.port port t row parts.0 rest in omega (arith, past))
          ];
        }
    by false e more =
        let one = more (later e) in
        record {
          link = one.link;
          first = here_not (good link.to) e (find (λ l. good l.to) row) (Some one.link) one.first;
          passes = one.passes;
          there = or_right (goes one.link.port one.link.to link) _ one.there;
          least = λ port t way is. elim (or_cases (goes port t link) (list_any (goes port t) row) way) [
            | inl here ↦ absurd (false≢true (sym e ∙ subst (λ (v : ℕ). good v ≡ true) (sym (eqb-true link.to t (and_parts (link.port == port) (link.to == t) here).1)) is))
            | inr rest ↦ one.least port t rest is
          ];
        }

good_next : (good : ℕ → Bool) (t : ℕ) (row : List Link) → list_any (λ l. l.to == t) row ≡ true → good t ≡ true
    → list_any (λ l. good l.to) row ≡ true
good_next good t [] h is = absurd (false≢true h)
good_next good t (link ∷ row) h is =
    elim (or_cases (link.to == t) (list_any (λ l. l.to == t) row) h) [
      | inl here ↦ or_left (good link.to) _ (subst (λ (v : ℕ). good v ≡ true) (sym (eqb-true link.to t here)) is)
      | inr later ↦ or_right (good link.to) _ (good_next good t row later is)
    ]

-- ---- depths
module _ (rows : List (List Link)) (is_first : ℕ → Bool) (depths : List ℕ) (cabling : is_cabling rows ≡ true) (right : AreDistances rows is_first depths) where
  abbrev depth : ℕ → ℕ
  depth s = get_or depths s 0

  pub first_depth : (s : ℕ) → s < length rows → is_first s ≡ true → depth s ≡ 0
  first_depth s less is = let far = (right.each s less).none_shorter s [] is (eq-eqb s s refl) in omega (arith, far)

  pub no_tree_link : (s : ℕ) → s < length rows → is_first s ≡ true → tree_link rows depths s ≡ None
  no_tree_link s less is =
      none_found (λ link. depth link.to + 1 == depth s) (links_of rows s)
      (λ link. ne_eqb (depth link.to + 1) (depth s) (λ same. let none = first_depth s less is in omega (arith, same, none)))

  pub no_tree_port : (s : ℕ) → s < length rows → is_first s ≡ true → tree_port rows depths s ≡ None
  no_tree_port s less is = ap (option_map (λ link. link.port)) (no_tree_link s less is)

  record Parent (s : ℕ) : Type 0 where
    parent : ℕ
    beside : is_next_to rows s parent ≡ true
    nearer : depth parent + 1 ≡ depth s

  parent_of : (s : ℕ) → s < length rows → is_first s ≡ false → Parent s
  parent_of s less off =
      by (right.each s less).some.0 (right.each s less).some.1 (right.each s less).some.2 (right.each s less).some.3 (right.each s less).some.4
    where
      by : (d : ℕ) (steps : List ℕ) → is_first d ≡ true → is_walk rows s steps d ≡ true → length steps ≡ depth s
          → Parent s
      by d [] end walk long =
          absurd (false≢true (sym off ∙ subst (λ (v : ℕ). is_first v ≡ true) (sym (eqb-true s d walk)) end))
      by d (t ∷ steps) end walk long =
          let parts = and_parts (is_next_to rows s t) (is_walk rows t steps d) walk in
          let there = (ends rows s t cabling less parts.0).0 in
          let near = (right.each t there).none_shorter d steps end parts.1 in
          let more = (right.each t there).some in
          let far = (right.each s less).none_shorter more.0 (t ∷ more.1) more.2 (and_from (is_next_to rows s t) (is_walk rows t more.1 more.0) parts.0 more.3) in
          let same = more.4 in
          record { parent = t; beside = parts.0; nearer = omega (arith, near, far, same, long) }

  link_found : (s : ℕ) → s < length rows → is_first s ≡ false → Found (λ t. depth t + 1 == depth s) (links_of rows s)
  link_found s less off =
      let up = parent_of s less off in
      let good : ℕ → Bool = λ t. depth t + 1 == depth s in
      found good (links_of rows s) (row_rises rows s cabling less) (good_next good up.parent (links_of rows s) up.beside (eq-eqb (depth up.parent + 1) (depth s) up.nearer))

  pub link_of : (s : ℕ) → s < length rows → is_first s ≡ false → (link : Link) × (tree_link rows depths s ≡ Some link)
  link_of s less off = let one = link_found s less off in (one.link, one.first)

  pub port_of : (s : ℕ) → s < length rows → is_first s ≡ false
      → (port : ℕ) × (tree_port rows depths s ≡ Some port) × IsTreePort rows depths s port
  port_of s less off =
      let one = link_found s less off in (
        one.link.port,
        ap (option_map (λ link. link.port)) one.first,
        record {
          parent = one.link.to;
          link = one.there;
          nearer = eqb-true (depth one.link.to + 1) (depth s) one.passes;
          least = λ other t way nearer. one.least other t way (eq-eqb (depth t + 1) (depth s) nearer);
        },
      )

  abbrev Home : ℕ → Type 0
  Home s =
      (first : ℕ) × (steps : List ℕ) × (is_first first ≡ true) × (first < length rows) × (is_route rows (tree_port rows depths) s steps first ≡ true) × (length steps ≡ depth s)

  home : (k s : ℕ) → s < length rows → depth s ≡ k → Home s
  home zero s less deep = by (is_first s) refl
    where
      by : (b : Bool) → is_first s ≡ b → Home s
      by true e = (s, [], e, less, eq-eqb s s refl, sym deep)
      by false e =
          absurd (let up =
          parent_of s less e in let nearer = up.nearer in let no_room : ⊥ = omega (arith, nearer, deep) in no_room)
  home (suc k) s less deep = by (is_first s) refl (λ t there at. home k t there at)
    where
      on : (port : ℕ) → tree_port rows depths s ≡ Some port → (at : IsTreePort rows depths s port) → Home at.parent
          → Home s
      on port picked at more =
          let end = first_depth more.0 more.3 more.2 in
          let away : s ≢ more.0 = λ same. (let one : depth s ≡ depth more.0 = ap (λ v. depth v) same in omega (arith, one, end, deep)) in
          let long = more.5 in
          let nearer = at.nearer in (
            more.0,
            at.parent ∷ more.1,
            more.2,
            more.3,
            step_first rows (tree_port rows depths) s at.parent more.1 more.0 (record { away = away; port = port; picked = picked; out = at.link; rest = more.4 }),
            omega (arith, long, nearer),
          )

      by : (b : Bool) → is_first s ≡ b → ((t : ℕ) → t < length rows → depth t ≡ k → Home t) → Home s
      by true e later =
          absurd (let none = first_depth s less e in let no_room : ⊥ = omega (arith, none, deep) in no_room)
      by false e later =
          let one = port_of s less e in
          let nearer = one.2.nearer in
          let there = (ends rows s one.2.parent cabling less (leads_next rows s one.0 one.2.parent one.2.link)).0 in
          on one.0 one.1 one.2 (later one.2.parent there (omega (arith, nearer, deep)))

  pub leads_home : (s : ℕ) → s < length rows
      → (first : ℕ) × (steps : List ℕ) × (is_first first ≡ true) × (is_route rows (tree_port rows depths) s steps first ≡ true) × (length steps ≡ depth s)
  leads_home s less = let all : Home s = home (depth s) s less refl in (all.0, all.1, all.2, all.4, all.5)
