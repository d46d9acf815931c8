-- A cable mended and cut again, or cut and mended again, leaves rows as they were.
use Rattle.std.proofs.Common.{◌≡◌, ℕ, ◌<◌, ◌≤◌, Bool, true, false, not, ◌==◌, ◌&&◌, ◌||◌, nat_le, nat_lt, List, [], ◌∷◌, ◌++◌, length, get_or, filter}
use Rattle.std.proofs.Common.{refl, ap, sym, ◌∙◌, append_assoc, inl, inr, arith}
use Rattle.std.specs.List.{list_any}
use Rattle.std.proofs.lemmas.Bool.{and_parts, eq-eqb, eqb-true, false≢true, lt-ltb, ltb-true, not-true, or_cases, or_parts}
use Rattle.std.proofs.lemmas.Bool.Decides.{nat_tests}
use Rattle.std.proofs.lemmas.List.{append-nil, ext_get_or}
use Rattle.std.proofs.lemmas.List.Elements.{filter-append, filter_agree}
use Rattle.fabric_parts.specs.Cable.{is_same_port}
use Rattle.fabric_parts.specs.declared.cable.PortRef.{PortRef}
use Rattle.smp_wire.proofs.CableLemmas.{same_port}
use Rattle.sweep.specs.Graph.{GraphState, is_linked, rise_above}
use Rattle.sweep.specs.Laws.{CablesComeBack}
use Rattle.sweep.specs.Recabled.{MayBeCabled, is_free, leaves_by, links_with, row_with, row_without, rows_with, rows_without, with_cable, without}
use Rattle.sweep.specs.declared.graph.GraphLink.{GraphLink}
use Rattle.sweep.proofs.RecabledLemmas.{linked_back, row_right, row_rises}
use Rattle.sweep.proofs.RowLemmas.{above, by_port, made_long, made_there, none_lesser, row_within}

abbrev lesser : ℕ → List GraphLink → List GraphLink
lesser number links = filter (λ link. nat_lt link.port number) links

abbrev greater : ℕ → List GraphLink → List GraphLink
greater number links = filter (λ link. nat_lt number link.port) links

abbrev others : ℕ → List GraphLink → List GraphLink
others number links = filter (λ link. not (link.port == number)) links

abbrev link : ℕ → PortRef → GraphLink
link number to = record { port = number; to = to }

-- ---- lists
filter_twice : {X : Type 0} (strong weak : X → Bool) → ((x : X) → strong x ≡ true → weak x ≡ true) → (xs : List X) → filter strong (filter weak xs) ≡ filter strong xs
filter_twice strong weak implies [] = refl
filter_twice strong weak implies (x ∷ xs) = by (weak x) (strong x) refl refl (filter_twice strong weak implies xs)
  where
    by : (w s : Bool) → weak x ≡ w → strong x ≡ s → filter strong (filter weak xs) ≡ filter strong xs → filter strong (filter weak (x ∷ xs)) ≡ filter strong (x ∷ xs)
    by true true w s rest = rw (w, s) (ap (λ (ys : List _). x ∷ ys) rest)
    by true false w s rest = rw (w, s) rest
    by false false w s rest = rw (w, s) rest
    by false true w s rest = absurd (false≢true (sym w ∙ implies x s))

filter_kept : {X : Type 0} (strong weak : X → Bool) → ((x : X) → strong x ≡ true → weak x ≡ true) → (xs : List X) → filter weak (filter strong xs) ≡ filter strong xs
filter_kept strong weak implies [] = refl
filter_kept strong weak implies (x ∷ xs) = by (strong x) refl (filter_kept strong weak implies xs)
  where
    by : (s : Bool) → strong x ≡ s → filter weak (filter strong xs) ≡ filter strong xs → filter weak (filter strong (x ∷ xs)) ≡ filter strong (x ∷ xs)
    by true s rest = rw (s, implies x s) (ap (λ (ys : List _). x ∷ ys) rest)
    by false s rest = rw s rest

pub filter_all : {X : Type 0} (keep : X → Bool) → ((x : X) → keep x ≡ true) → (xs : List X) → filter keep xs ≡ xs
filter_all keep each [] = refl
filter_all keep each (x ∷ xs) = rw (each x) (ap (λ (ys : List _). x ∷ ys) (filter_all keep each xs))

-- ---- a row, about a port
all_greater : (number last : ℕ) (links : List GraphLink) → number ≤ last → rise_above last links ≡ true → greater number links ≡ links
all_greater number last [] under rise = refl
all_greater number last (one ∷ links) under rise =
    let parts = and_parts (nat_lt last one.port) _ rise in
    let past = ltb-true last one.port parts.0 in
    let is : nat_lt number one.port ≡ true = lt-ltb number one.port (omega (arith, past, under)) in
    rw is (ap (λ (rest : List GraphLink). one ∷ rest) (all_greater number one.port links (omega (arith, past, under)) parts.1))

-- where no link leaves by the port
halves : (number last : ℕ) (links : List GraphLink) → rise_above last links ≡ true → list_any (λ link. link.port == number) links ≡ false
    → lesser number links ++ greater number links ≡ links
halves number last [] rise free = refl
halves number last (one ∷ links) rise free = by (nat_lt one.port number) refl (λ h. halves number one.port links h none.1)
  where
    parts : (nat_lt last one.port ≡ true) × (rise_above one.port links ≡ true)
    parts = and_parts (nat_lt last one.port) _ rise

    none : ((one.port == number) ≡ false) × (list_any (λ link. link.port == number) links ≡ false)
    none = or_parts (one.port == number) _ free

    by : (b : Bool) → nat_lt one.port number ≡ b → (rise_above one.port links ≡ true → lesser number links ++ greater number links ≡ links)
        → lesser number (one ∷ links) ++ greater number (one ∷ links) ≡ one ∷ links
    by true is rest =
        let less = ltb-true one.port number is in
        let other : nat_lt number one.port ≡ false = grind (arith, nat_tests, less) in
        rw (is, other) (ap (λ (more : List GraphLink). one ∷ more) (rest parts.1))
    by false is rest =
        let differ = none.0 in
        let past : number < one.port = grind (arith, nat_tests, is, differ) in
        let more : nat_lt number one.port ≡ true = lt-ltb number one.port past in
        rw (is, more, none_lesser number one.port links (omega (arith, past)) parts.1)
        (ap (λ (rest : List GraphLink). one ∷ rest) (all_greater number one.port links (omega (arith, past)) parts.1))

-- where a link does, to that port
around : (number last : ℕ) (to : PortRef) (links : List GraphLink) → rise_above last links ≡ true
    → list_any (λ link. (link.port == number) && is_same_port link.to to) links ≡ true → lesser number links ++ link number to ∷ greater number links ≡ links
around number last to [] rise some = absurd (false≢true some)
around number last to (one ∷ links) rise some =
    by (nat_lt one.port number) (nat_lt number one.port) refl refl (λ h. around number one.port to links parts.1 h)
  where
    parts : (nat_lt last one.port ≡ true) × (rise_above one.port links ≡ true)
    parts = and_parts (nat_lt last one.port) _ rise

    later : (one.port == number) ≡ false → list_any (λ link. (link.port == number) && is_same_port link.to to) links ≡ true
    later differ = elim (or_cases ((one.port == number) && is_same_port one.to to) _ some) [
      | inl here ↦ absurd (false≢true (sym differ ∙ (and_parts (one.port == number) _ here).0))
      | inr rest ↦ rest
    ]

    it : one.port ≡ number → link number to ≡ one
    it same = elim (or_cases ((one.port == number) && is_same_port one.to to) _ some) [
      | inl here ↦ (let end = same_port one.to to (and_parts (one.port == number) _ here).1 in λ i. record { port = sym same i; to = sym end i })
      | inr rest ↦ absurd (let past = above one.port number links parts.1 (by_port number to links rest) in omega (arith, past, same))
    ]

    by : (l g : Bool) → nat_lt one.port number ≡ l → nat_lt number one.port ≡ g
        → (list_any (λ link. (link.port == number) && is_same_port link.to to) links ≡ true → lesser number links ++ link number to ∷ greater number links ≡ links)
        → lesser number (one ∷ links) ++ link number to ∷ greater number (one ∷ links) ≡ one ∷ links
    by true true l g rest = absurd (let less = ltb-true one.port number l in let more = ltb-true number one.port g in omega (arith, less, more))
    by true false l g rest =
        let less = ltb-true one.port number l in
        let differ : (one.port == number) ≡ false = grind (arith, nat_tests, less) in
        rw (l, g) (ap (λ (more : List GraphLink). one ∷ more) (rest (later differ)))
    by false true l g rest =
        let more = ltb-true number one.port g in
        let differ : (one.port == number) ≡ false = grind (arith, nat_tests, more) in
        absurd (let past = above one.port number links parts.1 (by_port number to links (later differ)) in omega (arith, past, more))
    by false false l g rest =
        let same : one.port ≡ number = grind (arith, nat_tests, l, g) in
        rw (l, g, none_lesser number one.port links (omega (arith, same)) parts.1, all_greater number one.port links (omega (arith, same)) parts.1)
        (ap (λ (first : GraphLink). first ∷ links) (it same))

less_differs : (number : ℕ) (one : GraphLink) → nat_lt one.port number ≡ true → not (one.port == number) ≡ true
less_differs number one is = let less = ltb-true one.port number is in let other : (one.port == number) ≡ false = grind (arith, nat_tests, less) in rw other refl

more_differs : (number : ℕ) (one : GraphLink) → nat_lt number one.port ≡ true → not (one.port == number) ≡ true
more_differs number one is = let more = ltb-true number one.port is in let other : (one.port == number) ≡ false = grind (arith, nat_tests, more) in rw other refl

taken_out : (number last : ℕ) (to : PortRef) (links : List GraphLink) → rise_above last links ≡ true → list_any (λ link. link.port == number) links ≡ false
    → others number (links_with number to links) ≡ links
taken_out number last to links rise free =
    filter-append (λ link. not (link.port == number)) (lesser number links ++ link number to ∷ []) (greater number links)
    ∙ ap (λ (first : List GraphLink). first ++ others number (greater number links)) (filter-append (λ link. not (link.port == number)) (lesser number links) (link number to ∷ []))
    ∙ rw (
      filter_kept (λ link. nat_lt link.port number) (λ link. not (link.port == number)) (less_differs number) links,
      filter_kept (λ link. nat_lt number link.port) (λ link. not (link.port == number)) (more_differs number) links,
      eq-eqb number number refl,
      append-nil (lesser number links),
    ) (halves number last links rise free)

put_back : (number last : ℕ) (to : PortRef) (links : List GraphLink) → rise_above last links ≡ true
    → list_any (λ link. (link.port == number) && is_same_port link.to to) links ≡ true → links_with number to (others number links) ≡ links
put_back number last to links rise some =
    rw (
      filter_twice (λ link. nat_lt link.port number) (λ link. not (link.port == number)) (less_differs number) links,
      filter_twice (λ link. nat_lt number link.port) (λ link. not (link.port == number)) (more_differs number) links,
    )
    (append_assoc (lesser number links) (link number to ∷ []) (greater number links) ∙ around number last to links rise some)

-- ---- the row of a switch
by_first : (u v p q : Bool) → u ≡ true → v ≡ false → not ((u && p) || (v && q)) ≡ not p
by_first true false true q one other = refl
by_first true false false q one other = refl
by_first true true p q one other = absurd (false≢true (sym other))
by_first false v p q one other = absurd (false≢true one)

by_second : (u v p q : Bool) → u ≡ false → v ≡ true → not ((u && p) || (v && q)) ≡ not q
by_second false true p q one other = refl
by_second false false p q one other = absurd (false≢true other)
by_second true v p q one other = absurd (false≢true (sym one))

by_neither : (u v p q : Bool) → u ≡ false → v ≡ false → not ((u && p) || (v && q)) ≡ true
by_neither false false p q one other = refl
by_neither false true p q one other = absurd (false≢true (sym other))
by_neither true v p q one other = absurd (false≢true (sym one))

module _ (a b : PortRef) (apart : (a.node == b.node) ≡ false) (k : ℕ) (links : List GraphLink) where
  -- which of the two switches it is
  pub data Which : Type 0 where
    First : (k == a.node) ≡ true → (k == b.node) ≡ false → Which
    Second : (k == a.node) ≡ false → (k == b.node) ≡ true → Which
    Neither : (k == a.node) ≡ false → (k == b.node) ≡ false → Which

  pub which : Which
  which = by (k == a.node) (k == b.node) refl refl
    where
      by : (u v : Bool) → (k == a.node) ≡ u → (k == b.node) ≡ v → Which
      by true true u v = absurd (false≢true (sym apart ∙ eq-eqb a.node b.node (sym (eqb-true k a.node u) ∙ eqb-true k b.node v)))
      by true false u v = First u v
      by false true u v = Second u v
      by false false u v = Neither u v

  cut_first : (k == a.node) ≡ true → (k == b.node) ≡ false → (some : List GraphLink) → row_without a b k some ≡ others a.port some
  cut_first u v some =
      filter_agree (λ link. not (leaves_by k a link || leaves_by k b link)) (λ link. not (link.port == a.port))
      (λ link. by_first (k == a.node) (k == b.node) (link.port == a.port) (link.port == b.port) u v) some

  cut_second : (k == a.node) ≡ false → (k == b.node) ≡ true → (some : List GraphLink) → row_without a b k some ≡ others b.port some
  cut_second u v some =
      filter_agree (λ link. not (leaves_by k a link || leaves_by k b link)) (λ link. not (link.port == b.port))
      (λ link. by_second (k == a.node) (k == b.node) (link.port == a.port) (link.port == b.port) u v) some

  cut_neither : (k == a.node) ≡ false → (k == b.node) ≡ false → (some : List GraphLink) → row_without a b k some ≡ some
  cut_neither u v some =
      filter_all (λ link. not (leaves_by k a link || leaves_by k b link))
      (λ link. by_neither (k == a.node) (k == b.node) (link.port == a.port) (link.port == b.port) u v) some

  mended_first : (k == a.node) ≡ true → row_with a b k links ≡ links_with a.port b links
  mended_first u = rw u refl

  mended_second : (k == a.node) ≡ false → (k == b.node) ≡ true → row_with a b k links ≡ links_with b.port a links
  mended_second u v = rw (u, v) refl

  mended_neither : (k == a.node) ≡ false → (k == b.node) ≡ false → row_with a b k links ≡ links
  mended_neither u v = rw (u, v) refl

module _ (rows : List (List GraphLink)) (a b : PortRef) (apart : (a.node == b.node) ≡ false) (rises : (k : ℕ) → k < length rows → rise_above 0 (get_or rows k []) ≡ true) where
  long_with : length (rows_with a b rows) ≡ length rows
  long_with = made_long (row_with a b) 0 rows

  long_without : length (rows_without a b rows) ≡ length rows
  long_without = made_long (row_without a b) 0 rows

  at_node : (x : PortRef) (k : ℕ) → (k == x.node) ≡ true → get_or rows x.node [] ≡ get_or rows k []
  at_node x k same = ap (λ (n : ℕ). get_or rows n []) (sym (eqb-true k x.node same))

  -- mended, and cut again
  module _ (first : is_free rows a ≡ true) (second : is_free rows b ≡ true) where
    free : (x : PortRef) (k : ℕ) → is_free rows x ≡ true → (k == x.node) ≡ true → list_any (λ link. link.port == x.port) (get_or rows k []) ≡ false
    free x k is same = ap (list_any (λ link. link.port == x.port)) (sym (at_node x k same)) ∙ not-true _ is

    row_out : (k : ℕ) → k < length rows → row_without a b k (row_with a b k (get_or rows k [])) ≡ get_or rows k []
    row_out k less = by (which a b apart k (get_or rows k []))
      where
        by : Which a b apart k (get_or rows k []) → row_without a b k (row_with a b k (get_or rows k [])) ≡ get_or rows k []
        by (First u v) =
            ap (row_without a b k) (mended_first a b apart k (get_or rows k []) u) ∙ cut_first a b apart k (get_or rows k []) u v (links_with a.port b (get_or rows k []))
            ∙ taken_out a.port 0 b (get_or rows k []) (rises k less) (free a k first u)
        by (Second u v) =
            ap (row_without a b k) (mended_second a b apart k (get_or rows k []) u v) ∙ cut_second a b apart k (get_or rows k []) u v (links_with b.port a (get_or rows k []))
            ∙ taken_out b.port 0 a (get_or rows k []) (rises k less) (free b k second v)
        by (Neither u v) =
            ap (row_without a b k) (mended_neither a b apart k (get_or rows k []) u v) ∙ cut_neither a b apart k (get_or rows k []) u v (get_or rows k [])

    pub rows_out : rows_without a b (rows_with a b rows) ≡ rows
    rows_out =
        let size = made_long (row_without a b) 0 (rows_with a b rows) in
        let with_size = long_with in
        ext_get_or [] (rows_without a b (rows_with a b rows)) rows (size ∙ with_size)
        (λ k less. let in_with : k < length (rows_with a b rows) = omega (arith, less, size) in
        let in_rows : k < length rows = omega (arith, less, size, with_size) in
        made_there (row_without a b) (rows_with a b rows) k in_with
        ∙ ap (row_without a b k) (made_there (row_with a b) rows k in_rows) ∙ row_out k in_rows)

  -- cut, and mended again
  module _ (first : is_linked rows a b ≡ true) (second : is_linked rows b a ≡ true) where
    row_back : (k : ℕ) → k < length rows → row_with a b k (row_without a b k (get_or rows k [])) ≡ get_or rows k []
    row_back k less = by (which a b apart k (get_or rows k []))
      where
        by : Which a b apart k (get_or rows k []) → row_with a b k (row_without a b k (get_or rows k [])) ≡ get_or rows k []
        by (First u v) =
            ap (row_with a b k) (cut_first a b apart k (get_or rows k []) u v (get_or rows k [])) ∙ mended_first a b apart k (others a.port (get_or rows k [])) u
            ∙ put_back a.port 0 b (get_or rows k []) (rises k less)
            (ap (list_any (λ link. (link.port == a.port) && is_same_port link.to b)) (sym (at_node a k u)) ∙ first)
        by (Second u v) =
            ap (row_with a b k) (cut_second a b apart k (get_or rows k []) u v (get_or rows k [])) ∙ mended_second a b apart k (others b.port (get_or rows k [])) u v
            ∙ put_back b.port 0 a (get_or rows k []) (rises k less)
            (ap (list_any (λ link. (link.port == b.port) && is_same_port link.to a)) (sym (at_node b k v)) ∙ second)
        by (Neither u v) =
            ap (row_with a b k) (cut_neither a b apart k (get_or rows k []) u v (get_or rows k [])) ∙ mended_neither a b apart k (get_or rows k []) u v

    pub rows_back : rows_with a b (rows_without a b rows) ≡ rows
    rows_back =
        let size = made_long (row_with a b) 0 (rows_without a b rows) in
        let cut_size = long_without in
        ext_get_or [] (rows_with a b (rows_without a b rows)) rows (size ∙ cut_size)
        (λ k less. let in_cut : k < length (rows_without a b rows) = omega (arith, less, size) in
        let in_rows : k < length rows = omega (arith, less, size, cut_size) in
        made_there (row_with a b) (rows_without a b rows) k in_cut
        ∙ ap (row_with a b k) (made_there (row_without a b) rows k in_rows) ∙ row_back k in_rows)

-- ---- of graphs
apart_of : (graph : GraphState) (is : Rattle.sweep.specs.Graph.IsGraph graph) (a b : PortRef) → is_linked graph.rows a b ≡ true → (a.node == b.node) ≡ false
apart_of graph is a b linked =
    let test = λ (link : GraphLink). (link.port == a.port) && is_same_port link.to b in
    let within = row_within test graph.rows a.node linked in
    let one = Rattle.sweep.proofs.JoinedLemmas.some_in (λ (link : GraphLink). link.port) test (Rattle.sweep.specs.Graph.is_right_link graph.switches graph.rows a.node)
    (get_or graph.rows a.node []) (row_right graph is a.node within) linked in
    let end = same_port one.0.to b (and_parts (one.0.port == a.port) _ one.1).1 in
    let right = (and_parts (nat_le one.0.port (Rattle.sweep.specs.Graph.count_at graph.switches a.node)) _ one.2).1 in
    let differ = not-true _ (and_parts (not (one.0.to.node == a.node)) _ right).0 in
    flip b.node a.node (ap (λ (p : PortRef). p.node == a.node) (sym end) ∙ differ)
  where
    flip : (n m : ℕ) → (n == m) ≡ false → (m == n) ≡ false
    flip n m h = grind (arith, nat_tests, h)

pub cables_come_back : CablesComeBack
cables_come_back graph a b is = (out, back)
  where
    out : MayBeCabled graph a b → without a b (with_cable a b graph) ≡ graph
    out may =
        ap (λ (rows : List (List GraphLink)). record graph { rows = rows })
        (rows_out graph.rows a b may.apart (row_rises graph is) may.first_free may.second_free)

    back : is_linked graph.rows a b ≡ true → with_cable a b (without a b graph) ≡ graph
    back linked =
        ap (λ (rows : List (List GraphLink)). record graph { rows = rows })
        (rows_back graph.rows a b (apart_of graph is a b linked) (row_rises graph is) linked (linked_back graph is a b linked))
