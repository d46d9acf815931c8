-- Each node is drawn once: by itself, or in the list that is drawn at its first adapter.
use Rattle.std.proofs.Common.{ℕ, zero, suc, ◌+◌, ◌<◌, ◌≤◌, ◌≡◌, ◌≢◌, ◌==◌, ◌∙◌, ap, refl, sym, arith, ◌&&◌, inl, inr, if◌then◌else◌}
use Rattle.std.proofs.Common.{Bool, true, false, List, [], ◌∷◌, ◌++◌, length, Option, Some, None}
use Rattle.std.specs.Prelude.{filter, find}
use Rattle.std.specs.List.{flat_map, range_with_len}
use Rattle.std.specs.Str.{bytes_eq}
use Rattle.std.proofs.lemmas.Slice.Eq.{bytes_eq-Decides}
use Rattle.std.proofs.lemmas.Bool.{cases_Bool, eq-eqb, eqb-true}
use Rattle.std.proofs.lemmas.List.Concat.{flat_map-cons}
use Rattle.std.proofs.lemmas.List.Elements.{filter-append}
use Rattle.fabric_graph.specs.Laws.{EachNodeIsDrawnOnce}
use Rattle.fabric_graph.specs.Lists.{AttachmentState, drawn_at, if_listed, is_alike, is_beside, is_first, listed_attachment, make_list, members, places, attachment_in}
use Rattle.step_results.proofs.ListLemmas.{found_passes}

-- ---- one number among others
abbrev pub only : ℕ → ℕ → Bool
only place drawn = drawn == place

pub other_number : (a b : ℕ) → a ≢ b → (a == b) ≡ false
other_number a b differ = by (a == b) refl
  where
    by : (t : Bool) → (a == b) ≡ t → t ≡ false
    by true e = absurd (differ (eqb-true a b e))
    by false e = refl

none_below : (place a n : ℕ) → place < a → filter (only place) (range_with_len a n) ≡ []
none_below place a zero below = refl
none_below place a (suc n) below =
    let other = other_number a place (λ e. omega (arith, below, e)) in
    rw other (none_below place (a + 1) n (omega (arith, below)))

after : (x y : ℕ) → x ≤ y → x ≢ y → x + 1 ≤ y
after x y less differ = omega (arith, less, differ)

pub clashing : true ≡ false → ⊥
clashing e = cc

differs : (a b : ℕ) → (a == b) ≡ false → a ≢ b
differs a b e same = clashing (sym (eq-eqb a b same) ∙ e)

pub one_in_range : (place a n : ℕ) → a ≤ place → place < a + n → filter (only place) (range_with_len a n) ≡ place ∷ []
one_in_range place a zero low high = absurd (omega (arith, low, high))
one_in_range place a (suc n) low high = elim (cases_Bool (a == place)) [
  | inl e ↦ let same = eqb-true a place e in rw e (rw (none_below place (a + 1) n (omega (arith, same))) (ap (λ (k : ℕ). k ∷ []) same))
  | inr e ↦ rw e (one_in_range place (a + 1) n (after a place low (differs a place e)) (omega (arith, high)))
]

-- ---- what a filter leaves of one number
kept : (test : ℕ → Bool) (place : ℕ) (xs : List ℕ) → test place ≡ true → filter (only place) (filter test xs) ≡ filter (only place) xs
kept test place [] passes = refl
kept test place (x ∷ xs) passes = elim (cases_Bool (test x)) [
  | inl e ↦ elim (cases_Bool (x == place)) [
    | inl same ↦ rw (e, same) (ap (λ (ys : List ℕ). x ∷ ys) (kept test place xs passes))
    | inr same ↦ rw (e, same) (kept test place xs passes)
  ]
  | inr e ↦ elim (cases_Bool (x == place)) [
    | inl same ↦ absurd (clashing (sym passes ∙ ap test (sym (eqb-true x place same)) ∙ e))
    | inr same ↦ rw (e, same) (kept test place xs passes)
  ]
]

dropped : (test : ℕ → Bool) (place : ℕ) (xs : List ℕ) → test place ≡ false → filter (only place) (filter test xs) ≡ []
dropped test place [] fails = refl
dropped test place (x ∷ xs) fails = elim (cases_Bool (test x)) [
  | inl e ↦ elim (cases_Bool (x == place)) [
    | inl same ↦ absurd (clashing (sym e ∙ ap test (eqb-true x place same) ∙ fails))
    | inr same ↦ rw (e, same) (dropped test place xs fails)
  ]
  | inr e ↦ rw e (dropped test place xs fails)
]

-- ---- lists one after the other, of which one has the number
module _ (f : ℕ → List ℕ) (place lead : ℕ) (each : (at : ℕ) → filter (only place) (f at) ≡ (if at == lead then place ∷ [] else [])) where
  cut : (a n : ℕ) → filter (only place) (flat_map f (range_with_len a (suc n)))
      ≡ (if a == lead then place ∷ [] else []) ++ filter (only place) (flat_map f (range_with_len (a + 1) n))
  cut a n =
      ap (filter (only place)) (flat_map-cons f a (range_with_len (a + 1) n))
      ∙ filter-append (only place) (f a) (flat_map f (range_with_len (a + 1) n))
      ∙ ap (λ (xs : List ℕ). xs ++ filter (only place) (flat_map f (range_with_len (a + 1) n))) (each a)

  before_lead : (a n : ℕ) → lead < a → filter (only place) (flat_map f (range_with_len a n)) ≡ []
  before_lead a zero below = refl
  before_lead a (suc n) below =
      let other = other_number a lead (λ e. omega (arith, below, e)) in
      cut a n ∙ rw other (before_lead (a + 1) n (omega (arith, below)))

  pub one_in_flat : (a n : ℕ) → a ≤ lead → lead < a + n → filter (only place) (flat_map f (range_with_len a n)) ≡ place ∷ []
  one_in_flat a zero low high = absurd (omega (arith, low, high))
  one_in_flat a (suc n) low high = cut a n ∙ elim (cases_Bool (a == lead)) [
    | inl e ↦ let same = eqb-true a lead e in rw e (rw (before_lead (a + 1) n (omega (arith, same))) refl)
    | inr e ↦ rw e (one_in_flat (a + 1) n (after a lead low (differs a lead e)) (omega (arith, high)))
  ]

-- ---- attachments that are alike
pub and_both : (a b : Bool) → a && b ≡ true → (a ≡ true) × (b ≡ true)
and_both true true e = (refl, refl)
and_both true false e = absurd (clashing (sym e))
and_both false b e = absurd (clashing (sym e))

-- they are the same switch and the same partitions
alike_same : (switch : ℕ) (partitions : List ℕ) (attachment : AttachmentState) → is_alike switch partitions attachment ≡ true
    → (attachment.switch ≡ switch) × (attachment.partitions ≡ partitions)
alike_same switch partitions attachment is =
    let parts = and_both (attachment.switch == switch) (bytes_eq attachment.partitions partitions) is in
    (eqb-true attachment.switch switch parts.0, (bytes_eq-Decides attachment.partitions partitions).0 parts.1)

own_alike : (attachment : AttachmentState) → is_alike attachment.switch attachment.partitions attachment ≡ true
own_alike attachment = rw (eq-eqb attachment.switch attachment.switch refl, (bytes_eq-Decides attachment.partitions attachment.partitions).1 refl) refl

module _ (attachments : List (Option AttachmentState)) where
  -- a place beside a attachment has a attachment that is alike
  beside_attachment : (switch : ℕ) (partitions : List ℕ) (place : ℕ) → is_beside attachments switch partitions place ≡ true
      → (attachment : AttachmentState) × (attachment_in attachments place ≡ Some attachment) × (attachment.switch ≡ switch) × (attachment.partitions ≡ partitions)
  beside_attachment switch partitions place is = by (attachment_in attachments place) refl
    where
      by : (given : Option AttachmentState) → attachment_in attachments place ≡ given
          → (attachment : AttachmentState) × (attachment_in attachments place ≡ Some attachment) × (attachment.switch ≡ switch) × (attachment.partitions ≡ partitions)
      by None e = absurd (clashing (sym is ∙ rw e refl))
      by (Some attachment) e = let alike = alike_same switch partitions attachment (sym (rw e refl) ∙ is) in (attachment, e, alike.0, alike.1)

  beside_own : (place : ℕ) (attachment : AttachmentState) → attachment_in attachments place ≡ Some attachment → is_beside attachments attachment.switch attachment.partitions place ≡ true
  beside_own place attachment at = rw at (own_alike attachment)

  -- whether a attachment's list is long enough says the same of all in it
  listed_by : (place : ℕ) (attachment : AttachmentState) → attachment_in attachments place ≡ Some attachment → make_list attachments attachment ≡ true → listed_attachment attachments place ≡ Some attachment
  listed_by place attachment at enough = rw (at, enough) refl

  pub listed_is : (place : ℕ) (attachment : AttachmentState) → listed_attachment attachments place ≡ Some attachment → (attachment_in attachments place ≡ Some attachment) × (make_list attachments attachment ≡ true)
  listed_is place attachment is = by (attachment_in attachments place) refl
    where
      enough : (s : AttachmentState) (b : Bool) → make_list attachments s ≡ b → if_listed attachments s ≡ Some attachment → (s ≡ attachment) × (make_list attachments attachment ≡ true)
      enough s true e is =
          let same : s ≡ attachment = same_attachment (sym (rw e refl) ∙ is) in (same, ap (make_list attachments) (sym same) ∙ e)
        where
          same_attachment : Some s ≡ Some attachment → s ≡ attachment
          same_attachment h = cc
      enough s false e is = absurd (none (sym (rw e refl) ∙ is))
        where
          none : None ≡ Some attachment → ⊥
          none h = cc

      by : (given : Option AttachmentState) → attachment_in attachments place ≡ given → (attachment_in attachments place ≡ Some attachment) × (make_list attachments attachment ≡ true)
      by None e = absurd (none (sym (rw e refl) ∙ is))
        where
          none : None ≡ Some attachment → ⊥
          none h = cc
      by (Some s) e =
          let parts = enough s (make_list attachments s) refl (sym (rw e refl) ∙ is) in
          (e ∙ ap (λ (t : AttachmentState). Some t) parts.0, parts.1)

  -- a attachment of which another's list is long enough is listed as well
  listed_beside : (place : ℕ) (attachment : AttachmentState) → make_list attachments attachment ≡ true → is_beside attachments attachment.switch attachment.partitions place ≡ true
      → (own : AttachmentState) × (listed_attachment attachments place ≡ Some own) × (own.switch ≡ attachment.switch) × (own.partitions ≡ attachment.partitions)
  unfolding make_list
  listed_beside place attachment enough beside =
      let own = beside_attachment attachment.switch attachment.partitions place beside in
      (own.0, listed_by place own.0 own.1 (rw (own.2, own.3) enough), own.2, own.3)

  none_is_some : (attachment : AttachmentState) → None ≡ Some attachment → ⊥
  none_is_some attachment e = cc

  same_some : (x y : AttachmentState) → Some x ≡ Some y → x ≡ y
  same_some x y e = cc

  -- what is drawn where a listed node stands
  drawn_list : (at : ℕ) (attachment : AttachmentState) → listed_attachment attachments at ≡ Some attachment
      → drawn_at attachments at ≡ (if is_first attachments attachment at then members attachments attachment else [])
  drawn_list at attachment listed = rw listed refl

  module _ (place : ℕ) (low : place < length attachments) where
    others : (at : ℕ) (attachment : AttachmentState) → is_beside attachments attachment.switch attachment.partitions place ≡ false
        → filter (only place) (if is_first attachments attachment at then members attachments attachment else []) ≡ []
    unfolding members
    others at attachment beside = by (is_first attachments attachment at)
      where
        by : (b : Bool) → filter (only place) (if b then members attachments attachment else []) ≡ []
        by true = dropped (is_beside attachments attachment.switch attachment.partitions) place (places attachments) beside
        by false = refl

    alone : (at lead : ℕ) → (at ≡ place → at ≡ lead) → (at ≡ lead → at ≡ place) → filter (only place) (at ∷ []) ≡ (if at == lead then place ∷ [] else [])
    alone at lead to from = by (at == place) refl (at == lead) refl
      where
        by : (b : Bool) → (at == place) ≡ b → (c : Bool) → (at == lead) ≡ c → filter (only place) (at ∷ []) ≡ (if at == lead then place ∷ [] else [])
        by true e true f = rw (e, f) (ap (λ (k : ℕ). k ∷ []) (eqb-true at place e))
        by true e false f = absurd (clashing (sym (eq-eqb at lead (to (eqb-true at place e))) ∙ f))
        by false e true f = absurd (clashing (sym (eq-eqb at place (from (eqb-true at lead f))) ∙ e))
        by false e false f = rw (e, f) refl

    -- of a node that is drawn by itself
    module _ (unlisted : listed_attachment attachments place ≡ None) where
      not_beside : (attachment : AttachmentState) → make_list attachments attachment ≡ true → is_beside attachments attachment.switch attachment.partitions place ≡ false
      not_beside attachment enough = by (is_beside attachments attachment.switch attachment.partitions place) refl
        where
          by : (b : Bool) → is_beside attachments attachment.switch attachment.partitions place ≡ b → b ≡ false
          by false e = refl
          by true e = let own = listed_beside place attachment enough e in absurd (none_is_some own.0 (sym unlisted ∙ own.1))

      by_itself : (at : ℕ) → filter (only place) (drawn_at attachments at) ≡ (if at == place then place ∷ [] else [])
      by_itself at = by (listed_attachment attachments at) refl
        where
          by : (given : Option AttachmentState) → listed_attachment attachments at ≡ given → filter (only place) (drawn_at attachments at) ≡ (if at == place then place ∷ [] else [])
          by None e = rw e (alone at place (λ same. same) (λ same. same))
          by (Some attachment) e =
              let differ : at ≢ place = λ same. none_is_some attachment (sym unlisted ∙ ap (listed_attachment attachments) (sym same) ∙ e) in
              let other = other_number at place differ in
              ap (filter (only place)) (drawn_list at attachment e) ∙ others at attachment (not_beside attachment (listed_is at attachment e).1) ∙ sym (rw other refl)

    -- of a node in a list
    module _ (own : AttachmentState) (listed : listed_attachment attachments place ≡ Some own) (lead : ℕ)
        (first : find (is_beside attachments own.switch own.partitions) (places attachments) ≡ Some lead) where
      lead_beside : is_beside attachments own.switch own.partitions lead ≡ true
      lead_beside = found_passes (is_beside attachments own.switch own.partitions) (places attachments) lead first

      lead_listed : (attachment : AttachmentState) × (listed_attachment attachments lead ≡ Some attachment) × (attachment.switch ≡ own.switch) × (attachment.partitions ≡ own.partitions)
      lead_listed = listed_beside lead own (listed_is place own listed).1 lead_beside

      own_beside : is_beside attachments own.switch own.partitions place ≡ true
      own_beside = beside_own place own (listed_is place own listed).0

      -- the list at this place is the node's
      same_list : (at : ℕ) (attachment : AttachmentState) → attachment.switch ≡ own.switch → attachment.partitions ≡ own.partitions
          → filter (only place) (if is_first attachments attachment at then members attachments attachment else []) ≡ (if at == lead then place ∷ [] else [])
      unfolding members is_first
      same_list at attachment switch partitions = rw (switch, partitions, first) (by (at == lead) refl (lead == at) refl)
        where
          whole : filter (only place) (filter (is_beside attachments own.switch own.partitions) (places attachments)) ≡ place ∷ []
          whole = kept (is_beside attachments own.switch own.partitions) place (places attachments) own_beside ∙ one_in_range place 0 (length attachments) (omega arith) (omega (arith, low))

          by : (b : Bool) → (at == lead) ≡ b → (c : Bool) → (lead == at) ≡ c
              → filter (only place) (if lead == at then filter (is_beside attachments own.switch own.partitions) (places attachments) else []) ≡ (if at == lead then place ∷ [] else [])
          by true e true f = rw (e, f) whole
          by true e false f = absurd (clashing (sym (eq-eqb lead at (sym (eqb-true at lead e))) ∙ f))
          by false e true f = absurd (clashing (sym (eq-eqb at lead (sym (eqb-true lead at f))) ∙ e))
          by false e false f = rw (e, f) refl

      in_list : (at : ℕ) → filter (only place) (drawn_at attachments at) ≡ (if at == lead then place ∷ [] else [])
      in_list at = by (listed_attachment attachments at) refl
        where
          by : (given : Option AttachmentState) → listed_attachment attachments at ≡ given → filter (only place) (drawn_at attachments at) ≡ (if at == lead then place ∷ [] else [])
          by None e =
              rw e (alone at lead
              (λ same. absurd (none_is_some own (sym e ∙ ap (listed_attachment attachments) same ∙ listed)))
              (λ same. absurd (none_is_some lead_listed.0 (sym e ∙ ap (listed_attachment attachments) same ∙ lead_listed.1))))
          by (Some attachment) e = ap (filter (only place)) (drawn_list at attachment e) ∙ by_list (is_beside attachments attachment.switch attachment.partitions place) refl
            where
              by_list : (b : Bool) → is_beside attachments attachment.switch attachment.partitions place ≡ b
                  → filter (only place) (if is_first attachments attachment at then members attachments attachment else []) ≡ (if at == lead then place ∷ [] else [])
              by_list true beside =
                  let there = beside_attachment attachment.switch attachment.partitions place beside in
                  let same : there.0 ≡ own = same_some there.0 own (sym there.1 ∙ (listed_is place own listed).0) in
                  same_list at attachment (sym there.2 ∙ ap (λ (t : AttachmentState). t.switch) same) (sym there.3 ∙ ap (λ (t : AttachmentState). t.partitions) same)
              by_list false beside =
                  let differ : at ≢ lead = λ same. elsewhere same in
                  let other = other_number at lead differ in
                  others at attachment beside ∙ sym (rw other refl)
                where
                  elsewhere : at ≡ lead → ⊥
                  elsewhere same =
                      let attachment_is : attachment ≡ lead_listed.0 = same_some attachment lead_listed.0 (sym e ∙ ap (listed_attachment attachments) same ∙ lead_listed.1) in
                      let switch : attachment.switch ≡ own.switch = ap (λ (t : AttachmentState). t.switch) attachment_is ∙ lead_listed.2 in
                      let partitions : attachment.partitions ≡ own.partitions = ap (λ (t : AttachmentState). t.partitions) attachment_is ∙ lead_listed.3 in
                      clashing (sym own_beside ∙ sym (rw (switch, partitions) refl) ∙ beside)

-- ---- the law
find_there : (test : ℕ → Bool) (a n place : ℕ) → test place ≡ true → a ≤ place → place < a + n
    → (found : ℕ) × (find test (range_with_len a n) ≡ Some found) × (a ≤ found) × (found < a + n)
find_there test a zero place passes low high = absurd (omega (arith, low, high))
find_there test a (suc n) place passes low high = elim (cases_Bool (test a)) [
  | inl e ↦ (a, rw e refl, omega arith, omega arith)
  | inr e ↦
      let skipped : find test (range_with_len a (suc n)) ≡ find test (range_with_len (a + 1) n) = rw e refl in
      let differ : a ≢ place = λ same. clashing (sym passes ∙ ap test (sym same) ∙ e) in
      let later = find_there test (a + 1) n place passes (after a place low differ) (omega (arith, high)) in
      let from = later.2 in
      let to = later.3 in
      (later.0, skipped ∙ later.1, omega (arith, from), omega (arith, to))
]

pub each_node_is_drawn_once : EachNodeIsDrawnOnce
each_node_is_drawn_once attachments place low = by (listed_attachment attachments place) refl
  where
    by : (given : Option AttachmentState) → listed_attachment attachments place ≡ given → filter (only place) (flat_map (drawn_at attachments) (places attachments)) ≡ place ∷ []
    by None e = one_in_flat (drawn_at attachments) place place (by_itself attachments place low e) 0 (length attachments) (omega arith) (omega (arith, low))
    by (Some own) e =
        let first = find_there (is_beside attachments own.switch own.partitions) 0 (length attachments) place (beside_own attachments place own (listed_is attachments place own e).0) (omega arith) (omega (arith, low)) in
        one_in_flat (drawn_at attachments) place first.0 (in_list attachments place low own e first.0 first.1) 0 (length attachments) first.2 first.3
