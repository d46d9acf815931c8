-- All pairs are counted, and the text has the line of each channel.
use Rattle.std.proofs.Common.{◌≡◌, ◌∙◌, inl, inr, ap, refl, sym, subst, ℕ, zero, suc, Bool, true, false, not, ◌==◌, ◌&&◌, List, [], ◌∷◌, ◌++◌, flat_map, slice_get, Some, option_map}
use Rattle.std.specs.List.{list_any}
use Rattle.std.specs.Str.Iter.{HasSubslice}
use Rattle.std.proofs.lemmas.Bool.{and_from, and_parts, cases_Bool, eq-eqb, eqb-true, or_left, or_right}
use Rattle.std.proofs.lemmas.Option.{slice_get-map}
use Rattle.fabric_parts.specs.Cable.{is_same_port}
use Rattle.fabric_parts.specs.declared.cable.PortRef.{PortRef}
use Rattle.audit_net.specs.Lids.{aims}
use Rattle.audit_loops.specs.Channels.{channels}
use Rattle.audit_plan.proofs.SubsliceLemmas.{stands_behind, stands_itself, stands_longer}
use Rattle.audit_loads.specs.declared.loaded.Loaded.{Loaded}
use Rattle.audit_loads.specs.Counts.{counts_of}
use Rattle.audit_loads.specs.Laws.{AllPairsAreCounted, AllPairsArePrinted, loaded_by_all}
use Rattle.audit_loads.specs.Loads.{loaded, loads}
use Rattle.audit_loads.specs.Order.{ordered}
use Rattle.audit_loads.specs.Sources.{pairs_by}
use Rattle.audit_loads.specs.Text.{levels_text, load_line, load_text_of, loads_of, pairs_line, summary, text_by, text_of}
use Rattle.audit_loads.proofs.CableLemmas.{same_itself}
use Rattle.audit_loads.proofs.KeyLemmas.{same_port}
use Rattle.audit_loads.proofs.LineLemmas.{count_ordered, none_counted}

-- ---- loads, each in its place
pub all_pairs_are_counted : AllPairsAreCounted
unfolding loads_of
all_pairs_are_counted net talk index = slice_get-map (loaded_by_all net talk) (channels net) index

-- ---- one channel's
abbrev is_one : Loaded → Loaded → Bool
is_one one other = is_same_port other.at one.at && (other.load == one.load)

is_itself : (one : Loaded) → is_one one one ≡ true
is_itself one = and_from (is_same_port one.at one.at) (one.load == one.load) (same_itself one.at) (eq-eqb one.load one.load refl)

same_one : (one other : Loaded) → is_one one other ≡ true → other ≡ one
same_one one other same =
    let parts = and_parts (is_same_port other.at one.at) (other.load == one.load) same in
    ap (λ (load : ℕ). record { load = load; at = other.at }) (eqb-true other.load one.load parts.1)
    ∙ ap (λ (at : PortRef). record { load = one.load; at = at }) (same_port other.at one.at parts.0)

any_at : {X : Type 0} (p : X → Bool) (xs : List X) (index : ℕ) (x : X) → slice_get xs index ≡ Some x → p x ≡ true → list_any p xs ≡ true
any_at p [] index x there is = absurd (cc)
any_at p (y ∷ ys) zero x there is = let same : y ≡ x = cc in or_left (p y) (list_any p ys) (ap p same ∙ is)
any_at p (y ∷ ys) (suc index) x there is = or_right (p y) (list_any p ys) (any_at p ys index x there is)

-- ---- what is printed of one stands in what is printed of all
one_stands : (f : Loaded → List ℕ) (one : Loaded) (all : List Loaded) → list_any (is_one one) all ≡ true → HasSubslice (flat_map f all) (f one)
one_stands f one [] there = cc
one_stands f one (other ∷ rest) there = elim (cases_Bool (is_one one other)) [
  | inl same ↦ stands_longer _ (flat_map f rest) (subst (λ x. HasSubslice (f x) (f one)) (sym (same_one one other same)) (stands_itself (f one)))
  | inr off ↦ let later : list_any (is_one one) rest ≡ true = rw off at there in stands_behind _ (f other) (one_stands f one rest later)
]

-- the order drops none
in_order : (p : Loaded → Bool) (all : List Loaded) → list_any p all ≡ true → list_any p (ordered all) ≡ true
in_order p all there =
    let same : not (list_any p (ordered all)) ≡ not (list_any p all) =
    sym (none_counted p (ordered all)) ∙ ap (λ (n : ℕ). n == 0) (count_ordered p all) ∙ none_counted p all in
    by (list_any p (ordered all)) (same ∙ ap not there)
  where
    by : (b : Bool) → not b ≡ false → b ≡ true
    by true off = refl
    by false off = absurd (cc)

pub all_pairs_are_printed : AllPairsArePrinted
unfolding load_text_of text_by text_of
all_pairs_are_printed = record {
  loads = λ net talk index at is.
      let pairs = pairs_by net talk (aims net) in
      let one = loaded_by_all net talk at in
      let there : slice_get (loads net pairs) index ≡ Some one =
      slice_get-map (loaded net pairs) (channels net) index ∙ ap (option_map (loaded net pairs)) is in
      let stands =
      one_stands (load_line net) one (ordered (loads net pairs))
      (in_order (is_one one) (loads net pairs) (any_at (is_one one) (loads net pairs) index one there (is_itself one))) in
      stands_longer _ (pairs_line (counts_of net pairs)) (stands_longer _ (levels_text net (loads net pairs)) (stands_longer _ (summary (loads net pairs)) stands));
  counts = λ net talk.
      let all = loads net (pairs_by net talk (aims net)) in
      (flat_map (load_line net) (ordered all) ++ summary all ++ levels_text net all, refl);
}
