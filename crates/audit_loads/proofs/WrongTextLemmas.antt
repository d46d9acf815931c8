-- What is wrong with the wrong rules for what is counted and printed, by the two switches of `Examples.antt`.
use Rattle.std.proofs.Common.{◌≡◌, ◌∙◌, ap, refl, subst, ℕ, zero, suc, ◌+◌, ◌≤◌, Bool, true, false, ◌==◌, ◌&&◌, ◌||◌, List, [], ◌∷◌, ◌++◌, filter, flat_map, map, slice_get, take, Option, None, option_map, arith}
use Rattle.std.specs.Fmt.{digits}
use Rattle.std.specs.List.{range_with_len}
use Rattle.std.specs.Option.{option_map_or}
use Rattle.std.specs.Str.Iter.{HasSubslice}
use Rattle.std.proofs.lemmas.Bool.{eq-eqb, false≢true, ne_eqb}
use Rattle.fabric_parts.specs.Cable.{port}
use Rattle.audit_net.specs.declared.lids.Aim.{Aim}
use Rattle.audit_net.specs.Lids.{aim_of, aims, all_lids, is_known_lid}
use Rattle.audit_loops.specs.Channels.{channels}
use Rattle.audit_net.specs.Net.{NetState}
use Rattle.audit_loads.specs.declared.loaded.Loaded.{Loaded}
use Rattle.audit_loads.specs.Counts.{counts_of}
use Rattle.audit_loads.specs.Examples.{both, with_ports}
use Rattle.audit_loads.specs.Loads.{loaded, loads}
use Rattle.audit_loads.specs.Order.{ordered}
use Rattle.audit_loads.specs.Sources.{pairs_by}
use Rattle.audit_loads.specs.Talk.{may_talk}
use Rattle.audit_loads.specs.Text.{level_line, level_means, level_text, level_words, least_line, load_line, loads_of, mean_line, most_line, pairs_line, text_by, text_of}
use Rattle.audit_loads.specs.WrongRules.{AllChannelsArePrinted, AllLidsAreCounted, AllLidsArePrinted}

-- ---- a text has a line somewhere, if it stands in it
abbrev begins : (line text : List ℕ) → Bool
begins [] text = true
begins (a ∷ line) [] = false
begins (a ∷ line) (b ∷ text) = (a == b) && begins line text

abbrev occurs : (line text : List ℕ) → Bool
occurs line [] = begins line []
occurs line (b ∷ text) = begins line (b ∷ text) || occurs line text

begins_with : (line after : List ℕ) → begins line (line ++ after) ≡ true
begins_with [] after = refl
begins_with (a ∷ line) after = rw (eq-eqb a a refl) (begins_with line after)

occurs_first : (line text : List ℕ) → begins line text ≡ true → occurs line text ≡ true
occurs_first line [] is = is
occurs_first line (b ∷ text) is = rw is refl

occurs_later : (line : List ℕ) (b : ℕ) (text : List ℕ) → occurs line text ≡ true → occurs line (b ∷ text) ≡ true
occurs_later line b text is = by (begins line (b ∷ text)) (occurs line text) is
  where
    by : (x y : Bool) → y ≡ true → (x || y) ≡ true
    by true y is = refl
    by false y is = is

occurs_behind : (before line after : List ℕ) → occurs line (before ++ (line ++ after)) ≡ true
occurs_behind [] line after = occurs_first line (line ++ after) (begins_with line after)
occurs_behind (b ∷ before) line after = occurs_later line b (before ++ (line ++ after)) (occurs_behind before line after)

stands_occurs : (text line : List ℕ) → HasSubslice text line → occurs line text ≡ true
stands_occurs text line stands = ap (occurs line) stands.2 ∙ occurs_behind stands.0 line stands.1

-- ---- the LIDs of the two hosts
abbrev net : NetState
net = with_ports 1 2 2 1

unknown : (lid : ℕ) → 3 ≤ lid → is_known_lid net lid ≡ false
unknown lid past = rw (ne_eqb 1 lid (λ same. omega (arith, same, past)), ne_eqb 2 lid (λ same. omega (arith, same, past))) refl

no_more : (first many : ℕ) → 3 ≤ first → filter (is_known_lid net) (range_with_len first many) ≡ []
no_more first zero past = refl
no_more first (suc many) past = rw (unknown first past) (no_more (first + 1) many (omega (arith, past)))

few : (many : ℕ) → filter (is_known_lid net) (range_with_len 0 (suc (suc (suc many)))) ≡ 1 ∷ 2 ∷ []
few many = ap (λ (rest : List ℕ). 1 ∷ 2 ∷ rest) (no_more 3 many (omega arith))

two_aims : aims net ≡ both
unfolding all_lids
two_aims = ap (map (aim_of net)) (few 65533)

-- ---- h/1 sends LID 2, the second, over A/2
pub all_lids_are_counted : AllLidsAreCounted
all_lids_are_counted law =
    let counted =
    subst (λ (all : List Aim). slice_get (loads net (pairs_by net (may_talk None) (take 1 all))) 0
    ≡ option_map (loaded net (pairs_by net (may_talk None) all)) (slice_get (channels net) 0)) two_aims (law net (may_talk None) 0) in
    let none : 0 ≡ 1 = ap (λ (o : Option Loaded). option_map_or (λ (one : Loaded). one.load) o 0) counted in
    absurd (omega (arith, none))

pub all_lids_are_printed : AllLidsArePrinted
unfolding level_line level_means level_text level_words digits least_line load_line mean_line most_line pairs_line text_by text_of
all_lids_are_printed law =
    let stands =
    subst (λ (all : List Aim). HasSubslice (text_by net (pairs_by net (may_talk None) (take 1 all))) (load_line net (loaded net (pairs_by net (may_talk None) all) (port 0 2))))
    two_aims (law.loads net (may_talk None) 0 (port 0 2) refl) in
    false≢true (stands_occurs _ (load_line net (loaded net (pairs_by net (may_talk None) both) (port 0 2))) stands)

-- k/1 sends over B/2
pub all_channels_are_printed : AllChannelsArePrinted
unfolding digits load_line loads_of pairs_line
all_channels_are_printed law =
    let stands =
    subst (λ (all : List Aim). HasSubslice (flat_map (load_line net) (take 1 (ordered (loads net (pairs_by net (may_talk None) all)))) ++ pairs_line (counts_of net (pairs_by net (may_talk None) all)))
    (load_line net (loaded net (pairs_by net (may_talk None) all) (port 1 2))))
    two_aims (law.loads net (may_talk None) 1 (port 1 2) refl) in
    false≢true (stands_occurs _ (load_line net (loaded net (pairs_by net (may_talk None) both) (port 1 2))) stands)
