-- Wrong rules for the lines of what decides.
use Rattle.std.proofs.Common.{◌≡◌, ◌∙◌, ap, inl, inr, refl, subst, sym, ℕ, zero, suc, ◌+◌, ◌≤◌, ◌==◌, true, List, [], ◌∷◌, ◌++◌, codes, count_by, decimal, filter, get_or, is_some, length, lit<, arith}
use Rattle.std.specs.Fmt.{digits}
use Rattle.std.proofs.lemmas.Bool.{eq-eqb, false≢true, or_left}
use Rattle.std.proofs.lemmas.List.{length-append}
use Rattle.std.proofs.lemmas.Option.{same_Some}
use Rattle.fabric_parts.specs.Cable.{port}
use Rattle.topo_file.specs.Node.{is_switch_at}
use Rattle.audit_net.specs.declared.following.Turn.{Turn}
use Rattle.audit_net.specs.declared.following.Turn.TheVariants as turns
use Rattle.audit_net.specs.Following.{turn}
use Rattle.audit_net.specs.Laws.{EndsBy}
use Rattle.audit_net.specs.Net.{NetState}
use Rattle.audit_net.specs.SmallNets.{a_hole}
use Rattle.audit_plan.proofs.SubsliceLemmas.{no_longer}
use Rattle.audit_net.specs.declared.lids.Aim.{Aim}
use Rattle.audit_net.specs.OwnerLaws.{end_port_of}
use Rattle.audit_net.specs.Lids.{aim_of, aims}
use Rattle.audit_routes.specs.Audit.{body_by, counts_by, decides_nothing, findings_of, lines_by}
use Rattle.audit_routes.specs.Loops.{credit_loop, loops_of}
use Rattle.audit_routes.specs.Deciding.{counted_line, switches_words, unreached_line}
use Rattle.audit_routes.specs.Laws.{AreThose, CarriesAHost, IsLostFrom, LacksTheEntry, NamesLost, NamesUnknown, SaysWhich, verdict_of}
use Rattle.audit_routes.specs.Lines.{lid_text}
use Rattle.audit_routes.specs.Pairs.{pairs_by}
use Rattle.audit_routes.specs.WrongRules.{AllSwitchesAreCounted, HostsSwitchesCount, LinesAreCounted, LostPairsHaveALine, MissingTablesDoNotCount, PacketsHaveToCome, ReasonsHaveALine, UnknownIsNotLost, a_hole_at_home, a_row_left_out, a_table_missing, at_nine, from_anywhere, lacking_where, lacks_anything, lacks_in_vain, nine_holes, of_eight, troubles_alone, unknown_is_lost}
use Rattle.audit_routes.proofs.CarriesLemmas.{carries}
use Rattle.audit_routes.proofs.DecidingLemmas.{is_in, kept_back}
use Rattle.audit_routes.proofs.WrongLemmas.{few_aims}

-- what ends here ends in no other way
ends_here : (net : NetState) (lid place : ℕ) (turned other : Turn) → turn net lid place ≡ turned → ((next : ℕ) → turned ≡ turns.Goes next → ⊥)
    → EndsBy net lid place other → other ≡ turned
ends_here net lid place turned other is stays ([], way) = sym way.0 ∙ is
ends_here net lid place turned other is stays ((next ∷ rest), way) = absurd (stays next (sym is ∙ way.0))

-- ---- nine switches have a hole
hole_there : (place : ℕ) → turn nine_holes 1 place ≡ turns.Hole → CarriesAHost nine_holes place → IsLostFrom nine_holes 1 place
hole_there place is carrying = record {
  carries = carrying;
  end = port 9 1;
  named = refl;
  host = refl;
  arrives = λ way. let e : turns.Arrives (port 9 1) ≡ turns.Hole = ends_here nine_holes 1 place turns.Hole (turns.Arrives (port 9 1)) is (λ next goes. let e : turns.Hole ≡ turns.Goes next = goes in cc) way in cc;
  known = λ way. let e : turns.Unknown ≡ turns.Hole = ends_here nine_holes 1 place turns.Hole turns.Unknown is (λ next goes. let e : turns.Hole ≡ turns.Goes next = goes in cc) way in cc;
}

apart : ◌≡◌ {A = ℕ} 56 57 → ⊥
apart is = omega (arith, is)

pub all_switches_are_counted : AllSwitchesAreCounted
unfolding digits switches_words
all_switches_are_counted law =
    let named = law nine_holes 1 in
    let those = named.1 in
    let kept : (place : ℕ) → IsLostFrom nine_holes 1 place → those.test place ≡ true =
    λ place lost. (kept_back those.test at_nine place (subst (λ (places : List ℕ). is_in place places ≡ true) those.order (those.all place lost))).0 in
    let t0 = kept 0 (hole_there 0 refl (record { switch = refl; number = 1; low = omega arith; high = omega arith; at = port 9 1; cable = refl; host = refl })) in
    let t1 = kept 1 (hole_there 1 refl (record { switch = refl; number = 1; low = omega arith; high = omega arith; at = port 9 2; cable = refl; host = refl })) in
    let t2 = kept 2 (hole_there 2 refl (record { switch = refl; number = 1; low = omega arith; high = omega arith; at = port 9 3; cable = refl; host = refl })) in
    let t3 = kept 3 (hole_there 3 refl (record { switch = refl; number = 1; low = omega arith; high = omega arith; at = port 9 4; cable = refl; host = refl })) in
    let t4 = kept 4 (hole_there 4 refl (record { switch = refl; number = 1; low = omega arith; high = omega arith; at = port 9 5; cable = refl; host = refl })) in
    let t5 = kept 5 (hole_there 5 refl (record { switch = refl; number = 1; low = omega arith; high = omega arith; at = port 9 6; cable = refl; host = refl })) in
    let t6 = kept 6 (hole_there 6 refl (record { switch = refl; number = 1; low = omega arith; high = omega arith; at = port 9 7; cable = refl; host = refl })) in
    let t7 = kept 7 (hole_there 7 refl (record { switch = refl; number = 1; low = omega arith; high = omega arith; at = port 9 8; cable = refl; host = refl })) in
    let t8 = kept 8 (hole_there 8 refl (record { switch = refl; number = 1; low = omega arith; high = omega arith; at = port 9 9; cable = refl; host = refl })) in
    let all : filter those.test at_nine ≡ at_nine = rw (t0, t1, t2, t3, t4, t5, t6, t7, t8) refl in
    let words : List ℕ = codes "unreached " ++ lid_text nine_holes 1 (end_port_of nine_holes 1) ++ codes " from " in
    let says : SaysWhich nine_holes words at_nine (of_eight nine_holes (aim_of nine_holes 1)) =
    subst (λ (places : List ℕ). SaysWhich nine_holes words places (of_eight nine_holes (aim_of nine_holes 1))) (those.order ∙ all) named.2 in
    apart (ap (λ (line : List ℕ). get_or line 23 0) (says.many (omega arith)))

-- ---- where nothing is lost there is no line
no_line : (line : NetState → Aim → List ℕ) → NamesLost line → (net : NetState) (lid : ℕ) → ((place : ℕ) → IsLostFrom net lid place → ⊥) → line net (aim_of net lid) ≡ []
no_line line law net lid none = by (law net lid).0 (law net lid).1 (law net lid).2
  where
    by : (places : List ℕ) → AreThose net (IsLostFrom net lid) places
        → SaysWhich net (codes "unreached " ++ lid_text net lid (end_port_of net lid) ++ codes " from ") places (line net (aim_of net lid)) → line net (aim_of net lid) ≡ []
    by [] those says = says.none refl
    by (x ∷ xs) those says = absurd (none x (those.only x (or_left (x == x) _ (eq-eqb x x refl))))

hole_loses_none : (place : ℕ) → IsLostFrom a_hole 1 place → ⊥
hole_loses_none zero lost =
    let is : lost.end ≡ port 2 1 = same_Some lost.end (port 2 1) (sym lost.named) in
    lost.arrives (subst (λ at. EndsBy a_hole 1 0 (turns.Arrives at)) (sym is) ([], (refl, λ next goes. let e : turns.Arrives (port 2 1) ≡ turns.Goes next = goes in cc)))
hole_loses_none (suc zero) lost = false≢true (carries a_hole 1 lost.carries)
hole_loses_none (suc (suc zero)) lost = false≢true lost.carries.switch
hole_loses_none (suc (suc (suc n))) lost = false≢true lost.carries.switch

pub hosts_switches_count : HostsSwitchesCount
unfolding switches_words
hosts_switches_count law = let none : from_anywhere a_hole (aim_of a_hole 1) ≡ [] = no_line from_anywhere law a_hole 1 hole_loses_none in cc

missing_loses_none : (place : ℕ) → IsLostFrom a_table_missing 1 place → ⊥
missing_loses_none zero lost = lost.known ([], (refl, λ next goes. let e : turns.Unknown ≡ turns.Goes next = goes in cc))
missing_loses_none (suc zero) lost = false≢true (carries a_table_missing 1 lost.carries)
missing_loses_none (suc (suc zero)) lost = false≢true lost.carries.switch
missing_loses_none (suc (suc (suc n))) lost = false≢true lost.carries.switch

pub unknown_is_not_lost : UnknownIsNotLost
unfolding switches_words
unknown_is_not_lost law =
    let none : unknown_is_lost a_table_missing (aim_of a_table_missing 1) ≡ [] = no_line unknown_is_lost law a_table_missing 1 missing_loses_none in cc

-- ---- where no switch lacks an entry there is no line
no_unknown : (line : NetState → Aim → List ℕ) → NamesUnknown line → (net : NetState) (lid : ℕ) → ((place : ℕ) → LacksTheEntry net lid place → ⊥)
    → line net (aim_of net lid) ≡ []
no_unknown line law net lid none = by (law net lid).0 (law net lid).1 (law net lid).2
  where
    by : (places : List ℕ) → AreThose net (LacksTheEntry net lid) places
        → SaysWhich net (codes "unknown " ++ lid_text net lid (end_port_of net lid) ++ codes " at ") places (line net (aim_of net lid)) → line net (aim_of net lid) ≡ []
    by [] those says = says.none refl
    by (x ∷ xs) those says = absurd (none x (those.only x (or_left (x == x) _ (eq-eqb x x refl))))

missing_lacks_none : (place : ℕ) → LacksTheEntry a_table_missing 1 place → ⊥
missing_lacks_none zero lacks = false≢true lacks.table
missing_lacks_none (suc zero) lacks = let e : turn a_table_missing 1 1 ≡ turns.Unknown = lacks.unknown in cc
missing_lacks_none (suc (suc zero)) lacks = false≢true lacks.switch
missing_lacks_none (suc (suc (suc n))) lacks = false≢true lacks.switch

pub missing_tables_do_not_count : MissingTablesDoNotCount
unfolding switches_words
missing_tables_do_not_count law =
    let none : lacking_where lacks_anything a_table_missing (aim_of a_table_missing 1) ≡ [] =
    no_unknown (lacking_where lacks_anything) law a_table_missing 1 missing_lacks_none in
    cc

-- the second switch lacks the row of LID 64, and nobody sends it there
left_out_lacks_none : (place : ℕ) → LacksTheEntry a_row_left_out 64 place → ⊥
left_out_lacks_none zero lacks = let e : turn a_row_left_out 64 0 ≡ turns.Unknown = lacks.unknown in cc
left_out_lacks_none (suc zero) lacks = elim lacks.comes [
  | inl host ↦ false≢true (carries a_row_left_out 1 host.0)
  | inr sent ↦ nobody sent.0 sent.1 sent.2
]
  where
    nobody : (from : ℕ) → is_switch_at a_row_left_out.plan.nodes from ≡ true → turn a_row_left_out 64 from ≡ turns.Goes 1 → ⊥
    nobody zero switch goes = cc
    nobody (suc zero) switch goes = cc
    nobody (suc (suc zero)) switch goes = false≢true switch
    nobody (suc (suc (suc n))) switch goes = false≢true switch
left_out_lacks_none (suc (suc zero)) lacks = false≢true lacks.switch
left_out_lacks_none (suc (suc (suc n))) lacks = false≢true lacks.switch

pub packets_have_to_come : PacketsHaveToCome
unfolding switches_words
packets_have_to_come law =
    let none : lacking_where lacks_in_vain a_row_left_out (aim_of a_row_left_out 64) ≡ [] =
    no_unknown (lacking_where lacks_in_vain) law a_row_left_out 64 left_out_lacks_none in
    cc

-- ---- texts that end before
home_lost : IsLostFrom a_hole_at_home 1 0
home_lost = record {
  carries = record { switch = refl; number = 1; low = omega arith; high = omega arith; at = port 2 1; cable = refl; host = refl };
  end = port 2 1;
  named = refl;
  host = refl;
  arrives = λ way. let e : turns.Arrives (port 2 1) ≡ turns.Hole = ends_here a_hole_at_home 1 0 turns.Hole (turns.Arrives (port 2 1)) refl (λ next goes. let e : turns.Hole ≡ turns.Goes next = goes in cc) way in cc;
  known = λ way. let e : turns.Unknown ≡ turns.Hole = ends_here a_hole_at_home 1 0 turns.Hole turns.Unknown refl (λ next goes. let e : turns.Hole ≡ turns.Goes next = goes in cc) way in cc;
}

-- `hole A 1 (h/1)`
short : length (troubles_alone a_hole_at_home) ≡ 15
unfolding digits
short = rw (few_aims a_hole_at_home refl refl) refl

pub lost_pairs_have_a_line : LostPairsHaveALine
unfolding digits switches_words
lost_pairs_have_a_line law =
    let most : 37 ≤ length (troubles_alone a_hole_at_home) =
    no_longer _ (unreached_line a_hole_at_home (aim_of a_hole_at_home 1)) (law a_hole_at_home 1 0 (lit< tt) home_lost) in
    absurd (omega (arith, most, short))

home_loses : (verdict_of a_hole_at_home).loses ≡ true
home_loses = rw (few_aims a_hole_at_home refl refl) refl

pub reasons_have_a_line : ReasonsHaveALine
reasons_have_a_line law =
    let has = law.pairs a_hole_at_home home_loses in
    let lid : List ℕ = lid_text a_hole_at_home has.lid (end_port_of a_hole_at_home has.lid) in
    let line : List ℕ = codes "unreached " ++ lid ++ codes " from " ++ decimal has.count ++ codes " switches:" in
    let most : length line ≤ length (troubles_alone a_hole_at_home) = no_longer (troubles_alone a_hole_at_home) line has.line in
    let last : length line ≡ length (codes "unreached " ++ lid ++ codes " from " ++ decimal has.count) + 10 =
    length-append (codes "unreached " ++ lid ++ codes " from " ++ decimal has.count) (codes " switches:") in
    let third : length (codes "unreached " ++ lid ++ codes " from " ++ decimal has.count) ≡ length (codes "unreached " ++ lid ++ codes " from ") + length (decimal has.count) =
    length-append (codes "unreached " ++ lid ++ codes " from ") (decimal has.count) in
    let second : length (codes "unreached " ++ lid ++ codes " from ") ≡ length (codes "unreached " ++ lid) + 6 = length-append (codes "unreached " ++ lid) (codes " from ") in
    let first : length (codes "unreached " ++ lid) ≡ 10 + length lid = length-append (codes "unreached ") lid in
    absurd (omega (arith, most, last, third, second, first, short))

-- one line of fifteen bytes
module _ (before lines comment behind first troubles counted last : List ℕ) where
  lengths : length lines ≡ 15 → length comment ≡ 47 → length troubles ≡ 15 → length counted ≡ 48 → first ++ troubles ++ last ≡ before ++ lines ++ behind
      → first ++ counted ++ last ≡ before ++ comment ++ behind → ⊥
  lengths l c t n all rest =
      let whole = ap (λ (bytes : List ℕ). length bytes) all in
      let brief = ap (λ (bytes : List ℕ). length bytes) rest in
      let w1 = length-append (first ++ troubles) last in
      let w2 = length-append first troubles in
      let b1 = length-append (first ++ counted) last in
      let b2 = length-append first counted in
      let l1 = length-append (before ++ lines) behind in
      let l2 = length-append before lines in
      let c1 = length-append (before ++ comment) behind in
      let c2 = length-append before comment in
      omega (arith, l, c, t, n, whole, brief, w1, w2, b1, b2, l1, l2, c1, c2)

one_line : count_by (λ byte. byte == 10) (troubles_alone a_hole_at_home) ≡ 1
unfolding digits
one_line = rw (few_aims a_hole_at_home refl refl) refl

pub lines_are_counted : LinesAreCounted
unfolding body_by counted_line digits findings_of
lines_are_counted law =
    let lines = law.each a_hole_at_home in
    let one : count_by (λ byte. byte == 10) (law.lines a_hole_at_home) ≡ 1 = ap (λ (bytes : List ℕ). count_by (λ byte. byte == 10) bytes) lines ∙ one_line in
    let comment : length (law.comment a_hole_at_home) ≡ 47 = ap (λ (bytes : List ℕ). length bytes) (law.some a_hole_at_home 0 one) in
    let counted : length (counted_line (length (troubles_alone a_hole_at_home))) ≡ 48 = ap (λ (n : ℕ). length (counted_line n)) short in
    lengths (law.before a_hole_at_home) (law.lines a_hole_at_home) (law.comment a_hole_at_home) (law.behind a_hole_at_home)
    (lines_by a_hole_at_home (aims a_hole_at_home) (loops_of a_hole_at_home (aims a_hole_at_home)))
    (troubles_alone a_hole_at_home) (counted_line (length (troubles_alone a_hole_at_home)))
    (counts_by (pairs_by a_hole_at_home (aims a_hole_at_home)) (is_some (credit_loop a_hole_at_home (aims a_hole_at_home)))
    (decides_nothing (loops_of a_hole_at_home (aims a_hole_at_home))))
    (ap (λ (bytes : List ℕ). length bytes) lines ∙ short) comment short counted (law.all a_hole_at_home) (law.rest a_hole_at_home)
