-- How many nodes have a name, if one node more has its name.
use Rattle.std.proofs.Common.{ℕ, zero, suc, ◌≡◌, ◌∙◌, ◌+◌, ◌==◌, ap, refl, sym, Bool, true, false, cond, not, List, [], ◌∷◌, ◌++◌, Option, Some, None, arith}
use Rattle.std.specs.Prelude.{Vec, bytes_eq, count_by, is_some}
use Rattle.std.specs.Global.{Global}
use Rattle.std.proofs.lemmas.Bool.{ne_eqb}
use Rattle.std.proofs.lemmas.Slice.Eq.{bytes_eq-Decides}
use Rattle.indexmap.specs.IndexMap.{IndexMap, get}
use Rattle.netdiscover_file.specs.declared.node.Node.{Node}
use Rattle.audit_plan.specs.Names.{KnowsNames, alone_if, alone_in}
use Rattle.step_results.proofs.RisingLemmas.{counted}

count_more : (p : Node → Bool) (nodes : List Node) (node : Node) → count_by p (nodes ++ node ∷ []) ≡ count_by p nodes + cond (p node) 1 0
count_more p [] node = let one = counted p node [] in omega (arith, one)
count_more p (first ∷ nodes) node =
    let more = counted p first (nodes ++ node ∷ []) in
    let these = counted p first nodes in
    let rest = count_more p nodes node in
    omega (arith, more, these, rest)

some : (count : ℕ) → (suc count == 0) ≡ false
some count = ne_eqb (suc count) 0 (λ e. absurd (omega (arith, e)))

several : (count : ℕ) → (suc (suc count) == 1) ≡ false
several count = ne_eqb (suc (suc count)) 1 (λ e. absurd (omega (arith, e)))

-- a name that a node has is noted as one alone, if no node had it, and else as one of several
noted : (count : ℕ) (known : Option Bool) → known ≡ alone_if count → Some (not (is_some known)) ≡ alone_if (count + 1)
noted zero known is = rw is refl
noted (suc count) known is = let two : suc count + 1 ≡ suc (suc count) = omega arith in rw (is, two, some count, some (suc count), several count) refl

pub names_more : {S : Type 0} (before after : IndexMap (Vec ℕ Global) Bool S) (nodes : List Node) (node : Node) (name : Vec ℕ Global) (alone : Bool)
    → name.items ≡ node.name → KnowsNames before nodes → alone ≡ not (is_some (get (λ a b. bytes_eq a.items b.items) before name))
    → ((other : Vec ℕ Global) → get (λ a b. bytes_eq a.items b.items) after other ≡ cond (bytes_eq name.items other.items) (Some alone) (get (λ a b. bytes_eq a.items b.items) before other))
    → KnowsNames after (nodes ++ node ∷ [])
names_more before after nodes node name alone named knows alone_is updated other = updated other ∙ by (bytes_eq name.items other.items) refl
  where
    has : Node → Bool
    has one = bytes_eq other.items one.name

    by : (b : Bool) → bytes_eq name.items other.items ≡ b
        → cond b (Some alone) (get (λ a c. bytes_eq a.items c.items) before other) ≡ alone_if (count_by (λ one. bytes_eq other.items one.name) (nodes ++ node ∷ []))
    by b e = rw (count_more (λ one. bytes_eq other.items one.name) nodes node) (case b e)
      where
        case : (b : Bool) → bytes_eq name.items other.items ≡ b
            → cond b (Some alone) (get (λ a c. bytes_eq a.items c.items) before other) ≡ alone_if (count_by (λ one. bytes_eq other.items one.name) nodes + cond (bytes_eq other.items node.name) 1 0)
        case true same =
            let name_is : name.items ≡ other.items = (bytes_eq-Decides name.items other.items).0 same in
            let it_has : bytes_eq other.items node.name ≡ true = (bytes_eq-Decides other.items node.name).1 (sym name_is ∙ named) in
            let known : get (λ a c. bytes_eq a.items c.items) before name ≡ alone_if (count_by (λ one. bytes_eq other.items one.name) nodes) = knows name ∙ ap (alone_in nodes) name_is in
            rw it_has (ap (λ (b : Bool). Some b) alone_is ∙ noted _ _ known)
        case false apart = rw (it_has_not (bytes_eq other.items node.name) refl) (knows other ∙ ap alone_if none_more)
          where
            none_more : count_by (λ one. bytes_eq other.items one.name) nodes ≡ count_by (λ one. bytes_eq other.items one.name) nodes + 0
            none_more = omega arith

            it_has_not : (b : Bool) → bytes_eq other.items node.name ≡ b → bytes_eq other.items node.name ≡ false
            it_has_not false e = e
            it_has_not true e =
                let same : other.items ≡ node.name = (bytes_eq-Decides other.items node.name).0 e in
                let clash : true ≡ false = sym ((bytes_eq-Decides name.items other.items).1 (named ∙ sym same)) ∙ apart in absurd cc

-- ---- what is noted of a name
pub alone_is : (count : ℕ) (alone : Bool) → Some alone ≡ alone_if count → alone ≡ (count == 1)
alone_is zero alone is = absurd cc
alone_is (suc count) alone is = let one : Some alone ≡ Some (suc count == 1) = is ∙ rw (some count) refl in cc

pub none_alone : (count : ℕ) → None ≡ alone_if count → (count == 1) ≡ false
none_alone zero is = refl
none_alone (suc count) is = let none : None ≡ Some (suc count == 1) = is ∙ rw (some count) refl in absurd cc
