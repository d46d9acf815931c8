-- P_Key tables, written block by block.
use Rattle.std.proofs.Common.{ℕ, ◌≡◌, ◌+◌, ◌*◌, ◌/◌, ◌<◌, ◌≤◌, ◌==◌, ◌&&◌, ◌∙◌, ap, refl, sym, subst, Bool, true, false, if◌then◌else◌, List, [], ◌∷◌, suc, get_or, ◌++◌, length, take, drop, Option, Some, Result, Ok, nat_lt, arith}
use Rattle.std.specs.List.{list_all}
use Rattle.std.specs.Str.{bytes_eq}
use Rattle.std.proofs.lemmas.Bool.{lt-ltb, ltb-true}
use Rattle.std.proofs.lemmas.List.{append-nil, drop_all, take-append-drop, take_all}
use Rattle.std.proofs.lemmas.Slice.Eq.{bytes_eq-Decides}
use Rattle.step_results.proofs.ListLemmas.{all_cut}
use Rattle.attr_tables.specs.Blocks.{block_of, has_block, with_block, word_bytes}
use Rattle.attr_tables.specs.declared.smp_attribute.SmpAttribute.TheVariants.{PKeyTable}
use Rattle.agent_rules.specs.Agent.{set_word_block, word_block}
use Rattle.agent_rules.specs.Carried.{words_in}
use Rattle.agent_rules.specs.Good.{IsTable}
use Rattle.agent_rules.proofs.CarriedLemmas.{encoded_is_read}
use Rattle.agent_rules.proofs.TableLemmas.{block_differs}
use Rattle.smp_wire.specs.FabricState.{FabricState}
use Rattle.pkey_rules.specs.declared.key_table.TheConstants.{PARTITIONS}
use Rattle.smp_wire.specs.Get.{gives_along}
use Rattle.smp_wire.specs.Good.{IsGood}
use Rattle.smp_wire.specs.Replies.{reported_for}
use Rattle.smp_wire.specs.Shape.{IsSameShape}
use Rattle.smp_wire.specs.declared.reply.ReplyFault.{ReplyFault}
use Rattle.table_push.specs.Fault.{compared}
use Rattle.table_push.specs.Keys.{whether_there}
use Rattle.table_push.specs.Nodes.{on_port, with_keys}
use Rattle.table_push.specs.Pushes.{LeadsToPort, Leaves, Stands}
use Rattle.table_push.specs.Steps.{PutsBlock, SaysWhetherThere}
use Rattle.table_push.specs.declared.fault.PushFault.{PushFault}
use Rattle.agent_rules.proofs.GivenLemmas.{block_long}
use Rattle.table_push.proofs.BlockLemmas.{block_back, blocks_join}
use Rattle.table_push.proofs.PartLemmas.{keys_part, parts_stay, parts_twice}
use Rattle.table_push.proofs.LeadLemmas.{SetsAt, begins_as, ends_as, goes_on, itself}
use Rattle.table_push.proofs.PortLemmas.{PortThere, port_alike, port_gives, port_on, port_takes, port_there}

block_below : (block : ℕ) (table : List ℕ) → list_all (λ entry. nat_lt entry 65536) table ≡ true
    → list_all (λ entry. nat_lt entry 65536) (block_of 32 block table) ≡ true
unfolding block_of
block_below block table below =
    (all_cut (λ entry. nat_lt entry 65536) 32 (drop (32 * block) table) (all_cut (λ entry. nat_lt entry 65536) (32 * block) table below).1).0

-- ---- one block
has_it : (block : ℕ) (table : List ℕ) → block < PARTITIONS / 32 → length table ≡ PARTITIONS → has_block 32 block table ≡ true
has_it block table below long = rw long (lt-ltb block (PARTITIONS / 32) below)

takes_words : (block : ℕ) (words keys : List ℕ) → has_block 32 block keys ≡ true → IsTable 32 65536 words
    → set_word_block block (word_bytes words) keys ≡ Ok (with_block 32 block words keys)
takes_words block words keys has is = rw (has, encoded_is_read.words words is) refl

gives_words : (block : ℕ) (words keys : List ℕ) → has_block 32 block keys ≡ true → block_of 32 block keys ≡ words → word_block block keys ≡ Ok (word_bytes words)
gives_words block words keys has is = rw (has, is) refl

compares : (bytes : List ℕ) → compared PKeyTable bytes bytes ≡ bytes
unfolding compared
compares bytes = refl

-- the words of a block of a table
pub block_is : (block : ℕ) (table : List ℕ) → block < PARTITIONS / 32 → IsTable PARTITIONS 65536 table → IsTable 32 65536 (block_of 32 block table)
block_is block table below is = record {
  count = block_long 32 block table (omega arith) (has_it block table below is.count);
  below = block_below block table is.below;
}

pub block_leaves : (fabric : FabricState) (stood left : Option FabricState) (result : Result (Unit {0}) PushFault) (path : List ℕ) (asked guid number block : ℕ)
    (words : List ℕ) → block < PARTITIONS / 32 → IsTable 32 65536 words → stood ≡ Some fabric → IsGood fabric → LeadsToPort fabric path asked guid number
    → SetsAt stood left result path PKeyTable (asked * 65536 + block) (word_bytes words)
    → Leaves result left fabric (with_keys (on_port guid number (with_block 32 block words)) fabric)
block_leaves fabric stood left result path asked guid number block words below is stands good leads sets =
    let here = port_there fabric path asked guid number good leads in
    let has = has_it block here.keys below here.table.count in
    let differs = block_differs 32 block words here.keys (omega arith) is.count has in
    let then_has : has_block 32 block (with_block 32 block words here.keys) ≡ true = has_it block (with_block 32 block words here.keys) below (differs.same_length ∙ here.table.count) in
    let small : block < 65536 = omega (arith, below) in
    sets fabric stands (with_keys (on_port guid number (with_block 32 block words)) fabric) good
    (port_takes fabric path asked guid number block (with_block 32 block words) (word_bytes words) good here small (takes_words block words here.keys has is))
    (λ same. record {
      bytes = word_bytes words;
      given = port_gives fabric path asked guid number block (with_block 32 block words) (word_bytes words) good here small
          (gives_words block words (with_block 32 block words here.keys) then_has (block_back 32 block words here.keys (omega arith) is.count has)) same;
      same = compares (word_bytes words);
    })

on_none : (guid number : ℕ) (f : List ℕ → List ℕ) → ((held : List ℕ) → f held ≡ held) → (of_guid of_number : ℕ) (held : List ℕ)
    → on_port guid number f of_guid of_number held ≡ held
on_none guid number f each of_guid of_number held = by ((guid == of_guid) && (number == of_number))
  where
    by : (b : Bool) → (if b then f held else held) ≡ held
    by true = each held
    by false = refl

-- ---- a block that is there already
own_block : (block : ℕ) (table : List ℕ) → 32 * block ≤ length table → with_block 32 block (block_of 32 block table) table ≡ table
own_block block table within =
    ap (with_block 32 block (block_of 32 block table)) (sym (take-append-drop (32 * block) table))
    ∙ blocks_join 32 block table table within
    ∙ take-append-drop (32 * block + 32) table

same_words : (one other : List ℕ) → IsTable 32 65536 one → IsTable 32 65536 other → word_bytes one ≡ word_bytes other → one ≡ other
same_words one other is other_is same = sym (encoded_is_read.words one is) ∙ ap words_in same ∙ encoded_is_read.words other other_is

unchanged : (guid number : ℕ) (fabric : FabricState) → with_keys (on_port guid number (λ held. held)) fabric ≡ fabric
unchanged guid number fabric =
    parts_stay keys_part (on_port guid number (λ held. held)) fabric (on_none guid number (λ held. held) (λ held. refl))

-- what a Get of that block reports, which is what the port holds
held_given : (fabric : FabricState) (path : List ℕ) (asked guid number block : ℕ) → block < PARTITIONS / 32 → IsGood fabric
    → (here : PortThere fabric path asked guid number)
    → gives_along fabric path PKeyTable (asked * 65536 + block) ≡ Some (Ok (word_bytes (block_of 32 block here.keys)))
held_given fabric path asked guid number block below good here =
    let is = unchanged guid number fabric in
    let small : block < 65536 = omega (arith, below) in
    subst (λ (one : FabricState). gives_along one path PKeyTable (asked * 65536 + block) ≡ Some (Ok (word_bytes (block_of 32 block here.keys)))) is
    (port_gives fabric path asked guid number block (λ held. held) (word_bytes (block_of 32 block here.keys)) good here small
    (gives_words block (block_of 32 block here.keys) here.keys (has_it block here.keys below here.table.count) refl)
    (subst (IsSameShape fabric) (sym is) (itself fabric)))

pub block_stands : (fabric : FabricState) (stood : Option FabricState) (path : List ℕ) (asked guid number block : ℕ) (words : List ℕ)
    → block < PARTITIONS / 32 → IsTable 32 65536 words → stood ≡ Some fabric → IsGood fabric → LeadsToPort fabric path asked guid number
    → ((given : List ℕ) → gives_along fabric path PKeyTable (asked * 65536 + block) ≡ Some (Ok given) → given ≡ word_bytes words)
    → Leaves {X = Unit {0}} (Ok tt) stood fabric (with_keys (on_port guid number (with_block 32 block words)) fabric)
block_stands fabric stood path asked guid number block words below is stands good leads reported =
    let here = port_there fabric path asked guid number good leads in
    let mine = block_of 32 block here.keys in
    let same : mine ≡ words = same_words mine words (block_is block here.keys below here.table) is
    (reported (word_bytes mine) (held_given fabric path asked guid number block below good here)) in
    let stays : with_block 32 block words here.keys ≡ here.keys =
    ap (λ (some : List ℕ). with_block 32 block some here.keys) (sym same) ∙ own_block block here.keys (omega (arith, below, here.table.count)) in
    let next_is : with_keys (on_port guid number (with_block 32 block words)) fabric ≡ fabric =
    port_alike fabric path asked guid number (with_block 32 block words) (λ held. held) good here stays ∙ unchanged guid number fabric in
    subst (λ (next : FabricState). Leaves {X = Unit {0}} (Ok tt) stood fabric next) (sym next_is)
    (record { done = refl; stands = record { is = stands; good = good; shape = itself fabric } })

-- a Get of a block that is to be empty, which the agent there does not refuse
pub there_is_told : (x : FabricState) (path wanted : List ℕ) (modifier : ℕ) (reported : Result (List ℕ) ReplyFault) (result : Result Bool PushFault)
    → result ≡ whether_there wanted reported → reported ≡ reported_for (gives_along x path PKeyTable modifier)
    → (given : List ℕ) → gives_along x path PKeyTable modifier ≡ Some (Ok given) → SaysWhetherThere result given wanted
there_is_told x path wanted modifier reported result is reports given gives =
    let heard : reported ≡ Ok given = reports ∙ ap reported_for gives in
    let told : result ≡ Ok (bytes_eq given wanted) = is ∙ ap (whether_there wanted) heard in
    rw told (λ same. (bytes_eq-Decides given wanted).0 same)

-- a Get reports something of each block
pub block_given : (fabric : FabricState) (path : List ℕ) (asked guid number block : ℕ) → block < PARTITIONS / 32 → IsGood fabric
    → LeadsToPort fabric path asked guid number
    → (given : List ℕ) × (gives_along fabric path PKeyTable (asked * 65536 + block) ≡ Some (Ok given))
block_given fabric path asked guid number block below good leads =
    let here = port_there fabric path asked guid number good leads in
    (word_bytes (block_of 32 block here.keys), held_given fabric path asked guid number block below good here)

-- the block is one of the table's
pub block_low : (block : ℕ) (table : List ℕ) → length table ≡ PARTITIONS → has_block 32 block table ≡ true → block < PARTITIONS / 32
block_low block table long has = subst (λ (n : ℕ). block < n / 32) long (ltb-true block (length table / 32) has)

-- ---- one table
-- the first entries are written
abbrev pub keys_to : ℕ → List ℕ → List ℕ → List ℕ
keys_to count table held = take count table ++ drop count held

abbrev table_to : (guid number count : ℕ) → List ℕ → FabricState → FabricState
table_to guid number count table fabric = with_keys (on_port guid number (keys_to count table)) fabric

on_twice : (guid number : ℕ) (f g h : List ℕ → List ℕ) → ((held : List ℕ) → f (g held) ≡ h held) → (of_guid of_number : ℕ) (held : List ℕ)
    → on_port guid number f of_guid of_number (on_port guid number g of_guid of_number held) ≡ on_port guid number h of_guid of_number held
on_twice guid number f g h each of_guid of_number held = by ((guid == of_guid) && (number == of_number))
  where
    by : (b : Bool) → (if b then f (if b then g held else held) else (if b then g held else held)) ≡ (if b then h held else held)
    by true = each held
    by false = refl

pub table_begins : (stood : Option FabricState) (fabric : FabricState) (guid number : ℕ) (table : List ℕ) → stood ≡ Some fabric → IsGood fabric
    → Stands stood fabric (table_to guid number 0 table fabric)
table_begins stood fabric guid number table stands good =
    begins_as stood fabric (table_to guid number 0 table fabric) stands good
    (parts_stay keys_part (on_port guid number (keys_to 0 table)) fabric (on_none guid number (keys_to 0 table) (λ held. refl)))

pub table_more : (stood left : Option FabricState) (result : Result (Unit {0}) PushFault) (fabric : FabricState) (path : List ℕ) (asked guid number block : ℕ)
    (table : List ℕ) → block < PARTITIONS / 32 → length table ≡ PARTITIONS
    → LeadsToPort fabric path asked guid number → Stands stood fabric (table_to guid number (32 * block) table fabric)
    → PutsBlock stood left path asked block (block_of 32 block table) result
    → Leaves result left fabric (table_to guid number (32 * (block + 1)) table fabric)
table_more stood left result fabric path asked guid number block table below long leads stands puts =
    let words = block_of 32 block table in
    let now = table_to guid number (32 * block) table fabric in
    let leaves = puts now stands.is guid number stands.good (port_on fabric now path asked guid number stands.shape leads) in
    let up : 32 * block + 32 ≡ 32 * (block + 1) = omega arith in
    let joined : (held : List ℕ) → with_block 32 block words (keys_to (32 * block) table held) ≡ keys_to (32 * (block + 1)) table held =
    λ held. blocks_join 32 block table held (omega (arith, below, long))
    ∙ ap (λ (n : ℕ). take n table ++ drop n held) up in
    goes_on result stood left fabric now _ _ stands leaves
    (parts_twice keys_part (on_port guid number (with_block 32 block words)) (on_port guid number (keys_to (32 * block) table)) (on_port guid number (keys_to (32 * (block + 1)) table)) fabric
    (on_twice guid number (with_block 32 block words) (keys_to (32 * block) table) (keys_to (32 * (block + 1)) table) joined))

pub table_ends : (stood : Option FabricState) (fabric : FabricState) (path : List ℕ) (asked guid number count : ℕ) (table : List ℕ) → count ≡ PARTITIONS
    → length table ≡ PARTITIONS → IsGood fabric → LeadsToPort fabric path asked guid number → Stands stood fabric (table_to guid number count table fabric)
    → Leaves {X = Unit {0}} (Ok tt) stood fabric (with_keys (on_port guid number (λ held. table)) fabric)
table_ends stood fabric path asked guid number count table all long good leads stands =
    let here = port_there fabric path asked guid number good leads in
    let whole : keys_to PARTITIONS table here.keys ≡ table =
    rw (take_all PARTITIONS table (omega (arith, long)), drop_all PARTITIONS here.keys (omega (arith, here.table.count))) (append-nil table) in
    ends_as stood fabric (table_to guid number count table fabric) _ stands
    (ap (λ (n : ℕ). table_to guid number n table fabric) all
    ∙ port_alike fabric path asked guid number (keys_to PARTITIONS table) (λ held. table) good here whole)

-- an array of words
words_below : (words : List ℕ) → ((k : ℕ) → get_or words k 0 < 65536) → list_all (λ entry. nat_lt entry 65536) words ≡ true
words_below [] each = refl
words_below (word ∷ words) each = rw (lt-ltb word 65536 (each 0), words_below words (λ k. each (suc k))) refl

pub table_of : (count : ℕ) (words : List ℕ) → length words ≡ count → ((k : ℕ) → get_or words k 0 < 65536) → IsTable count 65536 words
table_of count words long each = record { count = long; below = words_below words each }
