-- How an agent of subnet management answers (IBA volume 1, chapter 14), whatever kind of node it
-- is the agent of. That kind says two things: what it gives for a Get, and what it holds after a Set.
-- Both refuse by a status: first an attribute that is not there or cannot be set, then a modifier or a
-- value.
use Rattle.std.specs.Prelude.{ℕ, ◌≡◌, ◌==◌, if◌then◌else◌, List, Option, Some, None, Result, Ok, Err}
use Rattle.std.specs.Result.{result_unwrap_or}
use Rattle.step_results.specs.Steps.{◌>>=◌}
use Rattle.mad_layout.specs.declared.status.MadStatus.{MadStatus}
use Rattle.mad_layout.specs.declared.status.MadStatus.TheVariants.{InvalidField}
use Rattle.attr_tables.specs.declared.port_info.PortInfo.{PortInfo}
use Rattle.attr_tables.specs.declared.smp_attribute.SmpAttribute.{SmpAttribute}
use Rattle.attr_tables.specs.Blocks.{has_block, block_of, with_block, word_bytes}
use Rattle.agent_rules.specs.Carried.{words_in}
use Rattle.agent_rules.specs.Request.{is_request, is_set, attribute_asked, data_of, modifier_of, reply_to}

-- what a kind of node gives for a Get of an attribute, by the modifier: the 64 bytes
abbrev pub Getter : Type 0 → Type 0
Getter S = S → SmpAttribute → ℕ → Result (List ℕ) MadStatus

-- what it holds after a Set of an attribute, by the modifier and the 64 bytes that it is to be
abbrev pub Setter : Type 0 → Type 0
Setter S = S → SmpAttribute → ℕ → List ℕ → Result S MadStatus

-- what the node holds after a request for that attribute
abbrev pub changed : {S : Type 0} → Setter S → S → SmpAttribute → List ℕ → Result S MadStatus
changed setter held attribute smp =
    if is_set smp then setter held attribute (modifier_of smp) (data_of smp) else Ok held

-- what a request is answered with: the attribute as it stands after the request
abbrev pub answer : {S : Type 0} → Getter S → Setter S → S → List ℕ → Result (List ℕ) MadStatus
answer getter setter held smp = do
  attribute ← attribute_asked smp
  next ← changed setter held attribute smp
  getter next attribute (modifier_of smp)

abbrev pub held_after : {S : Type 0} → Setter S → S → List ℕ → S
held_after setter held smp =
    result_unwrap_or (attribute_asked smp >>= λ attribute. changed setter held attribute smp) held

-- the reply to an SMP, if it is a request
abbrev pub reply_of : {S : Type 0} → Getter S → Setter S → S → List ℕ → Option (List ℕ)
reply_of getter setter held smp =
    if is_request smp then Some (reply_to smp (answer getter setter held smp)) else None

-- what the node holds after an SMP
abbrev pub after : {S : Type 0} → Setter S → S → List ℕ → S
after setter held smp = if is_request smp then held_after setter held smp else held

-- an attribute that a node has once: its modifier is 0
abbrev pub whole : ℕ → List ℕ → Result (List ℕ) MadStatus
whole modifier attribute = if modifier == 0 then Ok attribute else Err InvalidField

-- a block of a table of words
abbrev pub word_block : ℕ → List ℕ → Result (List ℕ) MadStatus
word_block block table =
    if has_block 32 block table then Ok (word_bytes (block_of 32 block table)) else Err InvalidField

-- the table with the words of an attribute in that block
abbrev pub set_word_block : ℕ → List ℕ → List ℕ → Result (List ℕ) MadStatus
set_word_block block attribute table =
    if has_block 32 block table then Ok (with_block 32 block (words_in attribute) table) else Err InvalidField

-- PortInfo as it is shown to who comes in at this port
abbrev pub shown_at : ℕ → PortInfo → PortInfo
shown_at port info = record info { local_port_num = port }

-- a Set in place: either it was done and leaves what the definition says, or it was refused as the
-- definition says and changed nothing
abbrev pub Leaves : {S : Type 0} → Result (Unit {0}) MadStatus → S → S → Result S MadStatus → Type 0
Leaves (Ok done) old new wanted = wanted ≡ Ok new
Leaves (Err status) old new wanted = (wanted ≡ Err status) × (new ≡ old)
