-- A wire of lines: what is written for an SMP, and what the lines that are read then say of its reply.
use Rattle.std.specs.Prelude.{ℕ, ◌≡◌, ◌+◌, false, List, [], ◌∷◌, ◌++◌, codes, length, Option, Some, None, option_map, if◌then◌else◌, Result, Ok, Err}
use Rattle.std.specs.Io.KnownBytes.{Appends, Consumes, IsAtEnd}
use Rattle.std.specs.List.{All, list_any}
use Rattle.std.specs.Option.{option_and_then}
use Rattle.std.specs.Str.{bytes_eq}
use Rattle.script_lines.specs.EncodedBytes.{mad_in}
use Rattle.smp_lines.specs.SmpLines.{mad_line}
use Rattle.smp_lines.specs.declared.line_wire.Heard.{Heard}
use Rattle.smp_lines.specs.declared.line_wire.Heard.TheVariants.{Nothing, Lost, Reply}
use Rattle.smp_lines.specs.declared.stop.SmpStop.{SmpStop}
use Rattle.smp_lines.specs.declared.stop.SmpStop.TheVariants.{Line, NoMemory, Write}
use Rattle.text_streams.specs.Writing.{AppendsPart}
use Rattle.text_words.specs.Lines.{is_line_end, lines, words_of}

-- ---- the line of an SMP
abbrev pub request_line : List ℕ → List ℕ
request_line smp = codes "smp " ++ mad_line smp

-- ---- what a line says of a reply: `none`, or the reply; nothing if it is empty or a comment. A line with more words, or
-- another word, is faulty
abbrev pub heard_word : List ℕ → Option Heard
heard_word word = if bytes_eq word (codes "none") then Some Lost else option_map (λ reply. Reply reply) (mad_in word)

abbrev pub heard_among : List (List ℕ) → Option Heard
heard_among [] = Some Nothing
heard_among (word ∷ []) = heard_word word
heard_among words = None

abbrev pub said_in : List ℕ → Option Heard
said_in line = option_and_then heard_among (words_of line)

-- ---- the reply, or that there is none
abbrev pub heard_of : Option (List ℕ) → Heard
heard_of (Some reply) = Reply reply
heard_of None = Lost

-- the lines that were read: some that say nothing, then one that says this, and no more. It has its LF, unless nothing is left
pub record Reads (said : Option Heard) (before after : Option (List ℕ)) (count next : ℕ) : Type 0 where
  pub passed : List (List ℕ)
  pub last : List ℕ
  pub read : List ℕ
  pub consumed : Consumes before after read
  pub lines_are : lines read ≡ passed ++ last ∷ []
  pub nothing : All (λ line. said_in line ≡ Some Nothing) passed
  pub said_so : said_in last ≡ said
  pub whole : list_any is_line_end last ≡ false → IsAtEnd after
  pub counted : next ≡ count + length passed + 1

-- a reply is what they say, and a faulty line is the last of them
abbrev pub Hears : Result (Option (List ℕ)) SmpStop → (before after : Option (List ℕ)) → (count next : ℕ) → Type 0
Hears (Ok reply) before after count next = Reads (Some (heard_of reply)) before after count next
Hears (Err (Line at)) before after count next = (at ≡ next) × Reads None before after count next
Hears (Err stop) before after count next = Unit {0}

-- ---- the line was written, all of it unless a write or an allocation failed
abbrev pub Sends : {X : Type 0} → Result X SmpStop → (old new : Option (List ℕ)) → List ℕ → Type 0
Sends (Ok reply) old new line = Appends old new line
Sends (Err NoMemory) old new line = AppendsPart old new line
Sends (Err Write) old new line = AppendsPart old new line
Sends (Err stop) old new line = Appends old new line

abbrev pub IsOfReading : SmpStop → Type 0
IsOfReading Write = ⊥
IsOfReading stop = Unit {0}

-- the same by the stop that a wire keeps, if there is one
abbrev pub SendsUntil : Option SmpStop → (old new : Option (List ℕ)) → List ℕ → Type 0
SendsUntil None old new line = Appends old new line
SendsUntil (Some NoMemory) old new line = AppendsPart old new line
SendsUntil (Some Write) old new line = AppendsPart old new line
SendsUntil (Some stop) old new line = Appends old new line

abbrev pub HearsUntil : Option SmpStop → Option (List ℕ) → (before after : Option (List ℕ)) → (count next : ℕ) → Type 0
HearsUntil None reply before after count next = Reads (Some (heard_of reply)) before after count next
HearsUntil (Some (Line at)) reply before after count next = (at ≡ next) × Reads None before after count next
HearsUntil (Some stop) reply before after count next = Unit {0}

-- after a stop no reply comes, and the stop and the count stay
pub record IsStill (reply : Option (List ℕ)) (stop : Option SmpStop) (count : ℕ) (was : SmpStop) (before : ℕ) : Type 0 where
  pub silent : reply ≡ None
  pub stays : stop ≡ Some was
  pub counted : count ≡ before
