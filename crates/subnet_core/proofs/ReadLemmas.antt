-- A script, as far as it is read.
use Rattle.std.proofs.Common.{ℕ, true, false, ◌≡◌, ◌≤◌, ◌∙◌, arith, length, length-take, ap, refl, sym, subst, inl, inr, List, [], ◌++◌, append-nil, take, Option, Result, Ok, Err}
use Rattle.std.specs.Prelude.{OnOk}
use Rattle.std.specs.Io.KnownBytes.{Consumes, IsAtEnd}
use Rattle.text_streams.proofs.KnownBytesLemmas.{consumes_more}
use Rattle.text_words.specs.Lines.{lines}
use Rattle.subnet_core.proofs.PartLemmas.{lines_are, pieces_on, same_lines, whole_lines_are}
use Rattle.subnet_core.proofs.TakeLemmas.{carries_on, takes_on, takes_nothing}
use Rattle.subnet_core.specs.StreamSteps.{begun_behind, begun_by_parts, lines_behind, lines_of_parts, rest_of}
use Rattle.subnet_core.proofs.PutLemmas.{puts_on, puts_some_on}
use Rattle.subnet_core.specs.StreamSteps.{Carries, Puts, PutsSome, ReadsOn, StopsSo, StreamState, Takes, Reports, reported_from}
use Rattle.subnet_core.specs.declared.fault.RunFault.{RunFault}
use Rattle.subnet_core.specs.declared.fault.RunFault.TheVariants.{NoMemory, Topology, Partitions, Sweep, NoLegalPath, Push, Port, Script, SecondScript, Read, Write}

-- ---- bytes that are read
pub consumes_none : (first before after : Option (List ℕ)) (read piece : List ℕ) (count : ℕ) → count ≡ 0 → Consumes first before read
    → Consumes before after (take count piece) → Consumes first after read
consumes_none first before after read piece count none one two =
    let all : Consumes first after (read ++ []) = consumes_more first before after read [] one (rw none at two) in
    rw append-nil at all

pub short : (n : ℕ) (bytes : List ℕ) → length (take n bytes) ≤ length bytes
short n bytes = let cut = length-take n bytes in omega (arith, cut)

pub false_is_not_true : false ≡ true → ⊥
false_is_not_true e = cc

-- ---- before the first
pub nothing_read : (was : StreamState) (known : Option (List ℕ)) → Carries (lines_behind [] []) was was known known
unfolding lines_behind
nothing_read was known = takes_nothing was known

pub nothing_begun : (begun : List ℕ) → begun ≡ [] → begun ≡ begun_behind [] []
unfolding begun_behind
nothing_begun begun is = is

-- an end is one whatever else would have been answered
same_end : (X Y : Type 0) (fault : RunFault) (taken : List (List ℕ)) (was left : StreamState) (old new : Option (List ℕ))
    → let answer : Result X RunFault = Err fault in Takes taken answer was left old new → let ends : Result Y RunFault = Err fault in Takes taken ends was left old new
same_end X Y NoMemory taken was left old new stops = stops
same_end X Y Write taken was left old new stops = stops
same_end X Y (Script line cause) taken was left old new stops = stops
same_end X Y Read taken was left old new stops = absurd stops
same_end X Y (Topology line cause) taken was left old new stops = absurd stops
same_end X Y (Partitions line cause) taken was left old new stops = absurd stops
same_end X Y (Sweep fault) taken was left old new stops = absurd stops
same_end X Y (NoLegalPath switch node number) taken was left old new stops = absurd stops
same_end X Y (Push fault) taken was left old new stops = absurd stops
same_end X Y (Port cause) taken was left old new stops = absurd stops
same_end X Y (SecondScript line cause) taken was left old new stops = absurd stops

-- ---- what waits is written
module _ (lines : List (List ℕ)) (was between left : StreamState) (old middle new : Option (List ℕ)) (carries : Carries lines was between old middle) where
  pub carries_written : Puts [] between.text left.text middle new × (left.subnet ≡ between.subnet) × (left.taken ≡ between.taken) → Carries lines was left old new
  carries_written written = record {
    puts = rw (append-nil (reported_from was.subnet lines)) at (puts_on (reported_from was.subnet lines) [] was.text between.text left.text old middle new carries.puts written.0);
    inventory = rw written.1 carries.inventory;
    administration = rw written.1 carries.administration;
    taken = written.2 ∙ carries.taken;
    sound = carries.sound;
  }

  some_written : PutsSome [] between.text left.text middle new → PutsSome (reported_from was.subnet lines) was.text left.text old new
  some_written some = rw (append-nil (reported_from was.subnet lines)) at (puts_some_on (reported_from was.subnet lines) [] was.text between.text left.text old middle new carries.puts some)

  pub stops_unwritten : (X Y : Type 0) (fault : RunFault) → let answer : Result X RunFault = Err fault in Reports [] answer between left middle new
      → let ends : Result Y RunFault = Err fault in Takes lines ends was left old new
  stops_unwritten X Y NoMemory stops = some_written stops
  stops_unwritten X Y Write stops = some_written stops
  stops_unwritten X Y (Script line cause) stops = absurd stops
  stops_unwritten X Y Read stops = absurd stops
  stops_unwritten X Y (Topology line cause) stops = absurd stops
  stops_unwritten X Y (Partitions line cause) stops = absurd stops
  stops_unwritten X Y (Sweep fault) stops = absurd stops
  stops_unwritten X Y (NoLegalPath switch node number) stops = absurd stops
  stops_unwritten X Y (Push fault) stops = absurd stops
  stops_unwritten X Y (Port cause) stops = absurd stops
  stops_unwritten X Y (SecondScript line cause) stops = absurd stops

-- ---- one piece more
module _ (read piece begun : List ℕ) (is_begun : begun ≡ begun_behind [] read) where
  lines_more : lines_behind [] (read ++ piece) ≡ lines_behind [] read ++ lines_of_parts begun (lines piece)
  lines_more =
      (pieces_on [] read piece).0
      ∙ ap (λ more. lines_behind [] read ++ more) (rw is_begun (sym (same_lines (begun_behind [] read) piece).0))

  pub begun_more : (next : List ℕ) → next ≡ begun_by_parts begun (lines piece) → next ≡ begun_behind [] (read ++ piece)
  begun_more next is =
      is ∙ rw is_begun ((same_lines (begun_behind [] read) piece).1 ∙ sym (pieces_on [] read piece).1)

  module _ (was between left : StreamState) (old middle new : Option (List ℕ)) (carries : Carries (lines_behind [] read) was between old middle) where
    pub read_more : Carries (lines_of_parts begun (lines piece)) between left middle new → Carries (lines_behind [] (read ++ piece)) was left old new
    read_more more = rw lines_more (carries_on (lines_behind [] read) (lines_of_parts begun (lines piece)) was between left old middle new carries more)

    pub stops_in_piece : (X Y : Type 0) (fault : RunFault) → let answer : Result X RunFault = Err fault in Takes (lines_of_parts begun (lines piece)) answer between left middle new
        → let ends : Result Y RunFault = Err fault in Takes (lines_behind [] (read ++ piece)) ends was left old new
    stops_in_piece X Y fault stops =
        let answer : Result X RunFault = Err fault in
        let ends : Result Y RunFault = Err fault in
        subst (λ taken. Takes taken ends was left old new) (sym lines_more)
        (same_end X Y fault (lines_behind [] read ++ lines_of_parts begun (lines piece)) was left old new
        (takes_on (lines_behind [] read) (lines_of_parts begun (lines piece)) was between left old middle new carries answer stops))

-- ---- and why it ends
module _ (read : List ℕ) (rest : Option (List ℕ)) (taken : List (List ℕ)) (was left : StreamState) (old new : Option (List ℕ)) where
  stops_by : (X : Type 0) (answer : Result X RunFault) → OnOk answer ((taken ≡ lines read) × IsAtEnd rest) → Takes taken answer was left old new
      → StopsSo answer read rest taken was left old new
  stops_by X (Ok done) ends takes = (ends.0, ends.1, takes)
  stops_by X (Err NoMemory) ends takes = takes
  stops_by X (Err Write) ends takes = takes
  stops_by X (Err (Script line cause)) ends takes = takes
  stops_by X (Err Read) ends takes = absurd takes
  stops_by X (Err (Topology line cause)) ends takes = absurd takes
  stops_by X (Err (Partitions line cause)) ends takes = absurd takes
  stops_by X (Err (Sweep fault)) ends takes = absurd takes
  stops_by X (Err (NoLegalPath switch node number)) ends takes = absurd takes
  stops_by X (Err (Push fault)) ends takes = absurd takes
  stops_by X (Err (Port cause)) ends takes = absurd takes
  stops_by X (Err (SecondScript line cause)) ends takes = absurd takes

module _ (X : Type 0) (script rest : Option (List ℕ)) (read : List ℕ) (consumed : Consumes script rest read) (was left : StreamState) (old new : Option (List ℕ)) where
  -- a line is faulty, or a writer or memory refuses
  pub faulty_reads : (fault : RunFault) → let answer : Result X RunFault = Err fault in Takes (lines_behind [] read) answer was left old new
      → ReadsOn X (Err fault) was left script rest old new
  faulty_reads fault takes = record {
    read = read;
    consumed = consumed;
    taken = lines_behind [] read;
    are_lines = inl (sym (whole_lines_are read));
    stops = stops_by read rest (lines_behind [] read) was left old new X (Err fault) tt takes;
  }

  -- reading stops
  pub unread_reads : Carries (lines_behind [] read) was left old new → ReadsOn X (Err Read) was left script rest old new
  unread_reads carries = record {
    read = read;
    consumed = consumed;
    taken = lines_behind [] read;
    are_lines = inl (sym (whole_lines_are read));
    stops = (sym (whole_lines_are read), carries);
  }

  -- the script ends
  pub all_reads : (answer : Result X RunFault) (between : StreamState) (middle : Option (List ℕ)) → IsAtEnd rest → Carries (lines_behind [] read) was between old middle
      → Takes (rest_of (begun_behind [] read)) answer between left middle new → ReadsOn X answer was left script rest old new
  all_reads answer between middle end carries takes =
      let all : Takes (lines_behind [] read ++ rest_of (begun_behind [] read)) answer was left old new =
      takes_on (lines_behind [] read) (rest_of (begun_behind [] read)) was between left old middle new carries answer takes in
      record {
        read = read;
        consumed = consumed;
        taken = lines read;
        are_lines = inr (refl, end);
        stops = stops_by read rest (lines read) was left old new X answer (ended answer) (subst (λ taken. Takes taken answer was left old new) (sym (lines_are read)) all);
      }
    where
      ended : (given : Result X RunFault) → OnOk given ((lines read ≡ lines read) × IsAtEnd rest)
      ended (Ok done) = (refl, end)
      ended (Err fault) = tt
