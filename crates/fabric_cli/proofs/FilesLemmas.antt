-- Names opened one after the other.
use Rattle.std.proofs.Common.{ℕ, ◌≡◌, inl, inr, Bool, true, is_some, IfSome, option_map, unwrap_or, subst, Ok, List, [], ◌∷◌, ◌++◌, ◌+◌, length, take, Option, Some, None}
use Rattle.std.proofs.Common.{append_assoc, append-nil, ap, refl, sym, ◌∙◌}
use Rattle.std.proofs.Math.Seq.{take-append-add, take-append_seam}
use Rattle.std.proofs.lemmas.List.Folds.{list_all-append}
use Rattle.std.specs.Borrow.{Bor}
use Rattle.std.specs.Option.{option_to_list}
use Rattle.step_results.specs.Steps.{◌>>=◌}
use Rattle.fabric_cli.specs.declared.faults.Stop.{Stop}
use Rattle.fabric_cli.specs.declared.faults.Stop.TheVariants.{Words, NoMemory, Unread, Unwritten, Run, Second, Unmanaged, Unheard, Unsent, Foreign}
use Rattle.fabric_cli.specs.Faults.{NamesUnread}
use Rattle.fabric_cli.specs.Files.{Contents, OpensAll, OpensInOrder, StopsAt, all_open}
use Rattle.fabric_cli.specs.Serving.{Judged, OfScript, judged_if_read, to_judge, bytes_if_named, left_in, opened_bytes, script_in, texts_in, texts_of}
use Rattle.fabric_cli.specs.declared.texts.Texts.{Texts}
use Rattle.cli_args.specs.Words.{Names}
use Rattle.text_streams.specs.Reading.{IsEndless}

then_more : (old : Option (List (List ℕ))) (names more : List (List ℕ))
    → option_map (λ opened. opened ++ more) (option_map (λ opened. opened ++ names) old) ≡ option_map (λ opened. opened ++ (names ++ more)) old
then_more None names more = refl
then_more (Some opened) names more = ap (λ (all : List (List ℕ)). Some all) (append_assoc opened names more)

pub opens_more : (first before after : Option (List (List ℕ))) (names more : List (List ℕ)) → OpensAll first before names → OpensAll before after more
    → OpensAll first after (names ++ more)
opens_more first before after names more opened (inl lost) = inl lost
opens_more first before after names more (inl lost) (inr next) = inl (next ∙ ap (option_map (λ opened. opened ++ more)) lost)
opens_more first before after names more (inr opened) (inr next) =
    inr (next ∙ ap (option_map (λ all. all ++ more)) opened ∙ then_more first names more)

-- the names that were opened are the first of those to open
pub opens_first : (before after : Option (List (List ℕ))) (names more : List (List ℕ)) → OpensAll before after names
    → OpensInOrder before after (names ++ more)
opens_first before after names more opened = (length names, rw (take-append_seam names more) opened)

-- and of more names the first few
pub opens_then : (first before after : Option (List (List ℕ))) (names more : List (List ℕ)) → OpensAll first before names → OpensInOrder before after more
    → OpensInOrder first after (names ++ more)
opens_then first before after names more opened next =
    (length names + next.0, rw (take-append-add names more next.0) (opens_more first before after names (take next.0 more) opened next.1))

pub opens_whole : (before after : Option (List (List ℕ))) (names : List (List ℕ)) → OpensAll before after names → OpensInOrder before after names
opens_whole before after names opened =
    let all : OpensInOrder before after (names ++ []) = opens_first before after names [] opened in
    rw append-nil at all

-- reading stopped at the one name
pub stops_here : (reported : Option Contents) (reads : Bool) (old new : Option (List (List ℕ))) (name : Bor (List ℕ)) → OpensAll old new (name.now ∷ [])
    → IfSome reported (λ file. reads ≡ true → IsEndless (file name.now))
    → NamesUnread reported reads old new (name.now ∷ []) (Unread name)
stops_here None reads old new name opened unread = tt
stops_here (Some file) reads old new name opened unread = record { before = []; after = []; cut = refl; opened = opened; open_before = refl; unread = unread }

-- where reading stopped among some names, it stopped among more
pub unread_first : (reported : Option Contents) (reads : Bool) (old new : Option (List (List ℕ))) (names more : List (List ℕ)) (stop : Stop)
    → NamesUnread reported reads old new names stop → NamesUnread reported reads old new (names ++ more) stop
unread_first None reads old new names more stop unread = tt
unread_first (Some file) reads old new names more (Unread name) unread = record {
  before = unread.before;
  after = unread.after ++ more;
  cut = ap (λ (all : List (List ℕ)). all ++ more) unread.cut ∙ append_assoc unread.before (name.now ∷ unread.after) more;
  opened = unread.opened;
  open_before = unread.open_before;
  unread = unread.unread;
}
unread_first (Some file) reads old new names more (Words text) unread = tt
unread_first (Some file) reads old new names more NoMemory unread = tt
unread_first (Some file) reads old new names more Unwritten unread = tt
unread_first (Some file) reads old new names more (Run fault) unread = tt
unread_first (Some file) reads old new names more (Second line cause) unread = tt
unread_first (Some file) reads old new names more (Unmanaged fault place) unread = tt
unread_first (Some file) reads old new names more (Unheard name) unread = tt
unread_first (Some file) reads old new names more Unsent unread = tt
unread_first (Some file) reads old new names more (Foreign line cause) unread = tt

-- where some names opened to bytes, reading stopped after them
stops_after : (file : Contents) (reads : Bool) (first before after : Option (List (List ℕ))) (names more : List (List ℕ)) (name : List ℕ)
    → OpensAll first before names
    → all_open file names ≡ true → StopsAt file reads before after more name → StopsAt file reads first after (names ++ more) name
stops_after file reads first before after names more name opened read then = record {
  before = names ++ then.before;
  after = then.after;
  cut = ap (λ (all : List (List ℕ)). names ++ all) then.cut ∙ sym (append_assoc names then.before (name ∷ then.after));
  opened = let all = opens_more first before after names (then.before ++ name ∷ []) opened then.opened in rw (append_assoc names then.before (name ∷ [])) all;
  open_before = list_all-append (λ (n : List ℕ). is_some (file n)) names then.before ∙ rw (read, then.open_before) refl;
  unread = then.unread;
}

pub unread_after : (reported now : Option Contents) (reads reading : Bool) (first before after : Option (List (List ℕ))) (names more : List (List ℕ)) (stop : Stop)
    → now ≡ reported → reading ≡ reads
    → OpensAll first before names → IfSome reported (λ file. all_open file names ≡ true)
    → NamesUnread now reading before after more stop → NamesUnread reported reads first after (names ++ more) stop
unread_after None now reads reading first before after names more stop same stays opened read unread = tt
unread_after (Some file) now reads reading first before after names more (Unread name) same stays opened read unread =
    stops_after file reads first before after names more name.now opened read (rw (same, stays) at unread)
unread_after (Some file) now reads reading first before after names more (Words text) same stays opened read unread = tt
unread_after (Some file) now reads reading first before after names more NoMemory same stays opened read unread = tt
unread_after (Some file) now reads reading first before after names more Unwritten same stays opened read unread = tt
unread_after (Some file) now reads reading first before after names more (Run fault) same stays opened read unread = tt
unread_after (Some file) now reads reading first before after names more (Second line cause) same stays opened read unread = tt
unread_after (Some file) now reads reading first before after names more (Unmanaged fault place) same stays opened read unread = tt
unread_after (Some file) now reads reading first before after names more (Unheard name) same stays opened read unread = tt
unread_after (Some file) now reads reading first before after names more Unsent same stays opened read unread = tt
unread_after (Some file) now reads reading first before after names more (Foreign line cause) same stays opened read unread = tt

-- a name with bytes behind it opens to them
pub one_open : (reported : Option Contents) (name bytes : List ℕ) → IfSome reported (λ file. file name ≡ Some bytes)
    → IfSome reported (λ file. all_open file (name ∷ []) ≡ true)
one_open None name bytes is = tt
one_open (Some file) name bytes is = rw is refl

gives_bytes : (name : List ℕ) (found : Option (List ℕ)) (bytes : Option (List ℕ)) → (opened_bytes name found >>= λ some. Ok (Some some)) ≡ Ok bytes
    → is_some found ≡ true
gives_bytes name None bytes is = cc
gives_bytes name (Some some) bytes is = refl

named_opens : (file : Contents) (name : Option (List ℕ)) (bytes : Option (List ℕ)) → bytes_if_named file name ≡ Ok bytes
    → all_open file (option_to_list name) ≡ true
named_opens file None bytes is = refl
named_opens file (Some name) bytes is = rw (gives_bytes name (file name) bytes is) refl

pub named_open : (reported : Option Contents) (name : Option (List ℕ)) (bytes : Option (List ℕ))
    → IfSome reported (λ file. bytes_if_named file name ≡ Ok bytes)
    → IfSome reported (λ file. all_open file (option_to_list name) ≡ true)
named_open None name bytes is = tt
named_open (Some file) name bytes is = named_opens file name bytes is

none_opens : (found : Option (List ℕ)) → None ≡ option_map Some found → IsEndless found
none_opens None is = tt
none_opens (Some bytes) is = cc

-- a name that opens to nothing is unread
pub no_file : (reported : Option Contents) (reads : Bool) (name : List ℕ) → IfSome reported (λ file. None ≡ option_map Some (file name))
    → IfSome reported (λ file. reads ≡ true → IsEndless (file name))
no_file None reads name is = tt
no_file (Some file) reads name is = λ sure. none_opens (file name) is

bytes_endless : (found known : Option (List ℕ)) → Some known ≡ option_map Some found → IsEndless known
    → IsEndless found
bytes_endless None known is endless = tt
bytes_endless (Some bytes) known is endless = let e : known ≡ Some bytes = cc in rw e at endless

-- so is one that opens to bytes without an end
pub endless_file : (reported : Option Contents) (reads : Bool) (name : List ℕ) (known : Option (List ℕ))
    → IfSome reported (λ file. Some known ≡ option_map Some (file name))
    → (reads ≡ true → IsEndless known) → IfSome reported (λ file. reads ≡ true → IsEndless (file name))
endless_file None reads name known is endless = tt
endless_file (Some file) reads name known is endless = λ sure. bytes_endless (file name) known is (endless sure)

-- ---- a script that is open
-- reading it stops at its name
pub open_last : (reported : Option Contents) (reads is_sure : Bool) (old new : Option (List (List ℕ))) (name word : List ℕ) (known : Option (List ℕ))
    → OpensAll old new (name ∷ []) → IfSome reported (λ file. Some known ≡ option_map Some (file name)) → (reads ≡ true → is_sure ≡ true)
    → (word ≡ name) × (is_sure ≡ true → IsEndless known) → IfSome reported (λ file. StopsAt file reads old new (name ∷ []) word)
open_last None reads is_sure old new name word known opened is sure endless = tt
open_last (Some file) reads is_sure old new name word known opened is sure endless =
    let here : StopsAt file reads old new (name ∷ []) name = record {
      before = [];
      after = [];
      cut = refl;
      opened = opened;
      open_before = refl;
      unread = λ r. bytes_endless (file name) known is (endless.1 (sure r));
    } in
    subst (λ (w : List ℕ). StopsAt file reads old new (name ∷ []) w) (sym endless.0) here

-- and of more names, too, behind those that opened to bytes
pub last_after : (reported now : Option Contents) (reads reading : Bool) (first before after : Option (List (List ℕ))) (names more : List (List ℕ)) (word : List ℕ)
    → now ≡ reported → reading ≡ reads
    → OpensAll first before names → IfSome reported (λ file. all_open file names ≡ true)
    → IfSome now (λ file. StopsAt file reading before after more word) → IfSome reported (λ file. StopsAt file reads first after (names ++ more) word)
last_after None now reads reading first before after names more word same stays opened read last = tt
last_after (Some file) now reads reading first before after names more word same stays opened read last =
    stops_after file reads first before after names more word opened read (rw (same, stays) at last)

-- ---- what is judged of the texts of files
script_known : (known : Option (List ℕ)) (Is : List ℕ → Type 0) → is_some known ≡ true → OfScript known Is → Is (unwrap_or known [])
script_known None Is some of = absurd cc
script_known (Some all) Is some of = subst Is of.1 of.2

pub reported_texts : {I : Type 0} (reported : Option Contents) (names : Names) (texts : Texts I) (remaining : I → Option (List ℕ)) (Is : Judged → Type 0)
    → IfSome reported (λ _. is_some (left_in remaining texts.work) ≡ true)
    → IfSome reported (λ file. texts_of file names ≡ Ok (texts_in (script_in remaining texts.work) texts))
    → OfScript (left_in remaining texts.work) (λ script. Is (to_judge (texts_in script texts))) → IfSome reported (λ file. Is (judged_if_read (texts_of file names)))
reported_texts None names texts remaining Is known are of = tt
reported_texts (Some file) names texts remaining Is known are of =
    subst Is (sym (ap judged_if_read are)) (script_known (left_in remaining texts.work) (λ script. Is (to_judge (texts_in script texts))) known of)
