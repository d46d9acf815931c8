use Rattle.std.proofs.Common.{◌≡◌, ◌∷◌, [], ◌∙◌, true, false, ap, drop, map, take, sym, arith, List, ◌+◌, ◌-◌, ℕ}
use Rattle.std.proofs.lemmas.Result.{err_from_is_err_and}
use Rattle.std.proofs.lemmas.List.{drop_all}
use Rattle.std.proofs.Math.Seq.{take-nil}
use Rattle.pkey_rules.specs.KeyTable.{accepts}
use Rattle.sa_records.specs.declared.path_record.PathRecord.{PathRecord}
use Rattle.sa_records.specs.PathRecord.{path_record_bytes, path_record_selected}
use Rattle.sa_model.specs.KeyOrder.{by_base}
use Rattle.sa_model.specs.Selected.{few_paths}
use Rattle.sa_model.specs.Shown.{path_record_of}
use Rattle.sa_model.specs.Visible.{Path}
use Rattle.sa_answer.specs.Replying.{path_bytes}
use Rattle.sa_answer.proofs.PathLemmas.{agreeing, agreeing_closed, agreeing_no, agreeing_yes, all_wanted, nothing_left, one_wanted, under}
use Rattle.sa_answer.proofs.TakenLemmas.{all_taken, at_first, leads_as, leads_on, stops_here}
use Rattle.sa_answer.proofs.path.walk_to.Goals.{in-Some, in-None}
use Rattle.sa_answer.proofs.path.walk_to.Goals.{then-left-gt0+then-accepts+then-selected_by+in_ok-take, then-left-gt0+then-accepts+else-selected_by, else-left-gt0, else-left-gt0-via-then-left-gt0+else-accepts, else-left-gt0-via-else-left-gt0}
use Rattle.sa_answer.proofs.path.walk_to.Goals as goal

pub loop-key-init : goal.loop-key-init
loop-key-init c =
    let own = c.args.own.now.port in
    let other = c.args.other.now in
    let all = map path_bytes (few_paths c.args.most c.args.mask c.args.asked.now own other) in
    elim c.match-most.branch [
      | in-Some w ↦ rw (w.left-is, w.in-Some.is, c.keys-key-items.ensures) (at_first _ c.args.taken.now)
      | in-None w ↦
          rw (w.left-is, w.in-None.is, w.keys.ensures, c.keys-key-items.ensures)
          (leads_as _ _ _ c.args.taken.now c.args.taken.now (sym (ap (map path_bytes) (all_wanted c.args.mask c.args.asked.now own other (by_base own.keys)))) (at_first _ c.args.taken.now))
    ]

pub returns-in_err-take : goal.returns-in_err-take
returns-in_err-take c =
    let mask = c.args.mask in
    let asked = c.args.asked.now in
    let own = c.args.own.now.port in
    let other = c.args.other.now in
    let keys = c.keys-key-items.result.now in
    let key = c.key-item.result in
    let i = c.loop-key.key-index in
    let accepted : accepts key other.keys ≡ true = sym c.accepts.ensures ∙ c.if-accepts.true in
    let path : c.path_record-path.result ≡ path_record_of (under own other key) = rw c.port.ensures at c.path_record-path.ensures.value in
    let agrees : path_record_selected mask (path_record_of (under own other key)) asked ≡ true =
    ap (λ (p : PathRecord). path_record_selected mask p asked) (sym path) ∙ sym c.selected_by.ensures ∙ c.if-selected_by.true in
    let one : c.bytes_of.result ≡ path_bytes (under own other key) = c.bytes_of.ensures ∙ ap path_record_bytes path in
    let at = agreeing_yes mask asked own other keys i key c.loop-key-test.true c.key-item.is accepted agrees in
    let split = one_wanted c.loop-key.left (under own other key) (agreeing mask asked own other (drop i keys)) (agreeing mask asked own other (drop (i + 1) keys)) c.bytes_of.result c.if-left-gt0.true at one in
    let out = err_from_is_err_and c.from_residual.result c.from_residual.ensures.1 in
    rw out.1 (stops_here _ _ (c.bytes_of.result ∷ []) _ c.args.taken.now c.loop-key.taken split c.in_err-take.ensures c.loop-key.invariant)

pub loop-key-preserved : goal.loop-key-preserved
loop-key-preserved c =
    let mask = c.args.mask in
    let asked = c.args.asked.now in
    let own = c.args.own.now.port in
    let other = c.args.other.now in
    let keys = c.keys-key-items.result.now in
    let key = c.key-item.result in
    let i = c.loop-key.key-index in
    let all = agreeing mask asked own other (drop i keys) in
    let rest = agreeing mask asked own other (drop (i + 1) keys) in
    let few = λ (paths : List Path). map path_bytes (take c.loop-key.left paths) in
    elim c.if-left-gt0.branch [
      | then-left-gt0+then-accepts+then-selected_by+in_ok-take w ↦
          let accepted : accepts key other.keys ≡ true = sym w.accepts.ensures ∙ w.if-accepts.true in
          let path : w.path_record-path.result ≡ path_record_of (under own other key) = rw w.port.ensures at w.path_record-path.ensures.value in
          let agrees : path_record_selected mask (path_record_of (under own other key)) asked ≡ true =
          ap (λ (p : PathRecord). path_record_selected mask p asked) (sym path) ∙ sym w.selected_by.ensures ∙ w.if-selected_by.true in
          let one : w.bytes_of.result ≡ path_bytes (under own other key) = w.bytes_of.ensures ∙ ap path_record_bytes path in
          let at = agreeing_yes mask asked own other keys i key c.loop-key-test.true c.key-item.is accepted agrees in
          let split = one_wanted c.loop-key.left (under own other key) all rest w.bytes_of.result w.if-left-gt0.true at one in
          rw (w.taken-is, w.left-is)
          (leads_on _ (few all) (w.bytes_of.result ∷ []) (map path_bytes (take (c.loop-key.left - 1) rest)) c.args.taken.now c.loop-key.taken w.take.new.self split w.in_ok-take.ensures c.loop-key.invariant)
      | then-left-gt0+then-accepts+else-selected_by w ↦
          let accepted : accepts key other.keys ≡ true = sym w.accepts.ensures ∙ w.if-accepts.true in
          let path : w.path_record-path.result ≡ path_record_of (under own other key) = rw w.port.ensures at w.path_record-path.ensures.value in
          let differs : path_record_selected mask (path_record_of (under own other key)) asked ≡ false =
          ap (λ (p : PathRecord). path_record_selected mask p asked) (sym path) ∙ sym w.selected_by.ensures ∙ w.if-selected_by.false in
          let at = agreeing_no mask asked own other keys i key c.loop-key-test.true c.key-item.is accepted differs in
          rw (w.taken-is, w.left-is) (leads_as _ (few all) (few rest) c.args.taken.now c.loop-key.taken (ap few at) c.loop-key.invariant)
      | else-left-gt0 w ↦ elim w.else-left-gt0.branch [
        | else-left-gt0-via-then-left-gt0+else-accepts w' ↦
            let closed : accepts key other.keys ≡ false = sym w'.accepts.ensures ∙ w'.if-accepts.false in
            let at = agreeing_closed mask asked own other keys i key c.loop-key-test.true c.key-item.is closed in
            rw (w.taken-is, w.left-is) (leads_as _ (few all) (few rest) c.args.taken.now c.loop-key.taken (ap few at) c.loop-key.invariant)
        | else-left-gt0-via-else-left-gt0 w' ↦
            rw (w.taken-is, w.left-is)
            (leads_as _ (few all) (few rest) c.args.taken.now c.loop-key.taken (nothing_left c.loop-key.left all rest w'.if-left-gt0.false) c.loop-key.invariant)
      ]
    ]

pub returns : goal.returns
returns c =
    let few = λ (keys : List ℕ). map path_bytes (take c.loop-key.left (agreeing c.args.mask c.args.asked.now c.args.own.now.port c.args.other.now keys)) in
    let none = ap few (drop_all c.loop-key.key-index c.keys-key-items.result.now (omega (arith, c.loop-key-test.false))) in
    all_taken _ _ c.args.taken.now c.loop-key.taken (none ∙ none_of c.loop-key.left) c.loop-key.invariant
  where
    none_of : (n : ℕ) → map path_bytes (take n []) ≡ []
    none_of n = ap (map path_bytes) (take-nil n)
