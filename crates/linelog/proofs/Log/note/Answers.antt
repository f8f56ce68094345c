use Rattle.std.proofs.Common.{◌≡◌, ◌-◌, ◌<◌, set, length, vec_items, ap, ◌∙◌, sym, refl, arith, rules, is_some, false}
use Rattle.std.specs.Vec.{vec_len}
use Rattle.std.proofs.lemmas.Bool.{false≢true}
use Rattle.std.proofs.lemmas.Option.{slice_get_read, slice_get_within}
use Rattle.linelog.proofs.Spelled.{goes_on, begins, set_read, last_is}
use Rattle.linelog.proofs.Log.note.Goals as goal
use Rattle.linelog.proofs.Log.note.Goals.{in_default-via-in-Some+else-is_continued_by, in_default-via-in-None-1}

pub returns-in-Some-clause-value : goal.returns-in-Some-clause-value
returns-in-Some-clause-value c =
    let runs = c.args.self.now.runs in
    let some : 0 < vec_len runs = c.in-Some.ensures.variant.0 refl in
    let last = slice_get_read (vec_items runs) _ (vec_len runs - 1) _ runs.ok.0 (omega arith) c.in-Some.ensures.value in
    goes_on (vec_items runs) (vec_len runs - 1) c.in-Some.last.now c.args.command c.args.reply (omega (arith, runs.ok.0)) last c.if-is_continued_by.ensures

same_runs : (c : goal.In_ok-push-in_default) → vec_items c.in_default.self.runs ≡ vec_items c.args.self.now.runs
same_runs c =
    elim c.in_default.branch [
      | in_default-via-in-Some+else-is_continued_by w ↦
          let h : vec_items c.in_default.self.runs ≡ set (vec_items c.args.self.now.runs) (vec_len c.args.self.now.runs - 1) w.in-Some.last.now = ap (λ s. vec_items s.runs) w.self-is in
          h ∙ set_read (vec_items c.args.self.now.runs) _ w.in-Some.last.now w.in-Some.ensures.value
      | in_default-via-in-None-1 w ↦ ap (λ s. vec_items s.runs) w.self-is
    ]

pub returns-in_ok-push-in_default-clause-value : goal.returns-in_ok-push-in_default-clause-value
returns-in_ok-push-in_default-clause-value c =
    let pushed = c.in_ok-push-in_default.ensures.items in
    rw (pushed, same_runs c) (begins (vec_items c.args.self.now.runs) c.args.command c.args.reply)

pub returns-in_ok-push-in_default-clause-folds : goal.returns-in_ok-push-in_default-clause-folds
returns-in_ok-push-in_default-clause-folds c = λ x last on.
    let runs = c.args.self.now.runs in
    let some : 0 < vec_len runs = omega (arith, runs.ok.0, slice_get_within (vec_items runs) (length (vec_items runs) - 1) x last) in
    elim c.in_default.branch [
      | in_default-via-in-Some+else-is_continued_by w ↦
          let same = last_is (vec_items runs) (vec_len runs) x w.in-Some.last.now runs.ok.0 some w.in-Some.ensures.value last in
          absurd (w.if-is_continued_by.ensures (rw same on))
      | in_default-via-in-None-1 w ↦
          let none : is_some c.last_mut.result ≡ false = search rules in
          absurd (false≢true (sym none ∙ c.last_mut.ensures.variant.1 some))
    ]
