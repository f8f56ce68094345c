-- What the printer's device does is allowed: its choice is to post the end and the report that are due, where
-- it may.
use Rattle.std.specs.Prelude.{◌≡◌, ◌≤◌, ℕ, Bool, true, false, cond, ◌&&◌, List, [], length, refl}
use Rattle.std.proofs.Common.{sym, ◌∙◌}
use Rattle.std.proofs.lemmas.Bool.{and_parts}
use Rattle.tca.specs.Fields.{dpsstat, exfak, synchronous_places}
use Rattle.tca.specs.Records.{expedited_bytes, synchronous_bytes}
use Rattle.tca.specs.declared.status.ExpeditedStatus.{ExpeditedStatus}
use Rattle.tca.specs.declared.status.SynchronousStatus.{SynchronousStatus}
use Rattle.line.specs.State.{Device}
use Rattle.line.specs.Rules.{act}
use Rattle.lines.specs.declared.printer.Printing.{Printing}
use Rattle.simulated.specs.Posts.{free, with_end, with_expedited}
use Rattle.lines.specs.Acting.{MayAct}
use Rattle.lines.specs.Printer.{acts, over, ends_now, due_now, reports_now}
use Rattle.line.proofs.Posting.{if_other, choice, after_posts, acts as posting}

-- an end leaves what decides on a report
still_free : (b : Bool) (e : SynchronousStatus) (d : Device) → free exfak (cond b (with_end e d) d) ≡ free exfak d
still_free true e d = rw (if_other true dpsstat synchronous_places (synchronous_bytes e) d.memory exfak refl) refl
still_free false e d = refl

both : (b r : Bool) (e : SynchronousStatus) (s : ExpeditedStatus) (d : Device) (big : 256 ≤ length d.memory)
    → cond r (with_expedited s (cond b (with_end e d) d)) (cond b (with_end e d) d) ≡ after_posts d false b r [] (synchronous_bytes e) (expedited_bytes s) big
both true true e s d big = refl
both true false e s d big = refl
both false true e s d big = refl
both false false e s d big = refl

module _ (p : Printing) (d : Device) (big : 256 ≤ length d.memory) where
  abbrev S : List ℕ
  S = synchronous_bytes p.end

  abbrev X : List ℕ
  X = expedited_bytes p.status

  reports : reports_now p d ≡ (due_now p d && free exfak d)
  reports = rw (still_free (ends_now p d) p.end d) refl

  acted : act (choice d false (ends_now p d) (reports_now p d) [] S X) d ≡ acts p d
  acted =
      posting d false (ends_now p d) (reports_now p d) [] S X big (λ e. cc) (λ e. (and_parts (over p d) _ e).1) (λ e. (and_parts (due_now p d) _ (sym reports ∙ e)).1)
      ∙ sym (both (ends_now p d) (reports_now p d) p.end p.status d big)

pub allowed : (p : Printing) (d : Device) → 256 ≤ length d.memory → MayAct d (acts p d)
allowed p d big = (choice d false (ends_now p d) (reports_now p d) [] (synchronous_bytes p.end) (expedited_bytes p.status), refl, sym (acted p d big))
