-- What the terminal's device does is allowed: its choice is to post what it was told, where it may.
use Rattle.std.specs.Prelude.{◌≡◌, ℕ, ◌+◌, ◌%◌, ◌^◌, ◌≤◌, Bool, true, false, cond, List, [], length, Some, None, Option, refl}
use Rattle.std.proofs.Common.{sym, ◌∙◌}
use Rattle.tca.specs.Fields.{dpastat, dpsstat, event_places, synchronous_places}
use Rattle.tca.specs.Records.{event_bytes, synchronous_bytes}
use Rattle.tca.specs.declared.status.Event.{Event}
use Rattle.tca.specs.declared.status.SynchronousStatus.{SynchronousStatus}
use Rattle.line.specs.State.{Device}
use Rattle.line.specs.Rules.{act}
use Rattle.lines.specs.declared.terminal.Told.{Told}
use Rattle.simulated.specs.Posts.{with_event, with_end}
use Rattle.lines.specs.Acting.{MayAct}
use Rattle.lines.specs.Terminal.{acts, post_told, may_event, may_end}
use Rattle.line.proofs.Posting.{post_if, if_other, choice, acts as posting}

-- whether what it was told is posted now, and its bytes

unfoldable pub due : {R : Type 0} → (Device → Bool) → Option R → Device → Bool
due may None d = false
due may (Some r) d = may d

unfoldable pub bytes : {R : Type 0} → (R → List ℕ) → Option R → List ℕ
bytes of None = []
bytes of (Some r) = of r

due_may : {R : Type 0} (may : Device → Bool) (o : Option R) (d : Device) → due may o d ≡ true → may d ≡ true
unfolding due
due_may may None d e = cc
due_may may (Some r) d e = e

-- what posting it makes of a device, from what posting a status of its family does, or none
told_is : {R : Type 0} (may : Device → Bool) (posted : R → Device → Device) (of : R → List ℕ) (after : Bool → List ℕ → Device → Device)
    → ((r : R) (d : Device) (b : Bool) → cond b (posted r d) d ≡ after b (of r) d) → ((d : Device) → d ≡ after false [] d)
    → (o : Option R) (d : Device) → post_told may posted o d ≡ after (due may o d) (bytes of o) d
unfolding due bytes
told_is may posted of after one none None d = none d
told_is may posted of after one none (Some r) d = one r d (may d)

-- the device after an event, and after an end

unfoldable pub evented : Bool → List ℕ → Device → Device
evented b bs d = record d { memory = post_if b dpastat event_places bs d.memory; events = cond b ((d.events + 1) % 2 ^ 32) d.events }

unfoldable pub ended : Bool → List ℕ → Device → Device
ended b bs d = record d { memory = post_if b dpsstat synchronous_places bs d.memory; working = cond b false d.working }

by_event : (e : Event) (d : Device) (b : Bool) → cond b (with_event e d) d ≡ evented b (event_bytes e) d
unfolding evented
by_event e d true = refl
by_event e d false = refl

pub event_is : (o : Option Event) (d : Device) → post_told may_event with_event o d ≡ evented (due may_event o d) (bytes event_bytes o) d
unfolding evented
event_is o d = told_is may_event with_event event_bytes evented by_event (λ d. refl) o d

by_end : (e : SynchronousStatus) (d : Device) (b : Bool) → cond b (with_end e d) d ≡ ended b (synchronous_bytes e) d
unfolding ended
by_end e d true = refl
by_end e d false = refl

end_is : (o : Option SynchronousStatus) (d : Device) → post_told may_end with_end o d ≡ ended (due may_end o d) (bytes synchronous_bytes o) d
unfolding ended
end_is o d = told_is may_end with_end synchronous_bytes ended by_end (λ d. refl) o d

-- an event leaves what decides on an end
pub still_due : (o : Option SynchronousStatus) (b : Bool) (bs : List ℕ) (d : Device) → due may_end o (evented b bs d) ≡ due may_end o d
unfolding due evented
still_due None b bs d = refl
still_due (Some e) b bs d = rw (if_other b dpastat event_places bs d.memory dpsstat refl) refl

module _ (event : Option Event) (end : Option SynchronousStatus) (d : Device) where
  abbrev posts : Bool
  posts = due may_event event d

  abbrev ends : Bool
  ends = due may_end end d

  abbrev E : List ℕ
  E = bytes event_bytes event

  abbrev S : List ℕ
  S = bytes synchronous_bytes end

  -- what a Poll makes of the device
  pub after_poll : post_told may_end with_end end (post_told may_event with_event event d) ≡ ended ends S (evented posts E d)
  after_poll = end_is end (post_told may_event with_event event d) ∙ rw (event_is event d, still_due end posts E d) refl

  acted : 256 ≤ length d.memory → act (choice d posts ends false E S []) d ≡ post_told may_end with_end end (post_told may_event with_event event d)
  unfolding evented ended
  acted big = posting d posts ends false E S [] big (due_may may_event event d) (due_may may_end end d) (λ e. cc) ∙ sym after_poll

pub allowed : (told : Told) (d : Device) → 256 ≤ length d.memory → MayAct d (acts told d)
allowed told d big = (choice d (posts told.event told.end d) (ends told.event told.end d) false (E told.event told.end d) (S told.event told.end d) [], refl, sym (acted told.event told.end d big))
