-- What the terminal promises, from what a Poll makes of its device.
use Rattle.std.proofs.Common.{◌≡◌, ℕ, ◌+◌, ◌%◌, ◌^◌, ◌≤◌, Bool, true, false, cond, ◌⊎◌, List, [], ◌∷◌, length, get_or, Some, None, Option, refl, ap, ◌∙◌, inl, inr, arith}
use Rattle.std.proofs.lemmas.Bool.{cond-true, cond-false}
use Rattle.tca.specs.Fields.{dpastat, dpsstat, event_places, synchronous_places}
use Rattle.tca.specs.Records.{event_bytes, synchronous_bytes}
use Rattle.line.specs.declared.command.Command.TheVariants.{Poll}
use Rattle.line.specs.declared.command.Reply.{Reply}
use Rattle.line.specs.State.{Device, at}
use Rattle.line.specs.Rules.{bytes_at}
use Rattle.simulated.specs.Posts.{with_event}
use Rattle.lines.specs.Terminal.{Terminal, TerminalOwn, Steps, post_told, held, may_event, may_end}
use Rattle.promises.specs.Promises.{seen_from, TerminalPostsTheEventItWasTold, TerminalPostsNoOtherEvent, TerminalPostsTheEndItWasTold, TerminalPostsNoOtherEnd}
use Rattle.line.proofs.Rows.{read_row, read_same, apart}
use Rattle.line.proofs.Posting.{post_if, if_length, if_other, if_toggle, if_row}
use Rattle.lines.specs.Terminals.{event_is, due, bytes, evented, ended, after_poll, still_due}

-- the row that a device reads is the one in its memory

at_memory : (ps : List ℕ) (d : Device) → bytes_at ps d ≡ read_row ps d.memory
at_memory [] d = refl
at_memory (p ∷ ps) d = ap (λ (bs : List ℕ). at d p ∷ bs) (at_memory ps d)

module _ (s t : Terminal) (r : Option Reply) (steps : Steps s Poll r t) where
  abbrev d : Device
  d = seen_from s

  abbrev E : List ℕ
  E = bytes event_bytes s.program.event

  abbrev S : List ℕ
  S = bytes synchronous_bytes s.program.end

  big : 256 ≤ length d.memory
  big = rw s.device.memory.bytes.ok.0 at s.device.memory.large

  device_is : seen_from t ≡ ended (due may_end s.program.end d) S (evented (due may_event s.program.event d) E d)
  device_is = ap (λ (o : TerminalOwn). o.state.device) steps.0 ∙ after_poll s.program.event s.program.end d

  abbrev middle : List ℕ
  middle = post_if (due may_event s.program.event d) dpastat event_places E d.memory

  abbrev final : List ℕ
  final = post_if (due may_end s.program.end d) dpsstat synchronous_places S middle

  memory_is : (seen_from t).memory ≡ final
  unfolding ended evented
  memory_is = ap (λ (x : Device). x.memory) device_is

  events_is : (seen_from t).events ≡ cond (due may_event s.program.event d) (((seen_from s).events + 1) % 2 ^ 32) (seen_from s).events
  unfolding ended evented
  events_is = ap (λ (x : Device). x.events) device_is

  working_is : (seen_from t).working ≡ cond (due may_end s.program.end d) false (seen_from s).working
  unfolding ended evented
  working_is = ap (λ (x : Device). x.working) device_is

  event_is_held : t.program.event ≡ held may_event s.program.event d
  event_is_held = ap (λ (o : TerminalOwn). o.program.event) steps.0

  end_is_held : t.program.end ≡ held may_end s.program.end (post_told may_event with_event s.program.event d)
  end_is_held = ap (λ (o : TerminalOwn). o.program.end) steps.0

  dpastat_is : at (seen_from t) dpastat ≡ cond (due may_event s.program.event d) (cond (due may_event s.program.event d) 1 0) (at d dpastat)
  dpastat_is =
      ap (λ (m : List ℕ). get_or m dpastat 0) memory_is
      ∙ if_other (due may_end s.program.end d) dpsstat synchronous_places S middle dpastat refl
      ∙ if_toggle (due may_event s.program.event d) dpastat event_places E d.memory (omega (arith, big))

  dpsstat_is : at (seen_from t) dpsstat ≡ cond (due may_end s.program.end d) (cond (due may_end s.program.end d) 1 0) (at d dpsstat)
  dpsstat_is =
      ap (λ (m : List ℕ). get_or m dpsstat 0) memory_is
      ∙ if_toggle (due may_end s.program.end d) dpsstat synchronous_places S middle (rw (if_length (due may_event s.program.event d) dpastat event_places E d.memory) (omega (arith, big)))
      ∙ ap (cond (due may_end s.program.end d) (cond (due may_end s.program.end d) 1 0)) (if_other (due may_event s.program.event d) dpastat event_places E d.memory dpsstat refl)

-- what was told, an event or an end

due_told : {R : Type 0} (may : Device → Bool) (o : Option R) (r : R) (d : Device) → o ≡ Some r → may d ≡ true → due may o d ≡ true
unfolding due
due_told may o r d q f = rw q f

bytes_told : {R : Type 0} (of : R → List ℕ) (o : Option R) (r : R) → o ≡ Some r → bytes of o ≡ of r
unfolding bytes
bytes_told of o r q = rw q refl

held_is : {R : Type 0} (may : Device → Bool) (o : Option R) (d : Device) → held may o d ≡ cond (due may o d) None o
unfolding due
held_is may None d = refl
held_is may (Some r) d = refl

not_due : {R : Type 0} (may : Device → Bool) (o : Option R) (d : Device) → (o ≡ None) ⊎ (may d ≡ false) → due may o d ≡ false
unfolding due
not_due may None d h = refl
not_due may (Some r) d (inl q) = cc
not_due may (Some r) d (inr f) = f

-- events

pub terminal_posts_the_event_it_was_told : TerminalPostsTheEventItWasTold
terminal_posts_the_event_it_was_told s t r e steps q f =
    let d = seen_from s in
    let m = d.memory in
    let b = due may_event s.program.event d in
    let posts = due_told may_event s.program.event e d q f in
    let list = bytes_told event_bytes s.program.event e q in
    let E = bytes event_bytes s.program.event in
    let large : 0x80 ≤ length m = omega (arith, big s t r steps) in
    let row : read_row event_places (seen_from t).memory ≡ E =
    ap (read_row event_places) (memory_is s t r steps)
    ∙ read_same event_places (middle s t r steps) (final s t r steps) (λ j i. if_other (due may_end s.program.end d) dpsstat synchronous_places (bytes synchronous_bytes s.program.end) (middle s t r steps) j (apart event_places (dpsstat ∷ synchronous_places) j refl i))
    ∙ if_row b dpastat event_places E m posts refl refl refl large (ap length list) in
    record {
      toggle = dpastat_is s t r steps ∙ cond-true b _ _ posts ∙ cond-true b 1 0 posts;
      filled = at_memory event_places (seen_from t) ∙ row ∙ list;
      counted = events_is s t r steps ∙ cond-true b _ _ posts;
      spent = event_is_held s t r steps ∙ held_is may_event s.program.event d ∙ cond-true b None s.program.event posts;
    }

pub terminal_posts_no_other_event : TerminalPostsNoOtherEvent
terminal_posts_no_other_event s t r steps h =
    let d = seen_from s in
    let b = due may_event s.program.event d in
    let n = not_due may_event s.program.event d h in
    record {
      toggle = dpastat_is s t r steps ∙ cond-false b _ _ n;
      counted = events_is s t r steps ∙ cond-false b _ _ n;
      held = event_is_held s t r steps ∙ held_is may_event s.program.event d ∙ cond-false b None s.program.event n;
    }

-- ends

end_held_is : (s t : Terminal) (r : Option Reply) (steps : Steps s Poll r t) → t.program.end ≡ cond (due may_end s.program.end (seen_from s)) None s.program.end
end_held_is s t r steps =
    let d = seen_from s in
    end_is_held s t r steps ∙ held_is may_end s.program.end (post_told may_event with_event s.program.event d)
    ∙ ap (λ (b : Bool). cond b None s.program.end) (ap (due may_end s.program.end) (event_is s.program.event d) ∙ still_due s.program.end (due may_event s.program.event d) (bytes event_bytes s.program.event) d)

pub terminal_posts_the_end_it_was_told : TerminalPostsTheEndItWasTold
terminal_posts_the_end_it_was_told s t r e steps q f =
    let d = seen_from s in
    let m = middle s t r steps in
    let b = due may_end s.program.end d in
    let posts = due_told may_end s.program.end e d q f in
    let list = bytes_told synchronous_bytes s.program.end e q in
    let S = bytes synchronous_bytes s.program.end in
    let large : 0x80 ≤ length m = rw (if_length (due may_event s.program.event d) dpastat event_places (bytes event_bytes s.program.event) d.memory) (omega (arith, big s t r steps)) in
    let row : read_row synchronous_places (seen_from t).memory ≡ S =
    ap (read_row synchronous_places) (memory_is s t r steps) ∙ if_row b dpsstat synchronous_places S m posts refl refl refl large (ap length list) in
    record {
      toggle = dpsstat_is s t r steps ∙ cond-true b _ _ posts ∙ cond-true b 1 0 posts;
      filled = at_memory synchronous_places (seen_from t) ∙ row ∙ list;
      stopped = working_is s t r steps ∙ cond-true b _ _ posts;
      spent = end_held_is s t r steps ∙ cond-true b None s.program.end posts;
    }

pub terminal_posts_no_other_end : TerminalPostsNoOtherEnd
terminal_posts_no_other_end s t r steps h =
    let d = seen_from s in
    let b = due may_end s.program.end d in
    let n = not_due may_end s.program.end d h in
    record {
      toggle = dpsstat_is s t r steps ∙ cond-false b _ _ n;
      working = working_is s t r steps ∙ cond-false b _ _ n;
      held = end_held_is s t r steps ∙ cond-false b None s.program.end n;
    }
