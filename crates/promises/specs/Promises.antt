-- What the terminal line promises beyond the rules, which a line that never answers would keep as well.
use Rattle.std.specs.Prelude.{◌≡◌, ◌+◌, ◌%◌, ◌^◌, true, false, ◌&&◌, ◌⊎◌, is_some, Some, None, Option}
use Rattle.tca.specs.Fields.{dpastat, dpsstat, event_places, synchronous_places}
use Rattle.tca.specs.Records.{event_bytes, synchronous_bytes}
use Rattle.tca.specs.declared.status.Event.{Event}
use Rattle.tca.specs.declared.status.SynchronousStatus.{SynchronousStatus}
use Rattle.line.specs.declared.command.Command.{Command}
use Rattle.line.specs.declared.command.Command.TheVariants.{Poll}
use Rattle.line.specs.declared.command.Reply.{Reply}
use Rattle.line.specs.State.{Device, at}
use Rattle.line.specs.Rules.{hears, bytes_at}
use Rattle.simulated.specs.Posts.{free}
use Rattle.simulated.specs.Simulated.{device_of}
use Rattle.lines.specs.Terminal.{Terminal, Steps}

abbrev pub seen_from : Terminal → Device
seen_from s = device_of s.device

-- a command is answered exactly when the rules let it be
abbrev pub TerminalAnswersWhateverItMay : Type 0
TerminalAnswersWhateverItMay = (s t : Terminal) (c : Command) (r : Option Reply) → Steps s c r t → is_some r ≡ hears c (seen_from s)

pub record EventPosted (e : Event) (s t : Terminal) : Type 0 where
  pub toggle : at (seen_from t) dpastat ≡ 1
  pub filled : bytes_at event_places (seen_from t) ≡ event_bytes e
  pub counted : (seen_from t).events ≡ ((seen_from s).events + 1) % 2 ^ 32
  pub spent : t.program.event ≡ None

-- the first Poll that allows it posts the event that the terminal was told
abbrev pub TerminalPostsTheEventItWasTold : Type 0
TerminalPostsTheEventItWasTold = (s t : Terminal) (r : Option Reply) (e : Event) → Steps s Poll r t → s.program.event ≡ Some e → free dpastat (seen_from s) ≡ true → EventPosted e s t

pub record EventUnchanged (s t : Terminal) : Type 0 where
  pub toggle : at (seen_from t) dpastat ≡ at (seen_from s) dpastat
  pub counted : (seen_from t).events ≡ (seen_from s).events
  pub held : t.program.event ≡ s.program.event

-- a Poll posts no event that the terminal was not told, none twice, and none where the rules forbid it
abbrev pub TerminalPostsNoOtherEvent : Type 0
TerminalPostsNoOtherEvent = (s t : Terminal) (r : Option Reply) → Steps s Poll r t → (s.program.event ≡ None) ⊎ (free dpastat (seen_from s) ≡ false) → EventUnchanged s t

pub record EndPosted (e : SynchronousStatus) (t : Terminal) : Type 0 where
  pub toggle : at (seen_from t) dpsstat ≡ 1
  pub filled : bytes_at synchronous_places (seen_from t) ≡ synchronous_bytes e
  pub stopped : (seen_from t).working ≡ false
  pub spent : t.program.end ≡ None

-- the same of the end of a request, at a device that works
abbrev pub TerminalPostsTheEndItWasTold : Type 0
TerminalPostsTheEndItWasTold =
    (s t : Terminal) (r : Option Reply) (e : SynchronousStatus) → Steps s Poll r t → s.program.end ≡ Some e → (free dpsstat (seen_from s) && (seen_from s).working) ≡ true → EndPosted e t

pub record EndUnchanged (s t : Terminal) : Type 0 where
  pub toggle : at (seen_from t) dpsstat ≡ at (seen_from s) dpsstat
  pub working : (seen_from t).working ≡ (seen_from s).working
  pub held : t.program.end ≡ s.program.end

abbrev pub TerminalPostsNoOtherEnd : Type 0
TerminalPostsNoOtherEnd = (s t : Terminal) (r : Option Reply) → Steps s Poll r t → (s.program.end ≡ None) ⊎ ((free dpsstat (seen_from s) && (seen_from s).working) ≡ false) → EndUnchanged s t
