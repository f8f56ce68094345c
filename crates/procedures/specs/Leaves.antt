-- What a procedure that went through leaves, command by command, however often each was sent.
use Rattle.std.specs.Prelude.{◌≡◌, true, List, [], ◌∷◌, Option}
use Rattle.line.specs.declared.command.Command.{Command}
use Rattle.line.specs.declared.command.Command.TheVariants.{Poll, Read, Write, Start, Acknowledge, TerminalId, Reset}
use Rattle.line.specs.declared.command.Reply.{Reply}
use Rattle.line.specs.State.{Device, State, Choice}
use Rattle.line.specs.Rules.{effect, hears, reply, written, started, acknowledged, Permitted}
use Rattle.procedures.specs.Procedure.{Procedure, gives, sends, once, thens}

-- the effects of several sendings of a command that were heard, the last of them first
abbrev pub effects : Command → List Choice → Device → Device
effects c [] d = d
effects c (ch ∷ cs) d = effect c ch (effects c cs d)

-- What an answered command made of the device. Sent again it does nothing more, but for Poll, where each
-- sending that is heard lets the device's program act, and Reset.
abbrev pub Made : Command → Device → Device → Type 0
Made Poll d e = (cs : List Choice) × (e ≡ effects Poll cs d)
Made (Read a) d e = e ≡ d
Made (Write a v) d e = e ≡ written a v d
Made Start d e = (ch : Choice) × (e ≡ started ch d)
Made Acknowledge d e = e ≡ acknowledged d
Made TerminalId d e = e ≡ d
Made Reset d e = (cs : List Choice) × (e ≡ effects Reset cs d)

abbrev pub Answers : Command → State → Reply → State → Type 0
Answers c t y u = (hears c t.device ≡ true) × Made c t.device u.device × (y ≡ reply c u.device)

abbrev pub Leaves : {A : Type 0} → Procedure A → State → A → State → Type 0
Leaves (gives a) t b u = (b ≡ a) × (u ≡ t)
Leaves (sends c) t b u = Answers c t b u
Leaves (once c) t b u = (y : Option Reply) × Permitted t c y u
Leaves (thens {A} p f) t b u = (a : A) × (m : State) × Leaves p t a m × Leaves (f a) m b u
