-- Which events are allowed, and what each changes.
use Rattle.std.specs.Prelude.{ℕ, Bool, true, false, cond, not, ◌&&◌, ◌||◌, List, ◌==◌, bit_and, bit_or, nat_le}
use Rattle.codes.specs.declared.attachment.Attachment.{Attachment}
use Rattle.codes.specs.declared.attachment.Attachment.TheVariants.{Bsc, LocalChannel, Sna}
use Rattle.tca.specs.declared.status.Event.{Event}
use Rattle.ports.specs.declared.verdict.Verdict.{Verdict}
use Rattle.ports.specs.declared.verdict.Verdict.TheVariants.{NotAllowed, Allowed, PermanentError}
use Rattle.ports.specs.Port.{no_terminal}
use Rattle.ports.specs.Terminals.{is_configured, is_online, only_terminals, all_configured, first_bit}

abbrev pub is_sna : Attachment → Bool
is_sna Bsc = false
is_sna LocalChannel = false
is_sna Sna = true

abbrev pub allowed_if : Bool → Verdict → Verdict
allowed_if b v = cond b v NotAllowed

-- an error report: of a terminal if DAEP is 3, and permanent if it is 2
abbrev pub judge_error : List ℕ → ℕ → Event → Verdict
judge_error ts on e = allowed_if
    ((nat_le 1 e.daep && nat_le e.daep 4) && (bit_and e.daep3 0x0f == 0 && cond (e.daep == 3) (is_configured ts e.daltad) (e.daltad == no_terminal)))
    (cond (e.daep == 2) PermanentError (Allowed on))

-- terminals go online, or all go offline
abbrev pub judge_online : List ℕ → ℕ → Event → Verdict
judge_online ts on e =
    cond (e.daep == 1) (allowed_if (not (e.daep2 == 0) && (only_terminals e.daep2 && all_configured first_bit ts e.daep2)) (Allowed (bit_or on e.daep2)))
    (cond (e.daep == 2) (allowed_if (e.daep2 == 0 && not (on == 0)) (Allowed 0))
    NotAllowed)

-- by what the unit is made for, the port's addresses and which terminals are online
abbrev pub judge : Attachment → List ℕ → ℕ → Event → Verdict
judge m ts on e =
    cond (e.daev == 0x20) (judge_error ts on e)
    (cond (e.daev == 0x22) (allowed_if (is_online ts on e.daltad) (Allowed on))
    (cond (e.daev == 0x24 || e.daev == 0x32) (allowed_if (on == 0) (Allowed on))
    (cond (e.daev == 0x26) (allowed_if (not (is_sna m) && ((e.daep == 1 || e.daep == 2) && (not (e.daep2 == 0) && only_terminals e.daep2))) (Allowed on))
    (cond (e.daev == 0x28) (judge_online ts on e)
    (cond (e.daev == 0x2a) (allowed_if (is_sna m) (Allowed on))
    (cond (e.daev == 0x2c || (e.daev == 0x2e || (e.daev == 0x30 || e.daev == 0x34))) (Allowed on)
    NotAllowed))))))
