-- Whether a device is as a restart leaves it.
use Rattle.std.specs.Prelude.{ℕ, Bool, not, ◌&&◌, List, ◌==◌, slice_index}
use Rattle.tca.specs.Fields.{dpastat, dpsstat, exfak}
use Rattle.line.specs.declared.telling.Registers.{Registers}

abbrev pub zero_toggles : List ℕ → Bool
zero_toggles m = slice_index m dpastat == 0 && (slice_index m dpsstat == 0 && slice_index m exfak == 0)

abbrev pub is_new : List ℕ → Registers → Bool
is_new m r = not r.working && (r.seen == 0 && (r.taken == 0 && (r.events == 0 && (r.expedited == 0 && zero_toggles m))))
