-- When each call is refused at a port, and by which reason: the one with the smallest number that holds. The
-- tests stand in the order of the numbers, so `option_or` gives it.
use Rattle.std.specs.Prelude.{ℕ, ◌+◌, Bool, not, ◌&&◌, ◌||◌, List, is_some, Some, None, Ok, Err, Option, Result, ◌==◌, nat_lt, option_map}
use Rattle.std.specs.Bool.{then_some}
use Rattle.std.specs.Option.{option_or, option_map_or}
use Rattle.codes.specs.declared.number.Refusal.{Refusal}
use Rattle.codes.specs.declared.number.Refusal.TheVariants.{EqualTerminals, NotConfigured, Connected as IsConnected, Disconnected as IsDisconnected, NotIdle, UnknownCode, TerminalOffline, DataOutside, NotMarked, ExpeditedFirst}
use Rattle.codes.specs.declared.function.FunctionCode.{FunctionCode}
use Rattle.codes.specs.declared.function.FunctionCode.TheVariants.{Wcus}
use Rattle.codes.specs.Codes.{code_of, code_byte, needs_online, report_listed}
use Rattle.tca.specs.Fields.{data_area}
use Rattle.tca.specs.declared.request.Request.{Request}
use Rattle.ports.specs.declared.port.Connection.{Connection}
use Rattle.ports.specs.declared.port.Port.{Port}
use Rattle.ports.specs.Terminals.{none_configured, some_equal, is_online}

abbrev pub if_disconnected : Option Connection → Option Refusal
if_disconnected o = option_map (λ _. IsConnected) o

abbrev pub if_connected : Option Connection → (Connection → Option Refusal) → Option Refusal
if_connected o f = option_map_or f o (Some IsDisconnected)

abbrev pub if_configured : Port → Option Refusal → Option Refusal
if_configured k m = option_or (then_some (none_configured k.terminals) NotConfigured) m

abbrev pub refuse_configure : List ℕ → Port → Option Refusal
refuse_configure ts k = option_or (then_some (some_equal ts) EqualTerminals) (if_disconnected k.connection)

abbrev pub refuse_attach : Port → Option Refusal
refuse_attach k = if_configured k (if_disconnected k.connection)

-- of every other call, with the reasons of its own at a connected port
abbrev pub refuse_connected : (Connection → Option Refusal) → Port → Option Refusal
refuse_connected f k = if_configured k (if_connected k.connection f)

abbrev pub nothing_else : Connection → Option Refusal
nothing_else c = None

-- Data fits between the data area's begin and the end of memory; no data fits anywhere.
abbrev pub outside : ℕ → ℕ → ℕ → Bool
outside size address long = nat_lt 4096 long || (not (long == 0) && (nat_lt address data_area || nat_lt size (address + long)))

abbrev pub refuse_code : List ℕ → ℕ → Request → Result FunctionCode Refusal → Option Refusal
refuse_code ts on r (Err n) = Some n
refuse_code ts on r (Ok f) =
    option_or (then_some (r.function == code_byte Wcus && not (report_listed r.p1)) UnknownCode)
    (then_some (needs_online f && not (is_online ts on r.terminal)) TerminalOffline)

abbrev pub refuse_request : List ℕ → ℕ → Request → ℕ → Connection → Option Refusal
refuse_request ts size r long c =
    option_or (then_some (is_some c.request) NotIdle)
    (option_or (refuse_code ts c.online r (code_of r.function))
    (then_some (outside size r.«data» long) DataOutside))

abbrev pub refuse_fetch : ℕ → ℕ → ℕ → ℕ → Connection → Option Refusal
refuse_fetch size address long room c =
    option_or (then_some (is_some c.request) NotIdle)
    (then_some (outside size address long || nat_lt room long) DataOutside)

-- a status is asked for only where its mark is set, and an expedited one comes before the others
abbrev pub refuse_collect : Connection → Option Refusal
refuse_collect c = option_or (then_some (not c.marks.ended) NotMarked) (then_some c.marks.expedited ExpeditedFirst)

abbrev pub refuse_take : Connection → Option Refusal
refuse_take c = option_or (then_some (not c.marks.asynchronous) NotMarked) (then_some c.marks.expedited ExpeditedFirst)

abbrev pub refuse_expedite : Connection → Option Refusal
refuse_expedite c = then_some (not c.marks.expedited) NotMarked
