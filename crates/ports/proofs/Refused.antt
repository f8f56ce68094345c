-- What holds where a call is not refused.
use Rattle.std.proofs.Common.{◌≡◌, ℕ, zero, suc, ◌+◌, ◌≤◌, Bool, true, false, ◌||◌, eqb, ltb, List, is_some, Some, None, Option, sym, refl, arith, ltb-false, ne_eqb}
use Rattle.std.proofs.lemmas.Bool.{or_parts}
use Rattle.std.specs.Bool.{then_some}
use Rattle.std.specs.Option.{option_or}
use Rattle.codes.specs.declared.number.Refusal.{Refusal}
use Rattle.codes.specs.declared.number.Refusal.TheVariants.{NotConfigured, NotIdle, DataOutside}
use Rattle.codes.specs.Codes.{code_of}
use Rattle.tca.specs.Fields.{data_area}
use Rattle.tca.specs.declared.request.Request.{Request}
use Rattle.ports.specs.declared.port.Connection.{Connection}
use Rattle.ports.specs.declared.port.Port.{Port}
use Rattle.ports.specs.Refusals.{if_connected, refuse_connected, outside, refuse_code, refuse_request}
use Rattle.ports.specs.Terminals.{none_configured}

pub neither : (a b : Option Refusal) → option_or a b ≡ None → (a ≡ None) × (b ≡ None)
neither (Some r) b h = cc
neither None b h = (refl, h)

refused_not : (b : Bool) (r : Refusal) → then_some b r ≡ None → b ≡ false
refused_not true r h = cc
refused_not false r h = refl

pub passes : (b : Bool) (r : Refusal) (m : Option Refusal) → option_or (then_some b r) m ≡ None → (b ≡ false) × (m ≡ None)
passes b r m h = let p = neither (then_some b r) m h in (refused_not b r p.0, p.1)

pub is_connected : (f : Connection → Option Refusal) (k : Port) → refuse_connected f k ≡ None → if_connected k.connection f ≡ None
is_connected f k h = (passes (none_configured k.terminals) NotConfigured (if_connected k.connection f) h).1

-- a request is not refused: the port is idle, and the data is inside
pub request_not_refused : (ts : List ℕ) (r : Request) (size long : ℕ) (c : Connection) → refuse_request ts size r long c ≡ None → (is_some c.request ≡ false) × (outside size r.«data» long ≡ false)
request_not_refused ts r size long c h =
    let p = passes (is_some c.request) NotIdle _ h in
    let q = neither (refuse_code ts c.online r (code_of r.function)) _ p.1 in
    (p.0, refused_not (outside size r.«data» long) DataOutside q.1)

-- what is inside ends at the end of memory
inside : (size a n : ℕ) → outside size a n ≡ false → a ≤ 65535 → size ≤ 65535 → a + n ≤ 65535
inside size a zero h w s = omega arith
inside size a (suc n) h w s =
    let p = (or_parts (ltb 4096 (suc n)) _ h).1 in
    let some : eqb (suc n) 0 ≡ false = ne_eqb (suc n) 0 (λ z. omega arith) in
    let q = or_parts (ltb a data_area) (ltb size (a + suc n)) (rw some at p) in
    let end = ltb-false size (a + suc n) q.1 in
    omega arith

by_connection : (o : Option Connection) (f : Connection → Option Refusal) → if_connected o f ≡ None → (c : Connection) × (f c ≡ None)
by_connection None f h = cc
by_connection (Some c) f h = (c, h)

-- so its addresses fit; those of a fetch are found to by the check alone
pub request_fits : (k : Port) (r : Request) (size long : ℕ) → None ≡ refuse_connected (refuse_request k.terminals size r long) k → r.«data» ≤ 65535 → size ≤ 65535 → r.«data» + long ≤ 65535
request_fits k r size long h w s =
    let f = refuse_request k.terminals size r long in
    let c = by_connection k.connection f (is_connected f k (sym h)) in
    inside size r.«data» long (request_not_refused k.terminals r size long c.0 c.1).1 w s
