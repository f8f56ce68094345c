-- A start that a device at rest hears is taken once.
use Rattle.std.proofs.Common.{◌≡◌, ℕ, ◌+◌, ◌%◌, ◌^◌, ◌≤◌, true, false, eqb, ◌≢◌, List, length, get_or, set, sym, refl, ap, ◌∙◌, arith, length-set, get_or-set_other, get_or-set_same, ne_eqb}
use borrow.Author.Tests.{clash}
use Rattle.tca.specs.Fields.{dpastat, dpsstat, exfak, cusyn, request_places}
use Rattle.tca.specs.Records.{request_bytes}
use Rattle.tca.specs.declared.request.Request.{Request}
use Rattle.line.specs.State.{Device, State, Choice, at}
use Rattle.line.specs.Rules.{is_in, started, took}
use Rattle.line.specs.Posts.{put_row}
use Rattle.line.proofs.Rows.{row_length, row_other, row_read, read_row, read_same}
use Rattle.procedures.specs.Leaves.{Leaves}
use Rattle.procedures.proofs.Rows.{with_memory, write_leaves, writes_leave}
use Rattle.ports.specs.Sendings.{starts}
use Rattle.counts.proofs.Live.{Live, one_if}

-- memory in which a request stands ready
pub prepared : Request → ℕ → List ℕ → List ℕ
prepared r y m = set (set (put_row request_places (request_bytes r) m) dpsstat 0) cusyn y

pub starts_leave : (r : Request) (y : ℕ) (t u : State) (x : Unit {0}) → Leaves (starts r y) t x u
    → (ch : Choice) × (u.device ≡ started ch (with_memory (prepared r y t.device.memory) t.device))
unfolding prepared
starts_leave r y t u x (a, m₁, rows, (b, m₂, cleared, (c, m₃, toggled, (z, m₄, start, (e, f))))) =
    let one = writes_leave request_places (request_bytes r) t m₁ a rows in
    let two = write_leaves dpsstat 0 m₁ m₂ b cleared in
    let three = write_leaves cusyn y m₂ m₃ c toggled in
    let ready : m₃.device ≡ with_memory (set (set (put_row request_places (request_bytes r) t.device.memory) dpsstat 0) cusyn y) t.device =
    three ∙ ap (λ (d : Device). with_memory (set d.memory cusyn y) d) (two ∙ ap (λ (d : Device). with_memory (set d.memory dpsstat 0) d) one) in
    (start.1.0, ap (λ (s : State). s.device) f ∙ start.1.1 ∙ ap (started start.1.0) ready)

-- the request stands where it was put, and nothing but DPSSTAT and CUSYN changed besides
record Ready (r : Request) (y : ℕ) (m p : List ℕ) : Type 0 where
  sized : 256 ≤ length p
  toggled : get_or p cusyn 0 ≡ y
  at_dpastat : get_or p dpastat 0 ≡ get_or m dpastat 0
  at_dpsstat : get_or p dpsstat 0 ≡ 0
  at_exfak : get_or p exfak 0 ≡ get_or m exfak 0
  bytes : read_row request_places p ≡ request_bytes r

not_in : (ps : List ℕ) (j k : ℕ) → is_in ps k ≡ false → is_in ps j ≡ true → j ≢ k
not_in ps j k no-k yes-j e = clash (sym no-k ∙ (rw e at yes-j))

ready : (r : Request) (y : ℕ) (m : List ℕ) → 256 ≤ length m → Ready r y m (prepared r y m)
unfolding prepared
ready r y m big =
    let row = put_row request_places (request_bytes r) m in
    let low = set row dpsstat 0 in
    let big₁ : 256 ≤ length row = rw (row_length request_places (request_bytes r) m) big in
    let big₂ : 256 ≤ length low = rw (length-set row dpsstat 0) big₁ in
    let other = row_other request_places (request_bytes r) m in
    record {
      sized = rw (length-set low cusyn y) big₂;
      toggled = get_or-set_same low cusyn y 0 (omega arith);
      at_dpastat = get_or-set_other low cusyn dpastat y 0 (omega arith) ∙ get_or-set_other row dpsstat dpastat 0 0 (omega arith) ∙ other dpastat refl;
      at_dpsstat = get_or-set_other low cusyn dpsstat y 0 (omega arith) ∙ get_or-set_same row dpsstat 0 0 (omega arith);
      at_exfak = get_or-set_other low cusyn exfak y 0 (omega arith) ∙ get_or-set_other row dpsstat exfak 0 0 (omega arith) ∙ other exfak refl;
      bytes =
          read_same request_places low (set low cusyn y) (λ j i. get_or-set_other low cusyn j y 0 (not_in request_places j cusyn refl i))
          ∙ read_same request_places row low (λ j i. get_or-set_other row dpsstat j 0 0 (not_in request_places j dpsstat refl i))
          ∙ row_read 256 request_places (request_bytes r) m refl refl big refl;
    }

began : (ch : Choice) (p : Device) → p.waiting ≡ false → eqb (at p cusyn) p.seen ≡ false → p.working ≡ false → started ch p ≡ took p
unfolding started
began ch p w s k = rw (w, s, k) refl

-- with another CUSYN than it saw, a device at rest takes the request, and works
pub start_live : (ch : Choice) (r : Request) (y since events expedited : ℕ) (b : Device) → 256 ≤ length b.memory → b.waiting ≡ false → b.working ≡ false → (y ≡ b.seen → ⊥)
    → b.taken ≡ since % 2 ^ 32 → b.events ≡ (events + one_if (eqb (at b dpastat) 1)) % 2 ^ 32 → b.expedited ≡ (expedited + one_if (eqb (at b exfak) 1)) % 2 ^ 32
    → Live true y ((since + 1) % 2 ^ 32) (request_bytes r) events expedited (started ch (with_memory (prepared r y b.memory) b))
    × (at (started ch (with_memory (prepared r y b.memory) b)) dpastat ≡ at b dpastat)
    × (at (started ch (with_memory (prepared r y b.memory) b)) exfak ≡ at b exfak)
start_live ch r y since events expedited b big awake rests other taken posted posted_expedited =
    let m = prepared r y b.memory in
    let p = with_memory m b in
    let q = ready r y b.memory big in
    let differs : eqb (get_or m cusyn 0) b.seen ≡ false = rw q.toggled (ne_eqb y b.seen other) in
    rw (began ch p awake differs rests) (
      record {
        sized = q.sized;
        awake = awake;
        saw = q.toggled;
        took = omega arith;
        newest = q.bytes;
        works = rw q.at_dpsstat refl;
        posted = rw q.at_dpastat posted;
        posted_expedited = rw q.at_exfak posted_expedited;
      },
      q.at_dpastat,
      q.at_exfak,
    )
