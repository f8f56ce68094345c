-- What writing leaves of a device at a connected port: rows past the toggles, and a status that is acknowledged.
use Rattle.std.proofs.Common.{◌≡◌, ℕ, ◌+◌, ◌%◌, ◌^◌, Bool, false, List, get_or, set, arith, length-set, get_or-set_other, get_or-set_same}
use Rattle.tca.specs.Fields.{dpastat, dpsstat, exfak}
use Rattle.line.specs.State.{Device, at}
use Rattle.line.specs.Rules.{is_in}
use Rattle.line.specs.Posts.{put_row}
use Rattle.line.proofs.Rows.{row_length, row_other}
use Rattle.procedures.proofs.Rows.{with_memory}
use Rattle.counts.proofs.Live.{Live}

-- a row without the toggles
pub record PastToggles (ps : List ℕ) : Type 0 where
  pub not_dpastat : is_in ps dpastat ≡ false
  pub not_dpsstat : is_in ps dpsstat ≡ false
  pub not_exfak : is_in ps exfak ≡ false

module _ (active : Bool) (y taken : ℕ) (last : List ℕ) (events expedited : ℕ) (d : Device) (l : Live active y taken last events expedited d) where
  pub rows_live : (ps bs : List ℕ) → PastToggles ps → Live active y taken last events expedited (with_memory (put_row ps bs d.memory) d)
  rows_live ps bs p = record {
    sized = rw (row_length ps bs d.memory) l.sized;
    awake = l.awake;
    saw = l.saw;
    took = l.took;
    newest = l.newest;
    works = rw (row_other ps bs d.memory dpsstat p.not_dpsstat) l.works;
    posted = rw (row_other ps bs d.memory dpastat p.not_dpastat) l.posted;
    posted_expedited = rw (row_other ps bs d.memory exfak p.not_exfak) l.posted_expedited;
  }

  -- the event that was posted is handed over
  pub event_live : at d dpastat ≡ 1 → Live active y taken last (events + 1) expedited (with_memory (set d.memory dpastat 0) d)
  event_live one =
      let was : d.events ≡ (events + 1) % 2 ^ 32 = rw one at l.posted in
      let cleared : get_or (set d.memory dpastat 0) dpastat 0 ≡ 0 = get_or-set_same d.memory dpastat 0 0 (omega (arith, l.sized)) in
      record {
        sized = rw (length-set d.memory dpastat 0) l.sized;
        awake = l.awake;
        saw = l.saw;
        took = l.took;
        newest = l.newest;
        works = rw (get_or-set_other d.memory dpastat dpsstat 0 0 (omega arith)) l.works;
        posted = rw cleared (omega (arith, was));
        posted_expedited = rw (get_or-set_other d.memory dpastat exfak 0 0 (omega arith)) l.posted_expedited;
      }

  pub expedited_live : at d exfak ≡ 1 → Live active y taken last events (expedited + 1) (with_memory (set d.memory exfak 0) d)
  expedited_live one =
      let was : d.expedited ≡ (expedited + 1) % 2 ^ 32 = rw one at l.posted_expedited in
      let cleared : get_or (set d.memory exfak 0) exfak 0 ≡ 0 = get_or-set_same d.memory exfak 0 0 (omega (arith, l.sized)) in
      record {
        sized = rw (length-set d.memory exfak 0) l.sized;
        awake = l.awake;
        saw = l.saw;
        took = l.took;
        newest = l.newest;
        works = rw (get_or-set_other d.memory exfak dpsstat 0 0 (omega arith)) l.works;
        posted = rw (get_or-set_other d.memory exfak dpastat 0 0 (omega arith)) l.posted;
        posted_expedited = rw cleared (omega (arith, was));
      }
